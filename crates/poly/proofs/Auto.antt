-- What the check is handed at an operation's end: a result that is the model's has the model's promise.
use Rattle.poly.proofs.Gives.{eval-told, zero-told, degree-told, lead-told}

pub ruleset told = (eval-told, zero-told, degree-told, lead-told)
