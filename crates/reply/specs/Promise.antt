-- Every answer fits 4,096 bytes, the size of the page that a job's answer is laid on. Each `show` function promises it of its own text.
use Rattle.std.specs.Prelude.{List, ℕ, ◌≤◌, length}

abbrev pub Fits : List ℕ → Type 0
Fits text = length text ≤ 4096
