-- Document 01, module 6: the list of roots as it is handed back. A refusal returns an empty list.
use Rattle.ratio.specs.Refusal.{no_refusal}
use Rattle.std.specs.Prelude.{◌≡◌, List, ◌++◌, ◌-◌, Float, length, take, replicate, Err}
use Rattle.std.specs.Float.{binary64}
use Rattle.std.specs.Float.Ieee.{of_bits}
use Rattle.ratio.specs.declared.Reason.{Reason}
use Rattle.yun.specs.Got.{Got, got, none}
use Rattle.isolate.specs.declared.Isolation.{Isolation}

-- the roots in use
abbrev pub roots_in : Isolation → List Float
roots_in r = take r.len r.roots

abbrev pub holding : List Float → Isolation
holding l = record { outcome = no_refusal; roots = l ++ replicate (64 - length l) (of_bits binary64 0); len = length l }

abbrev pub refused_for : Reason → Isolation
refused_for why = record { outcome = Err why; roots = replicate 64 (of_bits binary64 0); len = 0 }

abbrev pub isolation_of : Got (List Float) → Isolation
isolation_of (got l) = holding l
isolation_of (none why) = refused_for why

-- an answered list; unused places hold nothing
abbrev pub Kept : Isolation → Type 0
Kept r = r ≡ holding (roots_in r)
