-- How the code keeps coefficients that are read, of which there may be over 32: it counts them all and keeps them while they are few.
use Rattle.std.specs.Prelude.{◌≡◌, List, ◌≤◌, length}
use Rattle.ratio.specs.declared.Ratio.{Ratio}
use Rattle.terms.specs.declared.Poly.{Poly}
use Rattle.terms.specs.Poly.{poly_of}

pub record Holds (l : List Ratio) (p : Poly) : Type 0 where
  pub count : p.len ≡ length l
  pub kept : length l ≤ 32 → p ≡ poly_of l
