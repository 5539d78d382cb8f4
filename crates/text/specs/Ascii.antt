-- The bytes of a text in ASCII, so that a definition can quote document 01's keywords.
use Rattle.std.specs.Prelude.{List, [], ◌∷◌, ℕ}
use Prim.Native.Char.{code}
use Prim.Native.String.{String}
use Prim.Native.String as S

abbrev pub bytes : String → List ℕ
bytes S.[] = []
bytes (S.◌∷◌ c s) = code c ∷ bytes s
