-- Rows of floats one behind the other: how they are written, and that they are read back.
use mathlib.Core.Path.{◌≡◌, refl, sym, ap, ap₂, ◌∙◌}
use mathlib.Core.List.{List, [], ◌∷◌, ◌++◌, map, append_assoc, append-nil}
use Prim.Native.Nat.{ℕ, zero, suc, ◌+◌, ◌-◌, ◌*◌, ◌<◌, ◌≤◌}
use native.Mathlib.Numerals.{add-one}
use native.Mathlib.Omega.{arith}
use lib.Ieee.{Float, binary64, of_bits}
use lib.ListN.{length, take, drop, get_or, set, replicate, length-append, length-map, length-replicate}
use lib.Seq.{paste, paste-suc, take_all, take_at, take-suc, take-append_seam, drop-append_seam, drop-append-add, length-take-le, append_snoc, set_at}
use Rattle.ratio.specs.declared.Ratio.{Ratio}
use Rattle.terms.specs.declared.Poly.{Poly}
use Rattle.terms.specs.Poly.{terms_of, trim}
use Rattle.terms.proofs.Lists.{read-terms, trim-take, trim-short, within-32}
use Rattle.bridge.specs.Value.{value_of}
use Rattle.chain.specs.declared.Chain.{Chain}
use Rattle.chain.specs.Answer.{entries_of}
use Rattle.sturm.specs.declared.Row.{Row}
use Rattle.sturm.specs.declared.Rows.{Rows}
use Rattle.sturm.specs.Value.{floats_of}
use Rattle.sturm.specs.Along.{rows_of}
use Rattle.sturm.specs.Rows.{row_of, joined, holding, rows_in}

-- ---- the floats of a polynomial

map_at : {X Y : Type 0} (f : X → Y) (l : List X) (i : ℕ) (d : X) (e : Y) → i < length l → get_or (map f l) i e ≡ f (get_or l i d)
map_at f [] i d e h = absurd (omega arith)
map_at f (x ∷ l) zero d e h = refl
map_at f (x ∷ l) (suc i) d e h = map_at f l i d e (omega arith)

-- a coefficient in use, as the array holds it
read-trim : (p : Poly) (i : ℕ) (d e : Ratio) → i < length (trim (terms_of p)) → get_or p.coeffs i d ≡ get_or (trim (terms_of p)) i e
read-trim p i d e h =
    let k : ℕ = length (trim (terms_of p)) in
    let t : trim (terms_of p) ≡ take k (terms_of p) = trim-take (terms_of p) in
    read-terms p.len p.coeffs i d e (omega (arith, trim-short (terms_of p)))
    ∙ read-terms k (terms_of p) i e e (omega (arith, ap length t))
    ∙ ap (λ (l : List Ratio). get_or l i e) (sym t)

module _ (p : Poly) where
  pub floats-count : length (floats_of (terms_of p)) ≡ length (trim (terms_of p))
  floats-count = length-map (trim (terms_of p)) value_of

  pub float_at : (i : ℕ) (d : Ratio) (e : Float) → i < length (floats_of (terms_of p)) → value_of (get_or p.coeffs i d) ≡ get_or (floats_of (terms_of p)) i e
  float_at i d e h =
      let k : i < length (trim (terms_of p)) = omega (arith, floats-count) in
      ap value_of (read-trim p i d d k) ∙ sym (map_at value_of (trim (terms_of p)) i d e k)

  pub floats-few : length p.coeffs ≡ 32 → length (floats_of (terms_of p)) ≤ 32
  floats-few h = omega (arith, floats-count, trim-short (terms_of p), within-32 p.len p.coeffs h)

-- one float more
pub paste-next : (d l : List Float) (at i : ℕ) (v z : Float) → at + i < length d → i < length l → v ≡ get_or l i z → set (paste d at l i) (at + i) v ≡ paste d at l (i + 1)
paste-next d l at i v z h k e =
    ap (λ (x : Float). set (paste d at l i) (at + i) x) e
    ∙ paste-suc d at l i z h k
    ∙ ap (λ (j : ℕ). paste d at l j) (sym (add-one i))

-- ---- behind what is written already

drop-zeros : (n k : ℕ) → drop n (replicate k (of_bits binary64 0)) ≡ replicate (k - n) (of_bits binary64 0)
drop-zeros zero k = let e : k ≡ k - 0 = omega arith in ap (λ (m : ℕ). replicate m (of_bits binary64 0)) e
drop-zeros (suc n) zero = let e : 0 ≡ 0 - suc n = omega arith in ap (λ (m : ℕ). replicate m (of_bits binary64 0)) e
drop-zeros (suc n) (suc k) = drop-zeros n k ∙ ap (λ (m : ℕ). replicate m (of_bits binary64 0)) (let e : k - n ≡ suc k - suc n = omega arith in e)

pub paste-behind : (w l : List Float) (k : ℕ) → paste (w ++ replicate k (of_bits binary64 0)) (length w) l (length l) ≡ (w ++ l) ++ replicate (k - length l) (of_bits binary64 0)
paste-behind w l k =
    let z = replicate k (of_bits binary64 0) in
    ap₂ (λ (x y : List Float). (x ++ y) ++ drop (length w + length l) (w ++ z)) (take-append_seam w z) (take_all (length l) l (omega arith))
    ∙ ap (λ (y : List Float). (w ++ l) ++ y) (drop-append-add w z (length l) ∙ drop-zeros (length l) k)

pub row_laid : (l : List Float) (n : ℕ) (v : List Float) → n ≡ 0 + length l → v ≡ paste (replicate 32 (of_bits binary64 0)) 0 l (length l) → ◌≡◌ {A = Row} (record { values = v; len = n }) (row_of l)
row_laid l n v en ev =
    let e : n ≡ length l = omega (arith, en) in
    let w : v ≡ l ++ replicate (32 - length l) (of_bits binary64 0) = ev ∙ paste-behind [] l 32 in
    rw (w, e)

joined-more : (rows : List (List Float)) (l : List Float) → joined (rows ++ (l ∷ [])) ≡ joined rows ++ l
unfolding joined
joined-more [] l = append-nil l
joined-more (r ∷ rows) l = ap (λ (x : List Float). r ++ x) (joined-more rows l) ∙ sym (append_assoc r (joined rows) l)

sizes-more : (rows : List (List Float)) (l : List Float) → map length (rows ++ (l ∷ [])) ≡ map length rows ++ (length l ∷ [])
sizes-more [] l = refl
sizes-more (r ∷ rows) l = ap (λ (x : List ℕ). length r ∷ x) (sizes-more rows l)

-- ---- the floats of a chain

module _ (c : Chain) where
  pub rows-count : length (rows_of (entries_of c)) ≡ length (entries_of c)
  rows-count = length-map (entries_of c) floats_of

  pub entries-count : length (entries_of c) ≡ length (take c.len c.polys)
  entries-count = length-map (take c.len c.polys) terms_of

  pub entries-few : length c.polys ≡ 32 → length (entries_of c) ≤ 32
  entries-few h = omega (arith, entries-count, within-32 c.len c.polys h)

  row_at : (i : ℕ) (d : Poly) (e : List Float) → i < length (entries_of c) → get_or (rows_of (entries_of c)) i e ≡ floats_of (terms_of (get_or c.polys i d))
  row_at i d e h =
      let k : i < length (take c.len c.polys) = omega (arith, entries-count) in
      map_at floats_of (entries_of c) i (terms_of d) e h
      ∙ ap floats_of (map_at terms_of (take c.len c.polys) i d (terms_of d) k ∙ ap terms_of (sym (read-terms c.len c.polys i d d k)))

  -- i rows are written, up to place `at`
  pub record Filled (i at : ℕ) (values : List Float) (sizes : List ℕ) : Type 0 where
    pub place : at ≡ length (joined (take i (rows_of (entries_of c))))
    pub few : at ≤ 32 * i
    pub is : values ≡ joined (take i (rows_of (entries_of c))) ++ replicate (1024 - at) (of_bits binary64 0)
    pub counted : sizes ≡ map length (take i (rows_of (entries_of c))) ++ replicate (32 - i) 0

  pub filled_none : Filled 0 0 (replicate 1024 (of_bits binary64 0)) (replicate 32 0)
  unfolding joined
  filled_none = record { place = refl; few = omega arith; is = refl; counted = refl }

  module _ (i at : ℕ) (values : List Float) (sizes : List ℕ) (f : Filled i at values sizes) where
    pub filled-length : i ≤ 32 → length values ≡ 1024
    filled-length h =
        ap length f.is
        ∙ length-append (joined (take i (rows_of (entries_of c)))) (replicate (1024 - at) (of_bits binary64 0))
        ∙ let e : length (joined (take i (rows_of (entries_of c)))) + length (replicate (1024 - at) (of_bits binary64 0)) ≡ 1024 = omega (arith, f.place, f.few, length-replicate (1024 - at) (of_bits binary64 0)) in e

    pub filled_more : (d : Poly) (next : ℕ) (v : List Float) → i < length (entries_of c) → i < 32 → let l = floats_of (terms_of (get_or c.polys i d)) in length l ≤ 32 → next ≡ at + length l → v ≡ paste values at l (length l)
        → Filled (i + 1) next v (set sizes i (next - at))
    filled_more d next v h j k en ev =
        let rows = rows_of (entries_of c) in
        let l = floats_of (terms_of (get_or c.polys i d)) in
        let t : take (i + 1) rows ≡ take i rows ++ (l ∷ []) =
        ap (λ (m : ℕ). take m rows) (add-one i) ∙ take-suc rows i [] (omega (arith, rows-count)) ∙ ap (λ (x : List Float). take i rows ++ (x ∷ [])) (row_at i d [] h)
        in
        let z : joined (take (i + 1) rows) ≡ joined (take i rows) ++ l = ap joined t ∙ joined-more (take i rows) l in
        let y : map length (take (i + 1) rows) ≡ map length (take i rows) ++ (length l ∷ []) = ap (map length) t ∙ sizes-more (take i rows) l in
        let w : 1024 - at - length l ≡ 1024 - next = omega (arith, en) in
        let u : ◌≡◌ {A = List ℕ} (replicate (32 - i) 0) (0 ∷ replicate (32 - (i + 1)) 0) = let e : 32 - i ≡ suc (32 - (i + 1)) = omega arith in ap (λ (m : ℕ). replicate {A = ℕ} m 0) e in
        let g : length (map length (take i rows)) ≡ i = length-map (take i rows) length ∙ length-take-le i rows (omega (arith, rows-count)) in
        let q : next - at ≡ length l = omega (arith, en) in
        record {
          place = en ∙ (let e : at + length l ≡ length (joined (take i rows)) + length l = omega (arith, f.place) in e) ∙ sym (length-append (joined (take i rows)) l) ∙ ap length (sym z);
          few = omega (arith, en, f.few, k);
          is =
              ev
              ∙ ap₂ (λ (x : List Float) (m : ℕ). paste x m l (length l)) f.is f.place
              ∙ paste-behind (joined (take i rows)) l (1024 - at)
              ∙ ap₂ (λ (x : List Float) (m : ℕ). x ++ replicate m (of_bits binary64 0)) (sym z) w;
          counted =
              ap₂ (λ (x : List ℕ) (m : ℕ). set x i m) (f.counted ∙ ap (λ (x : List ℕ). map length (take i rows) ++ x) u) q
              ∙ set_at (map length (take i rows)) 0 (replicate (32 - (i + 1)) 0) (length l) i g
              ∙ sym (append_snoc (map length (take i rows)) (length l) (replicate (32 - (i + 1)) 0))
              ∙ ap (λ (x : List ℕ). x ++ replicate (32 - (i + 1)) 0) (sym y);
        }

    pub filled-all : i ≡ length (entries_of c) → ◌≡◌ {A = Rows} (record { values = values; sizes = sizes; len = i }) (holding (rows_of (entries_of c)))
    filled-all e =
        let rows = rows_of (entries_of c) in
        let n : i ≡ length rows = omega (arith, e, rows-count) in
        let t : take i rows ≡ rows = take_all i rows (omega (arith, n)) in
        let m : at ≡ length (joined rows) = f.place ∙ ap (λ (x : List (List Float)). length (joined x)) t in
        rw (f.is, f.counted, t, m, n)

-- ---- read back

pub rows_back : (rows : List (List Float)) (pad : List Float) → rows_in (joined rows ++ pad) (map length rows) ≡ rows
unfolding rows_in joined
rows_back [] pad = refl
rows_back (l ∷ rows) pad =
    ap (λ (x : List Float). take (length l) x ∷ rows_in (drop (length l) x) (map length rows)) (append_assoc l (joined rows) pad)
    ∙ ap₂ (λ (x y : List Float). x ∷ rows_in y (map length rows)) (take-append_seam l (joined rows ++ pad)) (drop-append_seam l (joined rows ++ pad))
    ∙ ap (λ (x : List (List Float)). l ∷ x) (rows_back rows pad)

-- as they are lent
pub row-lent : (r : Row) (l : List Float) → r ≡ row_of l → take r.len r.values ≡ l
row-lent r l e = ap (λ (x : Row). take x.len x.values) e ∙ take-append_seam l (replicate (32 - length l) (of_bits binary64 0))

pub row-fit : (r : Row) (l : List Float) → r ≡ row_of l → r.len ≤ length r.values
row-fit r l e =
    let n : r.len ≡ length l = ap (λ (x : Row). x.len) e in
    let m : length r.values ≡ length l + length (replicate (32 - length l) (of_bits binary64 0)) = ap (λ (x : Row). length x.values) e ∙ length-append l (replicate (32 - length l) (of_bits binary64 0)) in
    omega (arith, n, m)

pub rows-lent : (r : Rows) (rows : List (List Float)) → r ≡ holding rows → rows_in r.values (take r.len r.sizes) ≡ rows
rows-lent r rows e =
    ap (λ (x : Rows). rows_in x.values (take x.len x.sizes)) e
    ∙ ap (λ (x : List ℕ). rows_in (holding rows).values x) (take_at (map length rows) (replicate (32 - length rows) 0) (length rows) (length-map rows length))
    ∙ rows_back rows (replicate (1024 - length (joined rows)) (of_bits binary64 0))
