-- Laws of raising: what one station adds, the loop over the stations, and that bars play no part.
use mathlib.Core.Path.{◌≡◌, refl, sym, ap, ap₂, ◌∙◌}
use Prim.Native.Nat.{ℕ, zero, suc, ◌+◌, ◌*◌, ◌≤◌, ◌<◌}
use native.Mathlib.Nat.{zero-add}
use native.Mathlib.Numerals.{add-one}
use native.Mathlib.Omega.{arith}
use mathlib.Core.List.{List}
use mathlib.Core.Option.{Option, none, some}
use lib.ListN.{length, get_or, take, drop, replicate, length-drop}
use lib.Seq.{length-take-le, get_or-take}
use Rattle.model.specs.Lists.{total}
use Rattle.model.specs.Cut.{Cut, join}
use Rattle.model.specs.Structure.{Structure, row, joined, raise_by, raise}
use Rattle.structure.specs.Layout.{decoded, structure_at, cells}
use Rattle.structure.specs.declared.Shape.{Shape}
use Rattle.structure.specs.Added.{Added}
use Rattle.cells.proofs.Cuts.{join_self, join_swap, join_zeros}
use Rattle.structure.proofs.Rows.{is_none, is_some, decoded-rows, first-at}
use Rattle.structure.proofs.Places.{row-past, placed_row, placed-room, next_fits, cells_are}

joined-none : (x : Option Cut) → joined x none ≡ none
unfolding joined
joined-none none = refl
joined-none (some c) = refl

joined_swap : (x y z : Option Cut) → joined (joined x y) z ≡ joined (joined x z) y
unfolding joined
joined_swap none y z = refl
joined_swap (some a) none none = refl
joined_swap (some a) none (some c) = refl
joined_swap (some a) (some b) none = refl
joined_swap (some a) (some b) (some c) = ap some (join_swap a b c)

-- The least cut is in what is raised.
pub raise_absorbs : (S : Structure) (c : Cut) (j : ℕ) → joined (raise_by S c j) (some S.least) ≡ raise_by S c j
unfolding raise_by joined
raise_absorbs S c zero = ap some (join_self S.least)
raise_absorbs S c (suc j) =
    joined_swap (raise_by S c j) (row S j (get_or c j 0)) (some S.least) ∙ ap (λ (x : Option Cut). joined x (row S j (get_or c j 0))) (raise_absorbs S c j)

-- A turn of the loop over the stations.
pub raise_turn : (n : ℕ) (S : Structure) (cut : List ℕ) (j : ℕ) (x y : Option Cut) → j < n → x ≡ raise_by S (take n cut) j
    → (joined x (some S.least) ≡ x → y ≡ joined x (row S j (get_or cut j 0))) → y ≡ raise_by S (take n cut) (j + 1)
unfolding raise_by
raise_turn n S cut j x y h e f =
    f (rw e (raise_absorbs S (take n cut) j)) ∙ rw (e, add-one j, get_or-take n cut j 0 h)

raise_end : (n : ℕ) (S : Structure) (cut : List ℕ) → n ≤ length cut → raise_by S (take n cut) n ≡ raise S (take n cut)
unfolding raise
raise_end n S cut h = rw (length-take-le n cut h)

-- Bars play no part.
row-bars : (n : ℕ) (counts w bs bt : List ℕ) (j k : ℕ) → row (structure_at n counts w bs) j k ≡ row (structure_at n counts w bt) j k
unfolding row
row-bars n counts w bs bt j zero = refl
row-bars n counts w bs bt j (suc k) = refl

raise_by_bars : (n : ℕ) (counts w bs bt : List ℕ) (c : Cut) (j : ℕ) → raise_by (structure_at n counts w bs) c j ≡ raise_by (structure_at n counts w bt) c j
unfolding raise_by
raise_by_bars n counts w bs bt c zero = refl
raise_by_bars n counts w bs bt c (suc j) = ap₂ joined (raise_by_bars n counts w bs bt c j) (row-bars n counts w bs bt j (get_or c j 0))

pub raise-bars : (n : ℕ) (counts w bs bt : List ℕ) (c : Cut) → raise (structure_at n counts w bs) c ≡ raise (structure_at n counts w bt) c
unfolding raise
raise-bars n counts w bs bt c = raise_by_bars n counts w bs bt c (length c)

-- A row that has its n cells.
pub cells-room : (n : ℕ) (counts : List ℕ) (at l : ℕ) → at + cells n counts ≤ l → at + total counts * n + n ≤ l
cells-room n counts at l room = omega (arith, next_fits (total counts) (suc (total counts)) n (omega arith))

-- The same of a structure of a shape.
pub shape_room : (x : Shape) → (at l : ℕ) → at + (x.e + 1) * x.n ≤ l → at + total (take x.n x.counts) * x.n + x.n ≤ l
shape_room x at l room = cells-room x.n (take x.n x.counts) at l (rw (cells_are x.n x.e (take x.n x.counts) x.events_are) room)

-- What station j adds to acc, of which a cut has `count` events.
module _ (x : Shape) (w acc : List ℕ) (a8 : length acc ≡ 8) (j count : ℕ) (h : j < x.n) where
  pub station-zero : count ≡ 0 → (bs : List ℕ) → Added (structure_at x.n (take x.n x.counts) w bs) j count (decoded (take x.n acc)) (decoded (take x.n acc))
  unfolding row
  station-zero e bs f = rw e (sym f)

  pub station-none : get_or x.counts j 0 < count → (bs : List ℕ)
      → Added (structure_at x.n (take x.n x.counts) w bs) j count (decoded (take x.n acc)) (decoded (take x.n (replicate 8 255)))
  station-none l bs f =
      is_none x.n (replicate 8 255) x.some_station refl
      ∙ sym (ap (joined (decoded (take x.n acc))) (row-past x.n (take x.n x.counts) w bs j count (rw (get_or-take x.n x.counts j 0 h) l)) ∙ joined-none (decoded (take x.n acc)))

  -- The row is within.
  module _ (room : (x.e + 1) * x.n ≤ length w) (k : ℕ) (e : k ≡ get_or x.offs j 0 + count) (l : count ≤ get_or x.counts j 0) where
    pub station-room : k * x.n + x.n ≤ length w
    station-room = let r : 0 + (x.e + 1) * x.n ≤ length w = omega arith in rw e (omega (arith, placed-room x.n x.counts w 0 j (get_or x.offs j 0) (x.offs_are j h) h count l x.n (shape_room x 0 (length w) r)))

    pub station_joins : (count ≡ 0 → ⊥) → get_or acc 0 0 < 256 → get_or w (k * x.n) 0 < 256 → (out : List ℕ)
        → take x.n out ≡ join (take x.n acc) (take x.n (drop (k * x.n) w)) → (bs : List ℕ)
        → Added (structure_at x.n (take x.n x.counts) w bs) j count (decoded (take x.n acc)) (decoded (take x.n out))
    station_joins f p q out g bs _ =
        ap decoded g ∙ decoded-rows x.n acc (drop (k * x.n) w) x.some_station (omega (arith, x.few_stations)) long p (rw (first-at w (k * x.n)) q)
        ∙ ap (joined (decoded (take x.n acc))) (sym row_is)
      where
        long : x.n ≤ length (drop (k * x.n) w)
        long = rw length-drop (omega (arith, station-room))

        row_is : row (structure_at x.n (take x.n x.counts) w bs) j count ≡ decoded (take x.n (drop (k * x.n) w))
        row_is = rw (e, ← zero-add ((get_or x.offs j 0 + count) * x.n)) (placed_row x.n x.counts w 0 j (get_or x.offs j 0) (x.offs_are j h) h count l f bs)

-- Before the first station: the least cut.
pub raise-start : (x : Shape) (w cut acc : List ℕ) → (x.e + 1) * x.n ≤ length w
    → (get_or w 0 0 ≡ 255 → ⊥) → take x.n acc ≡ join (take x.n (replicate 8 0)) (take x.n w) → (bs : List ℕ)
    → decoded (take x.n acc) ≡ raise_by (structure_at x.n (take x.n x.counts) w bs) cut 0
unfolding raise_by
raise-start x w cut acc room f e bs =
    let r : 0 + (x.e + 1) * x.n ≤ length w = omega arith in
    ap decoded (e ∙ join_zeros x.n 8 w x.few_stations (omega (arith, shape_room x 0 (length w) r))) ∙ is_some x.n w x.some_station f

-- After the last.
pub raise-finish : (n : ℕ) (S : Structure) (cut : List ℕ) (x : Option Cut) → n ≤ length cut → (j : ℕ) → j ≡ n → x ≡ raise_by S (take n cut) j → x ≡ raise S (take n cut)
raise-finish n S cut x h j q f = f ∙ ap (raise_by S (take n cut)) q ∙ raise_end n S cut h
