-- Laws of the last row of a station, and of the greatest cut that these make.
use mathlib.Core.Path.{◌≡◌, refl, sym, subst, ◌∙◌}
use Prim.Native.Nat.{ℕ, zero, suc, ◌+◌, ◌*◌, ◌-◌, ◌≤◌, ◌<◌}
use native.Mathlib.Nat.{zero-add, mul-le-mul_right}
use native.Mathlib.Numerals.{add-one}
use native.Mathlib.Omega.{arith}
use native.Mathlib.Decide.{dec_le, dec_lt}
use mathlib.Core.List.{List}
use mathlib.Core.Option.{none, some}
use lib.ListN.{length, get_or, take, drop, replicate, length-drop, length-take}
use lib.Seq.{length-take-le, get_or-take}
use Rattle.model.specs.Lists.{total}
use Rattle.model.specs.Cut.{Cut, join}
use Rattle.model.specs.Computation.{Computation, full}
use Rattle.model.specs.Structure.{Structure, row, greatest}
use Rattle.lattice.specs.Ascending.{RowsAscend, LastRow}
use Rattle.lattice.proofs.Sums.{total-take}
use Rattle.lattice.proofs.Ascending.{Gathered, gathered_none, gathered_more, gathered_all, all_ascend}
use Rattle.structure.specs.Layout.{decoded, bars_at, structure_at}
use Rattle.structure.specs.declared.Shape.{Shape}
use Rattle.structure.specs.Laid.{Laid}
use Rattle.cells.proofs.Cuts.{join_zeros}
use Rattle.structure.proofs.Rows.{is_none, is_some, decoded-is, first-at}
use Rattle.structure.proofs.Places.{row-place, row-past, length-stations, placed_row, placed-room}
use Rattle.structure.proofs.Raising.{shape_room}
use Rattle.tops.specs.Greatest.{GreatestAt}

-- What holds behind event k and at it holds behind the one before.
pub one-before : (P : ℕ → Type 0) (k m : ℕ) → ((i : ℕ) → k < i → i ≤ m → P i) → P k → (i : ℕ) → k - 1 < i → i ≤ m → P i
one-before P k m f p i h l = elim (dec_lt k i) [ yes q ↦ f i q l | no q ↦ let e : i ≡ k = omega arith in rw e p ]

module _ (x : Shape) (w : List ℕ) (room : (x.e + 1) * x.n ≤ length w) where
  pub within : total (take x.n x.counts) * x.n + x.n ≤ length w
  within = let r : 0 + (x.e + 1) * x.n ≤ length w = omega arith in omega (arith, shape_room x 0 (length w) r)

  abbrev S : List ℕ → Structure
  S bs = structure_at x.n (take x.n x.counts) w bs

  -- Of station j, behind so many events of the stations before it, with so many events.
  module _ (j before most : ℕ) (h : j < x.n) (b : before ≡ get_or x.offs j 0) (m : most ≡ get_or x.counts j 0) where
    first-is : before ≡ total (take j (take x.n x.counts))
    first-is = b ∙ x.offs_are j h

    pub row_room : (k : ℕ) → k ≤ most → (before + k) * x.n + x.n ≤ length w
    row_room k l = let r : 0 + total (take x.n x.counts) * x.n + x.n ≤ length w = omega (arith, within) in omega (arith, placed-room x.n x.counts w 0 j before first-is h k (omega arith) x.n r)

    row_at : (k : ℕ) → k ≤ most → (k ≡ 0 → ⊥) → (bs : List ℕ) → row (S bs) j k ≡ decoded (take x.n (drop ((before + k) * x.n) w))
    row_at k l f bs = rw (← zero-add ((before + k) * x.n)) (placed_row x.n x.counts w 0 j before first-is h k (omega arith) f bs)

    -- The rows behind event k are none.
    module _ (k : ℕ) (l : k ≤ most) (f : (i : ℕ) → k < i → i ≤ most → get_or w ((before + i) * x.n) 0 ≡ 255) where
      ends : (bs : List ℕ) (i : ℕ) → k < i → row (S bs) j i ≡ none
      ends bs i g = there (dec_le i most)
        where
          there : Dec (i ≤ most) → row (S bs) j i ≡ none
          there (yes q) =
              row_at i q (λ z. omega arith) bs
              ∙ is_none x.n (drop ((before + i) * x.n) w) x.some_station (first-at w ((before + i) * x.n) ∙ f i g q)
          there (no q) = row-past x.n (take x.n x.counts) w bs j i (rw (get_or-take x.n x.counts j 0 h) (omega arith))

      pub last_there : 0 < k → (get_or w ((before + k) * x.n) 0 ≡ 255 → ⊥) → (bs : List ℕ)
          → LastRow (S bs) j (get_or x.counts j 0) (take x.n (drop ((before + k) * x.n) w))
      last_there p q bs = record {
        event = k;
        within = omega arith;
        there = row_at k l (λ z. omega arith) bs ∙ is_some x.n (drop ((before + k) * x.n) w) x.some_station (λ z. q (sym (first-at w ((before + k) * x.n)) ∙ z));
        ends = ends bs;
      }

      pub last_least : k ≡ 0 → (bs : List ℕ) → LastRow (S bs) j (get_or x.counts j 0) (take x.n w)
      unfolding row
      last_least p bs = record { event = 0; within = omega arith; there = refl; ends = λ i g. ends bs i (omega arith) }

  -- The cuts of the structure have n entries.
  row-size : (bs : List ℕ) (j k : ℕ) (d : Cut) → row (S bs) j k ≡ some d → length d ≡ x.n
  unfolding row
  row-size bs j zero d e =
      let q : take x.n w ≡ d = cc in
      rw (← q) (length-take-le x.n w (omega (arith, within)))
  row-size bs j (suc k) d e = there (dec_le (suc k) (get_or cs j 0))
    where
      cs : List ℕ
      cs = take x.n x.counts

      place : ℕ
      place = (total (take j cs) + suc k) * x.n

      fits : suc k ≤ get_or cs j 0 → x.n ≤ length (drop place w)
      fits l =
          let t : total (take j cs) + get_or cs j 0 ≤ total cs = total-take cs j in
          let q : total (take j cs) + suc k ≤ total cs = omega arith in
          let p : place ≤ total cs * x.n = mul-le-mul_right x.n q in
          rw length-drop (omega (arith, within))

      there : Dec (suc k ≤ get_or cs j 0) → length d ≡ x.n
      there (yes l) =
          let q : take x.n (drop place w) ≡ d = decoded-is _ d (sym (row-place x.n cs w bs j (suc k) (λ z. omega arith) l) ∙ e) in
          rw (← q) (length-take-le x.n (drop place w) (fits l))
      there (no l) =
          let q : row (S bs) j (suc k) ≡ none = row-past x.n cs w bs j (suc k) (omega arith) in
          let z : ◌≡◌ {A = ℕ} 0 1 = cc in absurd (omega arith)

  -- Before the first station, a turn of the loop over the stations, and after the last.
  module _ (bs : List ℕ) where
    pub greatest-start : (acc : List ℕ) → take x.n acc ≡ join (take x.n (replicate 8 0)) (take x.n w) → Gathered (S bs) 0 (take x.n acc)
    greatest-start acc e =
        rw (e ∙ join_zeros x.n 8 w x.few_stations (omega (arith, within))) (gathered_none (S bs))

    pub greatest_turn : RowsAscend (take x.n x.counts) (S bs) → (j : ℕ) → j < x.n → (acc out : List ℕ) (d : Cut)
        → LastRow (S bs) j (get_or x.counts j 0) d → take x.n out ≡ join (take x.n acc) d
        → Gathered (S bs) j (take x.n acc) → Gathered (S bs) (j + 1) (take x.n out)
    greatest_turn asc j h acc out d last e have =
        rw (e, add-one j) (gathered_more (take x.n x.counts) (S bs) asc j (take x.n acc) d (rw (get_or-take x.n x.counts j 0 h) last) have)

    pub greatest_end : (j : ℕ) → j ≡ x.n → (acc : List ℕ) → length acc ≡ 8 → Gathered (S bs) j (take x.n acc) → take x.n acc ≡ greatest (S bs)
    greatest_end j q acc l have =
        gathered_all (S bs) j x.n (take x.n acc) have
        (rw (length-stations, length-take) (omega arith))
        (length-take-le x.n acc (omega (arith, x.few_stations)))
        (row-size bs)

-- The same where the counts are those of a computation.
pub greatest_of : (x : Shape) (counts ws : List ℕ) (at : ℕ) (g : Cut) → take x.n x.counts ≡ counts → GreatestAt x ws at g → (bs : List ℕ)
    → RowsAscend counts (structure_at x.n counts (drop at ws) bs) → g ≡ greatest (structure_at x.n counts (drop at ws) bs)
greatest_of x counts ws at g e top bs =
    subst (λ (l : List ℕ). RowsAscend l (structure_at x.n l (drop at ws) bs) → g ≡ greatest (structure_at x.n l (drop at ws) bs)) e (top bs)

-- The starts are the rows of all cuts, and so ascend.
pub starts_ascend : (K : Computation) (x : Shape) (starts : List ℕ) → Laid K x starts → (bs : List ℕ) → RowsAscend (full K) (structure_at x.n (full K) starts bs)
starts_ascend K x starts laid bs = rw (laid.starts_least, laid.starts_rows) (rw laid.stationed at (all_ascend K laid.valid (bars_at x.n 16 bs)))
