-- Where the row of an event stands: behind the least cut, the rows of the stations before, and those of the events before.
use mathlib.Core.Path.{◌≡◌, refl, sym, ap, ◌∙◌}
use Prim.Native.Nat.{ℕ, zero, suc, ◌+◌, ◌*◌, ◌≤◌, ◌<◌}
use native.Mathlib.Nat.{suc-add, zero-add, suc-mul, zero-mul, add-mul, mul-le-mul_right, le_of_suc-le-suc}
use native.Mathlib.Decide.{dec_lt}
use native.Mathlib.Numerals.{add-one}
use native.Mathlib.Omega.{arith}
use mathlib.Core.List.{List, [], ◌∷◌, ◌++◌}
use mathlib.Core.Option.{Option, none}
use lib.ListN.{length, get_or, take, drop, get_or-eq_default}
use lib.Seq.{drop-drop, get_or-take}
use Rattle.model.specs.Lists.{sum, total}
use Rattle.model.specs.Structure.{row}
use Rattle.lattice.proofs.Sums.{total-take}
use Rattle.structure.specs.Layout.{decoded, rows_at, stations_at, structure_at, placed, cells}

pub rows-at : (n m : ℕ) (w : List ℕ) (k : ℕ) → k < m → get_or (rows_at n m w) k none ≡ decoded (take n (drop (k * n) w))
unfolding rows_at
rows-at n zero w k h = absurd (omega arith)
rows-at n (suc m) w zero h = rw zero-mul
rows-at n (suc m) w (suc k) h =
    let s : n + k * n ≡ suc k * n = omega (arith, suc-mul k n) in
    rows-at n m (drop n w) k (le_of_suc-le-suc h) ∙ ap (λ (l : List ℕ). decoded (take n l)) (drop-drop (k * n) n w ∙ ap (λ (x : ℕ). drop x w) s)

-- Rows behind rows.
pub rows-add : (n m k : ℕ) (w : List ℕ) → rows_at n (m + k) w ≡ rows_at n m w ++ rows_at n k (drop (m * n) w)
unfolding rows_at
rows-add n zero k w = rw (zero-add k, zero-mul n)
rows-add n (suc m) k w =
    let s : n + m * n ≡ suc m * n = omega (arith, suc-mul m n) in
    rw (suc-add m k, ← s, ← drop-drop (m * n) n w) (ap (λ (l : List (Option (List ℕ))). decoded (take n w) ∷ l) (rows-add n m k (drop n w)))

pub length-rows : (n m : ℕ) (w : List ℕ) → length (rows_at n m w) ≡ m
unfolding rows_at
length-rows n zero w = refl
length-rows n (suc m) w = ap suc (length-rows n m (drop n w))

station-at : (n : ℕ) (counts w : List ℕ) (j : ℕ) → j < length counts
    → get_or (stations_at n counts w) j [] ≡ rows_at n (get_or counts j 0) (drop (total (take j counts) * n) w)
unfolding stations_at sum
station-at n [] w j h = absurd (omega arith)
station-at n (m ∷ counts) w zero h = rw zero-mul
station-at n (m ∷ counts) w (suc j) h =
    station-at n counts (drop (m * n) w) j (le_of_suc-le-suc h)
    ∙ ap (rows_at n (get_or counts j 0)) (drop-drop (total (take j counts) * n) (m * n) w ∙ rw (add-mul m (total (take j counts)) n))

pub length-stations : (n : ℕ) (counts w : List ℕ) → length (stations_at n counts w) ≡ length counts
unfolding stations_at
length-stations n [] w = refl
length-stations n (m ∷ counts) w = ap suc (length-stations n counts (drop (m * n) w))

-- The row of event k of station j, and past the station's events.
module _ (n : ℕ) (counts w bs : List ℕ) (j : ℕ) where
  pub row-place : (k : ℕ) → (k ≡ 0 → ⊥) → k ≤ get_or counts j 0
      → row (structure_at n counts w bs) j k ≡ decoded (take n (drop ((total (take j counts) + k) * n) w))
  unfolding row
  row-place zero f l = absurd (f refl)
  row-place (suc k) f l = there (dec_lt j (length counts))
    where
      t : ℕ
      t = total (take j counts)

      s : n + (t * n + k * n) ≡ (t + suc k) * n
      s = omega (arith, suc-mul k n, add-mul t (suc k) n)

      there : Dec (j < length counts) → get_or (get_or (stations_at n counts (drop n w)) j []) k none ≡ decoded (take n (drop ((t + suc k) * n) w))
      there (no g) = absurd (omega (arith, get_or-eq_default counts 0 {n = j} (omega arith)))
      there (yes h) =
          ap (λ (r : List (Option (List ℕ))). get_or r k none) (station-at n counts (drop n w) j h)
          ∙ rows-at n (get_or counts j 0) (drop (t * n) (drop n w)) k l
          ∙ ap (λ (l : List ℕ). decoded (take n l)) (drop-drop (k * n) (t * n) (drop n w) ∙ drop-drop (t * n + k * n) n w ∙ ap (λ (x : ℕ). drop x w) s)

  pub row-past : (k : ℕ) → get_or counts j 0 < k → row (structure_at n counts w bs) j k ≡ none
  unfolding row
  row-past zero l = absurd (omega arith)
  row-past (suc k) l = there (dec_lt j (length counts))
    where
      there : Dec (j < length counts) → get_or (get_or (stations_at n counts (drop n w)) j []) k none ≡ none
      there (no g) = ap (λ (r : List (Option (List ℕ))). get_or r k none) (get_or-eq_default (stations_at n counts (drop n w)) [] (rw length-stations (omega arith)))
      there (yes h) =
          let d = drop (total (take j counts) * n) (drop n w) in
          ap (λ (r : List (Option (List ℕ))). get_or r k none) (station-at n counts (drop n w) j h)
          ∙ get_or-eq_default (rows_at n (get_or counts j 0) d) none (rw length-rows (le_of_suc-le-suc l))

-- The row of event k of station j in a structure at a place; before is how many events the stations before j have.
module _ (n : ℕ) (counts w : List ℕ) (at j before : ℕ) (b : before ≡ total (take j (take n counts))) (h : j < n) (k : ℕ) (l : k ≤ get_or counts j 0) where
  count_at : get_or (take n counts) j 0 ≡ get_or counts j 0
  count_at = get_or-take n counts j 0 h

  pub placed_row : (k ≡ 0 → ⊥) → (bs : List ℕ) → row (placed n counts w at bs) j k ≡ decoded (take n (drop (at + (before + k) * n) w))
  placed_row f bs =
      row-place n (take n counts) (drop at w) bs j k f (rw count_at l)
      ∙ ap (λ (x : List ℕ). decoded (take n x)) (ap (λ (t : ℕ). drop ((t + k) * n) (drop at w)) (sym b) ∙ drop-drop ((before + k) * n) at w)

  -- It has m cells from its first on.
  pub placed-room : (m : ℕ) → at + total (take n counts) * n + m ≤ length w → at + (before + k) * n + m ≤ length w
  placed-room m room =
      let t : total (take j (take n counts)) + get_or (take n counts) j 0 ≤ total (take n counts) = total-take (take n counts) j in
      let q : before + k ≤ total (take n counts) = omega (arith, b, count_at) in
      omega (arith, mul-le-mul_right n q)

-- SIZES

-- One part of s cells more.
pub one_more : (i s : ℕ) → (i + 1) * s ≡ i * s + s
one_more i s = ap (λ (x : ℕ). x * s) (add-one i) ∙ suc-mul i s

-- The cells of a structure of e events.
pub cells_are : (n e : ℕ) (counts : List ℕ) → total counts ≡ e → cells n counts ≡ (e + 1) * n
cells_are n e counts t = ap (λ (x : ℕ). suc x * n) t ∙ ap (λ (x : ℕ). x * n) (sym (add-one e))

-- The i-th of k parts of s cells lies within them.
pub next_fits : (i k s : ℕ) → i < k → i * s + s ≤ k * s
next_fits i k s h = omega (arith, mul-le-mul_right s h, suc-mul i s)

-- Row i of e events.
pub row_fits : (i e n : ℕ) → i ≤ e → i * n + n ≤ (e + 1) * n
row_fits i e n h = next_fits i (e + 1) n (omega arith)
