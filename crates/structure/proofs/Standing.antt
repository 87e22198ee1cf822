-- What stands in a workspace depends only on the cells that it covers; and structures behind structures.
use mathlib.Core.Path.{◌≡◌, refl, sym, ap, ap₂, ◌∙◌}
use Prim.Native.Nat.{ℕ, zero, suc, ◌+◌, ◌*◌, ◌≤◌, ◌<◌}
use native.Mathlib.Nat.{zero-add, suc-add, zero-mul, suc-mul, add-mul}
use native.Mathlib.Numerals.{add-one}
use native.Mathlib.Omega.{arith}
use mathlib.Core.List.{List, [], ◌∷◌, ◌++◌}
use mathlib.Core.Option.{Option}
use lib.ListN.{length, get_or, take, drop}
use lib.Seq.{drop-drop, take-append-le}
use Rattle.model.specs.Lists.{sum, total}
use Rattle.model.specs.Cut.{Cut}
use Rattle.model.specs.Structure.{Structure}
use Rattle.structure.specs.Layout.{rows_at, stations_at, bars_at, structure_at, cells, bar_cells, standing}
use Rattle.lattice.proofs.Lists.{All, all_head, all_tail}
use Rattle.cells.proofs.Parts.{front_same, part_same, cell_same}

behind : (n m : ℕ) → n + m * n ≡ suc m * n
behind n m = omega (arith, suc-mul m n)

pub rows_same : (n m : ℕ) (w v : List ℕ) → take (m * n) w ≡ take (m * n) v → rows_at n m w ≡ rows_at n m v
unfolding rows_at
rows_same n zero w v e = refl
rows_same n (suc m) w v e =
    let s = behind n m in
    rw (front_same (suc m * n) w v e n (omega arith), rows_same n m (drop n w) (drop n v) (part_same (suc m * n) w v e n (m * n) (omega arith)))

pub stations_same : (n : ℕ) (counts w v : List ℕ) → take (total counts * n) w ≡ take (total counts * n) v → stations_at n counts w ≡ stations_at n counts v
unfolding stations_at sum
stations_same n [] w v e = refl
stations_same n (m ∷ counts) w v e =
    let t = add-mul m (total counts) n in
    let c = (m + total counts) * n in
    rw (
      rows_same n m w v (front_same c w v e (m * n) (omega arith)),
      stations_same n counts (drop (m * n) w) (drop (m * n) v) (part_same c w v e (m * n) (total counts * n) (omega arith)),
    )

pub bars_same : (n m : ℕ) (w v : List ℕ) → 0 < n → take (m * n) w ≡ take (m * n) v → bars_at n m w ≡ bars_at n m v
unfolding bars_at
bars_same n zero w v z e = refl
bars_same n (suc m) w v z e =
    let s = behind n m in
    let f : take n w ≡ take n v = front_same (suc m * n) w v e n (omega arith) in
    let g : get_or w 0 0 ≡ get_or v 0 0 = cell_same n w v f 0 z in
    let h : bars_at n m (drop n w) ≡ bars_at n m (drop n v) = bars_same n m (drop n w) (drop n v) z (part_same (suc m * n) w v e n (m * n) (omega arith)) in
    rw (f, g, h)

module _ (n : ℕ) (counts : List ℕ) where
  -- The set of a structure, and the structure.
  pub set_same : (w v bs : List ℕ) → take (cells n counts) w ≡ take (cells n counts) v → structure_at n counts w bs ≡ structure_at n counts v bs
  set_same w v bs e =
      let t = behind n (total counts) in
      ap₂ (λ (l : Cut) (r : List (List (Option Cut))). record { least = l; rows = r; bars = bars_at n 16 bs })
      (front_same (cells n counts) w v e n (omega arith))
      (stations_same n counts (drop n w) (drop n v) (part_same (cells n counts) w v e n (total counts * n) (omega arith)))

  pub structure_same : (w v bs bt : List ℕ) → 0 < n → take (cells n counts) w ≡ take (cells n counts) v → take (bar_cells n) bs ≡ take (bar_cells n) bt
      → structure_at n counts w bs ≡ structure_at n counts v bt
  structure_same w v bs bt z e f = set_same w v bs e ∙ rw (bars_same n 16 bs bt z f)

  -- Cells before o that are kept keep a structure that stands there.
  pub set_kept : (at o : ℕ) (w v bs : List ℕ) → at + cells n counts ≤ o → take o w ≡ take o v → structure_at n counts (drop at w) bs ≡ structure_at n counts (drop at v) bs
  set_kept at o w v bs h e = set_same (drop at w) (drop at v) bs (part_same o w v e at (cells n counts) h)

  pub standing_same : (k : ℕ) (w v bs bt : List ℕ) → 0 < n → take (k * cells n counts) w ≡ take (k * cells n counts) v
      → take (k * bar_cells n) bs ≡ take (k * bar_cells n) bt → standing n counts k w bs ≡ standing n counts k v bt
  unfolding standing
  standing_same zero w v bs bt z e f = refl
  standing_same (suc k) w v bs bt z e f =
      let s = behind (cells n counts) k in
      let t = behind (bar_cells n) k in
      let c = cells n counts in
      let b = bar_cells n in
      ap₂ (λ (x : Structure) (l : List Structure). x ∷ l)
      (structure_same w v bs bt z (front_same (suc k * c) w v e c (omega arith)) (front_same (suc k * b) bs bt f b (omega arith)))
      (standing_same k (drop c w) (drop c v) (drop b bs) (drop b bt) z (part_same (suc k * c) w v e c (k * c) (omega arith)) (part_same (suc k * b) bs bt f b (k * b) (omega arith)))

  pub standing-add : (j k : ℕ) (w bs : List ℕ)
      → standing n counts (j + k) w bs ≡ standing n counts j w bs ++ standing n counts k (drop (j * cells n counts) w) (drop (j * bar_cells n) bs)
  unfolding standing
  standing-add zero k w bs = rw (zero-add k, zero-mul (cells n counts), zero-mul (bar_cells n))
  standing-add (suc j) k w bs =
      let c = cells n counts in
      let b = bar_cells n in
      rw (suc-add j k, ← behind c j, ← behind b j, ← drop-drop (j * c) c w, ← drop-drop (j * b) b bs)
      (ap (λ (l : List Structure). structure_at n counts w bs ∷ l) (standing-add j k (drop c w) (drop b bs)))

  pub standing-snoc : (k : ℕ) (w bs : List ℕ)
      → standing n counts (suc k) w bs ≡ standing n counts k w bs ++ (structure_at n counts (drop (k * cells n counts) w) (drop (k * bar_cells n) bs) ∷ [])
  unfolding standing
  standing-snoc k w bs = ap (λ (m : ℕ). standing n counts m w bs) (sym (add-one k)) ∙ standing-add k 1 w bs

  pub standing-append : (k : ℕ) (w v bs bt : List ℕ) → 0 < n → k * cells n counts ≤ length w → k * bar_cells n ≤ length bs
      → standing n counts k (w ++ v) (bs ++ bt) ≡ standing n counts k w bs
  standing-append k w v bs bt z h l =
      standing_same k (w ++ v) w (bs ++ bt) bs z (take-append-le (k * cells n counts) w v h) (take-append-le (k * bar_cells n) bs bt l)

  pub length-standing : (k : ℕ) (w bs : List ℕ) → length (standing n counts k w bs) ≡ k
  unfolding standing
  length-standing zero w bs = refl
  length-standing (suc k) w bs = ap suc (length-standing k (drop (cells n counts) w) (drop (bar_cells n) bs))

  -- What all have the i-th has.
  pub standing-each : (G : Structure → Type 0) (k : ℕ) (w bs : List ℕ) → All G (standing n counts k w bs) → (i : ℕ) → i < k
      → G (structure_at n counts (drop (i * cells n counts) w) (drop (i * bar_cells n) bs))
  unfolding standing
  standing-each G zero w bs a i h = absurd (omega arith)
  standing-each G (suc k) w bs a zero h = rw (zero-mul (cells n counts), zero-mul (bar_cells n)) (all_head a)
  standing-each G (suc k) w bs a (suc i) h =
      let c = cells n counts in
      let b = bar_cells n in
      rw (← behind c i, ← behind b i, ← drop-drop (i * c) c w, ← drop-drop (i * b) b bs)
      (standing-each G k (drop c w) (drop b bs) (all_tail a) i (omega arith))
