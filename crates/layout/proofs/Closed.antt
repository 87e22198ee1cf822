-- The test for consistency, station by station. Assumes nothing.
use mathlib.Core.Path.{◌≡◌, sym, ◌∙◌}
use mathlib.Core.Bool.{true, false}
use mathlib.Core.List.{List}
use Prim.Native.Nat.{ℕ, ◌<◌, ◌≤◌}
use native.Mathlib.Omega.{arith}
use lib.Dec.{eqb}
use lib.ListN.{length, get_or}
use borrow.Author.Tests.{eq-eqb, ne_eqb}
use Rattle.model.specs.Lists.{every}
use Rattle.model.specs.Computation.{Computation, stations, known, is_consistent}
use Rattle.table.specs.Table.{Stored}
use Rattle.table.proofs.Clocks.{every_fails}

-- the cut v of n stations
module _ {K : Computation} (v : List ℕ) {n : ℕ} {counts t : List ℕ} (g : Stored K n counts t) where
  pub wrong_size : (length v ≡ n → ⊥) → false ≡ is_consistent K v
  unfolding is_consistent
  wrong_size h = sym (rw (g.size, ne_eqb (length v) n h))

  pub sized : length v ≡ n → Stored K (length v) counts t
  sized s = rw s g

  pub wrong-station : length v ≡ n → (j : ℕ) → j < n → known K v j (get_or v j 0) ≡ false → false ≡ is_consistent K v
  unfolding is_consistent
  wrong-station s j h e = sym (rw (g.size, eq-eqb (length v) n s) (every_fails (λ i. known K v i (get_or v i 0)) j n h e))

  pub all_right : length v ≡ n → (j : ℕ) → j ≤ n → n ≤ j → every j (λ i. known K v i (get_or v i 0)) ≡ true → true ≡ is_consistent K v
  unfolding is_consistent
  all_right s j a b e =
      let m : stations K ≡ j = g.size ∙ omega arith in
      let x : eqb (length v) j ≡ true = eq-eqb (length v) j (omega arith) in
      sym (rw (m, x) e)
