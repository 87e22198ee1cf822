-- Sums of the first counts: one more count, their bound, and one more sum stored. Assumes nothing.
use mathlib.Core.Path.{◌≡◌, ◌∙◌}
use mathlib.Core.List.{List}
use Prim.Native.Nat.{ℕ, ◌+◌, ◌≤◌, ◌<◌}
use native.Mathlib.Omega.{arith}
use native.Mathlib.Decide.{dec_lt}
use native.Mathlib.Numerals.{add-one}
use lib.ListN.{length, get_or, take, set}
use lib.Seq.{get_or-take, get_or-set_same, get_or-set_other}
use Rattle.model.specs.Lists.{total}
use Rattle.lattice.proofs.Sums.{total-suc, total-take}

-- station j of n
module _ (counts : List ℕ) (n j : ℕ) (h : j < n) where
  pub sum_next : total (take (j + 1) (take n counts)) ≡ total (take j (take n counts)) + get_or counts j 0
  sum_next = rw (add-one j, total-suc (take n counts) j, get_or-take n counts j 0 h)

  pub sum_few : total (take j (take n counts)) + get_or counts j 0 ≤ total (take n counts)
  sum_few = omega (arith, total-take (take n counts) j, get_or-take n counts j 0 h)

-- one more sum stored
pub sum-set : (counts offs : List ℕ) (n j x : ℕ) → j < length offs → x ≡ total (take j (take n counts)) → ((i : ℕ) → i < j → get_or offs i 0 ≡ total (take i (take n counts)))
    → (i : ℕ) → i < j + 1 → get_or (set offs j x) i 0 ≡ total (take i (take n counts))
sum-set counts offs n j x h e p i b = go (dec_lt i j) where
  go : Dec (i < j) → get_or (set offs j x) i 0 ≡ total (take i (take n counts))
  go (yes l) = get_or-set_other offs j i x 0 (λ z. omega arith) ∙ p i l
  go (no l) = let z : i ≡ j = omega arith in rw z (get_or-set_same offs j x 0 h ∙ e)
