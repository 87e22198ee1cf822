-- Sums over lists.
use mathlib.Core.Path.{◌≡◌, refl}
use Prim.Native.Nat.{ℕ, zero, suc, ◌+◌, ◌*◌, ◌≤◌}
use native.Mathlib.Omega.{arith}
use mathlib.Core.List.{List, [], ◌∷◌, ◌++◌, map}
use lib.ListN.{length, get_or, take}
use Rattle.model.specs.Lists.{sum, total}

module _ {A : Type 0} (f : A → ℕ) where
  pub sum-append : (l r : List A) → sum f (l ++ r) ≡ sum f l + sum f r
  unfolding sum
  sum-append [] r = omega arith
  sum-append (x ∷ l) r = omega (arith, sum-append l r)

  pub sum-snoc : (l : List A) (x : A) → sum f (l ++ (x ∷ [])) ≡ sum f l + f x
  unfolding sum
  sum-snoc l x = omega (arith, sum-append l (x ∷ []))

  -- Summands of at most n.
  module _ (n : ℕ) (h : (x : A) → f x ≤ n) where
    pub sum-le : (l : List A) → sum f l ≤ length l * n
    unfolding sum
    sum-le [] = omega arith
    sum-le (x ∷ l) = omega (arith, h x, sum-le l)

    pub sum-sum-le : (ls : List (List A)) → sum (sum f) ls ≤ total (map length ls) * n
    unfolding sum
    sum-sum-le [] = omega arith
    sum-sum-le (l ∷ ls) = omega (arith, sum-le l, sum-sum-le ls)

-- The first numbers of a list, and one more.
pub total-suc : (l : List ℕ) (j : ℕ) → total (take (suc j) l) ≡ total (take j l) + get_or l j 0
unfolding sum
total-suc [] zero = refl
total-suc [] (suc j) = refl
total-suc (x ∷ l) zero = omega arith
total-suc (x ∷ l) (suc j) = omega (arith, total-suc l j)

-- They are among all.
pub total-take : (l : List ℕ) (j : ℕ) → total (take j l) + get_or l j 0 ≤ total l
unfolding sum
total-take [] zero = omega arith
total-take [] (suc j) = omega arith
total-take (x ∷ l) zero = omega arith
total-take (x ∷ l) (suc j) = omega (arith, total-take l j)
