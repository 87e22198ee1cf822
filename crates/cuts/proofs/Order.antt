-- Which of two cuts stands before the other: the order of slices.
use mathlib.Core.Path.{◌≡◌, refl}
use mathlib.Core.Bool.{Bool, true, false, cond}
use mathlib.Core.List.{List, ◌∷◌}
use Prim.Native.Nat.{ℕ}
use lib.Dec.{ltb, eqb}
use Rattle.std.proofs.Common.{Ordering, Less, Equal, Greater, Some}
use Rattle.std.specs.Ordering.{is_some_and, is_lt, nat_cmp, MatchOrdering}
use Rattle.std.specs.Cmp.Lexicographic.{slice_partial_cmp}
use Rattle.std.proofs.lemmas.Cmp.{same_from_slice_cmp_tested}
use Rattle.model.specs.Answer.{precedes}

-- Station 0 decides first.
station : (x y : ℕ) (c d : List ℕ) (o : Ordering) → o ≡ nat_cmp x y
    → MatchOrdering o (precedes (x ∷ c) (y ∷ d) ≡ true) (precedes (x ∷ c) (y ∷ d) ≡ precedes c d) (precedes (x ∷ c) (y ∷ d) ≡ false)
unfolding precedes
station x y c d o e = go (ltb x y) refl (eqb x y) refl e
  where
    go : (a : Bool) → ltb x y ≡ a → (b : Bool) → eqb x y ≡ b → o ≡ cond a Less (cond b Equal Greater)
        → MatchOrdering o (precedes (x ∷ c) (y ∷ d) ≡ true) (precedes (x ∷ c) (y ∷ d) ≡ precedes c d) (precedes (x ∷ c) (y ∷ d) ≡ false)
    go true p b q f = rw f (rw p refl)
    go false p true q f = rw f (rw (p, q) refl)
    go false p false q f = rw f (rw (p, q) refl)

pub by_order : (c d : List ℕ) (r : Bool) → r ≡ is_some_and is_lt (slice_partial_cmp (λ (x y : ℕ). Some (nat_cmp x y)) c d) → r ≡ precedes c d
unfolding precedes
by_order = same_from_slice_cmp_tested nat_cmp is_lt precedes refl (λ y ys. refl) (λ x xs. refl) station
