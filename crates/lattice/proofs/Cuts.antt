-- The laws of cuts: containment, join and meet, the number of events.
use mathlib.Core.Path.{◌≡◌, refl, ap}
use mathlib.Core.Logic.{◌↔◌, inl, inr}
use Prim.Native.Nat.{ℕ, zero, suc, ◌≤◌, max, min}
use native.Mathlib.Omega.{arith}
use mathlib.Core.Bool.{true, false}
use mathlib.Core.List.{List, [], ◌∷◌, ◌++◌}
use lib.ListN.{length}
use lib.Seq.{ext_get_or}
use lib.Dec.{leb}
use borrow.Author.Tests.{leb-true, le-leb}
use Rattle.model.specs.Lists.{Some, sum, total}
use Rattle.model.specs.Lists.Some.{here, there}
use Rattle.model.specs.Cut.{Cut, ◌!◌, ◌⊑◌, inside, inside_any, join, meet, empty}
use Rattle.lattice.proofs.Tests.{clash, and-true, or-true, false_iff}
use Rattle.lattice.proofs.Lists.{some-split, some_left, some_right, some-map}

-- CONTAINMENT

pub refl⊑ : (c : Cut) → c ⊑ c
refl⊑ c j = omega arith

pub trans⊑ : (c d e : Cut) → c ⊑ d → d ⊑ e → c ⊑ e
trans⊑ c d e p q j = omega (arith, p j, q j)

pub antisym⊑ : (c d : Cut) → length c ≡ length d → c ⊑ d → d ⊑ c → c ≡ d
antisym⊑ c d l p q = ext_get_or 0 c d l λ j h. omega (arith, p j, q j)

pub inside_⊑ : (c d : Cut) → inside c d ≡ true → c ⊑ d
unfolding inside
inside_⊑ [] d h j = omega arith
inside_⊑ (x ∷ c) [] h zero = leb-true x 0 ((and-true (leb x 0) (inside c [])).0 h).0
inside_⊑ (x ∷ c) [] h (suc j) = inside_⊑ c [] ((and-true (leb x 0) (inside c [])).0 h).1 j
inside_⊑ (x ∷ c) (y ∷ d) h zero = leb-true x y ((and-true (leb x y) (inside c d)).0 h).0
inside_⊑ (x ∷ c) (y ∷ d) h (suc j) = inside_⊑ c d ((and-true (leb x y) (inside c d)).0 h).1 j

pub ⊑-inside : (c d : Cut) → c ⊑ d → inside c d ≡ true
unfolding inside
⊑-inside [] d h = refl
⊑-inside (x ∷ c) [] h = (and-true (leb x 0) (inside c [])).1 (le-leb x 0 (h zero), ⊑-inside c [] (λ j. h (suc j)))
⊑-inside (x ∷ c) (y ∷ d) h = (and-true (leb x y) (inside c d)).1 (le-leb x y (h zero), ⊑-inside c d (λ j. h (suc j)))

-- JOIN AND MEET

pub join-at : (c d : Cut) (j : ℕ) → join c d ! j ≡ max (c ! j) (d ! j)
unfolding join
join-at [] d j = omega arith
join-at (x ∷ c) [] zero = omega arith
join-at (x ∷ c) [] (suc j) = omega arith
join-at (x ∷ c) (y ∷ d) zero = refl
join-at (x ∷ c) (y ∷ d) (suc j) = join-at c d j

pub meet-at : (c d : Cut) (j : ℕ) → meet c d ! j ≡ min (c ! j) (d ! j)
unfolding meet
meet-at [] d j = omega arith
meet-at (x ∷ c) [] zero = omega arith
meet-at (x ∷ c) [] (suc j) = meet-at c [] j
meet-at (x ∷ c) (y ∷ d) zero = refl
meet-at (x ∷ c) (y ∷ d) (suc j) = meet-at c d j

pub length-join : (c d : Cut) → length (join c d) ≡ max (length c) (length d)
unfolding join
length-join [] d = omega arith
length-join (x ∷ c) [] = omega arith
length-join (x ∷ c) (y ∷ d) = omega (arith, length-join c d)

pub length_meet : (c d : Cut) → length (meet c d) ≡ length c
unfolding meet
length_meet [] d = refl
length_meet (x ∷ c) [] = ap suc (length_meet c [])
length_meet (x ∷ c) (y ∷ d) = ap suc (length_meet c d)

pub join-left : (c d : Cut) → c ⊑ join c d
join-left c d j = omega (arith, join-at c d j)

pub join-right : (c d : Cut) → d ⊑ join c d
join-right c d j = omega (arith, join-at c d j)

pub join-least : (c d e : Cut) → c ⊑ e → d ⊑ e → join c d ⊑ e
join-least c d e p q j = omega (arith, join-at c d j, p j, q j)

pub meet_left : (c d : Cut) → meet c d ⊑ c
meet_left c d j = omega (arith, meet-at c d j)

pub meet_right : (c d : Cut) → meet c d ⊑ d
meet_right c d j = omega (arith, meet-at c d j)

pub meet-greatest : (c d e : Cut) → e ⊑ c → e ⊑ d → e ⊑ meet c d
meet-greatest c d e p q j = omega (arith, meet-at c d j, p j, q j)

pub empty-at : (n j : ℕ) → empty n ! j ≡ 0
empty-at zero j = refl
empty-at (suc n) zero = refl
empty-at (suc n) (suc j) = empty-at n j

pub empty_⊑ : (n : ℕ) (c : Cut) → empty n ⊑ c
empty_⊑ n c j = omega (arith, empty-at n j)

-- THE NUMBER OF EVENTS

pub at-total : (c : Cut) (j : ℕ) → c ! j ≤ total c
unfolding sum
at-total [] j = omega arith
at-total (x ∷ c) zero = omega arith
at-total (x ∷ c) (suc j) = omega (arith, at-total c j)

pub total_⊑ : (c d : Cut) → c ⊑ d → total c ≤ total d
unfolding sum
total_⊑ [] d h = omega arith
total_⊑ (x ∷ c) [] h = omega (arith, h zero, total_⊑ c [] (λ j. h (suc j)))
total_⊑ (x ∷ c) (y ∷ d) h = omega (arith, h zero, total_⊑ c d (λ j. h (suc j)))

pub total_back : (c d : Cut) → c ⊑ d → total d ≤ total c → d ⊑ c
unfolding sum
total_back [] [] h t j = omega arith
total_back [] (y ∷ d) h t zero = omega arith
total_back [] (y ∷ d) h t (suc j) = total_back [] d (λ i. h (suc i)) (omega arith) j
total_back (x ∷ c) [] h t j = omega arith
total_back (x ∷ c) (y ∷ d) h t zero = omega (arith, h zero, total_⊑ c d (λ j. h (suc j)))
total_back (x ∷ c) (y ∷ d) h t (suc j) = total_back c d (λ i. h (suc i)) (omega (arith, h zero)) j

-- CONTAINMENT IN ONE OF SOME CUTS

pub inside_any-some : (c : Cut) (l : List Cut) → inside_any c l ≡ true → Some (λ d. c ⊑ d) l
unfolding inside_any
inside_any-some c [] h = clash h refl
inside_any-some c (d ∷ l) h = elim ((or-true (inside c d) (inside_any c l)).0 h) [ inl p ↦ here (inside_⊑ c d p) | inr q ↦ there (inside_any-some c l q) ]

pub some-inside_any : (c : Cut) (l : List Cut) → Some (λ d. c ⊑ d) l → inside_any c l ≡ true
unfolding inside_any
some-inside_any c [] x' = elim x' [ ]
some-inside_any c (d ∷ l) (here p) = (or-true (inside c d) (inside_any c l)).1 (inl (⊑-inside c d p))
some-inside_any c (d ∷ l) (there q) = (or-true (inside c d) (inside_any c l)).1 (inr (some-inside_any c l q))

pub inside_any_down : (c d : Cut) → c ⊑ d → (l : List Cut) → inside_any d l ≡ true → inside_any c l ≡ true
inside_any_down c d h l p = some-inside_any c l (some-map (λ e q. trans⊑ c d e h q) (inside_any-some d l p))

pub inside_any-append : (c : Cut) (l r : List Cut) → (inside_any c (l ++ r) ≡ false) ↔ ((inside_any c l ≡ false) × (inside_any c r ≡ false))
inside_any-append c l r = (
  λ h. (
    (false_iff (inside_any c l)).1 (λ q. clash (some-inside_any c (l ++ r) (some_left r (inside_any-some c l q))) h),
    (false_iff (inside_any c r)).1 (λ q. clash (some-inside_any c (l ++ r) (some_right l (inside_any-some c r q))) h),
  ),
  λ h. (false_iff (inside_any c (l ++ r))).1 (λ q. elim (some-split l r (inside_any-some c (l ++ r) q))
      [ inl u ↦ clash (some-inside_any c l u) h.0 | inr v ↦ clash (some-inside_any c r v) h.1 ]),
)
