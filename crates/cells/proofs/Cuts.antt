-- Laws of join and of the test for containment, station by station.
use Rattle.std.proofs.Common.{◌≡◌, ℕ, zero, suc, ◌+◌, ◌≤◌, ◌<◌, max, Bool, true, false, not, Option, None, Some, [], ◌∷◌, length, get_or, take, drop, replicate, refl, sym, ap, ◌∙◌, inl, inr, arith}
use Rattle.std.proofs.lemmas.List.{ext_get_or, get_or_past, length-take-le, length-drop, get_or-take, get_or-drop, take-take}
use Rattle.std.proofs.lemmas.Slice.Zip.{length-zip, get_or-zip}
use Rattle.std.proofs.lemmas.Bool.{cases_lt, not-false, not-true}
use Rattle.std.specs.Bool.{MatchBool}
use Rattle.std.specs.Option.{MatchOption, is_some}
use Rattle.std.specs.List.{AllWithin, HoldsAt, zip}
use Rattle.std.proofs.Math.Nat.{max_comm, zero-max}
use Rattle.model.specs.Cut.{Cut, join, inside}
use Rattle.lattice.proofs.Cuts.{join-at, length-join, inside_⊑, ⊑-inside}

pub take-join : (n : ℕ) (a b : Cut) → take n (join a b) ≡ join (take n a) (take n b)
unfolding join
take-join zero a b = refl
take-join (suc n) [] b = refl
take-join (suc n) (x ∷ a) [] = refl
take-join (suc n) (x ∷ a) (y ∷ b) = ap (λ (l : Cut). max x y ∷ l) (take-join n a b)

pub join-nil : (a : Cut) → join a [] ≡ a
unfolding join
join-nil [] = refl
join-nil (x ∷ a) = refl

pub join_self : (a : Cut) → join a a ≡ a
unfolding join
join_self [] = refl
join_self (x ∷ a) = let m : max x x ≡ x = omega arith in rw (m, join_self a)

pub join_comm : (a b : Cut) → join a b ≡ join b a
unfolding join
join_comm [] b = sym (join-nil b)
join_comm (x ∷ a) [] = refl
join_comm (x ∷ a) (y ∷ b) = rw (max_comm x y, join_comm a b)

-- Two joins in a row, in either order.
pub join_swap : (a b c : Cut) → join (join a b) c ≡ join (join a c) b
unfolding join
join_swap [] b c = join_comm b c
join_swap (x ∷ a) [] c = sym (join-nil (join (x ∷ a) c))
join_swap (x ∷ a) (y ∷ b) [] = refl
join_swap (x ∷ a) (y ∷ b) (z ∷ c) = let m : max (max x y) z ≡ max (max x z) y = omega arith in rw (m, join_swap a b c)

-- Zeros joined with as many counts, or more.
pub join_zeros : (n m : ℕ) (b : Cut) → n ≤ m → n ≤ length b → join (take n (replicate m 0)) (take n b) ≡ take n b
unfolding join
join_zeros zero m b h l = refl
join_zeros (suc n) zero b h l = absurd (omega arith)
join_zeros (suc n) (suc m) [] h l = absurd (omega arith)
join_zeros (suc n) (suc m) (y ∷ b) h l = rw (zero-max y, join_zeros n m b (omega arith) (omega arith))

-- A list with the larger count in each cell is the join with the row at a place.
pub join_row : (t a w : Cut) (at n : ℕ) → length t ≡ n → length a ≡ n → at + n ≤ length w
    → ((k : ℕ) → k < n → get_or t k 0 ≡ max (get_or a k 0) (get_or w (at + k) 0)) → t ≡ join a (take n (drop at w))
join_row t a w at n l e b h =
    let r = take n (drop at w) in
    let d : length r ≡ n = length-take-le n (drop at w) (omega (arith, length-drop at w)) in
    ext_get_or 0 t (join a r) (omega (arith, length-join a r))
    λ j m. omega (arith, h j (omega arith), join-at a r j, get_or-take n (drop at w) j 0 (omega arith), get_or-drop at w j 0)

-- A cell that is above.
outside_at : (a b : Cut) (k : ℕ) → get_or b k 0 < get_or a k 0 → false ≡ inside a b
outside_at a b k h = grind (arith, inside_⊑ a b)

-- What the walk over two rows side by side says of containment.
pub inside_all : (a b : Cut) (r : Bool) → length a ≡ length b
    → MatchBool r (AllWithin (λ p. p.0 ≤ p.1) (zip a b) 0 (length (zip a b))) ((k : ℕ) × (k < length (zip a b)) × HoldsAt (λ p. p.1 < p.0) (zip a b) k)
    → r ≡ inside a b
inside_all a b true l h =
    sym (⊑-inside a b λ k. elim (cases_lt k (length a)) [
      | inl m ↦ rw (get_or-zip a b k (0, 0) m (omega arith)) at (h k (0, 0) (omega arith) (omega (arith, length-zip a b)))
      | inr m ↦ omega (arith, get_or_past a k 0 m)
    ])
inside_all a b false l (k, m, h) =
    let n : k < length a = omega (arith, length-zip a b) in
    let e : get_or b k 0 < get_or a k 0 = rw (get_or-zip a b k (0, 0) n (omega arith)) at (h (0, 0)) in
    outside_at a b k e

-- What the place of the first cell that is above says of it.
pub inside_none : (a b : Cut) (r : Option ℕ) (x : Bool) → length a ≡ length b → is_some r ≡ not x
    → MatchOption r (AllWithin (λ p. p.0 ≤ p.1) (zip a b) 0 (length (zip a b))) (λ k. (k < length (zip a b)) × HoldsAt (λ p. p.1 < p.0) (zip a b) k × AllWithin (λ p. p.0 ≤ p.1) (zip a b) 0 k)
    → x ≡ inside a b
inside_none a b None x l e h = not-false x (sym e) ∙ inside_all a b true l h
inside_none a b (Some k) x l e h = not-true x (sym e) ∙ inside_all a b false l (k, h.0, h.1)

-- The first n counts of a join with more.
pub join_front : (a r : Cut) (n m : ℕ) → n ≤ m → take n (join a (take m r)) ≡ join (take n a) (take n r)
join_front a r n m h = take-join n a (take m r) ∙ ap (join (take n a)) (take-take n m r h)
