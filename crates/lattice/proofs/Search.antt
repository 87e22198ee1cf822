-- Whether some consistent cut that contains another has a property is decided where the property is: there are finitely many.
use mathlib.Core.Path.{◌≡◌, refl, subst, ap}
use mathlib.Core.Logic.Dec
use Prim.Native.Nat.{ℕ, zero, suc, ◌≤◌}
use native.Mathlib.Omega.{arith}
use native.Mathlib.Nat.{le_refl}
use native.Mathlib.Decide.{dec_le}
use mathlib.Core.Bool.{true, Bool-discrete}
use mathlib.Core.List.{[], ◌∷◌}
use lib.ListN.{length}
use Rattle.model.specs.Cut.{Cut, ◌!◌, ◌⊑◌, inside}
use Rattle.model.specs.Computation.{Computation, Consistent, stations, count, is_consistent}
use Rattle.model.specs.Truth.{Possibly}
use Rattle.lattice.proofs.Cuts.{inside_⊑, ⊑-inside}
use Rattle.lattice.proofs.Consistency.{consistent_iff}

-- One of the numbers up to m has the property.
record UpTo (m : ℕ) (P : ℕ → Type 0) : Type 0 where
  number : ℕ
  low : number ≤ m
  has : P number

number_up_to : (m : ℕ) (P : ℕ → Type 0) → ((k : ℕ) → Dec (P k)) → Dec (UpTo m P)
number_up_to zero P d = Dec.of_iff (λ p. record { number = 0; low = omega arith; has = p }, λ u. subst P (omega (arith, u.low)) u.has) (d 0)
number_up_to (suc m) P d = elim (number_up_to m P d) [
  | yes u ↦ yes (record { number = u.number; low = omega (arith, u.low); has = u.has })
  | no n ↦ Dec.of_iff (λ p. record { number = suc m; low = le_refl (suc m); has = p }, λ u. last n u (dec_le u.number m)) (d (suc m))
]
  where
    last : (UpTo m P → ⊥) → (u : UpTo (suc m) P) → Dec (u.number ≤ m) → P (suc m)
    last n u (yes p) = absurd (n (record { number = u.number; low = p; has = u.has }))
    last n u (no q) = subst P (omega (arith, u.low)) u.has

-- One of the cuts of n stations with no count above those of b has it.
record Below (n : ℕ) (b : ℕ → ℕ) (P : Cut → Type 0) : Type 0 where
  cut : Cut
  size : length cut ≡ n
  low : (j : ℕ) → cut ! j ≤ b j
  has : P cut

cut_below : (n : ℕ) (b : ℕ → ℕ) (P : Cut → Type 0) → ((c : Cut) → Dec (P c)) → Dec (Below n b P)
cut_below zero b P d = Dec.of_iff (λ p. record { cut = []; size = refl; low = λ j. omega arith; has = p }, λ u. none u.cut u.size u.has) (d [])
  where
    none : (c : Cut) → length c ≡ 0 → P c → P []
    none [] e p = p
    none (k ∷ c) e p = absurd (omega arith)
cut_below (suc n) b P d = Dec.of_iff
    (λ u. record { cut = u.number ∷ u.has.cut; size = ap suc u.has.size; low = longer u.number u.has.cut u.low u.has.low; has = u.has.has }, λ u. parted u.cut u.size u.low u.has)
    (number_up_to (b 0) (λ k. Below n (λ j. b (suc j)) (λ c. P (k ∷ c))) (λ k. cut_below n (λ j. b (suc j)) (λ c. P (k ∷ c)) (λ c. d (k ∷ c))))
  where
    longer : (k : ℕ) (c : Cut) → k ≤ b 0 → ((j : ℕ) → c ! j ≤ b (suc j)) → (j : ℕ) → (k ∷ c) ! j ≤ b j
    longer k c h l zero = h
    longer k c h l (suc j) = l j

    parted : (c : Cut) → length c ≡ suc n → ((j : ℕ) → c ! j ≤ b j) → P c → UpTo (b 0) (λ k. Below n (λ j. b (suc j)) (λ x. P (k ∷ x)))
    parted [] e l p = absurd (omega arith)
    parted (k ∷ c) e l p = record { number = k; low = l 0; has = record { cut = c; size = omega arith; low = λ j. l (suc j); has = p } }

module _ (K : Computation) (X : Cut → Type 0) (d : (c : Cut) → Dec (X c)) (c : Cut) where
  -- It is one to come, and has the property.
  later : (e : Cut) → Dec (Consistent K e × ((c ⊑ e) × X e))
  later e = Dec.and (Dec.of_iff (consistent_iff K e) (Bool-discrete (is_consistent K e) true)) (Dec.and (Dec.of_iff (inside_⊑ c e, ⊑-inside c e) (Bool-discrete (inside c e) true)) (d e))

  pub possibly-or-not : Dec (Possibly K X c)
  possibly-or-not = Dec.of_iff
      (λ u. (u.cut, u.has.0, u.has.1.0, u.has.1.1), λ u. record { cut = u.0; size = u.1.size; low = u.1.within; has = (u.1, (u.2, u.3)) })
      (cut_below (stations K) (count K) (λ e. Consistent K e × ((c ⊑ e) × X e)) later)
