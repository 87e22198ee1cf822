-- What tests tell: each connective of Bool against the one of propositions.
use mathlib.Core.Path.{◌≡◌, refl, sym}
use mathlib.Core.Logic.{◌↔◌, ◌⊎◌, inl, inr}
use Prim.Native.Nat.{ℕ, zero, suc, ◌≤◌, ◌<◌}
use native.Mathlib.Omega.{arith}
use native.Mathlib.Decide.{dec_lt}
use mathlib.Core.Bool.{Bool, true, false, not, ◌&&◌, ◌||◌}
use lib.Dec.{leb}
use borrow.Author.Tests.{leb-true, le-leb}
use Rattle.model.specs.Lists.{between, every}

pub yes_or_no : (b : Bool) → (b ≡ true) ⊎ (b ≡ false)
yes_or_no true = inl refl
yes_or_no false = inr refl

pub clash : {A : Type 0} {b : Bool} → b ≡ true → b ≡ false → A
clash p q = let z : ◌≡◌ {A = ℕ} 0 1 = cc in absurd (omega arith)

pub and-true : (a b : Bool) → (a && b ≡ true) ↔ ((a ≡ true) × (b ≡ true))
and-true true b = (λ h. (refl, h), λ h. h.1)
and-true false b = (λ h. clash h refl, λ h. h.0)

pub or-true : (a b : Bool) → (a || b ≡ true) ↔ ((a ≡ true) ⊎ (b ≡ true))
or-true true b = (λ h. inl refl, λ h. refl)
or-true false b = (inr, λ h. elim h [ inl p ↦ clash p refl | inr q ↦ q ])

pub false_iff : (b : Bool) → (b ≡ false) ↔ (b ≡ true → ⊥)
false_iff true = (λ p q. clash q p, λ h. absurd (h refl))
false_iff false = (λ p q. clash q p, λ h. refl)

pub not_iff : (b : Bool) → (not b ≡ true) ↔ (b ≡ true → ⊥)
not_iff true = (λ p q. clash p refl, λ h. absurd (h refl))
not_iff false = (λ p q. clash q refl, λ h. refl)

pub not-true : (b : Bool) → (not b ≡ true) ↔ (b ≡ false)
not-true true = (λ p. sym p, λ p. sym p)
not-true false = (λ p. refl, λ p. refl)

pub same_test : (a b : Bool) → (a ≡ true → b ≡ true) → (b ≡ true → a ≡ true) → a ≡ b
same_test true b h k = sym (h refl)
same_test false true h k = k refl
same_test false false h k = refl

-- Two tests joined say what both say.
pub and_iff : {P Q : Type 0} (a b : Bool) → (a ≡ true) ↔ P → (b ≡ true) ↔ Q → (a && b ≡ true) ↔ (P × Q)
and_iff a b p q = (
  λ h. let t = (and-true a b).0 h in (p.0 t.0, q.0 t.1),
  λ h. (and-true a b).1 (p.1 h.0, q.1 h.1),
)

-- Of two tests joined by "or" one says so.
pub or_iff : {P Q : Type 0} (a b : Bool) → (a ≡ true) ↔ P → (b ≡ true) ↔ Q → (a || b ≡ true) ↔ (P ⊎ Q)
or_iff a b p q = (
  λ h. elim ((or-true a b).0 h) [ inl t ↦ inl (p.0 t) | inr t ↦ inr (q.0 t) ],
  λ h. (or-true a b).1 (elim h [ inl t ↦ inl (p.1 t) | inr t ↦ inr (q.1 t) ]),
)

pub leb_iff : (a b : ℕ) → (leb a b ≡ true) ↔ (a ≤ b)
leb_iff a b = (leb-true a b, le-leb a b)

pub between_iff : (lo hi v : ℕ) → (between lo hi v ≡ true) ↔ ((lo ≤ v) × (v ≤ hi))
unfolding between
between_iff lo hi v = and_iff (leb lo v) (leb v hi) (leb_iff lo v) (leb_iff v hi)

pub every_to : (n : ℕ) (p : ℕ → Bool) → every n p ≡ true → (j : ℕ) → j < n → p j ≡ true
unfolding every
every_to zero p h j l = absurd (omega arith)
every_to (suc n) p h j l = at (dec_lt j n) (every_to n p ((and-true (every n p) (p n)).0 h).0 j)
  where
    at : Dec (j < n) → (j < n → p j ≡ true) → p j ≡ true
    at (yes q) r = r q
    at (no q) r = let e : j ≡ n = omega arith in rw e ((and-true (every n p) (p n)).0 h).1

pub every_from : (n : ℕ) (p : ℕ → Bool) → ((j : ℕ) → j < n → p j ≡ true) → every n p ≡ true
unfolding every
every_from zero p h = refl
every_from (suc n) p h = (and-true (every n p) (p n)).1 (every_from n p (λ j l. h j (omega arith)), h n (omega arith))
