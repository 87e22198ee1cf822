-- A list with one more element at its end, and where the members of a list stand.
use mathlib.Core.Path.{◌≡◌, refl}
use Prim.Native.Nat.{ℕ, zero, suc}
use native.Mathlib.Omega.{arith}
use mathlib.Core.List.{List, [], ◌∷◌, ◌++◌}
use mathlib.Core.Option.{some}
use lib.ListN.{length, get_or, get_elem?}
use Rattle.model.specs.Lists.{Member}
use Rattle.model.specs.Lists.Some.{here, there}
use Rattle.codec.proofs.Cases.{none-some}

pub empty-list : {A : Type 0} (l : List A) → length l ≡ 0 → l ≡ []
empty-list [] h = refl
empty-list (x ∷ l) h = absurd (omega arith)

module _ {A : Type 0} (P : A → Type 0) where
  -- What holds of all and of one more holds of all then.
  pub get_or-snoc : (l : List A) (x d : A) → ((i : ℕ) → P (get_or l i d)) → P x → (i : ℕ) → P (get_or (l ++ (x ∷ [])) i d)
  get_or-snoc [] x d h p zero = p
  get_or-snoc [] x d h p (suc i) = h 0
  get_or-snoc (y ∷ l) x d h p zero = h 0
  get_or-snoc (y ∷ l) x d h p (suc i) = get_or-snoc l x d (λ j. h (suc j)) p i

-- What holds of each at its place holds then too, and the one more stands behind all.
pub get_elem?-snoc : {A : Type 0} (P : ℕ → A → Type 0) (l : List A) (x : A) → ((i : ℕ) (y : A) → get_elem? l i ≡ some y → P i y) → P (length l) x
    → (i : ℕ) (y : A) → get_elem? (l ++ (x ∷ [])) i ≡ some y → P i y
get_elem?-snoc P [] x h p zero y e = let is : x ≡ y = cc in rw (← is) p
get_elem?-snoc P [] x h p (suc i) y e = none-some e
get_elem?-snoc P (z ∷ l) x h p zero y e = h 0 y e
get_elem?-snoc P (z ∷ l) x h p (suc i) y e = get_elem?-snoc (λ j. P (suc j)) l x (λ j. h (suc j)) p i y e

-- What is in a list stands somewhere in it.
pub member_at : {A : Type 0} {a : A} {l : List A} → Member a l → (i : ℕ) × (get_elem? l i ≡ some a)
member_at (here e) = (0, rw e)
member_at (there s) = (suc (member_at s).0, (member_at s).1)
