-- Lists and tests that several subjects use.
use Rattle.std.specs.Prelude.{◌≡◌, ℕ, zero, suc, ◌+◌, Bool, true, ◌&&◌, List, [], ◌∷◌, leb}

-- One of the list has the property G.
pub data Some {A : Type 0} (G : A → Type 0) : List A → Type 0 where
  here : {x : A} {l : List A} → G x → Some G (x ∷ l)
  there : {x : A} {l : List A} → Some G l → Some G (x ∷ l)

-- a is in the list.
abbrev pub Member : {A : Type 0} → A → List A → Type 0
Member a l = Some (λ b. a ≡ b) l

-- The sum of f over a list.
unfoldable pub sum : {A : Type 0} → (A → ℕ) → List A → ℕ
sum f [] = 0
sum f (x ∷ l) = f x + sum f l

-- The sum of a list.
abbrev pub total : List ℕ → ℕ
total l = sum (λ x. x) l

-- Is the number from lo to hi, ends included?
unfoldable pub between : ℕ → ℕ → ℕ → Bool
between lo hi v = leb lo v && leb v hi

-- Does each number below n pass the test?
unfoldable pub every : ℕ → (ℕ → Bool) → Bool
every zero p = true
every (suc n) p = every n p && p n
