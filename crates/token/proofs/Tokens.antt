-- The formula at the front of a question, by its token byte: what it is, and what stands behind the token.
use mathlib.Core.Path.{◌≡◌, refl, sym, ap, subst, ◌∙◌}
use mathlib.Core.Logic.{◌↔◌}
use Prim.Native.Nat.{ℕ, zero, suc, ◌*◌, ◌≤◌, ◌<◌}
use native.Mathlib.Omega.{arith}
use mathlib.Core.List.{List, ◌∷◌, ◌++◌, append_assoc}
use mathlib.Core.Bool.{Bool, true, false, beq, not as flip}
use lib.ListN.{length, get_or, drop, length-append}
use Rattle.model.specs.Atom.{Atom, atom_bytes}
use Rattle.model.specs.Formula.{Formula, prefix, weigh, tokens, signs}
use Rattle.model.specs.Formula.Formula.{atom, not, and, or, possibly, always}
use Rattle.lattice.specs.Signed.{two, modal}
use Rattle.token.specs.Signed.{two_token, modal_token}
use Rattle.token.proofs.Atoms as atoms

-- The token byte.
unfoldable pub token : Formula → ℕ
token (atom a) = get_or (atom_bytes a) 0 0
token (not f) = 2
token (and f g) = 3
token (or f g) = 4
token (possibly f) = 5
token (always f) = 6

head_is : (f : Formula) (rest : List ℕ) → get_or (prefix f ++ rest) 0 0 ≡ token f
unfolding prefix token
head_is (atom a) rest = atoms.head_is a rest
head_is (not f) rest = refl
head_is (and f g) rest = refl
head_is (or f g) rest = refl
head_is (possibly f) rest = refl
head_is (always f) rest = refl

pub token-at : {q : List ℕ} (f : Formula) (rest : List ℕ) → q ≡ prefix f ++ rest → get_or q 0 0 ≡ token f
token-at f rest e = ap (λ (l : List ℕ). get_or l 0 0) e ∙ head_is f rest

-- INVERSION

-- What a formula is, by its token.
abbrev Is : Formula → ℕ → Type 0
Is f zero = (a : Atom) × (f ≡ atom a)
Is f (suc zero) = (a : Atom) × (f ≡ atom a)
Is f (suc (suc zero)) = (g : Formula) × (f ≡ not g)
Is f (suc (suc (suc zero))) = (g : Formula) × (h : Formula) × (f ≡ and g h)
Is f (suc (suc (suc (suc zero)))) = (g : Formula) × (h : Formula) × (f ≡ or g h)
Is f (suc (suc (suc (suc (suc zero))))) = (g : Formula) × (f ≡ possibly g)
Is f (suc (suc (suc (suc (suc (suc zero)))))) = (g : Formula) × (f ≡ always g)
Is f (suc (suc (suc (suc (suc (suc (suc t))))))) = (a : Atom) × (f ≡ atom a)

-- With a token that is no sign's it is an atom.
is-atom : (f : Formula) (t : ℕ) → (1 < t → t < 7 → ⊥) → Is f t ↔ ((a : Atom) × (f ≡ atom a))
is-atom f zero n = (λ h. h, λ h. h)
is-atom f (suc zero) n = (λ h. h, λ h. h)
is-atom f (suc (suc zero)) n = absurd (n (omega arith) (omega arith))
is-atom f (suc (suc (suc zero))) n = absurd (n (omega arith) (omega arith))
is-atom f (suc (suc (suc (suc zero)))) n = absurd (n (omega arith) (omega arith))
is-atom f (suc (suc (suc (suc (suc zero))))) n = absurd (n (omega arith) (omega arith))
is-atom f (suc (suc (suc (suc (suc (suc zero)))))) n = absurd (n (omega arith) (omega arith))
is-atom f (suc (suc (suc (suc (suc (suc (suc t))))))) n = (λ h. h, λ h. h)

is-token : (f : Formula) → Is f (token f)
unfolding token
is-token (atom a) = (is-atom (atom a) (get_or (atom_bytes a) 0 0) (atoms.no_sign a)).1 (a, refl)
is-token (not f) = (f, refl)
is-token (and f g) = (f, g, refl)
is-token (or f g) = (f, g, refl)
is-token (possibly f) = (f, refl)
is-token (always f) = (f, refl)

token-is : (f : Formula) (t : ℕ) → token f ≡ t → Is f t
token-is f t e = subst (Is f) e (is-token f)

two_of : (b : Bool) (f : Formula) → token f ≡ two_token b → (g : Formula) × (h : Formula) × (f ≡ two b g h)
two_of true f e = token-is f 3 e
two_of false f e = token-is f 4 e

modal_of : (b : Bool) (f : Formula) → token f ≡ modal_token b → (g : Formula) × (f ≡ modal b g)
modal_of true f e = token-is f 5 e
modal_of false f e = token-is f 6 e

-- WHAT STANDS BEHIND THE TOKEN

pub prefix-two : (b : Bool) (f g : Formula) → prefix (two b f g) ≡ two_token b ∷ (prefix f ++ prefix g)
unfolding prefix
prefix-two true f g = refl
prefix-two false f g = refl

pub prefix-modal : (b : Bool) (f : Formula) → prefix (modal b f) ≡ modal_token b ∷ prefix f
unfolding prefix
prefix-modal true f = refl
prefix-modal false f = refl

module _ (q : List ℕ) (f : Formula) (rest : List ℕ) (e : q ≡ prefix f ++ rest) where
  pub at-atom : (1 < get_or q 0 0 → get_or q 0 0 < 7 → ⊥) → (a : Atom) × (f ≡ atom a) × (q ≡ atom_bytes a ++ rest)
  unfolding prefix
  at-atom k =
      let h = (is-atom f (get_or q 0 0) k).0 (token-is f (get_or q 0 0) (sym (token-at f rest e))) in
      (h.0, h.1, e ∙ ap (λ (u : Formula). prefix u ++ rest) h.1)

  pub behind-not : get_or q 0 0 ≡ 2 → (g : Formula) × (f ≡ not g) × (drop 1 q ≡ prefix g ++ rest)
  unfolding prefix
  behind-not k =
      let h = token-is f 2 (sym (token-at f rest e) ∙ k) in
      (h.0, h.1, ap (drop 1) e ∙ ap (λ (u : Formula). drop 1 (prefix u ++ rest)) h.1)

  pub behind-modal : (b : Bool) → get_or q 0 0 ≡ modal_token b → (g : Formula) × (f ≡ modal b g) × (drop 1 q ≡ prefix g ++ rest)
  behind-modal b k =
      let h = modal_of b f (sym (token-at f rest e) ∙ k) in
      (h.0, h.1, ap (drop 1) e ∙ ap (λ (u : Formula). drop 1 (prefix u ++ rest)) h.1 ∙ ap (λ (l : List ℕ). drop 1 (l ++ rest)) (prefix-modal b h.0))

  pub behind-two : (b : Bool) → get_or q 0 0 ≡ two_token b → (g : Formula) × (h : Formula) × (f ≡ two b g h) × (drop 1 q ≡ prefix g ++ (prefix h ++ rest))
  behind-two b k =
      let h = two_of b f (sym (token-at f rest e) ∙ k) in (
        h.0,
        h.1,
        h.2,
        ap (drop 1) e ∙ ap (λ (u : Formula). drop 1 (prefix u ++ rest)) h.2 ∙ ap (λ (l : List ℕ). drop 1 (l ++ rest)) (prefix-two b h.0 h.1)
            ∙ append_assoc (prefix h.0) (prefix h.1) rest,
      )

-- LENGTHS

pub prefix-some : (f : Formula) → 0 < length (prefix f)
unfolding prefix
prefix-some (atom a) = (atoms.some_bytes a).0
prefix-some (not f) = omega arith
prefix-some (and f g) = omega arith
prefix-some (or f g) = omega arith
prefix-some (possibly f) = omega arith
prefix-some (always f) = omega arith

pub prefix-short : (f : Formula) → length (prefix f) ≤ 6 * tokens f
unfolding prefix weigh
prefix-short (atom a) = omega (arith, atoms.some_bytes a)
prefix-short (not f) = omega (arith, prefix-short f)
prefix-short (and f g) = omega (arith, length-append (prefix f) (prefix g), prefix-short f, prefix-short g)
prefix-short (or f g) = omega (arith, length-append (prefix f) (prefix g), prefix-short f, prefix-short g)
prefix-short (possibly f) = omega (arith, prefix-short f)
prefix-short (always f) = omega (arith, prefix-short f)

pub signs-tokens : (f : Formula) → signs f ≤ tokens f
unfolding weigh
signs-tokens (atom a) = omega arith
signs-tokens (not f) = omega (arith, signs-tokens f)
signs-tokens (and f g) = omega (arith, signs-tokens f, signs-tokens g)
signs-tokens (or f g) = omega (arith, signs-tokens f, signs-tokens g)
signs-tokens (possibly f) = omega (arith, signs-tokens f)
signs-tokens (always f) = omega (arith, signs-tokens f)

-- THE TWO RULES

-- "And" is for truth what "or" is for falsity.
pub as-true : (b : Bool) → b ≡ beq b true
as-true true = refl
as-true false = refl

pub as-false : (b : Bool) → flip b ≡ beq b false
as-false true = refl
as-false false = refl
