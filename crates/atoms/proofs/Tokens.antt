-- The token of a byte, from what its reading gave.
use mathlib.Core.Path.{◌≡◌, refl, sym, ap, ◌∙◌}
use mathlib.Core.Logic.{◌⊎◌, inl, inr}
use mathlib.Core.List.{List, ◌∷◌}
use mathlib.Core.Option.{none}
use Prim.Native.Nat.{ℕ, ◌<◌}
use native.Mathlib.Omega.{arith}
use borrow.Author.Tests.{ne_eqb}
use Rattle.std.specs.Prelude.{None, Some, Result, Ok, Err}
use Rattle.std.specs.Result.{result_ok}
use Rattle.model.specs.declared.Aspect.{Aspect}
use Rattle.model.specs.declared.Aspect.TheVariants.{Value, Panel}
use Rattle.model.specs.declared.Fault.{Fault}
use Rattle.model.specs.declared.Token.{Token}
use Rattle.model.specs.declared.Token.TheVariants.{Range, Clear, Not, And, Or, Possibly, Always}
use Rattle.model.specs.Codes.{token_byte, TokenOf}
use Rattle.model.specs.Atom.{range_token}
use Rattle.model.specs.Formula.{sign}
use Rattle.codec.specs.Formulas.{formulas}
use Rattle.codec.proofs.Atoms.{token-none}
use Rattle.codec.proofs.Formulas.{formulas-sign}
use Rattle.atoms.specs.Measured.{first}

pub token_of : {b : ℕ} (r : Result Token Fault) {k : Token} → TokenOf b r → Some k ≡ result_ok r → token_byte k ≡ b
token_of (Ok t) {k} h e = let f : k ≡ t = cc in rw f h
token_of (Err x) h e = cc

pub no_token : {b : ℕ} (r : Result Token Fault) → TokenOf b r → None ≡ result_ok r → (k : Token) → token_byte k ≡ b → ⊥
no_token (Ok t) h e = cc
no_token (Err x) h e = h.1

-- A token that is no atom's is a sign's, and the reverse.
pub is_sign : (k : Token) → ((a : Aspect) → k ≡ Range a → ⊥) → (k ≡ Clear → ⊥) → (1 < token_byte k) × (token_byte k < 7)
is_sign (Range a) h g = absurd (h a refl)
is_sign Clear h g = absurd (g refl)
is_sign Not h g = (omega arith, omega arith)
is_sign And h g = (omega arith, omega arith)
is_sign Or h g = (omega arith, omega arith)
is_sign Possibly h g = (omega arith, omega arith)
is_sign Always h g = (omega arith, omega arith)

pub no_sign : {k : Token} → ((a : Aspect) × (k ≡ Range a)) ⊎ (k ≡ Clear) → 1 < token_byte k → token_byte k < 7 → ⊥
unfolding range_token
no_sign {k} (inl (Value, e)) h g = let b : token_byte k ≡ 1 = ap token_byte e in omega (arith, b)
no_sign {k} (inl (Panel, e)) h g = let b : token_byte k ≡ 8 = ap token_byte e in omega (arith, b)
no_sign {k} (inr e) h g = let b : token_byte k ≡ 7 = ap token_byte e in omega (arith, b)

-- A token that is no sign has no sign's byte.
pub other_sign : (k : Token) → (k ≡ Not → ⊥) → (k ≡ And → ⊥) → (k ≡ Or → ⊥) → (k ≡ Possibly → ⊥) → (k ≡ Always → ⊥) → 1 < token_byte k → token_byte k < 7 → ⊥
other_sign (Range a) n a' o p l = no_sign (inl (a, refl))
other_sign Clear n a o p l = no_sign (inr refl)
other_sign Not n a o p l = absurd (n refl)
other_sign And n a o p l = absurd (a refl)
other_sign Or n a o p l = absurd (o refl)
other_sign Possibly n a o p l = absurd (p refl)
other_sign Always n a o p l = absurd (l refl)

-- A byte that is no token.
pub nothing_unknown : (t : ℕ) (q : List ℕ) → ((token : Token) → token_byte token ≡ t → ⊥) → first (formulas (t ∷ q)) ≡ none
unfolding sign first range_token
nothing_unknown t q h =
    ap first (formulas-sign t q (token-none t (λ e. h (Range Value) (sym e)) (λ e. h Clear (sym e)) (λ e. h (Range Panel) (sym e))))
    ∙ simp (ne_eqb t 2 (λ e. h Not (sym e)), ne_eqb t 3 (λ e. h And (sym e)), ne_eqb t 4 (λ e. h Or (sym e)), ne_eqb t 5 (λ e. h Possibly (sym e)), ne_eqb t 6 (λ e. h Always (sym e)))
