-- What a formula is, by its token.
use Rattle.std.specs.Prelude.{ℕ, ◌≡◌, ◌<◌, true, false}
use Rattle.token.specs.Signed.{two_token, modal_token}
use Rattle.basis.specs.declared.Form.{Form}
use Rattle.basis.specs.declared.Form.TheVariants.{Atom, Not, Two, Possibly, Always}

-- The token t is that of the form; an atom's is no sign.
abbrev pub FormOf : ℕ → Form → Type 0
FormOf t Atom = 1 < t → t < 7 → ⊥
FormOf t Not = t ≡ 2
FormOf t (Two and) = t ≡ two_token and
FormOf t Possibly = t ≡ modal_token true
FormOf t Always = t ≡ modal_token false
