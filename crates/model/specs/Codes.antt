-- The bytes of the enums of the code, and a refusal where no one line is at fault.
use Rattle.std.specs.Prelude.{◌≡◌, ℕ, Result, MatchResult}
use Rattle.model.specs.declared.Fault.{Fault}
use Rattle.model.specs.declared.Fault.TheVariants as fault
use Rattle.model.specs.declared.Refusal.{Refusal}
use Rattle.model.specs.declared.Kind.{Kind}
use Rattle.model.specs.declared.Kind.TheVariants.{Header, Event, Message, Question}
use Rattle.model.specs.declared.Token.{Token}
use Rattle.model.specs.declared.Token.TheVariants.{Range, Clear, Not, And, Or, Possibly, Always}
use Rattle.model.specs.Atom.{range_token}
use Rattle.model.specs.Reading.{header_kind}

-- At line 0.
abbrev pub whole : Fault → Refusal → Type 0
whole x r = r ≡ record { fault = x; line = 0 }

-- The first byte of a frame.
abbrev pub kind_byte : Kind → ℕ
kind_byte (Header p) = header_kind p
kind_byte Event = 0x20
kind_byte Message = 0x25
kind_byte Question = 0x30

-- The kind that a byte says; a byte of no kind is 4.
abbrev pub KindOf : ℕ → Result Kind Fault → Type 0
KindOf b r = MatchResult r (λ kind. kind_byte kind ≡ b) (λ x. (x ≡ fault.Kind) × ((kind : Kind) → kind_byte kind ≡ b → ⊥))

-- The byte of a token.
abbrev pub token_byte : Token → ℕ
token_byte (Range a) = range_token a
token_byte Not = 0x02
token_byte And = 0x03
token_byte Or = 0x04
token_byte Possibly = 0x05
token_byte Always = 0x06
token_byte Clear = 0x07

-- The token that a byte is; a byte that is none is 8.
abbrev pub TokenOf : ℕ → Result Token Fault → Type 0
TokenOf b r = MatchResult r (λ token. token_byte token ≡ b) (λ x. (x ≡ fault.Formula) × ((token : Token) → token_byte token ≡ b → ⊥))
