-- A digit, and a pair of digits at an even place of a line, as the code names them; how many bytes tell what stands there.
use Rattle.std.specs.Prelude.{ℕ, suc, ◌+◌, ◌*◌, cond, Some, None, List, [], ◌∷◌, ◌==◌}
use Rattle.std.proofs.Math.Option.{Option, none, some}
use Rattle.model.specs.Bytes.{digit}
use Rattle.std.specs.Prelude as std
use Rattle.walk.specs.declared.Pair.{Pair}
use Rattle.walk.specs.declared.Pair.TheVariants.{Byte, End, Broken}

-- The digit that was read, if it is one.
abbrev pub digit_of : std.Option ℕ → Option ℕ
digit_of (Some d) = some d
digit_of None = none

-- The digit at the front.
abbrev pub first_digit : List ℕ → Option ℕ
first_digit [] = none
first_digit (b ∷ s) = digit b

-- High digit, low digit.
abbrev pub joined : Option ℕ → Option ℕ → Pair
joined none l = Broken
joined (some h) none = Broken
joined (some h) (some l) = Byte (16 * h + l)

-- What stands at the front: 0A, a pair of digits, or neither.
unfoldable pub pair_of : List ℕ → Pair
pair_of [] = Broken
pair_of (a ∷ s) = cond (a == 0x0A) End (joined (digit a) (first_digit s))

-- A digit asks for the byte behind it, where there is one.
abbrev pub second : Option ℕ → List ℕ → ℕ
second none s = 0
second (some h) [] = 0
second (some h) (b ∷ s) = 1

-- How many bytes tell what stands at the front.
unfoldable pub to_tell : List ℕ → ℕ
to_tell [] = 0
to_tell (a ∷ s) = suc (second (digit a) s)
