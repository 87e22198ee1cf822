-- Lines of hexadecimal, and the check byte.
use Rattle.std.specs.Prelude.{ℕ, ◌+◌, ◌-◌, ◌*◌, ◌/◌, ◌%◌, cond, List, [], ◌∷◌, ◌++◌, length, take, ltb, eqb}
use Rattle.std.proofs.Math.Option.{Option, none, some}
use Rattle.model.specs.Lists.{total, between}

-- READING

-- How a log falls into lines: what stands before each 0A, and what stands after the last.
pub data Lines : Type 0 where
  more : List ℕ → Lines → Lines
  rest : List ℕ → Lines

-- A byte in front of the first line.
unfoldable pub push : ℕ → Lines → Lines
push b (more l ls) = more (b ∷ l) ls
push b (rest l) = rest (b ∷ l)

unfoldable pub lines_of : List ℕ → Lines
lines_of [] = rest []
lines_of (b ∷ s) = cond (eqb b 0x0A) (more [] (lines_of s)) (push b (lines_of s))

-- The value of a digit 0-9 A-F.
unfoldable pub digit : ℕ → Option ℕ
digit b = cond (between 48 57 b) (some (b - 48)) (cond (between 65 70 b) (some (b - 55)) none)

-- The byte of a high and a low digit, in front of the bytes after it.
unfoldable pub byte : Option ℕ → Option ℕ → Option (List ℕ) → Option (List ℕ)
byte none l f = none
byte (some h) none f = none
byte (some h) (some l) none = none
byte (some h) (some l) (some f) = some ((16 * h + l) ∷ f)

-- The bytes of a line: an even number of digits and nothing else.
unfoldable pub bytes : List ℕ → Option (List ℕ)
bytes [] = some []
bytes (a ∷ []) = none
bytes (a ∷ b ∷ l) = byte (digit a) (digit b) (bytes l)

-- What a line brings: a frame without its check byte, or the number of the line's fault.
pub data Item : Type 0 where
  frame : List ℕ → Item
  bad : ℕ → Item

-- 2: not 2 to 100 bytes; 3: they do not add up to zero modulo 256.
unfoldable pub carried : Option (List ℕ) → Item
carried none = bad 2
carried (some f) = cond (between 2 100 (length f)) (cond (eqb (total f % 256) 0) (frame (take (length f - 1) f)) (bad 3)) (bad 2)

-- What each line brings; a last line without 0A is no line.
unfoldable pub items : Lines → List Item
items (more l ls) = carried (bytes l) ∷ items ls
items (rest []) = []
items (rest (b ∷ l)) = bad 2 ∷ []

-- WRITING

-- The digit of a number below 16.
unfoldable pub hex_digit : ℕ → ℕ
hex_digit d = cond (ltb d 10) (d + 48) (d + 55)

-- The digits of bytes.
unfoldable pub hex : List ℕ → List ℕ
hex [] = []
hex (b ∷ f) = hex_digit (b / 16) ∷ hex_digit (b % 16) ∷ hex f

-- The byte that brings the sum to zero modulo 256.
unfoldable pub check_byte : List ℕ → ℕ
check_byte f = (256 - total f % 256) % 256

-- A frame's line: its digits, those of its check byte, 0A.
unfoldable pub line : List ℕ → List ℕ
line f = hex (f ++ (check_byte f ∷ [])) ++ (0x0A ∷ [])
