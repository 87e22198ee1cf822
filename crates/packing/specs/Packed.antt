-- A reply as one number of eight bytes. It tells the replies of an operation apart: proofs/Replies.antt.
use Rattle.std.specs.Prelude.{ℕ, ◌+◌, ◌*◌, ◌^◌, ◌≤◌, ◌<◌, List, [], ◌∷◌}
use Rattle.model.specs.Limits.{limits}
use Rattle.model.specs.Reply.{Reply, gives, refuses}

-- Values stand one after another from the lowest bit on, each in as many bits as are given for it.
unfoldable pub pack : List ℕ → List ℕ → ℕ
pack [] values = 0
pack (w ∷ widths) [] = 0
pack (w ∷ widths) (v ∷ values) = pack widths values * 2 ^ w + v

-- A refusal has its number in the highest five bits, and its line below.
unfoldable pub packed : List ℕ → Reply → ℕ
packed widths (gives values) = pack widths values
packed widths (refuses k n) = k * 2 ^ 59 + n

-- Read's counts of stations, events and questions and the list's length; the length of what Write, Merge or Answer wrote; Forecast's width, bars, structures held, cells and ceiling; Holds' yes or no.
abbrev pub read_widths : List ℕ
read_widths = 8 ∷ 8 ∷ 8 ∷ 16 ∷ []

abbrev pub write_widths : List ℕ
write_widths = 16 ∷ []

abbrev pub forecast_widths : List ℕ
forecast_widths = 5 ∷ 5 ∷ 6 ∷ 17 ∷ 24 ∷ []

abbrev pub answer_widths : List ℕ
answer_widths = 16 ∷ []

abbrev pub holds_widths : List ℕ
holds_widths = 1 ∷ []

-- As many values as widths, each within its bits.
abbrev pub Fits : List ℕ → List ℕ → Type 0
Fits [] [] = Unit {0}
Fits [] (v ∷ values) = ⊥
Fits (w ∷ widths) [] = ⊥
Fits (w ∷ widths) (v ∷ values) = (v < 2 ^ w) × Fits widths values

-- What can be packed: values that fit, or a refusal with a number and a line no higher than a log has.
abbrev pub Fair : List ℕ → Reply → Type 0
Fair widths (gives values) = Fits widths values
Fair widths (refuses k n) = (0 < k) × (n ≤ limits.bytes + 1)
