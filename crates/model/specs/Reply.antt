-- What the operations hand back, in document 01's numbers: for every case of each answer its number and values.
use Rattle.std.specs.Prelude.{ℕ, Bool, true, false, List, [], ◌∷◌, Result, Ok, Err}
use Rattle.model.specs.declared.Fault.{Fault}
use Rattle.model.specs.declared.Fault.TheVariants.{LongLog, LineForm, CheckByte, Kind, Header, Event, Clock, Formula, Size, NoQuestion, Workspace, Output, Cut, FrameList, Message, Unworkable, TooWide, TooMany}
use Rattle.model.specs.declared.Refusal.{Refusal}
use Rattle.model.specs.declared.Log.{Log}
use Rattle.model.specs.declared.Forecast.{Forecast}

-- The values given, or the refusal's number and line.
pub data Reply : Type 0 where
  gives : List ℕ → Reply
  refuses : ℕ → ℕ → Reply

abbrev pub number : Fault → ℕ
number LongLog = 1
number LineForm = 2
number CheckByte = 3
number Kind = 4
number Header = 5
number Event = 6
number Clock = 7
number Formula = 8
number Size = 9
number NoQuestion = 10
number Workspace = 11
number Output = 12
number Cut = 13
number FrameList = 14
number Message = 15
number Unworkable = 16
number TooWide = 17
number TooMany = 18

abbrev pub refusal : Refusal → Reply
refusal r = refuses (number r.fault) r.line

-- Read: the counts of stations, events and questions, and the list's length.
abbrev pub read_reply : Result Log Refusal → Reply
read_reply (Ok l) = gives (l.stations ∷ l.events ∷ l.questions ∷ l.list ∷ [])
read_reply (Err r) = refusal r

-- Write and Merge: the log's length.
abbrev pub write_reply : Result ℕ Refusal → Reply
write_reply (Ok n) = gives (n ∷ [])
write_reply (Err r) = refusal r

-- Forecast: width, largest bar count, structures held, their cells, ceiling for the rounds.
abbrev pub figures : Forecast → List ℕ
figures c = c.width ∷ c.bars ∷ c.held ∷ c.cells ∷ c.ceiling ∷ []

abbrev pub forecast_reply : Result Forecast Refusal → Reply
forecast_reply (Ok c) = gives (figures c)
forecast_reply (Err r) = refusal r

-- Answer: the line's length.
abbrev pub line_reply : Result ℕ Refusal → Reply
line_reply (Ok n) = gives (n ∷ [])
line_reply (Err r) = refusal r

-- Holds: 1 for yes, 0 for no.
abbrev pub holds_reply : Result Bool Refusal → Reply
holds_reply (Ok true) = gives (1 ∷ [])
holds_reply (Ok false) = gives (0 ∷ [])
holds_reply (Err r) = refusal r
