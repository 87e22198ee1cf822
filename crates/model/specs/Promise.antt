-- What is promised of the operations and of the program: demands 2 and 3, by truth at cuts, and what a forecast is good for.
use Rattle.std.specs.Prelude.{◌≡◌, ◌↔◌, ◌⊎◌, ℕ, suc, ◌+◌, ◌*◌, ◌^◌, ◌≤◌, ◌<◌, Bool, true, List, [], ◌∷◌, ◌++◌, map, length, take, drop}
use Rattle.std.proofs.Math.Option.{some}
use Rattle.std.proofs.Math.ListN.{get_elem?}
use Rattle.model.specs.declared.Limits.{Limits}
use Rattle.model.specs.Limits.{limits, print_limits, barspace_size, line_size}
use Rattle.model.specs.Lists.{Some, Member}
use Rattle.model.specs.Formula.{Formula, signs}
use Rattle.model.specs.Cut.{Cut, ◌!◌, ◌⊑◌, empty}
use Rattle.model.specs.Computation.{Computation, Consistent, stations, full, event_count}
use Rattle.model.specs.Truth.{True, False}
use Rattle.model.specs.Rules.{as_true}
use Rattle.model.specs.Forecast.{forecast}
use Rattle.model.specs.Rounds as rule
use Rattle.model.specs.Answer.{precedes, in_row, answer_line, refusal_line}
use Rattle.model.specs.Reading.{Reading, accepted, read_log, read_list}
use Rattle.model.specs.Beside.{beside}
use Rattle.model.specs.Merge.{carries, merged_frames}
use Rattle.model.specs.Reply.{Reply, gives, refuses, figures}
use Rattle.model.specs.Operations.{write, read_op, forecast_op, answer_op, holds_op, write_op, answer_lines, printed}

-- The log is accepted under the limits m, K is its computation, and f its question number q.
pub record Asked (m : Limits) (log : List ℕ) (q : ℕ) (K : Computation) (f : Formula) : Type 0 where
  pub panelled : Bool
  pub frames : List (List ℕ)
  pub questions : List Formula
  pub reads : read_log m log ≡ accepted (record { panelled = panelled; computation = K; questions = questions; frames = frames })
  pub is : get_elem? questions q ≡ some f

-- The formula is true at c, and at no other consistent cut that contains c.
pub record Maximal (K : Computation) (f : Formula) (c : Cut) : Type 0 where
  pub consistent : Consistent K c
  pub is_true : True K f c
  pub alone : (d : Cut) → Consistent K d → True K f d → c ⊑ d → d ≡ c

-- Each cut stands before all that follow it.
abbrev pub Ascending : List Cut → Type 0
Ascending [] = Unit {0}
Ascending (c ∷ l) = ((d : Cut) → Member d l → precedes c d ≡ true) × Ascending l

-- DEMAND 3, of the line written for the question f
pub record Answered (K : Computation) (f : Formula) (line : List ℕ) : Type 0 where
  -- there are start, cuts and rounds of which the line is the encoding
  pub start : Bool
  pub cuts : List Cut
  pub rounds : ℕ
  pub encodes : line ≡ answer_line (record { start = start; cuts = cuts; rounds = rounds })
  -- the line tells them: each cut has a count for each station, and number of cuts, counts and rounds fit their bytes
  pub few : length cuts < 256
  pub sized : (c : Cut) → Member c cuts → length c ≡ stations K
  pub small : (c : Cut) → Member c cuts → (j : ℕ) → c ! j < 256
  pub short : rounds < 2 ^ 32
  -- a cut is listed exactly when it is consistent, makes the question true and is contained in no other that does
  pub listed : (c : Cut) → Member c cuts ↔ Maximal K f c
  -- in ascending order, and so each once
  pub ordered : Ascending cuts
  -- every consistent cut that makes the question true is contained in one listed
  pub covered : (c : Cut) → Consistent K c → True K f c → Some (λ d. c ⊑ d) cuts
  -- the list is empty exactly when no consistent cut does
  pub never : (cuts ≡ []) ↔ ((c : Cut) → Consistent K c → True K f c → ⊥)
  -- the start is yes exactly when the question is true at the empty cut
  pub first : (start ≡ true) ↔ True K f (empty (stations K))
  -- the rounds are the sum over all starts of all pairs intersected while the formula is worked out one time as true
  pub counted : rounds ≡ rule.rounds K (as_true f)
  -- each of these starts ends by the rule: at a none, or after a round that changed nothing
  pub by_rule : rule.AllByRule K (as_true f)
  -- and they have their bound
  pub bounded : rounds ≤ 16 * signs f * (suc (event_count K) * suc (event_count K))
  -- as forecast: the rounds are never above the ceiling, and no more cuts are listed than the width
  pub under_ceiling : rounds ≤ (forecast K f).ceiling
  pub within_width : length cuts ≤ (forecast K f).width

-- DEMAND 2, of the reply to a consistent cut: yes says that the formula is true there, no that it is not true, which is false or neither
pub record Tested (K : Computation) (f : Formula) (c : Cut) (reply : Reply) : Type 0 where
  pub when_true : (reply ≡ gives (1 ∷ [])) ↔ True K f c
  pub when_not_true : (reply ≡ gives (0 ∷ [])) ↔ (True K f c → ⊥)

-- FORECAST, of the reply for the question f
pub record Foretold (m : Limits) (log : List ℕ) (q : ℕ) (K : Computation) (f : Formula) (reply : Reply) : Type 0 where
  -- the reply has the figures of the forecast
  pub told : reply ≡ gives (figures (forecast K f))
  -- lent a workspace of just its cells, or of more, Answer writes a line of which demand 3 holds, and so with rounds and cuts as forecast
  pub answers : (workspace barspace : ℕ) (output : List ℕ) → (forecast K f).cells ≤ workspace → barspace_size ≤ barspace → line_size ≤ length output
      → (line : List ℕ) × Answered K f line × (answer_op m log q workspace barspace output ≡ write (length line ∷ []) line output)
  -- and demand 2 holds of the reply of Holds
  pub tests : (workspace barspace : ℕ) (c : Cut) → (forecast K f).cells ≤ workspace → barspace_size ≤ barspace → Consistent K c → Tested K f c (holds_op m log q c workspace barspace)
  -- 11 means fewer cells than that, or too little bar space: of Answer, and of Holds at a consistent cut
  pub turned : (workspace barspace : ℕ) (output : List ℕ)
      → ((answer_op m log q workspace barspace output).reply ≡ refuses 11 0) ↔ ((workspace < (forecast K f).cells) ⊎ (barspace < barspace_size))
  pub turned_cut : (workspace barspace : ℕ) (c : Cut) → Consistent K c
      → (holds_op m log q c workspace barspace ≡ refuses 11 0) ↔ ((workspace < (forecast K f).cells) ⊎ (barspace < barspace_size))

-- DEMAND 2, of what Read hands back (counts of stations, events and questions, the list's length) and its output: writing the frame list gives the log again
abbrev pub Rewritten : Limits → List ℕ → Reply → List ℕ → Type 0
Rewritten m log reply output =
    (n e q size : ℕ)
    → reply ≡ gives (n ∷ e ∷ q ∷ size ∷ [])
    → (buffer : List ℕ)
    → m.bytes ≤ length buffer
    → write_op m (take size output) buffer ≡ write (length log ∷ []) log buffer

-- DEMAND 2, of what Write hands back (the log's length) and its output: reading the log gives the frame list again
abbrev pub Reread : Limits → List ℕ → Reply → List ℕ → Type 0
Reread m list reply output =
    (size : ℕ)
    → reply ≡ gives (size ∷ [])
    → (buffer : List ℕ)
    → m.list ≤ length buffer
    → (n e q : ℕ) × (read_op m (take size output) buffer ≡ write (n ∷ e ∷ q ∷ length list ∷ []) list buffer)

-- MERGE, of the log written for two accepted logs, of which r and s were read
pub record Merged (m : Limits) (r s : Reading) (log : List ℕ) : Type 0 where
  -- Read accepts it, and what is read of it is the two computations side by side, with the questions of the first
  pub reads : read_log m log ≡ accepted (record { panelled = carries r s; computation = beside r.computation s.computation; questions = r.questions; frames = merged_frames r s })
  -- a cut is consistent exactly if its two parts are: its first n counts in the first log, the rest in the second
  pub parts : (c : Cut) → Consistent (beside r.computation s.computation) c
      ↔ (Consistent r.computation (take (stations r.computation) c) × Consistent s.computation (drop (stations r.computation) c))
  -- a question of the first is true at a cut exactly if it is true in the first log at the first part, whatever the second part, if both parts are consistent
  pub when_true : (q : ℕ) (f : Formula) → get_elem? r.questions q ≡ some f → (c d : Cut) → Consistent r.computation c → Consistent s.computation d
      → True (beside r.computation s.computation) f (c ++ d) ↔ True r.computation f c
  -- the same of false
  pub when_false : (q : ℕ) (f : Formula) → get_elem? r.questions q ≡ some f → (c d : Cut) → Consistent r.computation c → Consistent s.computation d
      → False (beside r.computation s.computation) f (c ++ d) ↔ False r.computation f c
  -- so a line that answers it lists each cut that the first's line lists, with all of the second's events behind it, and its start is the same
  pub answers : (q : ℕ) (f : Formula) → get_elem? r.questions q ≡ some f → (one two : List ℕ) (a : Answered r.computation f one) (b : Answered (beside r.computation s.computation) f two)
      → (b.start ≡ a.start) × (b.cuts ≡ map (λ c. c ++ full s.computation) a.cuts)

-- Of what Merge hands back (the log's length) and its output: both logs are accepted, and the log written is one of which the above holds
abbrev pub Merges : Limits → List ℕ → List ℕ → Reply → List ℕ → Type 0
Merges m first second reply output =
    (size : ℕ)
    → reply ≡ gives (size ∷ [])
    → (r s : Reading) × (read_log m first ≡ accepted r) × (read_log m second ≡ accepted s) × Merged m r s (take size output)

-- LOGS OF BOTH SIZES, for a log accepted under the limits m, of which r was read: under the limits m' it is as it was
pub record Stays (m m' : Limits) (log : List ℕ) (r : Reading) : Type 0 where
  -- it is accepted, and the same is read of it
  pub accepts : read_log m' log ≡ accepted r
  -- Read, lent what m' asks for, hands back the same and writes the same list
  pub lists : (output : List ℕ) → m'.list ≤ length output → read_op m' log output ≡ read_op m log output
  -- Forecast, Answer and Holds reply the same and write the same bytes
  pub forecasts : (q : ℕ) → forecast_op m' log q ≡ forecast_op m log q
  pub answers : (q workspace barspace : ℕ) (output : List ℕ) → answer_op m' log q workspace barspace output ≡ answer_op m log q workspace barspace output
  pub tests : (q : ℕ) (c : Cut) (workspace barspace : ℕ) → holds_op m' log q c workspace barspace ≡ holds_op m log q c workspace barspace
  -- Write, lent what m' asks for, writes the same log of every list of which the same is read
  pub writes : (list output : List ℕ) → read_list m list ≡ accepted r → m'.bytes ≤ length output → write_op m' list output ≡ write_op m list output

-- THE PROGRAM, for a log that it accepts, of which r was read
pub record Prints (log : List ℕ) (r : Reading) : Type 0 where
  -- lines one after another, one a question
  pub lines : List (List ℕ)
  pub whole : printed log ≡ in_row lines
  pub as_many : length lines ≡ length r.questions
  -- demand 3 holds of each
  pub answers : (q : ℕ) (f : Formula) (line : List ℕ) → get_elem? r.questions q ≡ some f → get_elem? lines q ≡ some line → Answered r.computation f line
  -- each is the line that Answer writes, lent the sizes that it asks for
  pub unchanged : (q : ℕ) (f : Formula) (line : List ℕ) → get_elem? r.questions q ≡ some f → get_elem? lines q ≡ some line
      → (workspace barspace : ℕ) (output : List ℕ) → (forecast r.computation f).cells ≤ workspace → barspace_size ≤ barspace → line_size ≤ length output
      → answer_op limits log q workspace barspace output ≡ write (length line ∷ []) line output

-- THE PROGRAM'S OWN SIZE, for a log that the operations accept, of which r was read
pub record Sized (log : List ℕ) (r : Reading) : Type 0 where
  -- a log within the program's limits is answered
  pub answered : length log ≤ print_limits.bytes → event_count r.computation ≤ print_limits.events → printed log ≡ answer_lines r.computation r.questions
  -- more bytes are refused with 1
  pub too_long : print_limits.bytes < length log → printed log ≡ refusal_line 1 0
  -- more events are refused with 4, at the line of the first too many, which stands behind the header and the events that the program takes
  pub too_many : length log ≤ print_limits.bytes → print_limits.events < event_count r.computation → printed log ≡ refusal_line 4 (print_limits.events + 2)
