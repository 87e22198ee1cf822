-- The six operations and the program: what each hands back and leaves in what is lent to it.
use Rattle.std.specs.Prelude.{◌≡◌, ℕ, suc, ◌+◌, Bool, cond, ◌||◌, List, [], ◌∷◌, ◌++◌, length, drop, ltb}
use Rattle.std.proofs.Math.Option.{Option, none, some}
use Rattle.std.proofs.Math.ListN.{get_elem?}
use Rattle.model.specs.declared.Limits.{Limits}
use Rattle.model.specs.Limits.{print_limits, barspace_size, line_size}
use Rattle.model.specs.Frames.{log_of, list_of}
use Rattle.model.specs.Formula.{Formula}
use Rattle.model.specs.Cut.{Cut}
use Rattle.model.specs.Computation.{Computation, stations, event_count, is_consistent}
use Rattle.model.specs.Forecast.{forecast}
use Rattle.model.specs.Answer.{true_at, answer, yes_no, answer_line, refusal_line}
use Rattle.model.specs.Reading.{Reading, Result, refused, accepted, read_log, read_list}
use Rattle.model.specs.Merge.{merged_frames}
use Rattle.model.specs.Reply.{Reply, gives, refuses, figures}

-- What is handed back, and the output afterwards.
pub record Effect : Type 0 where
  pub reply : Reply
  pub output : List ℕ

-- A refusal leaves the output as lent.
abbrev pub refuse : ℕ → ℕ → List ℕ → Effect
refuse k n out = record { reply = refuses k n; output = out }

-- Values given, and bytes written; output bytes past those written stay as lent.
abbrev pub write : List ℕ → List ℕ → List ℕ → Effect
write values bytes out = record { reply = gives values; output = bytes ++ drop (length bytes) out }

-- Any other lent slice: as lent after a refusal; else it may hold anything.
abbrev pub Kept : Reply → List ℕ → List ℕ → Type 0
Kept (gives values) before after = Unit {0}
Kept (refuses k n) before after = after ≡ before

-- READ

unfoldable pub read_effect : Limits → Result → List ℕ → Effect
read_effect m (refused k n) out = refuse k n out
read_effect m (accepted r) out =
    cond (ltb (length out) m.list) (refuse 12 0 out)
    (write (stations r.computation ∷ event_count r.computation ∷ length r.questions ∷ length (list_of r.frames) ∷ []) (list_of r.frames) out)

-- limits, log, output
unfoldable pub read_op : Limits → List ℕ → List ℕ → Effect
read_op m log out = read_effect m (read_log m log) out

-- A QUESTION OF A LOG

-- A log is opened for one of its questions: a refusal shuts it, or it poses the question of its computation.
pub data Opening : Type 0 where
  shut : ℕ → ℕ → Opening
  poses : Computation → Formula → Opening

-- A question that is not there is refused with 10.
unfoldable pub posing : Computation → Option Formula → Opening
posing K none = shut 10 0
posing K (some f) = poses K f

-- A log that is refused stays so.
unfoldable pub opening_of : Result → ℕ → Opening
opening_of (refused k n) q = shut k n
opening_of (accepted r) q = posing r.computation (get_elem? r.questions q)

-- limits, log, question number
unfoldable pub opening : Limits → List ℕ → ℕ → Opening
opening m log q = opening_of (read_log m log) q

-- The workspace has fewer cells than are forecast, or the bar space is too small.
unfoldable pub cramped : Computation → Formula → ℕ → ℕ → Bool
cramped K f ws bs = ltb ws (forecast K f).cells || ltb bs barspace_size

-- FORECAST

unfoldable pub forecast_reply_to : Opening → Reply
forecast_reply_to (shut k n) = refuses k n
forecast_reply_to (poses K f) = gives (figures (forecast K f))

-- limits, log, question number
unfoldable pub forecast_op : Limits → List ℕ → ℕ → Reply
forecast_op m log q = forecast_reply_to (opening m log q)

-- ANSWER

unfoldable pub line_effect : List ℕ → List ℕ → Effect
line_effect l out = cond (ltb (length out) line_size) (refuse 12 0 out) (write (length l ∷ []) l out)

unfoldable pub answer_effect : Opening → ℕ → ℕ → List ℕ → Effect
answer_effect (shut k n) ws bs out = refuse k n out
answer_effect (poses K f) ws bs out = cond (cramped K f ws bs) (refuse 11 0 out) (line_effect (answer_line (answer K f)) out)

-- limits, log, question number, sizes of workspace and bar space, output
unfoldable pub answer_op : Limits → List ℕ → ℕ → ℕ → ℕ → List ℕ → Effect
answer_op m log q ws bs out = answer_effect (opening m log q) ws bs out

-- HOLDS

unfoldable pub holds_reply_to : Opening → Cut → ℕ → ℕ → Reply
holds_reply_to (shut k n) c ws bs = refuses k n
holds_reply_to (poses K f) c ws bs = cond (is_consistent K c) (cond (cramped K f ws bs) (refuses 11 0) (gives (yes_no (true_at K f c) ∷ []))) (refuses 13 0)

-- limits, log, question number, cut, sizes of workspace and bar space
unfoldable pub holds_op : Limits → List ℕ → ℕ → Cut → ℕ → ℕ → Reply
holds_op m log q c ws bs = holds_reply_to (opening m log q) c ws bs

-- WRITE

unfoldable pub write_effect : Limits → Result → List ℕ → Effect
write_effect m (refused k n) out = refuse k n out
write_effect m (accepted r) out = cond (ltb (length out) m.bytes) (refuse 12 0 out) (write (length (log_of r.frames) ∷ []) (log_of r.frames) out)

-- limits, frame list, output
unfoldable pub write_op : Limits → List ℕ → List ℕ → Effect
write_op m list out = write_effect m (read_list m list) out

-- MERGE

-- The frames of both logs as one log.
abbrev pub merged_log : Reading → Reading → List ℕ
merged_log r s = log_of (merged_frames r s)

-- More stations together than a log may have; more events, or more messages.
unfoldable pub too_wide_together : Limits → Reading → Reading → Bool
too_wide_together m r s = ltb m.stations (stations r.computation + stations s.computation)

unfoldable pub too_many_together : Limits → Reading → Reading → Bool
too_many_together m r s = ltb m.events (event_count r.computation + event_count s.computation) || ltb m.messages (length r.computation.messages + length s.computation.messages)

-- The first log's refusal, then the second's, then what is too much together.
unfoldable pub merge_effect : Limits → Result → Result → List ℕ → Effect
merge_effect m (refused k n) t out = refuse k n out
merge_effect m (accepted r) (refused k n) out = refuse k n out
merge_effect m (accepted r) (accepted s) out =
    cond (too_wide_together m r s) (refuse 17 0 out)
    (cond (too_many_together m r s) (refuse 18 0 out)
    (cond (ltb (length out) m.bytes) (refuse 12 0 out)
    (write (length (merged_log r s) ∷ []) (merged_log r s) out)))

-- limits, first log, second log, output
unfoldable pub merge_op : Limits → List ℕ → List ℕ → List ℕ → Effect
merge_op m first second out = merge_effect m (read_log m first) (read_log m second) out

-- THE PROGRAM

-- One answer line a question.
unfoldable pub answer_lines : Computation → List Formula → List ℕ
answer_lines K [] = []
answer_lines K (f ∷ l) = answer_line (answer K f) ++ answer_lines K l

unfoldable pub printed_of : Result → List ℕ
printed_of (refused k n) = refusal_line k n
printed_of (accepted r) = answer_lines r.computation r.questions

-- What the program asks for: one byte more than a log may have, so that it sees a log that is too long.
abbrev pub input_size : ℕ
input_size = suc print_limits.bytes

-- What is printed for the standard input.
unfoldable pub printed : List ℕ → List ℕ
printed log = printed_of (read_log print_limits log)
