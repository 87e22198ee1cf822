-- Reading frame by frame: the first fault, or all that was read.
use Rattle.std.specs.Prelude.{ℕ, zero, suc, ◌+◌, ◌*◌, Bool, true, false, cond, not, ◌&&◌, List, [], ◌∷◌, ◌++◌, map, length, drop, get_or, set, leb, ltb, eqb}
use Rattle.std.proofs.Math.Option.{Option, none, some}
use Rattle.model.specs.declared.Limits.{Limits}
use Rattle.model.specs.Lists.{between}
use Rattle.model.specs.Bytes.{lines_of, Item, frame, bad, items}
use Rattle.model.specs.Frames.{word, frames_of}
use Rattle.model.specs.Formula.{Formula, formula_of, sound}
use Rattle.model.specs.Rules.{as_true, workable}
use Rattle.model.specs.Computation.{Report, Event, Message, Computation, stations, history, event_count, clock_ok, message_ok}
use Rattle.model.specs.Size.{fits}

-- What has been read: whether the header says that reports carry a panel; the computation, with no stations before the header; the questions; the frames.
pub record Reading : Type 0 where
  pub panelled : Bool
  pub computation : Computation
  pub questions : List Formula
  pub frames : List (List ℕ)

abbrev pub nothing : Reading
nothing = record { panelled = false; computation = record { initial = []; events = []; messages = [] }; questions = []; frames = [] }

-- Has a header been read?
unfoldable pub begun : Reading → Bool
begun r = ltb 0 (stations r.computation)

-- A frame's step: what has been read after it, or the number of its fault.
pub data Step : Type 0 where
  go : Reading → Step
  fault : ℕ → Step

-- The step, if the test is passed.
unfoldable pub check : ℕ → Bool → Step → Step
check k true s = s
check k false s = fault k

-- REPORT: a value of two bytes and, where the header says so (p), the number of the panel in two more

-- Its bytes.
unfoldable pub report_size : Bool → ℕ
report_size true = 4
report_size false = 2

-- The report at the front; where no panel is carried it is 0.
unfoldable pub report_of : Bool → List ℕ → Report
report_of true f = record { value = word f; panel = word (drop 2 f) }
report_of false f = record { value = word f; panel = 0 }

-- The n reports at the front.
unfoldable pub reports_of : Bool → ℕ → List ℕ → List Report
reports_of p zero f = []
reports_of p (suc n) f = report_of p f ∷ reports_of p n (drop (report_size p) f)

-- HEADER: station count n, then n reports; of kind 11 it says that reports carry a panel, of kind 10 that they don't

-- Its kind.
unfoldable pub header_kind : Bool → ℕ
header_kind true = 0x11
header_kind false = 0x10

unfoldable pub header_form : Limits → Bool → List ℕ → Bool
header_form m p f = leb 1 (length f) && between 1 m.stations (get_or f 0 0) && eqb (length f) (1 + get_or f 0 0 * report_size p)

-- The stations with what they first report, no events and no messages.
unfoldable pub opened : List Report → Computation
opened reports = record { initial = reports; events = map (λ (x : Report). []) reports; messages = [] }

-- What has been read after a header.
abbrev pub with_header : Bool → Reading → List ℕ → Reading
with_header p r f = record { panelled = p; computation = opened (reports_of p (get_or f 0 0) (drop 1 f)); questions = r.questions; frames = r.frames ++ ((header_kind p ∷ f) ∷ []) }

unfoldable pub admit_header : Limits → Bool → Reading → List ℕ → Step
admit_header m p r f = check 4 (not (begun r)) (check 5 (header_form m p f) (go (with_header p r f)))

-- EVENT: station s, its report, n clock bytes

abbrev pub station_of : List ℕ → ℕ
station_of f = get_or f 0 0

abbrev pub event_of : Bool → List ℕ → Event
event_of p f = record { report = report_of p (drop 1 f); clock = drop (1 + report_size p) f }

unfoldable pub event_form : Bool → ℕ → List ℕ → Bool
event_form p n f = eqb (length f) (1 + report_size p + n) && ltb (station_of f) n

-- The computation with one more event of station s.
unfoldable pub extended : Computation → ℕ → Event → Computation
extended K s e = record { initial = K.initial; events = set K.events s (history K s ++ (e ∷ [])); messages = K.messages }

-- What has been read after an event.
abbrev pub with_event : Reading → List ℕ → Reading
with_event r f = record { panelled = r.panelled; computation = extended r.computation (station_of f) (event_of r.panelled f); questions = r.questions; frames = r.frames ++ ((0x20 ∷ f) ∷ []) }

-- No question has been asked yet.
unfoldable pub unasked : Reading → Bool
unasked r = eqb (length r.questions) 0

-- No message has been named yet.
unfoldable pub unsent : Reading → Bool
unsent r = eqb (length r.computation.messages) 0

unfoldable pub admit_event : Limits → Reading → List ℕ → Step
admit_event m r f =
    check 4 (begun r && unasked r && unsent r && ltb (event_count r.computation) m.events)
    (check 6 (event_form r.panelled (stations r.computation) f)
    (check 7 (clock_ok r.computation (station_of f) (event_of r.panelled f).clock)
    (go (with_event r f))))

-- MESSAGE: sender, number of its event, receiver, number of its event or 00

abbrev pub message_of : List ℕ → Message
message_of f = record { sender = get_or f 0 0; sent = get_or f 1 0; receiver = get_or f 2 0; received = get_or f 3 0 }

-- The computation with one more message.
unfoldable pub informed : Computation → Message → Computation
informed K x = record { initial = K.initial; events = K.events; messages = K.messages ++ (x ∷ []) }

-- What has been read after a message.
abbrev pub with_message : Reading → List ℕ → Reading
with_message r f = record { panelled = r.panelled; computation = informed r.computation (message_of f); questions = r.questions; frames = r.frames ++ ((0x25 ∷ f) ∷ []) }

unfoldable pub admit_message : Limits → Reading → List ℕ → Step
admit_message m r f =
    check 4 (begun r && unasked r && ltb (length r.computation.messages) m.messages)
    (check 15 (eqb (length f) 4 && message_ok r.computation (message_of f))
    (go (with_message r f)))

-- QUESTION: one formula in prefix form

-- What has been read after a question, of which φ is the formula.
abbrev pub with_question : Reading → List ℕ → Formula → Reading
with_question r f φ = record { panelled = r.panelled; computation = r.computation; questions = r.questions ++ (φ ∷ []); frames = r.frames ++ ((0x30 ∷ f) ∷ []) }

unfoldable pub asked : Reading → List ℕ → Option Formula → Step
asked r f none = fault 8
asked r f (some φ) = check 8 (sound (stations r.computation) φ) (check 9 (fits φ) (check 16 (workable (as_true φ)) (go (with_question r f φ))))

unfoldable pub admit_question : Limits → Reading → List ℕ → Step
admit_question m r f = check 4 (begun r && ltb (length r.questions) m.questions) (asked r f (formula_of f))

-- The kind decides.
unfoldable pub admit : Limits → Reading → List ℕ → Step
admit m r [] = fault 4
admit m r (kind ∷ f) =
    cond (eqb kind 0x10) (admit_header m false r f)
    (cond (eqb kind 0x11) (admit_header m true r f)
    (cond (eqb kind 0x20) (admit_event m r f)
    (cond (eqb kind 0x25) (admit_message m r f)
    (cond (eqb kind 0x30) (admit_question m r f) (fault 4)))))

-- ALL FRAMES

-- What reading comes to: a fault's number and line, or all that was read.
pub data Result : Type 0 where
  refused : ℕ → ℕ → Result
  accepted : Reading → Result

-- At the end: nothing read is an empty log.
unfoldable pub finish : Reading → Result
finish r = cond (begun r) (accepted r) (refused 4 1)

unfoldable pub proceed : (Reading → Result) → ℕ → Step → Result
proceed on n (go r) = on r
proceed on n (fault k) = refused k n

-- The items from line n on.
unfoldable pub read_items : Limits → ℕ → Reading → List Item → Result
read_items m n r [] = finish r
read_items m n r (bad k ∷ l) = refused k n
read_items m n r (frame f ∷ l) = proceed (λ s. read_items m (suc n) s l) n (admit m r f)

-- A log.
unfoldable pub read_log : Limits → List ℕ → Result
read_log m log = cond (leb (length log) m.bytes) (read_items m 1 nothing (items (lines_of log))) (refused 1 0)

-- A frame list: its frames are read as the lines of a log are.
unfoldable pub read_frames : Limits → Option (List (List ℕ)) → Result
read_frames m none = refused 14 0
read_frames m (some fs) = read_items m 1 nothing (map frame fs)

unfoldable pub read_list : Limits → List ℕ → Result
read_list m l = cond (leb (length l) m.list) (read_frames m (frames_of l)) (refused 14 0)
