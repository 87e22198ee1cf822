-- Sizes: of what is accepted a header frame has at most 34 bytes, an event frame 14, a message frame 5, a question frame 93, and the limits say how many there are.
use mathlib.Core.Path.{◌≡◌, ap}
use mathlib.Core.Bool.{Bool, true, false}
use mathlib.Core.List.{List, [], ◌∷◌, ◌++◌, map}
use mathlib.Core.Option.{some}
use Prim.Native.Nat.{ℕ, ◌+◌, ◌*◌, ◌≤◌, min}
use native.Mathlib.Omega.{arith}
use lib.Dec.{eqb}
use lib.ListN.{length, get_or, drop, length-append}
use borrow.Author.Tests.{eqb-true}
use Rattle.model.specs.declared.Limits.{Limits}
use Rattle.model.specs.Lists.{sum}
use Rattle.model.specs.Bytes.{Item, frame, line}
use Rattle.model.specs.Frames.{log_of, list_of}
use Rattle.model.specs.Formula.{Formula, formula_of}
use Rattle.model.specs.Computation.{stations, event_count}
use Rattle.model.specs.Size.{fits}
use Rattle.model.specs.Reading.{Reading, nothing, begun, reports_of, header_kind, header_form, with_header, station_of, event_of, event_form, with_event, message_of, with_message, with_question, accepted, read_items}
use Rattle.lattice.proofs.Histories.{stations-opened, event_count-opened, stations-extended, event_count-extended}
use Rattle.lattice.proofs.Held.{fits_to}
use Rattle.codec.specs.Limits.{Suitable}
use Rattle.codec.proofs.Formulas.{length-formula}
use Rattle.codec.proofs.Lines.{length-line}
use Rattle.lattice.proofs.Reports.{report-size, reports-size}
use Rattle.codec.proofs.Accepted.{Admission, a_header, a_event, a_message, a_question, begun-true, begun-false, header_true, event-true, read_items_invariant, accepted-frames}
use Rattle.codec.proofs.Messages.{messages-opened, messages-extended, message_more, stations-informed, event_count-informed}
use Rattle.codec.proofs.Lawful.{Lawful, nothing_lawful, admitted_lawful}

-- LENGTHS OF LISTS AND LOGS

length-list-more : (fs : List (List ℕ)) (f : List ℕ) → length (list_of (fs ++ (f ∷ []))) ≡ length (list_of fs) + 1 + length f
unfolding list_of
length-list-more [] f = omega (arith, length-append f [])
length-list-more (g ∷ fs) f = omega (arith, length-append g (list_of (fs ++ (f ∷ []))), length-append g (list_of fs), length-list-more fs f)

length-log-more : (fs : List (List ℕ)) (f : List ℕ) → length (log_of (fs ++ (f ∷ []))) ≡ length (log_of fs) + 3 + 2 * length f
unfolding log_of
length-log-more [] f = omega (arith, length-append (line f) [], length-line f)
length-log-more (g ∷ fs) f = omega (arith, length-append (line g) (log_of (fs ++ (f ∷ []))), length-append (line g) (log_of fs), length-log-more fs f)

-- THE INVARIANT

-- The counts keep their limits, and list and log are as long as the counts allow.
pub record Short (m : Limits) (r : Reading) : Type 0 where
  pub histories : length r.computation.events ≡ stations r.computation
  pub stations_are_few : stations r.computation ≤ m.stations
  pub events_are_few : event_count r.computation ≤ m.events
  pub messages_are_few : length r.computation.messages ≤ m.messages
  pub questions_are_few : length r.questions ≤ m.questions
  pub short_list : length (list_of r.frames) ≤ 35 * min 1 (stations r.computation) + 15 * event_count r.computation + 6 * length r.computation.messages + 94 * length r.questions
  pub short_log : length (log_of r.frames) ≤ 71 * min 1 (stations r.computation) + 31 * event_count r.computation + 13 * length r.computation.messages + 189 * length r.questions

-- What is lawful keeps the limits: the two lengths are left.
record Lengths (r : Reading) : Type 0 where
  pub list : length (list_of r.frames) ≤ 35 * min 1 (stations r.computation) + 15 * event_count r.computation + 6 * length r.computation.messages + 94 * length r.questions
  pub log : length (log_of r.frames) ≤ 71 * min 1 (stations r.computation) + 31 * event_count r.computation + 13 * length r.computation.messages + 189 * length r.questions

nothing-long : Lengths nothing
unfolding sum list_of log_of
nothing-long = omega arith

module _ {m : Limits} (fit : Suitable m) (r : Reading) (law : Lawful m r) (h : Lengths r) (f : List ℕ) where
  keeps_header : (p : Bool) → begun r ≡ false → header_form m p f ≡ true → Lengths (with_header p r f)
  unfolding sum
  keeps_header p b t =
      let x = header_true m p f t in
      let y = reports-size p (get_or f 0 0) in
      let v = reports_of p (get_or f 0 0) (drop 1 f) in
      let n = stations-opened v in
      let c = event_count-opened v in
      let d = ap length (messages-opened v) in
      let o = ap (λ (x : Reading). event_count x.computation) (law.blank (begun-false r b)) in
      let q = ap (λ (x : Reading). length x.computation.messages) (law.blank (begun-false r b)) in
      let l = length-list-more r.frames (header_kind p ∷ f) in
      let k = length-log-more r.frames (header_kind p ∷ f) in
      omega (arith, begun-false r b, fit.stations)

  keeps_event : begun r ≡ true → event_form r.panelled (stations r.computation) f ≡ true → Lengths (with_event r f)
  keeps_event b t =
      let x = event-true r.panelled (stations r.computation) f t in
      let y = report-size r.panelled in
      let n = stations-extended r.computation (station_of f) (event_of r.panelled f) in
      let c = event_count-extended r.computation (station_of f) (event_of r.panelled f) (omega (arith, law.valid.sizes)) in
      let d = ap length (messages-extended r.computation (station_of f) (event_of r.panelled f)) in
      let l = length-list-more r.frames (0x20 ∷ f) in
      let k = length-log-more r.frames (0x20 ∷ f) in
      omega (arith, begun-true r b, law.few_stations, fit.stations)

  keeps_message : eqb (length f) 4 ≡ true → Lengths (with_message r f)
  keeps_message t =
      let x = eqb-true (length f) 4 t in
      let n = stations-informed r.computation (message_of f) in
      let c = event_count-informed r.computation (message_of f) in
      let d = message_more r.computation (message_of f) in
      let l = length-list-more r.frames (0x25 ∷ f) in
      let k = length-log-more r.frames (0x25 ∷ f) in
      omega arith

  keeps_question : (φ : Formula) → formula_of f ≡ some φ → fits φ ≡ true → Lengths (with_question r f φ)
  keeps_question φ p t =
      let x = fits_to φ t in
      let s = length-formula f φ p in
      let c = length-append r.questions (φ ∷ []) in
      let l = length-list-more r.frames (0x30 ∷ f) in
      let k = length-log-more r.frames (0x30 ∷ f) in
      omega arith

keeps : {m : Limits} → Suitable m → (r s : Reading) (f : List ℕ) → Lawful m r × Lengths r → Admission m r f s → Lawful m s × Lengths s
keeps {m} fit r s f (law, h) a = (admitted_lawful law a, lengths a)
  where
    lengths : {f : List ℕ} {s : Reading} → Admission m r f s → Lengths s
    lengths (a_header {p = p} {f = g} b t) = keeps_header fit r law h g p b t
    lengths (a_event {f = g} b u v n t c) = keeps_event fit r law h g b t
    lengths (a_message {f = g} b u n t c) = keeps_message fit r law h g t
    lengths (a_question {f = g} {φ = φ} b n p t c w) = keeps_question fit r law h g φ p c

-- What is accepted is short.
pub short : {m : Limits} → Suitable m → (r : Reading) (l : List Item) → read_items m 1 nothing l ≡ accepted r → Short m r
short {m} fit r l e =
    let x = read_items_invariant m (λ r. Lawful m r × Lengths r) (keeps fit) 1 nothing r l (nothing_lawful m, nothing-long) e in
    let law = x.0 in
    record { histories = law.valid.sizes; stations_are_few = law.few_stations; events_are_few = law.few_events; messages_are_few = law.few_messages; questions_are_few = law.few_questions; short_list = x.1.list; short_log = x.1.log }

pub short-list : {m : Limits} → Suitable m → (r : Reading) (l : List Item) → read_items m 1 nothing l ≡ accepted r → length (list_of r.frames) ≤ m.list
short-list fit r l e = omega (arith, short fit r l e, fit.list)

pub short-log : {m : Limits} → Suitable m → (r : Reading) (l : List Item) → read_items m 1 nothing l ≡ accepted r → length (log_of r.frames) ≤ m.bytes
short-log fit r l e = omega (arith, short fit r l e, fit.bytes)

-- Frames that are accepted are those that are kept, and their list and log are short.
pub sizes : {m : Limits} → Suitable m → (r : Reading) (fs : List (List ℕ)) → read_items m 1 nothing (map frame fs) ≡ accepted r → (r.frames ≡ fs) × (length (list_of fs) ≤ m.list) × (length (log_of fs) ≤ m.bytes)
sizes {m} fit r fs e =
    let n = accepted-frames m r fs e in
    (n, rw n at (short-list fit r (map frame fs) e), rw n at (short-log fit r (map frame fs) e))
