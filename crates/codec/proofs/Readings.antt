-- What holds of every accepted log and frame list, and of what is asked there.
use mathlib.Core.Path.{◌≡◌, refl, sym, ◌∙◌}
use Prim.Native.Nat.{ℕ, suc, ◌+◌, ◌≤◌, ◌<◌}
use native.Mathlib.Omega.{arith}
use mathlib.Core.Bool.{Bool, true, false}
use mathlib.Core.List.{List, [], ◌∷◌, map}
use mathlib.Core.Option.{some}
use lib.ListN.{length, get_or}
use Rattle.model.specs.declared.Limits.{Limits}
use Rattle.model.specs.Lists.{Member}
use Rattle.model.specs.Bytes.{Item, frame, lines_of, items}
use Rattle.model.specs.Frames.{frames_of}
use Rattle.model.specs.Formula.{Formula, sound}
use Rattle.model.specs.Cut.{◌!◌}
use Rattle.model.specs.Computation.{Computation, stations, event_count, clock}
use Rattle.model.specs.Rules.{as_true, workable}
use Rattle.model.specs.Size.{fits}
use Rattle.model.specs.Reading.{Reading, header_kind, nothing, accepted, read_items, read_log, read_list}
use Rattle.model.specs.Promise.{Asked}
use Rattle.lattice.proofs.Valid.{Valid}
use Rattle.lattice.proofs.Consistency.{count-le}
use Rattle.lattice.proofs.Clocks.{entry_≤}
use Rattle.codec.proofs.Bytes.{Bytes}
use Rattle.codec.proofs.Cases.{Each, e-none, e-more}
use Rattle.codec.proofs.Snoc.{member_at}
use Rattle.codec.proofs.Frames.{Sized, frames-bytes}
use Rattle.codec.proofs.Frames as split
use Rattle.codec.proofs.Lines.{IsFrame}
use Rattle.codec.proofs.Logs.{log-items}
use Rattle.codec.proofs.QuestionFrames.{as_frame, kind_of, length-frames, question-place, question_frames}
use Rattle.codec.proofs.Accepted.{begun-true, read_items_invariant, accepted-begun, accepted-items, accepted-log, accepted-list}
use Rattle.codec.proofs.Lawful.{Plain, Lawful, nothing_lawful, admitted_lawful}

-- What holds of all that is read of an accepted log.
pub record IsAccepted (m : Limits) (r : Reading) : Type 0 where
  pub begun : 1 ≤ stations r.computation
  pub lawful : Lawful m r

pub items-accepted : (m : Limits) (n : ℕ) (l : List Item) (r : Reading) → read_items m n nothing l ≡ accepted r → IsAccepted m r
items-accepted m n l r e = record {
  begun = begun-true r (accepted-begun m n nothing r l e);
  lawful = read_items_invariant m (Lawful m) (λ r s f law a. admitted_lawful law a) n nothing r l (nothing_lawful m) e;
}

-- A LOG

module _ (m : Limits) (log : List ℕ) (r : Reading) (e : read_log m log ≡ accepted r) where
  pub log-accepted : IsAccepted m r
  log-accepted = items-accepted m 1 (items (lines_of log)) r (accepted-log m log r e)

  -- Its lines are the frames.
  pub log-frames : items (lines_of log) ≡ map frame r.frames
  log-frames = sym (accepted-items m 1 nothing r (items (lines_of log)) (accepted-log m log r e))

  pub log_are_frames : Each IsFrame r.frames
  log_are_frames = (log-items log r.frames log-frames).1

-- A FRAME LIST

each-frame : (fs : List (List ℕ)) → Each Sized fs → Each Bytes fs → Each IsFrame fs
each-frame [] h g = e-none
each-frame (f ∷ fs) (e-more h r) (e-more g s) = e-more (record { sized = h; bytes = g }) (each-frame fs r s)

module _ (m : Limits) (l : List ℕ) (r : Reading) (e : read_list m l ≡ accepted r) where
  pub list-accepted : IsAccepted m r
  list-accepted = items-accepted m 1 (map frame r.frames) r (accepted-list m l r e).1

  -- Its entries are the frames.
  pub list-frames : frames_of l ≡ some r.frames
  list-frames = (accepted-list m l r e).0

  pub list_are_frames : Bytes l → Each IsFrame r.frames
  list_are_frames b = each-frame r.frames (split.list-frames l r.frames list-frames).1 (frames-bytes l r.frames b list-frames)

-- WHAT FOLLOWS

module _ {m : Limits} {r : Reading} (law : Lawful m r) where
  -- A question of the list is good.
  pub member_good : (φ : Formula) → Member φ r.questions → (sound (stations r.computation) φ ≡ true) × (fits φ ≡ true) × (workable (as_true φ) ≡ true)
  member_good φ h = let place = member_at h in law.good place.0 φ place.1

  -- No clock counts more events than there can be.
  pub entries-small : (j k i : ℕ) → clock r.computation j k ! i ≤ m.events
  entries-small j k i = omega (arith, entry_≤ r.computation law.valid j k i, count-le r.computation i, law.few_events)

not-panelled : (p : Bool) → header_kind p ≡ 0x10 → p ≡ false
unfolding header_kind
not-panelled true e = absurd (omega arith)
not-panelled false e = refl

-- With a header of kind 10 every panel is 0.
pub log_plain : (m : Limits) (log : List ℕ) (r : Reading) → read_log m log ≡ accepted r → kind_of (get_or r.frames 0 []) ≡ 0x10 → Plain r.computation
log_plain m log r e k =
    let all = log-accepted m log r e in
    all.lawful.plain (not-panelled r.panelled (sym (all.lawful.headed all.begun) ∙ k))

-- Question number q stands behind the header, the events and the messages.
pub question-stands : {m : Limits} {r : Reading} → IsAccepted m r → (q : ℕ) → q < length r.questions
    → get_or r.frames (suc (event_count r.computation + length r.computation.messages) + q) [] ≡ as_frame (get_or (question_frames r.frames) q [])
question-stands {m} {r} all q h =
    let framed = all.lawful.framed in
    let front : length framed.front ≡ suc (event_count r.computation + length r.computation.messages) = omega (arith, all.lawful.counted all.begun, length-frames framed) in
    rw (← front) (question-place framed q h)

-- The computation K and a question f of an accepted log.
pub record Posed (m : Limits) (K : Computation) (f : Formula) : Type 0 where
  pub valid : Valid K
  pub low : 1 ≤ stations K
  pub high : stations K ≤ m.stations
  pub few : event_count K ≤ m.events
  pub few_messages : length K.messages ≤ m.messages
  pub named : sound (stations K) f ≡ true
  pub fitting : fits f ≡ true
  pub works : workable (as_true f) ≡ true
  pub entries : (j k i : ℕ) → clock K j k ! i ≤ m.events

pub asked-valid : {m : Limits} {log : List ℕ} {q : ℕ} {K : Computation} {f : Formula} → Asked m log q K f → Posed m K f
asked-valid {m} {log} {q} {K} {f} a =
    let all = log-accepted m log _ a.reads in
    let law = all.lawful in
    record {
      valid = law.valid;
      low = all.begun;
      high = law.few_stations;
      few = law.few_events;
      few_messages = law.few_messages;
      named = (law.good q f a.is).0;
      fitting = (law.good q f a.is).1;
      works = (law.good q f a.is).2;
      entries = entries-small law;
    }
