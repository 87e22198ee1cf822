-- Limits of two sizes: what the smaller ones accept the larger ones accept, and nothing of it changes; what only the larger ones accept is too long for the smaller ones, or has an event too many.
use mathlib.Core.Path.{◌≡◌, refl, ap}
use mathlib.Core.Logic.{◌⊎◌, inl, inr}
use mathlib.Core.Bool.{Bool, true, false, ◌&&◌}
use mathlib.Core.List.{List, [], ◌∷◌}
use mathlib.Core.Option.{Option, none, some}
use Prim.Native.Nat.{ℕ, suc, ◌+◌, ◌*◌, ◌≤◌, ◌<◌}
use native.Mathlib.Omega.{arith}
use native.Mathlib.Nat.{le_trans}
use lib.ListN.{length, get_or, length-append}
use lib.Dec.{leb, ltb, eqb}
use borrow.Author.Tests.{leb-true, le-leb, ltb-true, ltb-false, lt-ltb, le-ltb}
use Rattle.model.specs.declared.Limits.{Limits}
use Rattle.model.specs.Limits.{limits, print_limits}
use Rattle.model.specs.Lists.{sum, between}
use Rattle.model.specs.Bytes.{lines_of, Item, frame, bad, items}
use Rattle.model.specs.Frames.{frames_of}
use Rattle.model.specs.Formula.{Formula}
use Rattle.model.specs.Computation.{Computation, stations, event_count}
use Rattle.model.specs.Reading.{Reading, nothing, fault, check, report_size, header_form, station_of, event_of, event_form, with_event, message_of, admit_event, admit, Result, refused, accepted, proceed, read_items, read_log, read_frames, read_list}
use Rattle.model.specs.Operations.{read_effect, read_op, opening, forecast_op, answer_op, holds_op, write_effect, write_op, printed_of, printed}
use Rattle.model.specs.Promise.{Asked, Stays, Sized}
use Rattle.lattice.proofs.Histories.{event_count-extended}
use Rattle.codec.specs.Limits.{NoLarger}
use Rattle.codec.proofs.Cases.{cases, and-true, between-true, between_in}
use Rattle.codec.proofs.Accepted.{Admission, a_header, a_event, a_message, a_question, admitted, admission_go, begun-true, begun-false, unasked-true, unsent-true, event-true, refused-accepted, proceed-accepted, finish-accepted, read_items_invariant, admitted_frames, accepted-log}
use Rattle.codec.proofs.Messages.{event_count-informed}
use Rattle.codec.proofs.Lawful.{Lawful, nothing_lawful, admitted_lawful}
use Rattle.codec.proofs.Suited.{print_within}
use Rattle.codec.proofs.Input.{printed-long}

-- UPWARDS

less_up : (a b c : ℕ) → b ≤ c → ltb a b ≡ true → ltb a c ≡ true
less_up a b c h t = lt-ltb a c (omega (arith, ltb-true a b t))

module _ {m m' : Limits} (up : NoLarger m m') where
  header_up : (p : Bool) (f : List ℕ) → header_form m p f ≡ true → header_form m' p f ≡ true
  unfolding header_form
  header_up p f h =
      let a = and-true (leb 1 (length f) && between 1 m.stations (get_or f 0 0)) (eqb (length f) (1 + get_or f 0 0 * report_size p)) h in
      let b = and-true (leb 1 (length f)) (between 1 m.stations (get_or f 0 0)) a.0 in
      let c = between-true 1 m.stations (get_or f 0 0) b.1 in
      rw (b.0, a.1, between_in 1 m'.stations (get_or f 0 0) c.0 (le_trans c.1 up.stations))

  admission_up : {r s : Reading} {f : List ℕ} → Admission m r f s → Admission m' r f s
  admission_up (a_header {p = p} {f = f} a b) = a_header a (header_up p f b)
  admission_up {r} (a_event a b s c d e) = a_event a b s (less_up (event_count r.computation) m.events m'.events up.events c) d e
  admission_up {r} (a_message a b c d e) = a_message a b (less_up (length r.computation.messages) m.messages m'.messages up.messages c) d e
  admission_up {r} (a_question a b c d e w) = a_question a (less_up (length r.questions) m.questions m'.questions up.questions b) c d e w

  items_up : (n : ℕ) (r s : Reading) (l : List Item) → read_items m n r l ≡ accepted s → read_items m' n r l ≡ accepted s
  unfolding read_items proceed
  items_up n r s [] e = e
  items_up n r s (bad k ∷ l) e = refused-accepted e
  items_up n r s (frame f ∷ l) e =
      let x = proceed-accepted _ n (admit m r f) s e in
      rw (admission_go (admission_up (admitted m r x.0 f x.1))) (items_up (suc n) x.0 s l x.2)

  -- A log.
  pub log_up : (log : List ℕ) (r : Reading) → read_log m log ≡ accepted r → read_log m' log ≡ accepted r
  unfolding read_log
  log_up log r e = cases (leb (length log) m.bytes) e
      (λ t e. rw (le-leb (length log) m'.bytes (le_trans (leb-true (length log) m.bytes t) up.bytes)) (items_up 1 nothing r (items (lines_of log)) e))
      (λ t e. refused-accepted e)

  -- A frame list.
  frames_up : (o : Option (List (List ℕ))) (r : Reading) → read_frames m o ≡ accepted r → read_frames m' o ≡ accepted r
  unfolding read_frames
  frames_up none r e = refused-accepted e
  frames_up (some fs) r e = items_up 1 nothing r _ e

  list_up : (l : List ℕ) (r : Reading) → read_list m l ≡ accepted r → read_list m' l ≡ accepted r
  unfolding read_list
  list_up l r e = cases (leb (length l) m.list) e
      (λ t e. rw (le-leb (length l) m'.list (le_trans (leb-true (length l) m.list t) up.list)) (frames_up (frames_of l) r e))
      (λ t e. refused-accepted e)

  -- All that is promised of a log that m accepts.
  pub stays : (log : List ℕ) (r : Reading) → read_log m log ≡ accepted r → Stays m m' log r
  unfolding read_op read_effect opening forecast_op answer_op holds_op write_op write_effect
  stays log r e = record {
    accepts = log_up log r e;
    lists = λ out h. rw (e, log_up log r e, le-ltb (length out) m.list (le_trans up.list h), le-ltb (length out) m'.list h);
    forecasts = λ q. rw (e, log_up log r e);
    answers = λ q ws bs out. rw (e, log_up log r e);
    tests = λ q c ws bs. rw (e, log_up log r e);
    writes = λ l out i h. rw (i, list_up l r i, le-ltb (length out) m.bytes (le_trans up.bytes h), le-ltb (length out) m'.bytes h);
  }

  -- A question of it.
  pub asked_up : {log : List ℕ} {q : ℕ} {K : Computation} {f : Formula} → Asked m log q K f → Asked m' log q K f
  asked_up {log} a = record { panelled = a.panelled; frames = a.frames; questions = a.questions; reads = log_up log _ a.reads; is = a.is }

-- The operations had the program's limits before they were raised: what they accepted is as it was.
pub as_before : (log : List ℕ) (r : Reading) → read_log print_limits log ≡ accepted r → Stays print_limits limits log r
as_before = stays print_within

-- DOWNWARDS, where the numbers of stations, messages and questions have the same limits

-- An event frame brings one event more, and no frame takes one away.
event-more : {m : Limits} {r : Reading} → Lawful m r → (f : List ℕ) → event_form r.panelled (stations r.computation) f ≡ true → event_count (with_event r f).computation ≡ suc (event_count r.computation)
event-more {m} {r} law f t = event_count-extended r.computation (station_of f) (event_of r.panelled f) (omega (arith, law.valid.sizes, (event-true r.panelled (stations r.computation) f t).1))

events_kept : {m : Limits} {r s : Reading} {f : List ℕ} → Lawful m r → Admission m r f s → event_count r.computation ≤ event_count s.computation
unfolding sum
events_kept {m} {r} law (a_header b t) = omega (arith, ap (λ (x : Reading). event_count x.computation) (law.blank (begun-false r b)))
events_kept law (a_event {f = f} b u v c t o) = omega (arith, event-more law f t)
events_kept {m} {r} law (a_message {f = f} b u c t o) = omega (arith, event_count-informed r.computation (message_of f))
events_kept law (a_question b c p t o w) = omega arith

events-more : (m : Limits) (n : ℕ) (r s : Reading) (l : List Item) → Lawful m r → read_items m n r l ≡ accepted s → event_count r.computation ≤ event_count s.computation
events-more m n r s l law e =
    (read_items_invariant m (λ u. Lawful m u × (event_count r.computation ≤ event_count u.computation))
    (λ u v f h a. (admitted_lawful h.0 a, le_trans h.1 (events_kept h.0 a))) n r s l (law, omega arith) e).1

-- An event that is too many for m.
record Above (m : Limits) (r : Reading) (f : List ℕ) (s : Reading) : Type 0 where
  pub more : event_count s.computation ≡ suc m.events
  pub stands : length r.frames ≡ suc m.events
  pub is : admit m r f ≡ fault 4

-- What reading under m comes to, where s is read under larger limits: the same, or 4 at the line of the event too many.
abbrev Comes : Limits → Result → Reading → Type 0
Comes m o s = ((event_count s.computation ≤ m.events) × (o ≡ accepted s)) ⊎ ((m.events < event_count s.computation) × (o ≡ refused 4 (m.events + 2)))

module _ (m m' : Limits) (stationed : m.stations ≡ m'.stations) (sent : m.messages ≡ m'.messages) (posed : m.questions ≡ m'.questions) where
  admission_down : {r s : Reading} {f : List ℕ} → Lawful m r → Admission m' r f s → Admission m r f s ⊎ Above m r f s
  unfolding header_form admit admit_event check
  admission_down law (a_header {p = p} {f = f} b t) = inl (a_header {p = p} {f = f} b (rw stationed t))
  admission_down law (a_message b u c t o) = inl (a_message b u (rw sent c) t o)
  admission_down law (a_question b c p t o w) = inl (a_question b (rw posed c) p t o w)
  admission_down {r} law (a_event {f = f} b u v c t o) = by (ltb (event_count r.computation) m.events) refl
    where
      by : (x : Bool) → ltb (event_count r.computation) m.events ≡ x → Admission m r (0x20 ∷ f) (with_event r f) ⊎ Above m r (0x20 ∷ f) (with_event r f)
      by true e = inl (a_event b u v e t o)
      by false e =
          let full : event_count r.computation ≡ m.events = omega (arith, ltb-false (event_count r.computation) m.events e, law.few_events) in
          inr (record { more = omega (arith, event-more law f t); stands = omega (arith, law.counted (begun-true r b), unasked-true r u, unsent-true r v); is = rw (b, u, v, e) })

  items_down : (n : ℕ) (r s : Reading) (l : List Item) → n ≡ suc (length r.frames) → Lawful m r → Lawful m' r → read_items m' n r l ≡ accepted s → Comes m (read_items m n r l) s
  unfolding read_items proceed
  items_down n r s [] c law law' e = inl (rw (finish-accepted r s e).0 at law.few_events, e)
  items_down n r s (bad k ∷ l) c law law' e = refused-accepted e
  items_down n r s (frame f ∷ l) c law law' e =
      let x = proceed-accepted _ n (admit m' r f) s e in
      let u = x.0 in
      let a' = admitted m' r u f x.1 in
      let law'' = admitted_lawful law' a' in
      elim (admission_down law a') [
        | inl a ↦ rw (admission_go a) (items_down (suc n) u s l (omega (arith, ap length (admitted_frames a), length-append r.frames (f ∷ []))) (admitted_lawful law a) law'' x.2)
        | inr h ↦ inr (omega (arith, h.more, events-more m' (suc n) u s l law'' x.2), rw h.is (ap (refused 4) (omega (arith, h.stands))))
      ]

-- What the program prints for a log that the operations accept.
pub sized : (log : List ℕ) (r : Reading) → read_log limits log ≡ accepted r → Sized log r
unfolding printed printed_of read_log
sized log r e = record {
  answered = λ short few. elim down [
    | inl h ↦ rw (le-leb (length log) print_limits.bytes short, h.1)
    | inr h ↦ absurd (omega arith)
  ];
  too_long = printed-long log;
  too_many = λ short many. elim down [
    | inl h ↦ absurd (omega arith)
    | inr h ↦ rw (le-leb (length log) print_limits.bytes short, h.1)
  ];
}
  where
    down : Comes print_limits (read_items print_limits 1 nothing (items (lines_of log))) r
    down = items_down print_limits limits refl refl refl 1 nothing r (items (lines_of log)) refl (nothing_lawful print_limits) (nothing_lawful limits) (accepted-log limits log r e)
