-- Laws of the event frame: its faults in their order, and the state and the store with one more event. Assumes nothing.
use mathlib.Core.Path.{◌≡◌, refl, sym, ap, ap₂, ◌∙◌}
use mathlib.Core.Bool.{Bool, true, false, and-false}
use mathlib.Core.Logic.{inl, inr, ⊎_elim}
use mathlib.Core.List.{List, [], ◌∷◌, ◌++◌}
use Prim.Native.Nat.{ℕ, suc, ◌+◌, ◌<◌, ◌≤◌}
use native.Mathlib.Omega.{arith}
use native.Mathlib.Nat.{le_trans}
use lib.Dec.{ltb, eqb}
use borrow.Author.Tests.{eq-eqb, ne_eqb, lt-ltb, le-ltb, eqb-true, eqb-false}
use lib.ListN.{length, take, drop, get_or, set, length-append, length-drop, length-set}
use lib.Seq.{get_or-drop, get_or-set_same, get_or-set_other, drop-drop, take_all}
use Rattle.model.specs.declared.Limits.{Limits}
use Rattle.model.specs.declared.Fault.TheVariants.{Kind, Event, Clock}
use Rattle.model.specs.Limits.{limits, stored_report, slot_size, store_size}
use Rattle.model.specs.Computation as computation
use Rattle.model.specs.Computation.{Computation, stations, count, event_count, clock_ok, clock, report}
use Rattle.model.specs.Reading.{Reading, report_size, report_of, unsent, check, station_of, event_of, event_form, extended, with_event, admit, admit_event, go}
use Rattle.codec.specs.Limits.{NoLarger}
use Rattle.codec.proofs.Snoc.{empty-list}
use Rattle.codec.proofs.Accepted.{event-true}
use Rattle.lattice.proofs.Reports.{report-size}
use Rattle.cells.specs.Put.{put_of}
use Rattle.lattice.proofs.Histories.{event_count-extended, count_same, count-other, report_old, report-new, clock_old, clock-new}
use Rattle.table.specs.Table.{slot, report_bytes, Stored}
use Rattle.table.proofs.Parts.{part_same, part_other}
use Rattle.table.proofs.Messages.{none-posted}
use Rattle.table.proofs.Slots.{apart, report-at, clock-at, same_report, same_clock, report_back, clock_back, length-report}
use Rattle.frame.specs.declared.State.{State}
use Rattle.frame.specs.State.{is_open, after_event, Bounded, Represents, Goes, Admitted, Faulty}
use Rattle.frame.proofs.Steps.{kind-event, kind-front, opens}

-- FAULTS

-- what the code's test of the form says: n stations, w bytes of a report
module _ (p : Bool) (n w : ℕ) (is : w ≡ report_size p) (f : List ℕ) (some_bytes : 1 ≤ length f) where
  pub wrong_length : (length f ≡ w + 2 + n → ⊥) → false ≡ event_form p n (drop 1 f)
  unfolding event_form
  wrong_length e = sym (rw (ne_eqb (length (drop 1 f)) (1 + report_size p + n) (λ z. e (omega (arith, length-drop 1 f)))))

  pub by_station : length f ≡ w + 2 + n → (j : ℕ) → j ≡ get_or f 1 0 → ltb j n ≡ event_form p n (drop 1 f)
  unfolding event_form
  by_station e j k = sym (rw (eq-eqb (length (drop 1 f)) (1 + report_size p + n) (omega (arith, length-drop 1 f)), get_or-drop 1 f 0 0, ← k))

-- a form that is right
pub form_there : (p : Bool) (n : ℕ) (f : List ℕ) → event_form p n (drop 1 f) ≡ true → (length f ≡ report_size p + 2 + n) × (get_or f 1 0 < n)
form_there p n f e =
    let x = event-true p n (drop 1 f) e in
    (omega (arith, length-drop 1 f, report-size p), rw (get_or-drop 1 f 0 0) at x.1)

-- the clock in the frame
abbrev pub clock_in : State → List ℕ → List ℕ
clock_in s f = drop (report_size s.panelled + 2) f

-- the event that the definition reads
module _ (s : State) (f : List ℕ) (formed : event_form s.panelled s.stations (drop 1 f) ≡ true) where
  pub clock-long : length (clock_in s f) ≡ s.stations
  clock-long = omega (arith, form_there s.panelled s.stations f formed, length-drop (report_size s.panelled + 2) f)

  clock_same : (r : Reading) → s.panelled ≡ r.panelled → (event_of r.panelled (drop 1 f)).clock ≡ clock_in s f
  clock_same r e =
      let i : 1 + (1 + report_size r.panelled) ≡ report_size s.panelled + 2 = omega (arith, ap report_size e) in
      drop-drop (1 + report_size r.panelled) 1 f ∙ ap (λ (i : ℕ). drop i f) i

  report_same : (r : Reading) → s.panelled ≡ r.panelled → report_of s.panelled (drop 2 f) ≡ (event_of r.panelled (drop 1 f)).report
  report_same r e = ap₂ report_of e (sym (drop-drop 1 1 f))

  -- what the code's test of the clock says
  pub tested : {t : List ℕ} (x : Bool) → ((K : Computation) → Stored K s.stations s.counts t → x ≡ clock_ok K (get_or f 1 0) (clock_in s f))
      → (r : Reading) → Represents r s t → clock_ok r.computation (station_of (drop 1 f)) (event_of r.panelled (drop 1 f)).clock ≡ x
  tested x e r h = rw (get_or-drop 1 f 0 0, clock_same r h.panelled) (sym (e r.computation h.stored))

module _ (m : Limits) {s : State} (f t : List ℕ) (some_bytes : 1 ≤ length f) (kind : get_or f 0 0 ≡ 0x20) where
  pub closed : is_open s ≡ false → Faulty m s f t Kind t
  unfolding admit_event check
  closed e = record { is = λ r h. kind-event m r f some_bytes kind ∙ rw (opens h, e); kept = refl }

  pub after_message : (s.messages ≡ 0 → ⊥) → Faulty m s f t Kind t
  unfolding admit_event check unsent
  after_message e = record { is = λ r h. kind-event m r f some_bytes kind ∙ rw (← h.messages, ne_eqb s.messages 0 e) (simp and-false); kept = refl }

  pub full : m.events ≤ s.events → Faulty m s f t Kind t
  unfolding admit_event check
  full e = record { is = λ r h. kind-event m r f some_bytes kind ∙ rw (← h.events, le-ltb s.events m.events e) (simp and-false); kept = refl }

  -- the frame is in place
  module _ (opened : is_open s ≡ true) (none : s.messages ≡ 0) (room : s.events < m.events) where
    placed : (r : Reading) → Represents r s t
        → admit m r f ≡ check 6 (event_form s.panelled s.stations (drop 1 f)) (check 7 (clock_ok r.computation (station_of (drop 1 f)) (event_of r.panelled (drop 1 f)).clock) (go (with_event r (drop 1 f))))
    unfolding admit_event check unsent
    placed r h = kind-event m r f some_bytes kind ∙ rw (opens h, opened, ← h.messages, none, ← h.events, lt-ltb s.events m.events room, h.stored.size, ← h.panelled)

    pub misshapen : event_form s.panelled s.stations (drop 1 f) ≡ false → Faulty m s f t Event t
    unfolding check
    misshapen e = record { is = λ r h. placed r h ∙ rw e; kept = refl }

    pub clock-wrong : event_form s.panelled s.stations (drop 1 f) ≡ true → ((K : Computation) → Stored K s.stations s.counts t → false ≡ clock_ok K (get_or f 1 0) (clock_in s f)) → Faulty m s f t Clock t
    unfolding check
    clock-wrong l e = record { is = λ r h. placed r h ∙ rw (l, tested s f l false e r h); kept = refl }

-- THE TABLE WITH ONE MORE EVENT: bytes are its report and its clock
module _ {K : Computation} {n : ℕ} {counts t : List ℕ} (g : Stored K n counts t) (sized : length K.events ≡ stations K) (few : n ≤ limits.stations) (eight : length counts ≡ limits.stations) (long : length t ≡ store_size)
    (s : ℕ) (there : s < n) (low : (j : ℕ) → get_or counts j 0 < limits.events) (e : computation.Event) (bytes : List ℕ) (wide : length bytes ≡ stored_report + n)
    (reports : report_of true bytes ≡ e.report) (clocked : drop stored_report bytes ≡ e.clock) where
  now : Computation
  now = extended K s e

  in_events : s < length K.events
  in_events = omega (arith, g.size)

  new-place : ℕ
  new-place = slot s (get_or counts s 0 + 1)

  grown : List ℕ
  grown = put_of t new-place bytes

  each_more : (j : ℕ) → get_or (set counts s (get_or counts s 0 + 1)) j 0 ≡ count now j
  unfolding now
  each_more j = case (eqb j s) refl where
    case : (b : Bool) → eqb j s ≡ b → get_or (set counts s (get_or counts s 0 + 1)) j 0 ≡ count (extended K s e) j
    case true q =
        let z : j ≡ s = eqb-true j s q in
        rw (z, get_or-set_same counts s (get_or counts s 0 + 1) 0 (omega arith), count_same K s e in_events) (omega (arith, g.each s))
    case false q =
        let z : j ≡ s → ⊥ = eqb-false j s q in
        rw (get_or-set_other counts s j (get_or counts s 0 + 1) 0 z, count-other K s e j z) (g.each j)

  -- the new event's slot
  new-slot : take (stored_report + n) (drop new-place grown) ≡ bytes
  unfolding grown new-place
  new-slot = part_same t bytes (slot s (get_or counts s 0 + 1)) (omega (arith, low s)) (stored_report + n) wide

  -- every other
  old_slot : (j k : ℕ) → j < n → k ≤ limits.events → ((j ≡ s) × (k ≡ get_or counts s 0 + 1) → ⊥) → take slot_size (drop (slot j k) grown) ≡ take slot_size (drop (slot j k) t)
  unfolding grown new-place
  old_slot j k l m x =
      part_other t bytes (slot s (get_or counts s 0 + 1)) (omega (arith, low s)) (slot j k) slot_size (omega arith)
      (⊎_elim (λ z. inl z) (λ z. inr (omega arith)) (apart j k s (get_or counts s 0 + 1) m (omega (arith, low s)) x))

  new-report : report_of true (drop new-place grown) ≡ report now s (suc (count K s))
  unfolding now
  new-report = report-at n new-place grown bytes new-slot ∙ reports ∙ sym (report-new K s e in_events)

  new-clock : take n (drop (new-place + stored_report) grown) ≡ clock now s (suc (count K s))
  unfolding now
  new-clock =
      clock-at n new-place grown bytes new-slot n (omega arith) ∙ take_all n (drop stored_report bytes) (omega (arith, length-drop stored_report bytes))
      ∙ clocked ∙ sym (clock-new K s e in_events)

  module _ (j k : ℕ) (l : j < n) (m : k ≤ count K j) where
    apart_from : (j ≡ s) × (k ≡ get_or counts s 0 + 1) → ⊥
    apart_from x = let e : count K j ≡ count K s = ap (count K) x.0 in omega (arith, x.1, g.each s)

    kept : take slot_size (drop (slot j k) grown) ≡ take slot_size (drop (slot j k) t)
    kept = old_slot j k l (omega (arith, low j, g.each j)) apart_from

    old_report : report_of true (drop (slot j k) grown) ≡ report now j k
    unfolding now
    old_report = same_report (slot j k) t grown kept ∙ g.table.reports j k (rw g.size l) m ∙ sym (report_old K s e in_events j k m)

    old_clock : take n (drop (slot j k + stored_report) grown) ≡ clock now j k
    unfolding now
    old_clock =
        same_clock (slot j k) t grown kept n few
        ∙ rw g.size at (g.table.clocks j k (rw g.size l) m) ∙ sym (clock_old K s e in_events j k m)

  -- the last event of s is the new one; every other event was there
  slots : (j k : ℕ) → j < n → k ≤ count now j → (report_of true (drop (slot j k) grown) ≡ report now j k) × (take n (drop (slot j k + stored_report) grown) ≡ clock now j k)
  unfolding now new-place
  slots j k l m = case (eqb j s) refl (eqb k (suc (count K s))) refl where
    case : (a : Bool) → eqb j s ≡ a → (b : Bool) → eqb k (suc (count K s)) ≡ b → (report_of true (drop (slot j k) grown) ≡ report now j k) × (take n (drop (slot j k + stored_report) grown) ≡ clock now j k)
    case true p true q =
        let x : j ≡ s = eqb-true j s p in
        let y : k ≡ suc (count K s) = eqb-true k (suc (count K s)) q in
        let z : suc (count K s) ≡ get_or counts s 0 + 1 = omega (arith, g.each s) in
        rw (x, y) (rw (← z) at new-report, rw (← z) at new-clock)
    case true p false q =
        let x : j ≡ s = eqb-true j s p in
        let u : count now j ≡ suc (count K s) = ap (count now) x ∙ count_same K s e in_events in
        let v : count K j ≡ count K s = ap (count K) x in
        let w : k ≤ count K j = omega (arith, eqb-false k (suc (count K s)) q) in
        (old_report j k l w, old_clock j k l w)
    case false p b q =
        let u : count now j ≡ count K j = count-other K s e j (eqb-false j s p) in
        let w : k ≤ count K j = omega arith in
        (old_report j k l w, old_clock j k l w)

  pub stored_more : Stored (extended K s e) n (set counts s (get_or counts s 0 + 1)) (put_of t (slot s (get_or counts s 0 + 1)) bytes)
  unfolding now grown new-place extended
  stored_more = record {
    size = g.size;
    each = each_more;
    table = record { reports = λ j k l m. (slots j k (rw g.size at l) m).0; clocks = λ j k l m. rw g.size (slots j k (rw g.size at l) m).1 };
  }

-- THE STEP

module _ {m : Limits} (up : NoLarger m limits) {s : State} (b : Bounded m s) (j : ℕ) (there : j < s.stations) (room : s.events < m.events) where
  bounded-more : Bounded m (after_event s j)
  bounded-more = record {
    few_stations = b.few_stations;
    few_events = omega arith;
    few_messages = b.few_messages;
    few_questions = b.few_questions;
    eight = length-set s.counts j (get_or s.counts j 0 + 1) ∙ b.eight;
    each = λ i. case i (eqb i j) refl;
  } where
    case : (i : ℕ) (x : Bool) → eqb i j ≡ x → get_or (set s.counts j (get_or s.counts j 0 + 1)) i 0 ≤ s.events + 1
    case i true q =
        let z : i ≡ j = eqb-true i j q in
        rw (z, get_or-set_same s.counts j (get_or s.counts j 0 + 1) 0 (omega (arith, b.eight, b.few_stations, up.stations))) (omega (arith, b.each j))
    case i false q = rw (get_or-set_other s.counts j i (get_or s.counts j 0 + 1) 0 (eqb-false i j q)) (omega (arith, b.each i))

  module _ (f t : List ℕ) (some_bytes : 1 ≤ length f) (kind : get_or f 0 0 ≡ 0x20) (opened : is_open s ≡ true) (none : s.messages ≡ 0) (formed : event_form s.panelled s.stations (drop 1 f) ≡ true) (is : j ≡ get_or f 1 0)
      (long : length t ≡ store_size) (ok : (K : Computation) → Stored K s.stations s.counts t → true ≡ clock_ok K (get_or f 1 0) (clock_in s f)) where
    goes : (r : Reading) → Represents r s t → Goes m r f (after_event s j) (put_of t (slot j (get_or s.counts j 0 + 1)) (report_bytes s.panelled (drop 2 f) ++ clock_in s f))
    unfolding check extended
    goes r h =
        let x = event_of r.panelled (drop 1 f) in
        let i : j < length r.computation.events = omega (arith, h.sizes, h.stored.size) in
        let same : station_of (drop 1 f) ≡ j = get_or-drop 1 f 0 0 ∙ sym is in
        record {
          after = with_event r (drop 1 f);
          step = placed m f t some_bytes kind opened none room r h ∙ rw (formed, tested s f formed true ok r h);
          frames = ap (λ (x : List ℕ). r.frames ++ (x ∷ [])) (kind-front f 0x20 some_bytes kind);
          holds = rw same (record {
            panelled = h.panelled;
            stored = stored_more h.stored h.sizes (le_trans b.few_stations up.stations) b.eight long j there (λ i. omega (arith, b.each i, up.events)) x (report_bytes s.panelled (drop 2 f) ++ clock_in s f)
                (length-append (report_bytes s.panelled (drop 2 f)) (clock_in s f) ∙ omega (arith, length-report s.panelled (drop 2 f), clock-long s f formed))
                (report_back s.panelled (drop 2 f) (clock_in s f) ∙ report_same s f formed r h.panelled)
                (clock_back s.panelled (drop 2 f) (clock_in s f) ∙ sym (clock_same s f formed r h.panelled));
            posted = none-posted _ (empty-list r.computation.messages (omega (arith, h.messages)));
            sizes = length-set r.computation.events j _ ∙ h.sizes;
            events = ap (λ (x : ℕ). x + 1) h.events ∙ omega (arith, event_count-extended r.computation j x i);
            messages = h.messages;
            questions = h.questions;
          });
        }

    -- the frame is admitted
    pub event_next : Admitted m s f t (after_event s j) (put_of t (slot j (get_or s.counts j 0 + 1)) (report_bytes s.panelled (drop 2 f) ++ clock_in s f))
    event_next = record { bounded = bounded-more; goes = goes }
