-- Laws of the message frame: its faults in their order, and the state and the store with one more message. Assumes nothing.
use mathlib.Core.Path.{◌≡◌, refl, sym, ap, ◌∙◌}
use mathlib.Core.Bool.{true, false, ◌&&◌, and-false}
use mathlib.Core.Logic.{inl}
use mathlib.Core.List.{List, [], ◌∷◌, ◌++◌}
use mathlib.Core.Option.{some}
use Prim.Native.Nat.{ℕ, ◌+◌, ◌<◌, ◌≤◌}
use native.Mathlib.Omega.{arith}
use lib.Dec.{eqb}
use borrow.Author.Tests.{eq-eqb, ne_eqb, lt-ltb, le-ltb}
use lib.ListN.{length, take, drop, get_or, get_elem?}
use Rattle.model.specs.declared.Limits.{Limits}
use Rattle.model.specs.declared.Fault.TheVariants.{Kind, Message}
use Rattle.model.specs.Limits.{limits, stored_report, slot_size, message_size, store_size}
use Rattle.model.specs.Computation as computation
use Rattle.model.specs.Computation.{Computation, stations, count, message_ok, clock, report}
use Rattle.model.specs.Reading.{Reading, report_of, check, message_of, informed, with_message, admit, admit_message, go}
use Rattle.lattice.proofs.Lists.{some_below}
use Rattle.lattice.proofs.Clocks.{clock-informed}
use Rattle.codec.specs.Limits.{NoLarger}
use Rattle.codec.proofs.Snoc.{get_elem?-snoc}
use Rattle.codec.proofs.Messages.{messages-informed, message_more, report-informed}
use Rattle.cells.specs.Put.{put_of}
use Rattle.table.specs.Table.{slot, message_slot, message_bytes, Stored, Posted}
use Rattle.table.proofs.Parts.{part_same, part_other}
use Rattle.table.proofs.Slots.{same_report, same_clock}
use Rattle.frame.specs.declared.State.{State}
use Rattle.frame.specs.State.{is_open, after_message, Bounded, Represents, Goes, Admitted, Faulty}
use Rattle.frame.proofs.Steps.{kind_message, kind-front, opens}

-- FAULTS

module _ (m : Limits) {s : State} (f t : List ℕ) (some_bytes : 1 ≤ length f) (kind : get_or f 0 0 ≡ 0x25) where
  pub closed : is_open s ≡ false → Faulty m s f t Kind t
  unfolding admit_message check
  closed e = record { is = λ r h. kind_message m r f some_bytes kind ∙ rw (opens h, e); kept = refl }

  pub full : m.messages ≤ s.messages → Faulty m s f t Kind t
  unfolding admit_message check
  full e = record { is = λ r h. kind_message m r f some_bytes kind ∙ rw (← h.messages, le-ltb s.messages m.messages e) (simp and-false); kept = refl }

  -- the frame is in place
  module _ (opened : is_open s ≡ true) (room : s.messages < m.messages) where
    placed : (r : Reading) → Represents r s t → admit m r f ≡ check 15 (eqb (length (drop 1 f)) 4 && message_ok r.computation (message_of (drop 1 f))) (go (with_message r (drop 1 f)))
    unfolding admit_message check
    placed r h = kind_message m r f some_bytes kind ∙ rw (opens h, opened, ← h.messages, lt-ltb s.messages m.messages room)

    pub misshapen : (length (drop 1 f) ≡ message_size → ⊥) → Faulty m s f t Message t
    unfolding check
    misshapen e = record { is = λ r h. placed r h ∙ rw (ne_eqb (length (drop 1 f)) 4 e); kept = refl }

    pub wrong : ((K : Computation) → Stored K s.stations s.counts t → false ≡ message_ok K (message_of (drop 1 f))) → Faulty m s f t Message t
    unfolding check
    wrong e = record { is = λ r h. placed r h ∙ rw (← e r.computation h.stored) (simp and-false); kept = refl }

-- THE STORE WITH ONE MORE MESSAGE

-- A message's bytes are those that it was read from.
bytes_of : (l : List ℕ) → length l ≡ message_size → message_bytes (message_of l) ≡ l
bytes_of (a ∷ b ∷ c ∷ d ∷ []) h = refl
bytes_of [] h = absurd (omega arith)
bytes_of (a ∷ []) h = absurd (omega arith)
bytes_of (a ∷ b ∷ []) h = absurd (omega arith)
bytes_of (a ∷ b ∷ c ∷ []) h = absurd (omega arith)
bytes_of (a ∷ b ∷ c ∷ d ∷ e ∷ l) h = absurd (omega arith)

module _ {K : Computation} {n : ℕ} {counts t : List ℕ} (g : Stored K n counts t) (p : Posted K t) (few : n ≤ limits.stations) (low : (j : ℕ) → get_or counts j 0 ≤ limits.events) (long : length t ≡ store_size)
    (q : ℕ) (is : q ≡ length K.messages) (room : q < limits.messages) (bytes : List ℕ) (four : length bytes ≡ message_size) where
  after : List ℕ
  after = put_of t (message_slot q) bytes

  fits : message_slot q + length bytes ≤ length t
  fits = omega arith

  -- the event table lies before it
  old_slot : (j k : ℕ) → j < n → k ≤ count K j → take slot_size (drop (slot j k) after) ≡ take slot_size (drop (slot j k) t)
  unfolding after
  old_slot j k l h = part_other t bytes (message_slot q) fits (slot j k) slot_size (omega (arith, g.each j, low j)) (inl (omega (arith, g.each j, low j)))

  pub stored-still : Stored (informed K (message_of bytes)) n counts (put_of t (message_slot q) bytes)
  unfolding after informed
  stored-still = record {
    size = g.size;
    each = g.each;
    table = record { reports = λ j k l h. at-report j k (rw g.size at l) h; clocks = λ j k l h. at-clock j k (rw g.size at l) h };
  } where
    at-report : (j k : ℕ) → j < n → k ≤ count K j → report_of true (drop (slot j k) after) ≡ report (informed K (message_of bytes)) j k
    at-report j k l h =
        same_report (slot j k) t after (old_slot j k l h) ∙ g.table.reports j k (rw g.size l) h ∙ sym (report-informed K (message_of bytes) j k)

    at-clock : (j k : ℕ) → j < n → k ≤ count K j → take (stations K) (drop (slot j k + stored_report) after) ≡ clock (informed K (message_of bytes)) j k
    at-clock j k l h =
        same_clock (slot j k) t after (old_slot j k l h) (stations K) (rw g.size few)
        ∙ g.table.clocks j k (rw g.size l) h ∙ sym (clock-informed K (message_of bytes) j k)

  pub posted-more : Posted (informed K (message_of bytes)) (put_of t (message_slot q) bytes)
  posted-more = record { at = λ i x e. get_elem?-snoc (λ (j : ℕ) (y : computation.Message). take message_size (drop (message_slot j) (put_of t (message_slot q) bytes)) ≡ message_bytes y) K.messages (message_of bytes) old new i x (rw (messages-informed K (message_of bytes)) at e) }
    where
      new : take message_size (drop (message_slot (length K.messages)) (put_of t (message_slot q) bytes)) ≡ message_bytes (message_of bytes)
      new = rw (← is) (part_same t bytes (message_slot q) fits message_size four ∙ sym (bytes_of bytes four))

      old : (j : ℕ) (y : computation.Message) → get_elem? K.messages j ≡ some y → take message_size (drop (message_slot j) (put_of t (message_slot q) bytes)) ≡ message_bytes y
      old j y e = let l : j < q = omega (arith, is, some_below K.messages j y e) in
          part_other t bytes (message_slot q) fits (message_slot j) message_size (omega arith) (inl (omega arith)) ∙ p.at j y e

-- THE STEP

module _ {m : Limits} (up : NoLarger m limits) {s : State} (b : Bounded m s) (f t : List ℕ) (some_bytes : 1 ≤ length f) (kind : get_or f 0 0 ≡ 0x25) (opened : is_open s ≡ true) (room : s.messages < m.messages)
    (long : length t ≡ store_size) (l : length (drop 1 f) ≡ message_size) (ok : (K : Computation) → Stored K s.stations s.counts t → true ≡ message_ok K (message_of (drop 1 f))) where
  goes : (r : Reading) → Represents r s t → Goes m r f (after_message s) (put_of t (message_slot s.messages) (drop 1 f))
  unfolding check informed
  goes r h =
      let n : s.stations ≤ limits.stations = omega (arith, b.few_stations, up.stations) in
      let w : s.messages < limits.messages = omega (arith, up.messages) in
      let low : (j : ℕ) → get_or s.counts j 0 ≤ limits.events = λ j. omega (arith, b.each j, b.few_events, up.events) in
      record {
        after = with_message r (drop 1 f);
        step = placed m f t some_bytes kind opened room r h ∙ rw (eq-eqb (length (drop 1 f)) 4 l, ← ok r.computation h.stored);
        frames = ap (λ (x : List ℕ). r.frames ++ (x ∷ [])) (kind-front f 0x25 some_bytes kind);
        holds = record {
          panelled = h.panelled;
          stored = stored-still h.stored h.posted n low long s.messages h.messages w (drop 1 f) l;
          posted = posted-more h.stored h.posted n low long s.messages h.messages w (drop 1 f) l;
          sizes = h.sizes;
          events = h.events;
          messages = omega (arith, h.messages, message_more r.computation (message_of (drop 1 f)));
          questions = h.questions;
        };
      }

  pub message_next : Admitted m s f t (after_message s) (put_of t (message_slot s.messages) (drop 1 f))
  message_next = record {
    bounded = record { few_stations = b.few_stations; few_events = b.few_events; few_messages = omega arith; few_questions = b.few_questions; eight = b.eight; each = b.each };
    goes = goes;
  }
