-- Laws of one frame's step: the kind decides, a fault moves nothing, and what a state says of the place. Assumes nothing.
use mathlib.Core.Path.{◌≡◌, refl, sym, ap}
use mathlib.Core.Bool.{Bool, true, false, ◌&&◌}
use mathlib.Core.List.{List, [], ◌∷◌}
use Prim.Native.Nat.{ℕ, ◌<◌, ◌≤◌}
use native.Mathlib.Nat.{le_trans}
use native.Mathlib.Omega.{arith}
use lib.Dec.{ltb}
use borrow.Author.Tests.{eq-eqb, ne_eqb, lt-ltb, le-ltb}
use lib.ListN.{length, get_or, drop}
use Rattle.model.specs.declared.Limits.{Limits}
use Rattle.model.specs.declared.Kind.{Kind}
use Rattle.model.specs.declared.Kind.TheVariants.{Header, Event, Message, Question}
use Rattle.model.specs.Codes.{kind_byte}
use Rattle.model.specs.Computation.{stations}
use Rattle.model.specs.Reading.{Reading, header_kind, begun, unasked, admit, admit_header, admit_event, admit_message, admit_question, fault}
use Rattle.frame.specs.declared.State.{State}
use Rattle.codec.specs.Limits.{NoLarger}
use Rattle.frame.specs.State.{is_open, Bounded, Represents}

-- THE KIND
module _ (m : Limits) (r : Reading) where
  pub kind_header : (p : Bool) (f : List ℕ) → 1 ≤ length f → get_or f 0 0 ≡ header_kind p → admit m r f ≡ admit_header m p r (drop 1 f)
  unfolding admit header_kind
  kind_header p [] l e = absurd (omega arith)
  kind_header false (k ∷ f) l e = rw (eq-eqb k 0x10 e)
  kind_header true (k ∷ f) l e = rw (ne_eqb k 0x10 (omega arith), eq-eqb k 0x11 e)

  pub kind-event : (f : List ℕ) → 1 ≤ length f → get_or f 0 0 ≡ 0x20 → admit m r f ≡ admit_event m r (drop 1 f)
  unfolding admit
  kind-event [] l e = absurd (omega arith)
  kind-event (k ∷ f) l e = rw (ne_eqb k 0x10 (omega arith), ne_eqb k 0x11 (omega arith), eq-eqb k 0x20 e)

  pub kind_message : (f : List ℕ) → 1 ≤ length f → get_or f 0 0 ≡ 0x25 → admit m r f ≡ admit_message m r (drop 1 f)
  unfolding admit
  kind_message [] l e = absurd (omega arith)
  kind_message (k ∷ f) l e = rw (ne_eqb k 0x10 (omega arith), ne_eqb k 0x11 (omega arith), ne_eqb k 0x20 (omega arith), eq-eqb k 0x25 e)

  pub kind-question : (f : List ℕ) → 1 ≤ length f → get_or f 0 0 ≡ 0x30 → admit m r f ≡ admit_question m r (drop 1 f)
  unfolding admit
  kind-question [] l e = absurd (omega arith)
  kind-question (k ∷ f) l e = rw (ne_eqb k 0x10 (omega arith), ne_eqb k 0x11 (omega arith), ne_eqb k 0x20 (omega arith), ne_eqb k 0x25 (omega arith), eq-eqb k 0x30 e)

  pub kind_unknown : (f : List ℕ) → ((kind : Kind) → kind_byte kind ≡ get_or f 0 0 → ⊥) → admit m r f ≡ fault 4
  unfolding admit header_kind
  kind_unknown [] none = refl
  kind_unknown (k ∷ f) none = rw (ne_eqb k 0x10 (λ e. none (Header false) (sym e)), ne_eqb k 0x11 (λ e. none (Header true) (sym e)), ne_eqb k 0x20 (λ e. none Event (sym e)), ne_eqb k 0x25 (λ e. none Message (sym e)), ne_eqb k 0x30 (λ e. none Question (sym e)))

-- a frame is its kind and what follows
pub kind-front : (f : List ℕ) (k : ℕ) → 1 ≤ length f → get_or f 0 0 ≡ k → k ∷ drop 1 f ≡ f
kind-front [] k l e = absurd (omega arith)
kind-front (x ∷ f) k l e = ap (λ (y : ℕ). y ∷ f) (sym e)

-- THE PLACE
module _ {r : Reading} {s : State} {t : List ℕ} (h : Represents r s t) where
  pub begun-not : s.stations ≡ 0 → begun r ≡ false
  unfolding begun
  begun-not e = le-ltb 0 (stations r.computation) (omega (arith, h.stored.size))

  pub begun_yes : (s.stations ≡ 0 → ⊥) → begun r ≡ true
  unfolding begun
  begun_yes e = lt-ltb 0 (stations r.computation) (omega (arith, h.stored.size))

  pub opens : (begun r && unasked r) ≡ is_open s
  unfolding begun unasked
  opens = rw (h.stored.size, h.questions)

  module _ (m : Limits) where
    pub questions-full : m.questions ≤ s.questions → ltb (length r.questions) m.questions ≡ false
    questions-full e = le-ltb (length r.questions) m.questions (omega (arith, h.questions))

    pub questions-room : s.questions < m.questions → ltb (length r.questions) m.questions ≡ true
    questions-room e = lt-ltb (length r.questions) m.questions (omega (arith, h.questions))

-- what keeps some limits keeps larger ones
pub bounded_up : {m m' : Limits} {s : State} → NoLarger m m' → Bounded m s → Bounded m' s
bounded_up up b = record {
  few_stations = le_trans b.few_stations up.stations;
  few_events = le_trans b.few_events up.events;
  few_messages = le_trans b.few_messages up.messages;
  few_questions = le_trans b.few_questions up.questions;
  eight = b.eight;
  each = b.each;
}
