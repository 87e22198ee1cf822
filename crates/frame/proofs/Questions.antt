-- Laws of the question frame: its faults in their order, and the state with one more question. Assumes nothing.
use mathlib.Core.Path.{◌≡◌, refl, sym, ap, ◌∙◌}
use mathlib.Core.Bool.{Bool, true, false, and-false}
use mathlib.Core.List.{List, [], ◌∷◌, ◌++◌}
use mathlib.Core.Option.{Option, none, some}
use Prim.Native.Nat.{ℕ, ◌<◌, ◌≤◌}
use native.Mathlib.Omega.{arith}
use lib.ListN.{length, get_or, drop, length-append}
use Rattle.model.specs.declared.Limits.{Limits}
use Rattle.model.specs.declared.Fault.{Fault}
use Rattle.model.specs.declared.Fault.TheVariants.{Kind}
use Rattle.model.specs.Reply.{number}
use Rattle.model.specs.Formula.{Formula, formula_of, sound}
use Rattle.model.specs.Rules.{as_true, workable}
use Rattle.model.specs.Size.{fits}
use Rattle.model.specs.Computation.{stations}
use Rattle.model.specs.Reading.{Reading, with_question, check, asked, admit, admit_question, go, fault}
use Rattle.query.specs.Judged.{judged, fault_of}
use Rattle.frame.specs.declared.State.{State}
use Rattle.frame.specs.State.{after_question, Bounded, Represents, Goes, Admitted, Faulty}
use Rattle.frame.proofs.Steps.{kind-question, kind-front, begun-not, begun_yes, questions-full, questions-room}

-- WHAT IS ASKED

record Asks (r : Reading) (q : List ℕ) (o : Option Formula) : Type 0 where
  pub formula : Formula
  pub step : asked r q o ≡ go (with_question r q formula)

module _ (r : Reading) (q : List ℕ) where
  asked-wrong : (o : Option Formula) (k : ℕ) → fault_of (judged (stations r.computation) o) ≡ some k → asked r q o ≡ fault k
  unfolding asked judged check
  asked-wrong none k e = ap fault (cc)
  asked-wrong (some φ) k e = case (sound (stations r.computation) φ) refl (fits φ) refl (workable (as_true φ)) refl where
    case : (a : Bool) → sound (stations r.computation) φ ≡ a → (b : Bool) → fits φ ≡ b → (c : Bool) → workable (as_true φ) ≡ c → asked r q (some φ) ≡ fault k
    case true x true y true z = let u : ◌≡◌ {A = Option ℕ} none (some k) = sym (rw (x, y, z)) ∙ e in let w : ◌≡◌ {A = ℕ} 0 1 = cc in absurd (omega arith)
    case true x true y false z = let u : ◌≡◌ {A = Option ℕ} (some 16) (some k) = sym (rw (x, y, z)) ∙ e in rw (x, y, z) (ap fault (cc))
    case true x false y c z = let u : ◌≡◌ {A = Option ℕ} (some 9) (some k) = sym (rw (x, y)) ∙ e in rw (x, y) (ap fault (cc))
    case false x b y c z = let u : ◌≡◌ {A = Option ℕ} (some 8) (some k) = sym (rw x) ∙ e in rw x (ap fault (cc))

  asked-right : (o : Option Formula) → fault_of (judged (stations r.computation) o) ≡ none → Asks r q o
  unfolding asked judged check
  asked-right none e = let w : ◌≡◌ {A = ℕ} 0 1 = cc in absurd (omega arith)
  asked-right (some φ) e = record { formula = φ; step = case (sound (stations r.computation) φ) refl (fits φ) refl (workable (as_true φ)) refl } where
    case : (a : Bool) → sound (stations r.computation) φ ≡ a → (b : Bool) → fits φ ≡ b → (c : Bool) → workable (as_true φ) ≡ c → asked r q (some φ) ≡ go (with_question r q φ)
    case true x true y true z = rw (x, y, z)
    case true x true y false z = let u : ◌≡◌ {A = Option ℕ} (some 16) none = sym (rw (x, y, z)) ∙ e in let w : ◌≡◌ {A = ℕ} 0 1 = cc in absurd (omega arith)
    case true x false y c z = let u : ◌≡◌ {A = Option ℕ} (some 9) none = sym (rw (x, y)) ∙ e in let w : ◌≡◌ {A = ℕ} 0 1 = cc in absurd (omega arith)
    case false x b y c z = let u : ◌≡◌ {A = Option ℕ} (some 8) none = sym (rw x) ∙ e in let w : ◌≡◌ {A = ℕ} 0 1 = cc in absurd (omega arith)

-- FAULTS

module _ (m : Limits) {s : State} (f t : List ℕ) (some_bytes : 1 ≤ length f) (kind : get_or f 0 0 ≡ 0x30) where
  pub before_header : s.stations ≡ 0 → Faulty m s f t Kind t
  unfolding admit_question check
  before_header e = record { is = λ r h. kind-question m r f some_bytes kind ∙ rw (begun-not h e); kept = refl }

  pub too_many : m.questions ≤ s.questions → Faulty m s f t Kind t
  unfolding admit_question check
  too_many e = record { is = λ r h. kind-question m r f some_bytes kind ∙ rw (questions-full h m e) (simp and-false); kept = refl }

  -- the frame is in place
  module _ (begun : s.stations ≡ 0 → ⊥) (room : s.questions < m.questions) where
    placed : (r : Reading) → Represents r s t → admit m r f ≡ asked r (drop 1 f) (formula_of (drop 1 f))
    unfolding admit_question check
    placed r h = kind-question m r f some_bytes kind ∙ rw (begun_yes h begun, questions-room h m room)

    pub wrong : (x : Fault) → fault_of (judged s.stations (formula_of (drop 1 f))) ≡ some (number x) → Faulty m s f t x t
    wrong x e = record { is = λ r h. placed r h ∙ asked-wrong r (drop 1 f) (formula_of (drop 1 f)) (number x) (rw h.stored.size e); kept = refl }

    goes : fault_of (judged s.stations (formula_of (drop 1 f))) ≡ none → (r : Reading) → Represents r s t → Goes m r f (after_question s) t
    goes e r h =
        let k : Asks r (drop 1 f) (formula_of (drop 1 f)) = asked-right r (drop 1 f) (formula_of (drop 1 f)) (rw h.stored.size e) in
        record {
          after = with_question r (drop 1 f) k.formula;
          step = placed r h ∙ k.step;
          frames = ap (λ (x : List ℕ). r.frames ++ (x ∷ [])) (kind-front f 0x30 some_bytes kind);
          holds = record {
            panelled = h.panelled;
            stored = h.stored;
            posted = h.posted;
            sizes = h.sizes;
            events = h.events;
            messages = h.messages;
            questions = omega (arith, h.questions, length-append r.questions (k.formula ∷ []));
          };
        }

    pub question_next : Bounded m s → fault_of (judged s.stations (formula_of (drop 1 f))) ≡ none → Admitted m s f t (after_question s) t
    question_next b e = record {
      bounded = record { few_stations = b.few_stations; few_events = b.few_events; few_messages = b.few_messages; few_questions = omega arith; eight = b.eight; each = b.each };
      goes = goes e;
    }
