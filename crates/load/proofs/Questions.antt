-- Where the questions of a loaded log stand in its frame list: from `first_question` on, one after another. Assumes nothing.
use mathlib.Core.Path.{◌≡◌, ap, ◌∙◌}
use mathlib.Core.List.{List, [], ◌∷◌}
use Prim.Native.Nat.{ℕ, suc, ◌+◌, ◌<◌}
use native.Mathlib.Omega.{arith}
use lib.ListN.{length, get_or}
use Rattle.model.specs.declared.Limits.{Limits}
use Rattle.model.specs.Computation.{event_count}
use Rattle.codec.proofs.QuestionFrames.{question_frames}
use Rattle.codec.proofs.Readings.{IsAccepted, log-accepted, question-stands}
use Rattle.frame.specs.declared.State.{State}
use Rattle.frame.specs.State.{first_question}
use Rattle.load.specs.Loading.{Accepts}

module _ {m : Limits} {log : List ℕ} {s : State} {k : ℕ} {list t : List ℕ} (a : Accepts m log s k list t) where
  pub good : IsAccepted m a.reading
  good = log-accepted m log a.reading a.is

  pub question-frame : (q : ℕ) → q < s.questions
      → (first_question s + q < length a.reading.frames) × (get_or a.reading.frames (first_question s + q) [] ≡ 0x30 ∷ get_or (question_frames a.reading.frames) q [])
  question-frame q h =
      let inside : q < length a.reading.questions = omega (arith, a.holds.questions) in
      let place : first_question s + q ≡ suc (event_count a.reading.computation + length a.reading.computation.messages) + q = omega (arith, a.holds.events, a.holds.messages) in
      (omega (arith, good.lawful.counted good.begun, place), ap (λ (i : ℕ). get_or a.reading.frames i []) place ∙ question-stands good q inside)
