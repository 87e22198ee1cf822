-- What Answer comes to, refusal by refusal; demand 3 follows from the equality with the definition.
use mathlib.Core.Path.{◌≡◌, sym, ap, ◌∙◌}
use mathlib.Core.Bool.{Bool, true, false, cond}
use mathlib.Core.List.{List, [], ◌∷◌, ◌++◌}
use Prim.Native.Nat.{ℕ, ◌≤◌, ◌<◌}
use native.Mathlib.Omega.{arith}
use lib.ListN.{length, take, drop}
use lib.Dec.{ltb}
use lib.Seq.{take_at}
use borrow.Author.Tests.{lt-ltb, le-ltb}
use Rattle.model.specs.Limits.{limits, line_size}
use Rattle.model.specs.Formula.{Formula}
use Rattle.model.specs.Computation.{Computation}
use Rattle.model.specs.Answer.{answer, answer_line}
use Rattle.model.specs.Reply.{Reply, gives, refuses}
use Rattle.model.specs.Operations.{Effect, refuse, write, Kept, shut, poses, opening, cramped, line_effect, answer_effect, answer_op}
use Rattle.model.specs.Promise.{Asked, Answered}
use Rattle.line.specs.AtFront.{AtFront}
use Rattle.codec.proofs.Suited.{suitable}
use Rattle.codec.proofs.Demands.{asked-opens, asked-answered}
use Rattle.opening.proofs.Room.{kept}

module _ (log : List ℕ) (q ws bs : ℕ) (out : List ℕ) where
  -- Demand 3.
  promised : (reply : Reply) (out' : List ℕ) → reply ≡ (answer_op limits log q ws bs out).reply → out' ≡ (answer_op limits log q ws bs out).output
      → (K : Computation) (f : Formula) → Asked limits log q K f → (m : ℕ) → reply ≡ gives (m ∷ []) → Answered K f (take m out')
  unfolding answer_op answer_effect line_effect
  promised reply out' e o K f a m g = by (cramped K f ws bs) (ltb (length out) line_size) (rw (asked-opens suitable a))
    where
      l : List ℕ
      l = answer_line (answer K f)

      by : (b d : Bool) → answer_op limits log q ws bs out ≡ cond b (refuse 11 0 out) (cond d (refuse 12 0 out) (write (length l ∷ []) l out)) → Answered K f (take m out')
      by true d x =
          let w : reply ≡ refuses 11 0 = e ∙ ap (λ (y : Effect). y.reply) x in
          let z : ◌≡◌ {A = ℕ} 0 1 = cc in
          absurd (omega arith)
      by false true x =
          let w : reply ≡ refuses 12 0 = e ∙ ap (λ (y : Effect). y.reply) x in
          let z : ◌≡◌ {A = ℕ} 0 1 = cc in
          absurd (omega arith)
      by false false x =
          let w : reply ≡ gives (length l ∷ []) = e ∙ ap (λ (y : Effect). y.reply) x in
          let v : out' ≡ l ++ drop (length l) out = o ∙ ap (λ (y : Effect). y.output) x in
          let size : length l ≡ m = cc in
          let part : take m out' ≡ l = ap (take m) v ∙ take_at l (drop (length l) out) m size in
          rw part (asked-answered suitable a)

  -- The refusals in their order, and the line.

  pub answer-shut : (k n : ℕ) → opening limits log q ≡ shut k n → answer_op limits log q ws bs out ≡ refuse k n out
  unfolding answer_op answer_effect
  answer-shut k n e = rw e

  module _ (K : Computation) (f : Formula) (e : opening limits log q ≡ poses K f) where
    pub answer-cramped : cramped K f ws bs ≡ true → answer_op limits log q ws bs out ≡ refuse 11 0 out
    unfolding answer_op answer_effect
    answer-cramped h = rw (e, h)

    pub answer-short : cramped K f ws bs ≡ false → length out < line_size → answer_op limits log q ws bs out ≡ refuse 12 0 out
    unfolding answer_op answer_effect line_effect
    answer-short h o = rw (e, h, lt-ltb (length out) line_size o)

    pub answer-line : cramped K f ws bs ≡ false → line_size ≤ length out → answer_op limits log q ws bs out ≡ write (length (answer_line (answer K f)) ∷ []) (answer_line (answer K f)) out
    unfolding answer_op answer_effect line_effect
    answer-line h o = rw (e, h, le-ltb (length out) line_size o)

-- All that is promised of Answer: its reply, the output, workspace and bar space, and demand 3. (Where a line was written, nothing is promised of the last two.)
abbrev pub Met : List ℕ → ℕ → List ℕ → List ℕ → List ℕ → Reply → List ℕ → List ℕ → List ℕ → Type 0
Met log q ws bs out reply ws' bs' out' =
    (reply ≡ (answer_op limits log q (length ws) (length bs) out).reply)
    × ((out' ≡ (answer_op limits log q (length ws) (length bs) out).output)
    × ((Kept reply ws ws' × Kept reply bs bs')
    × ((K : Computation) (f : Formula) → Asked limits log q K f → (m : ℕ) → reply ≡ gives (m ∷ []) → Answered K f (take m out'))))

module _ (log : List ℕ) (q : ℕ) (ws bs out : List ℕ) where
  pub met_refused : (reply : Reply) (k n : ℕ) → reply ≡ refuses k n → answer_op limits log q (length ws) (length bs) out ≡ refuse k n out → Met log q ws bs out reply ws bs out
  met_refused reply k n r e =
      let p : reply ≡ (answer_op limits log q (length ws) (length bs) out).reply = r ∙ ap (λ (y : Effect). y.reply) (sym e) in
      let o : out ≡ (answer_op limits log q (length ws) (length bs) out).output = ap (λ (y : Effect). y.output) (sym e) in
      (p, (o, ((kept reply ws, kept reply bs), promised log q (length ws) (length bs) out reply out p o)))

  pub met_written : (l : List ℕ) → answer_op limits log q (length ws) (length bs) out ≡ write (length l ∷ []) l out
      → (size : ℕ) (out' : List ℕ) → AtFront l size out out' → Met log q ws bs out (gives (size ∷ [])) ws bs out'
  met_written l e size out' w =
      let p : gives (size ∷ []) ≡ (answer_op limits log q (length ws) (length bs) out).reply = ap (λ (i : ℕ). gives (i ∷ [])) w.size ∙ ap (λ (y : Effect). y.reply) (sym e) in
      let o : out' ≡ (answer_op limits log q (length ws) (length bs) out).output = w.front ∙ ap (λ (y : Effect). y.output) (sym e) in
      (p, (o, ((tt, tt), promised log q (length ws) (length bs) out (gives (size ∷ [])) out' p o)))
