-- What is asked of an accepted log is answered as promised: demands 2 and 3, of the definitions and of the operations over them.
use mathlib.Core.Path.{◌≡◌, refl, sym, ◌∙◌}
use Prim.Native.Nat.{ℕ, ◌≤◌}
use native.Mathlib.Omega.{arith}
use native.Mathlib.Nat.{le_trans}
use mathlib.Core.List.{List, [], ◌∷◌}
use mathlib.Core.Option.{Option, none, some}
use lib.ListN.{length, take, drop, get_elem?}
use lib.Seq.{take_at}
use borrow.Author.Tests.{le-ltb}
use Rattle.model.specs.declared.Limits.{Limits}
use Rattle.model.specs.Limits.{barspace_size, line_size}
use Rattle.model.specs.Formula.{Formula}
use Rattle.model.specs.Cut.{Cut}
use Rattle.model.specs.Computation.{Computation, Consistent, stations}
use Rattle.model.specs.Forecast.{forecast}
use Rattle.model.specs.Answer.{Answer, true_at, answer, yes_no, answer_line}
use Rattle.model.specs.Reading.{Reading, Result, refused, accepted, read_log}
use Rattle.model.specs.Reply.{gives}
use Rattle.model.specs.Promise.{Asked, Answered, Tested}
use Rattle.model.specs.Operations.{write, cramped, posing, opening_of, opening, poses, line_effect, answer_effect, answer_op, holds_reply_to, holds_op}
use Rattle.lattice.proofs.Lists.{all_members}
use Rattle.lattice.proofs.Consistency.{consistent_iff}
use Rattle.lattice.proofs.Held.{fits_to}
use Rattle.lattice.proofs.Line.{answer-fits}
use Rattle.lattice.proofs.Answers.{answered, told}
use Rattle.codec.specs.Limits.{Suitable}
use Rattle.codec.proofs.Answers.{Shown, answer_same}
use Rattle.codec.proofs.Readings.{Posed, asked-valid}

-- What a line tells is one answer: its numbers fit their bytes.
answered-shown : {K : Computation} {f : Formula} {line : List ℕ} (a : Answered K f line) → Shown (stations K) (record { start = a.start; cuts = a.cuts; rounds = a.rounds })
answered-shown a = record { sized = all_members a.cuts a.sized; counts = all_members a.cuts a.small; few = a.few; short = a.short }

pub answered_tells : {K : Computation} {f : Formula} {line : List ℕ} (a : Answered K f line) (b : Answer) → Shown (stations K) b → line ≡ answer_line b → b ≡ record { start = a.start; cuts = a.cuts; rounds = a.rounds }
answered_tells {K} a b h e = answer_same (stations K) b _ h (answered-shown a) (sym e ∙ a.encodes)

module _ {m : Limits} (fit : Suitable m) {log : List ℕ} {q : ℕ} {K : Computation} {f : Formula} (a : Asked m log q K f) where
  posed : Posed m K f
  posed = asked-valid a

  -- THE ANSWER

  -- Demand 3, of the answer's line.
  pub asked-answered : Answered K f (answer_line (answer K f))
  asked-answered = answered K posed.valid (omega (arith, posed.few, fit.events)) f posed.fitting posed.works

  pub asked-line-fits : length (answer_line (answer K f)) ≤ line_size
  asked-line-fits = answer-fits K posed.valid f (fits_to f posed.fitting).2 (le_trans posed.high fit.stations)

  -- Demand 2, of the test at a cut.
  pub asked_tested : (c : Cut) → Consistent K c → Tested K f c (gives (yes_no (true_at K f c) ∷ []))
  asked_tested c p = told K posed.valid f posed.works c p

  -- THE OPERATIONS

  -- The log is opened for the question.
  pub asked-opens : opening m log q ≡ poses K f
  unfolding opening opening_of posing
  asked-opens = rw (a.reads, a.is)

  -- With room enough:

  module _ (ws bs : ℕ) (hw : (forecast K f).cells ≤ ws) (hb : barspace_size ≤ bs) where
    -- Answer writes the answer's line and gives its length.
    pub asked_written : (out : List ℕ) → line_size ≤ length out → answer_op m log q ws bs out ≡ write (length (answer_line (answer K f)) ∷ []) (answer_line (answer K f)) out
    unfolding answer_op answer_effect line_effect cramped
    asked_written out h = rw (asked-opens, le-ltb ws (forecast K f).cells hw, le-ltb bs barspace_size hb, le-ltb (length out) line_size h)

    -- So demand 3 holds of what stands at the front of the output.
    pub asked-output : (out : List ℕ) → line_size ≤ length out → Answered K f (take (length (answer_line (answer K f))) (answer_op m log q ws bs out).output)
    asked-output out h =
        let l = answer_line (answer K f) in
        rw (asked_written out h, take_at l (drop (length l) out) (length l) refl) asked-answered

    -- Holds replies what the test at a consistent cut comes to.
    pub asked_replied : (c : Cut) → Consistent K c → holds_op m log q c ws bs ≡ gives (yes_no (true_at K f c) ∷ [])
    unfolding holds_op holds_reply_to cramped
    asked_replied c p = rw (asked-opens, (consistent_iff K c).1 p, le-ltb ws (forecast K f).cells hw, le-ltb bs barspace_size hb)

    -- So demand 2 holds of the reply.
    pub asked-holds : (c : Cut) → Consistent K c → Tested K f c (holds_op m log q c ws bs)
    asked-holds c p = rw (asked_replied c p) (asked_tested c p)

-- What a log poses is asked of it.
pub opened-asked : {m : Limits} (log : List ℕ) (q : ℕ) (K : Computation) (f : Formula) → opening m log q ≡ poses K f → Asked m log q K f
unfolding opening opening_of posing
opened-asked {m} log q K f e = by (read_log m log) refl e
  where
    posed_is : (r : Reading) → read_log m log ≡ accepted r → (o : Option Formula) → get_elem? r.questions q ≡ o → posing r.computation o ≡ poses K f → Asked m log q K f
    posed_is r h none i e = let z : ◌≡◌ {A = ℕ} 0 1 = cc in absurd (omega arith)
    posed_is r h (some g) i e =
        let y : r.computation ≡ K = cc in
        let z : g ≡ f = cc in
        rw (sym y, sym z) (record { panelled = r.panelled; frames = r.frames; questions = r.questions; reads = h; is = i })

    by : (o : Result) → read_log m log ≡ o → opening_of o q ≡ poses K f → Asked m log q K f
    by (refused k n) h e = let z : ◌≡◌ {A = ℕ} 0 1 = cc in absurd (omega arith)
    by (accepted r) h e = posed_is r h (get_elem? r.questions q) refl e

pub opened-line-fits : {m : Limits} → Suitable m → (log : List ℕ) (q : ℕ) (K : Computation) (f : Formula) → opening m log q ≡ poses K f → length (answer_line (answer K f)) ≤ line_size
opened-line-fits fit log q K f e = asked-line-fits fit (opened-asked log q K f e)
