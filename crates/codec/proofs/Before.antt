-- A log without FFFF gets the replies and the bytes that it got before silent stations were told apart: what Answer, Holds and the program
-- were then stands here, for this statement.
use mathlib.Core.Path.{◌≡◌, refl}
use Prim.Native.Nat.{ℕ}
use mathlib.Core.Bool.{Bool, false, cond}
use mathlib.Core.List.{List, [], ◌∷◌, ◌++◌}
use mathlib.Core.Option.{Option, none, some}
use lib.ListN.{get_elem?}
use Rattle.model.specs.declared.Limits.{Limits}
use Rattle.model.specs.Limits.{print_limits}
use Rattle.model.specs.Formula.{Formula}
use Rattle.model.specs.Cut.{Cut}
use Rattle.model.specs.Computation.{Computation, is_consistent}
use Rattle.model.specs.Answer.{Answer, yes_no, answer_line, refusal_line}
use Rattle.model.specs.Reading.{Reading, Result, refused, accepted, read_log}
use Rattle.model.specs.Reply.{Reply, gives, refuses}
use Rattle.model.specs.Operations.{Effect, refuse, Opening, shut, poses, posing, opening_of, opening, cramped, line_effect, answer_effect, answer_op, holds_reply_to, holds_op, answer_lines, printed_of, printed}
use Rattle.lattice.proofs.Tests.{clash}
use Rattle.lattice.proofs.Silence.{NoneSilent}
use Rattle.lattice.proofs.Before.{true_by, answer_by, was_raised, answer_as_before, test_as_before}
use Rattle.codec.specs.Limits.{NoLarger}
use Rattle.codec.proofs.Larger.{log_up}
use Rattle.codec.proofs.Values.{has_ffff, value_written}

-- BEFORE: Read, Write and Forecast, and how a log is read and opened, were what they are

-- The answer to a question.
abbrev pub answer_then : Computation → Formula → Answer
answer_then K f = answer_by (was_raised K) K f

-- Was it true at the cut?
abbrev pub true_then : Computation → Formula → Cut → Bool
true_then K f c = true_by (was_raised K) K f c

-- What Answer did with an opened log.
unfoldable pub answer_effect_then : Opening → ℕ → ℕ → List ℕ → Effect
answer_effect_then (shut k n) ws bs out = refuse k n out
answer_effect_then (poses K f) ws bs out = cond (cramped K f ws bs) (refuse 11 0 out) (line_effect (answer_line (answer_then K f)) out)

-- Answer: limits, log, question number, sizes of workspace and bar space, output.
unfoldable pub answer_op_then : Limits → List ℕ → ℕ → ℕ → ℕ → List ℕ → Effect
answer_op_then m log q ws bs out = answer_effect_then (opening m log q) ws bs out

-- What Holds replied to a cut of an opened log.
unfoldable pub holds_reply_then : Opening → Cut → ℕ → ℕ → Reply
holds_reply_then (shut k n) c ws bs = refuses k n
holds_reply_then (poses K f) c ws bs = cond (is_consistent K c) (cond (cramped K f ws bs) (refuses 11 0) (gives (yes_no (true_then K f c) ∷ []))) (refuses 13 0)

-- Holds: limits, log, question number, cut, sizes of workspace and bar space.
unfoldable pub holds_op_then : Limits → List ℕ → ℕ → Cut → ℕ → ℕ → Reply
holds_op_then m log q c ws bs = holds_reply_then (opening m log q) c ws bs

-- One answer line a question.
unfoldable pub answer_lines_then : Computation → List Formula → List ℕ
answer_lines_then K [] = []
answer_lines_then K (f ∷ l) = answer_line (answer_then K f) ++ answer_lines_then K l

-- What was printed for what was read.
unfoldable pub printed_of_then : Result → List ℕ
printed_of_then (refused k n) = refusal_line k n
printed_of_then (accepted r) = answer_lines_then r.computation r.questions

-- The program: what was printed for the standard input.
unfoldable pub printed_then : List ℕ → List ℕ
printed_then log = printed_of_then (read_log print_limits log)

-- THE STATEMENT

-- No value that is read of the log is FFFF; of a log that is refused none is read.
abbrev pub Spoken : Limits → List ℕ → Type 0
Spoken m log = (r : Reading) → read_log m log ≡ accepted r → NoneSilent r.computation

-- LOGS WITHOUT FFFF, of one of them under the limits m: it answers as it did
pub record AsThen (m : Limits) (log : List ℕ) : Type 0 where
  -- Answer replies the same and leaves the same bytes, whatever is asked for and lent
  pub answers : (q workspace barspace : ℕ) (output : List ℕ) → answer_op m log q workspace barspace output ≡ answer_op_then m log q workspace barspace output
  -- Holds replies the same at every cut
  pub tests : (q : ℕ) (c : Cut) (workspace barspace : ℕ) → holds_op m log q c workspace barspace ≡ holds_op_then m log q c workspace barspace
  -- the program prints the same
  pub prints : printed log ≡ printed_then log

-- THE SAME

-- No value of what a log poses is FFFF.
abbrev Heard : Opening → Type 0
Heard (shut k n) = Unit {0}
Heard (poses K f) = NoneSilent K

posed_heard : (K : Computation) (o : Option Formula) → NoneSilent K → Heard (posing K o)
unfolding posing
posed_heard K none h = tt
posed_heard K (some f) h = h

opened_heard : (o : Result) (q : ℕ) → ((r : Reading) → o ≡ accepted r → NoneSilent r.computation) → Heard (opening_of o q)
unfolding opening_of
opened_heard (refused k n) q h = tt
opened_heard (accepted r) q h = posed_heard r.computation (get_elem? r.questions q) (h r refl)

answer_same : (o : Opening) → Heard o → (ws bs : ℕ) (out : List ℕ) → answer_effect o ws bs out ≡ answer_effect_then o ws bs out
unfolding answer_effect answer_effect_then
answer_same (shut k n) h ws bs out = refl
answer_same (poses K f) h ws bs out = rw (answer_as_before K h f)

reply_same : (o : Opening) → Heard o → (c : Cut) (ws bs : ℕ) → holds_reply_to o c ws bs ≡ holds_reply_then o c ws bs
unfolding holds_reply_to holds_reply_then
reply_same (shut k n) h c ws bs = refl
reply_same (poses K f) h c ws bs = rw (test_as_before K h f c)

lines_same : (K : Computation) → NoneSilent K → (l : List Formula) → answer_lines K l ≡ answer_lines_then K l
unfolding answer_lines answer_lines_then
lines_same K h [] = refl
lines_same K h (f ∷ l) = rw (answer_as_before K h f, lines_same K h l)

print_same : (o : Result) → ((r : Reading) → o ≡ accepted r → NoneSilent r.computation) → printed_of o ≡ printed_of_then o
unfolding printed_of printed_of_then
print_same (refused k n) h = refl
print_same (accepted r) h = lines_same r.computation (h r refl) r.questions

-- Answer and Holds, under any limits.
module _ (m : Limits) (log : List ℕ) (spoken : Spoken m log) where
  heard : (q : ℕ) → Heard (opening m log q)
  unfolding opening
  heard q = opened_heard (read_log m log) q spoken

  pub answer_as_then : (q ws bs : ℕ) (out : List ℕ) → answer_op m log q ws bs out ≡ answer_op_then m log q ws bs out
  unfolding answer_op answer_op_then
  answer_as_then q ws bs out = answer_same (opening m log q) (heard q) ws bs out

  pub holds_as_then : (q : ℕ) (c : Cut) (ws bs : ℕ) → holds_op m log q c ws bs ≡ holds_op_then m log q c ws bs
  unfolding holds_op holds_op_then
  holds_as_then q c ws bs = reply_same (opening m log q) (heard q) c ws bs

-- The program, under its own.
pub printed_as_then : (log : List ℕ) → Spoken print_limits log → printed log ≡ printed_then log
unfolding printed printed_then
printed_as_then log spoken = print_same (read_log print_limits log) spoken

-- All three, under limits of which the program's are no larger.
pub as_then : {m : Limits} → NoLarger print_limits m → (log : List ℕ) → Spoken m log → AsThen m log
as_then {m} up log spoken = record {
  answers = answer_as_then m log spoken;
  tests = holds_as_then m log spoken;
  prints = printed_as_then log (λ r e. spoken r (log_up up log r e));
}

-- BY THE BYTES

-- Where FFFF does not stand in the log, no value that is read of it is FFFF.
pub unwritten_spoken : (m : Limits) (log : List ℕ) → has_ffff log ≡ false → Spoken m log
unwritten_spoken m log h r e s k v = clash (value_written m log r e s k v) h

-- And all three hold, under any limits.
pub without_ffff : (m : Limits) (log : List ℕ) → has_ffff log ≡ false → AsThen m log
without_ffff m log h = record {
  answers = answer_as_then m log (unwritten_spoken m log h);
  tests = holds_as_then m log (unwritten_spoken m log h);
  prints = printed_as_then log (unwritten_spoken print_limits log h);
}
