-- What is promised under a premise is promised of something: the bench log, its frame list and two larger logs meet the premises of Stays,
-- Prints and Sized, and the bench log is one without FFFF.
use mathlib.Core.Path.{◌≡◌, refl, sym, ap, ◌∙◌}
use Prim.Native.Nat.{ℕ, zero, suc, ◌≤◌}
use native.Mathlib.Omega.{arith}
use mathlib.Core.Bool.{Bool, true, false}
use mathlib.Core.List.{List, [], ◌∷◌, ◌++◌, append-nil}
use mathlib.Core.Option.{some}
use lib.ListN.{length, get_elem?, replicate}
use borrow.Author.Tests.{leb-true, ltb-true}
use Rattle.model.specs.Limits.{limits, print_limits}
use Rattle.model.specs.Frames.{log_of, list_of}
use Rattle.model.specs.Answer.{in_row, refusal_line}
use Rattle.model.specs.Reading.{Reading, nothing, Result, refused, accepted, read_log, read_list}
use Rattle.model.specs.Operations.{write_op, answer_lines, printed}
use Rattle.model.specs.Promise.{Answered, Stays, Prints, Sized}
use Rattle.model.proofs.Bench.{definitions, ascii, range, Q, asking, asking_silenced, benched, bench_frames}
use Rattle.lattice.proofs.Tests.{clash}
use Rattle.lattice.proofs.Before.{basis_by, rounds_by, true_by, answer_by, passed, was_raised}
use Rattle.codec.proofs.Suited.{print_within}
use Rattle.codec.proofs.Larger.{as_before, sized}
use Rattle.codec.proofs.Printed.{prints}
use Rattle.codec.proofs.Values.{begins_ffff, has_ffff}
use Rattle.codec.proofs.Before.{answer_lines_then, printed_of_then, printed_then, Spoken, AsThen, as_then, unwritten_spoken}

-- THE BENCH LOG

-- What is read of the bench log with Q.
abbrev pub bench_reading : Reading
bench_reading = record { panelled = false; computation = benched; questions = Q ∷ []; frames = bench_frames }

-- The program accepts it, and under its limits Write accepts its frame list.
pub bench_reads : read_log print_limits (asking Q) ≡ accepted bench_reading
unfolding definitions
bench_reads = refl

pub bench_lists : read_list print_limits (list_of bench_frames) ≡ accepted bench_reading
unfolding definitions
bench_lists = refl

-- So it is as it was before limits were raised, and so is what Write makes of its frame list.
pub bench_stays : Stays print_limits limits (asking Q) bench_reading
bench_stays = as_before (asking Q) bench_reading bench_reads

pub bench_writes : (output : List ℕ) → limits.bytes ≤ length output → write_op limits (list_of bench_frames) output ≡ write_op print_limits (list_of bench_frames) output
bench_writes output = bench_stays.writes (list_of bench_frames) output bench_lists

-- The program prints one line for it, of which demand 3 holds.
pub bench_prints : Prints (asking Q) bench_reading
bench_prints = prints (asking Q) bench_reading bench_reads

one_line : (ls : List (List ℕ)) → length ls ≡ 1 → get_elem? ls 0 ≡ some (in_row ls)
unfolding in_row
one_line [] h = absurd (omega arith)
one_line (l ∷ []) h = rw (append-nil l)
one_line (l ∷ m ∷ ls) h = absurd (omega arith)

pub bench_answered : Answered benched Q (printed (asking Q))
bench_answered = bench_prints.answers 0 Q (printed (asking Q)) refl (one_line bench_prints.lines bench_prints.as_many ∙ ap some (sym bench_prints.whole))

-- It is within the program's limits, and answered.
pub bench_sized : Sized (asking Q) bench_reading
bench_sized = sized (asking Q) bench_reading bench_stays.accepts

pub bench_answers : printed (asking Q) ≡ answer_lines benched (Q ∷ [])
unfolding definitions
bench_answers = bench_sized.answered (leb-true _ _ refl) (leb-true _ _ refl)

-- LARGER LOGS

-- Was it accepted? And what was read then.
is_accepted : Result → Bool
is_accepted (refused k n) = false
is_accepted (accepted r) = true

pub read_of : Result → Reading
read_of (refused k n) = nothing
read_of (accepted r) = r

is_read : (o : Result) → is_accepted o ≡ true → o ≡ accepted (read_of o)
unfolding is_accepted read_of
is_read (refused k n) h = clash h refl
is_read (accepted r) h = refl

-- Frames for k, k + 1 and so on, n of them.
pub numbered : (ℕ → List ℕ) → ℕ → ℕ → List (List ℕ)
numbered f k zero = []
numbered f k (suc n) = f k ∷ numbered f (suc k) n

-- A log of one station with 128 events: the operations accept it, and the program refuses it with 4 at line 129.
pub crowded : List ℕ
crowded = log_of ((0x10 ∷ 1 ∷ 0 ∷ 0 ∷ []) ∷ numbered (λ k. 0x20 ∷ 0 ∷ 0 ∷ 0 ∷ k ∷ []) 1 128)

pub crowded_sized : Sized crowded (read_of (read_log limits crowded))
unfolding definitions is_accepted numbered crowded
crowded_sized = sized crowded _ (is_read (read_log limits crowded) refl)

pub crowded_refused : printed crowded ≡ refusal_line 4 129
unfolding definitions read_of numbered crowded
crowded_refused = crowded_sized.too_many (leb-true _ _ refl) (ltb-true _ _ refl)

-- A log of 8,777 bytes, with panels, 254 events of station 0 and 64 messages to station 1 that never came: the operations accept it, and the program refuses it with 1.
pub long : List ℕ
long = log_of ((0x11 ∷ 8 ∷ replicate 32 0) ∷ (numbered (λ k. 0x20 ∷ 0 ∷ 0 ∷ 0 ∷ 0 ∷ 0 ∷ k ∷ replicate 7 0) 1 254 ++ numbered (λ k. 0x25 ∷ 0 ∷ k ∷ 1 ∷ 0 ∷ []) 1 64))

pub long-sized : Sized long (read_of (read_log limits long))
unfolding definitions is_accepted numbered long
long-sized = sized long _ (is_read (read_log limits long) refl)

pub long-refused : printed long ≡ refusal_line 1 0
unfolding definitions numbered long
long-refused = long-sized.too_long (ltb-true _ _ refl)

-- LOGS WITHOUT FFFF

-- FFFF stands nowhere in the bench log, so it answers as it did.
pub bench_spoken : Spoken limits (asking Q)
unfolding definitions begins_ffff has_ffff
bench_spoken = unwritten_spoken limits (asking Q) refl

pub bench_as_then : AsThen limits (asking Q)
bench_as_then = as_then print_within (asking Q) bench_spoken

-- A log in which station 0 first reports FFFF does not meet the premise,
pub silenced_unspoken : Spoken limits (asking_silenced Q) → ⊥
unfolding definitions is_accepted read_of
silenced_unspoken h = h _ (is_read (read_log limits (asking_silenced Q)) refl) 0 0 refl

-- and does not answer as it did: FFFF was inside a range that reaches it, and is inside none now.
pub silenced_otherwise :
    (printed_then (asking_silenced (range 0 0xFFFF 0xFFFF)) ≡ ascii "400101000100000000BD\n")
    × (printed (asking_silenced (range 0 0xFFFF 0xFFFF)) ≡ ascii "40000000000000C0\n")
unfolding definitions basis_by rounds_by true_by answer_by passed was_raised answer_lines_then printed_of_then printed_then
silenced_otherwise = (refl, refl)
