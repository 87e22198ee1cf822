-- What is printed for a log, and for a file.
use mathlib.Core.Path.{◌≡◌, sym, ap, subst, ◌∙◌}
use mathlib.Core.List.{List, ◌++◌}
use mathlib.Core.Logic.{◌⊎◌, inl, inr}
use Prim.Native.Nat.{ℕ, ◌≤◌}
use native.Mathlib.Omega.{arith}
use lib.ListN.{length, take, drop, length-append}
use lib.Seq.{take_all}
use Rattle.model.specs.Limits.{print_limits}
use Rattle.model.specs.Answer.{refusal_line}
use Rattle.model.specs.Reading.{Reading, refused, accepted, read_log}
use Rattle.model.specs.Operations.{answer_lines, printed_of, input_size, printed}
use Rattle.codec.proofs.Input.{printed-first}
use Rattle.line.specs.AtFront.{AtFront}

-- WHAT IS PRINTED

pub printed_so : {l m was out : List ℕ} {r : ℕ} → l ≡ m → AtFront l r was out → ((r ≡ length m) × (r ≤ length out)) × (out ≡ m ++ drop r was)
printed_so {l} {m} {was} {out} {r} e w =
    let size : r ≡ length m = w.size ∙ ap length e in
    ((size, omega (arith, w.size, ap length w.front, length-append l (drop (length l) was))), w.front ∙ rw (sym w.size, e))

-- The lines of an accepted log.
pub printed-lines : (log : List ℕ) (r : Reading) → read_log print_limits log ≡ accepted r → answer_lines r.computation r.questions ≡ printed log
unfolding printed printed_of
printed-lines log r e = rw e

-- The line of a refused one.
pub printed-refusal : (log : List ℕ) (k n : ℕ) → read_log print_limits log ≡ refused k n → (x : ℕ) → x ≡ k → refusal_line x n ≡ printed log
unfolding printed printed_of
printed-refusal log k n e x same = rw (e, same)

-- WHAT IS PRINTED FOR A FILE

-- More bytes than there are count as all of them.
pub take-most : (l : List ℕ) (n m : ℕ) → (n ≡ m) ⊎ ((length l ≤ n) × (length l ≤ m)) → take n l ≡ take m l
take-most l n m (inl e) = ap (λ (k : ℕ). take k l) e
take-most l n m (inr h) = take_all n l h.0 ∙ sym (take_all m l h.1)

-- What is printed for the bytes got is printed for each file whose first bytes they are, as many as there is room for.
pub printed_file : (input was out : List ℕ) (got n r : ℕ) → input_size ≤ length input → take n input ≡ take got input
    → ((r ≡ length (printed (take n input))) × (r ≤ length out)) × (out ≡ printed (take n input) ++ drop r was)
    → ((r ≡ length (printed (take got input))) × (r ≤ length out))
    × ((out ≡ printed (take got input) ++ drop r was) × ((file : List ℕ) → take got input ≡ take (length input) file → (r ≡ length (printed file)) × (out ≡ printed file ++ drop r was)))
printed_file input was out got n r long same p =
    let q = subst (λ l. ((r ≡ length (printed l)) × (r ≤ length out)) × (out ≡ printed l ++ drop r was)) same p in
    let all : (file : List ℕ) → take got input ≡ take (length input) file → printed (take got input) ≡ printed file = λ file e. ap printed e ∙ printed-first (length input) file long in
    (q.0, (q.1, λ file e. (q.0.0 ∙ ap length (all file e), q.1 ∙ ap (λ (l : List ℕ). l ++ drop r was) (all file e))))
