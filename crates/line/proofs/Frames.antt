-- The frames of the answer and of a refusal, and their lines.
use mathlib.Core.Path.{◌≡◌, ap, ◌∙◌}
use Prim.Native.Nat.{ℕ, zero, suc, ◌+◌, ◌*◌, ◌≤◌}
use native.Mathlib.Nat.{zero-add, zero-mul, suc-mul}
use native.Mathlib.Omega.{arith}
use mathlib.Core.Bool.{Bool}
use mathlib.Core.List.{List, [], ◌∷◌, ◌++◌}
use lib.ListN.{length, take, drop, length-drop}
use lib.Seq.{take-add}
use Rattle.model.specs.Bytes.{line}
use Rattle.model.specs.Answer.{yes_no, in_row, four_bytes, answer_line}
use Rattle.cells.specs.Put.{put_of}
use Rattle.cells.proofs.Puts.{length-put, take_put, put_front}
use Rattle.structure.specs.Layout.{cuts_at}
use Rattle.line.specs.AtFront.{AtFront}
use Rattle.structure.proofs.Listed.{length-cuts}

-- The frame of an answer, by what is put one behind the other: three bytes, the cuts, the rounds in four.
pub framed : (d s four : List ℕ) (a b c m : ℕ) → m + 7 ≤ length d → length s ≡ m → length four ≡ 4
    → take (m + 7) (put_of (put_of (put_of d 0 (a ∷ b ∷ c ∷ [])) 3 s) (m + 3) four) ≡ a ∷ b ∷ c ∷ (s ++ four)
framed d s four a b c m h l f =
    let p : List ℕ = put_of d 0 (a ∷ b ∷ c ∷ []) in
    let q : List ℕ = put_of p 3 s in
    let lp : length p ≡ length d = length-put d (a ∷ b ∷ c ∷ []) 0 (omega arith) in
    let lq : length q ≡ length p = length-put p s 3 (omega arith) in
    let e : m + 7 ≡ m + 3 + length four = omega arith in
    let k : m + 3 ≡ 3 + length s = omega arith in
    ap (λ (i : ℕ). take i (put_of q (m + 3) four)) e ∙ take_put q four (m + 3) (omega arith)
    ∙ ap (λ (t : List ℕ). t ++ four) (ap (λ (i : ℕ). take i q) k ∙ take_put p s 3 (omega arith) ∙ ap (λ (t : List ℕ). t ++ s) (take_put d (a ∷ b ∷ c ∷ []) 0 (omega arith)))

-- One row of k cuts is k * n counts.
row-cuts : (n k : ℕ) (l : List ℕ) → k * n ≤ length l → in_row (cuts_at n k l) ≡ take (k * n) l
unfolding cuts_at in_row
row-cuts n zero l h = rw zero-mul
row-cuts n (suc k) l h =
    let e : suc k * n ≡ n + k * n = omega (arith, suc-mul k n) in
    rw (e, take-add n (k * n) l, row-cuts n k (drop n l) (rw length-drop (omega arith)))

-- The line of that frame.
pub answer-line : (start : Bool) (cuts : List ℕ) (n count rounds : ℕ) (f : List ℕ) → count * n ≤ length cuts
    → f ≡ 0x40 ∷ yes_no start ∷ count ∷ (take (count * n) cuts ++ four_bytes rounds)
    → line f ≡ answer_line (record { start = start; cuts = cuts_at n count cuts; rounds = rounds })
unfolding answer_line
answer-line start cuts n count rounds f h e = rw (e, length-cuts n count cuts, row-cuts n count cuts h)

-- A line put at the front.
pub written : (f l d x : List ℕ) (r : ℕ) → line f ≡ l → r ≡ 0 + length (line f) → x ≡ put_of d 0 (line f) → AtFront l r d x
written f l d x r e s p = record {
  size = s ∙ zero-add (length (line f)) ∙ ap length e;
  front = p ∙ put_front d (line f) ∙ ap (λ (t : List ℕ). t ++ drop (length t) d) e;
}
