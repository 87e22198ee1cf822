-- Answer lines: start, cuts and rounds can be told from the line.
use mathlib.Core.Path.{◌≡◌, refl, sym, ap, ◌∙◌}
use mathlib.Core.Bool.{Bool, true, false}
use mathlib.Core.List.{List, [], ◌∷◌, ◌++◌, append_assoc}
use Prim.Native.Nat.{ℕ, zero, suc, ◌+◌, ◌*◌, ◌/◌, ◌%◌, ◌^◌, ◌<◌}
use native.Mathlib.Nat.{div-div-eq-div-mul}
use native.Mathlib.Omega.{arith}
use lib.ListN.{length, get_or, take, drop}
use lib.Seq.{take_at, drop_at}
use Rattle.model.specs.Cut.{Cut}
use Rattle.model.specs.Answer.{Answer, yes_no, in_row, four_bytes, answer_line}
use Rattle.codec.proofs.Bytes.{Bytes, bytes-none, bytes-cons, bytes-append}
use Rattle.codec.proofs.Cases.{Each, e-more}
use Rattle.codec.proofs.Lines.{line_same}

-- Cuts of n stations with counts that fit a byte, fewer than 256 of them, and rounds that fit four bytes.
pub record Shown (n : ℕ) (a : Answer) : Type 0 where
  pub sized : Each (λ (c : Cut). length c ≡ n) a.cuts
  pub counts : Each Bytes a.cuts
  pub few : length a.cuts < 256
  pub short : a.rounds < 2 ^ 32

-- THE PARTS OF THE LINE

append_same : (a b c d : List ℕ) → length a ≡ length c → a ++ b ≡ c ++ d → (a ≡ c) × (b ≡ d)
append_same a b c d n e = (
  sym (take_at a b (length c) n) ∙ ap (take (length c)) e ∙ take_at c d (length c) refl,
  sym (drop_at a b (length c) n) ∙ ap (drop (length c)) e ∙ drop_at c d (length c) refl,
)

-- As many cuts of n stations, one after another with something behind them: equal only if all of it is.
row_same :
    (n : ℕ) (l m : List Cut) (s t : List ℕ)
    → Each (λ (c : Cut). length c ≡ n) l
    → Each (λ (c : Cut). length c ≡ n) m
    → length l ≡ length m
    → in_row l ++ s ≡ in_row m ++ t
    → (l ≡ m) × (s ≡ t)
unfolding in_row
row_same n [] [] s t h k e r = (refl, r)
row_same n [] (d ∷ m) s t h k e r = absurd (omega arith)
row_same n (c ∷ l) [] s t h k e r = absurd (omega arith)
row_same n (c ∷ l) (d ∷ m) s t (e-more hc h) (e-more kd k) e r =
    let x = append_same c (in_row l ++ s) d (in_row m ++ t) (omega arith) (simp append_assoc at r) in
    let ih = row_same n l m s t h k (omega arith) x.1 in
    (cc, ih.1)

-- The number that four bytes tell.
abbrev from_four : List ℕ → ℕ
from_four l = 2 ^ 24 * get_or l 0 0 + 2 ^ 16 * get_or l 1 0 + 2 ^ 8 * get_or l 2 0 + get_or l 3 0

sum_up : (v x y z a b c d : ℕ) → v ≡ 256 * x + d → x ≡ 256 * y + c → y ≡ 256 * z + b → z ≡ a → 2 ^ 24 * a + 2 ^ 16 * b + 2 ^ 8 * c + d ≡ v
sum_up v x y z a b c d p q r s = omega arith

from-four : (v : ℕ) → v < 2 ^ 32 → from_four (four_bytes v) ≡ v
unfolding four_bytes
from-four v h =
    let p : v / 2 ^ 8 / 2 ^ 8 ≡ v / 2 ^ 16 = div-div-eq-div-mul v (2 ^ 8) (2 ^ 8) in
    let q : v / 2 ^ 16 / 2 ^ 8 ≡ v / 2 ^ 24 = div-div-eq-div-mul v (2 ^ 16) (2 ^ 8) in
    sum_up v (v / 2 ^ 8) (v / 2 ^ 16) (v / 2 ^ 24) (v / 2 ^ 24 % 256) (v / 2 ^ 16 % 256) (v / 2 ^ 8 % 256) (v % 256) (omega arith) (omega arith) (omega arith) (omega arith)

pub four_same : (v w : ℕ) → v < 2 ^ 32 → w < 2 ^ 32 → four_bytes v ≡ four_bytes w → v ≡ w
four_same v w h k e = sym (from-four v h) ∙ ap from_four e ∙ from-four w k

start_same : (a b : Bool) → yes_no a ≡ yes_no b → a ≡ b
start_same true true e = refl
start_same true false e = absurd (omega arith)
start_same false true e = absurd (omega arith)
start_same false false e = refl

-- BYTES

bytes-row : (l : List Cut) → Each Bytes l → Bytes (in_row l)
unfolding in_row
bytes-row [] h = bytes-none
bytes-row (c ∷ l) (e-more h r) = bytes-append c (in_row l) h (bytes-row l r)

bytes_four : (v : ℕ) → Bytes (four_bytes v)
unfolding four_bytes
bytes_four v zero = omega arith
bytes_four v (suc zero) = omega arith
bytes_four v (suc (suc zero)) = omega arith
bytes_four v (suc (suc (suc zero))) = omega arith
bytes_four v (suc (suc (suc (suc i)))) = omega arith

bytes-start : (b : Bool) → yes_no b < 256
bytes-start true = omega arith
bytes-start false = omega arith

-- What the line of an answer encodes.
abbrev told : Answer → List ℕ
told a = 0x40 ∷ yes_no a.start ∷ length a.cuts ∷ (in_row a.cuts ++ four_bytes a.rounds)

bytes-told : (n : ℕ) (a : Answer) → Shown n a → Bytes (told a)
bytes-told n a h =
    let r : Bytes (in_row a.cuts ++ four_bytes a.rounds) = bytes-append (in_row a.cuts) (four_bytes a.rounds) (bytes-row a.cuts h.counts) (bytes_four a.rounds) in
    bytes-cons 0x40 (yes_no a.start ∷ length a.cuts ∷ (in_row a.cuts ++ four_bytes a.rounds)) (omega arith)
    (bytes-cons (yes_no a.start) (length a.cuts ∷ (in_row a.cuts ++ four_bytes a.rounds)) (bytes-start a.start)
    (bytes-cons (length a.cuts) (in_row a.cuts ++ four_bytes a.rounds) h.few r))

-- Two answers with one line are one answer.
pub answer_same : (n : ℕ) (a b : Answer) → Shown n a → Shown n b → answer_line a ≡ answer_line b → a ≡ b
unfolding answer_line
answer_same n a b h k e =
    let t : told a ≡ told b = line_same (told a) (told b) (bytes-told n a h) (bytes-told n b k) e in
    let s : a.start ≡ b.start = start_same a.start b.start (ap (λ (l : List ℕ). get_or l 1 0) t) in
    let c : length a.cuts ≡ length b.cuts = ap (λ (l : List ℕ). get_or l 2 0) t in
    let x = row_same n a.cuts b.cuts (four_bytes a.rounds) (four_bytes b.rounds) h.sized k.sized c (ap (drop 3) t) in
    let r = four_same a.rounds b.rounds h.short k.short x.1 in
    λ i. record { start = s i; cuts = x.0 i; rounds = r i }
