-- Rows of a workspace into which something was written.
use mathlib.Core.Path.{◌≡◌, refl, sym, ap, ◌∙◌}
use Prim.Native.Nat.{ℕ, suc, ◌+◌, ◌*◌, ◌≤◌, ◌<◌}
use native.Mathlib.Omega.{arith}
use native.Mathlib.Nat.{suc-mul, zero-mul, mul-le-mul}
use mathlib.Core.List.{List}
use mathlib.Core.Bool.{Bool, true, false}
use lib.Dec.{ltb}
use lib.ListN.{length, take, drop, set}
use lib.Seq.{paste, drop-drop, take_all, take-set-le, drop-set-lt, get_or-set_same}
use borrow.Author.Tests.{ltb-true, ltb-false}
use Rattle.model.specs.Limits.{limits, starts_size}
use Rattle.cells.proofs.Parts.{part_same, paste_front, paste_part}
use Rattle.structure.proofs.Places.{next_fits}
use Rattle.steps.specs.Rows.{row_at, Ended}

-- ROWS

pub row_zero : (n : ℕ) (w : List ℕ) → row_at n 0 w ≡ take n w
row_zero n w = rw zero-mul

pub row-suc : (n i : ℕ) (w : List ℕ) → row_at n (suc i) w ≡ row_at n i (drop n w)
row-suc n i w =
    let e : suc i * n ≡ n + i * n = omega (arith, suc-mul i n) in
    ap (take n) (ap (λ (x : ℕ). drop x w) e ∙ sym (drop-drop (i * n) n w))

pub row_skip : (n m i : ℕ) (w : List ℕ) → row_at n (m + i) w ≡ row_at n i (drop (m * n) w)
row_skip n m i w =
    let e : (m + i) * n ≡ m * n + i * n = omega arith in
    ap (take n) (ap (λ (x : ℕ). drop x w) e ∙ sym (drop-drop (i * n) (m * n) w))

-- Where row i has been written and the cells before are as they were, the rows up to i are as f says.
pub rows_next : (n : ℕ) (f : ℕ → List ℕ) (i : ℕ) (w w₂ : List ℕ) → take (i * n) w₂ ≡ take (i * n) w → row_at n i w₂ ≡ f i
    → ((r : ℕ) → r < i → row_at n r w ≡ f r) → (r : ℕ) → r < i + 1 → row_at n r w₂ ≡ f r
rows_next n f i w w₂ e h g r k = go (ltb r i) refl
  where
    go : (b : Bool) → ltb r i ≡ b → row_at n r w₂ ≡ f r
    go true q = let a : r < i = ltb-true r i q in part_same (i * n) w₂ w e (r * n) n (next_fits r i n a) ∙ g r a
    go false q = let a : r ≡ i = omega (arith, ltb-false r i q) in rw a h

-- Where nothing but row i has been written.
pub rows_more : (n : ℕ) (f : ℕ → List ℕ) (i : ℕ) (w w₂ : List ℕ) → i * n + n ≤ length w → length (f i) ≡ n → w₂ ≡ paste w (i * n) (f i) n
    → ((r : ℕ) → r < i → row_at n r w ≡ f r) → (r : ℕ) → r < i + 1 → row_at n r w₂ ≡ f r
rows_more n f i w w₂ h l e =
    rows_next n f i w w₂ (ap (take (i * n)) e ∙ paste_front w (i * n) (f i) n (omega arith) (omega arith))
    (ap (row_at n i) e ∙ paste_part w (i * n) (f i) n (omega arith) (omega arith) ∙ take_all n (f i) (omega arith))

-- BARS

module _ (at k n : ℕ) (b : List ℕ) where
  pub ended : 0 < n → k < 16 → at + 16 * n ≤ length b → Ended at k n b (set b (at + k * n) 255)
  ended z h l =
      let f = next_fits k 16 n h in
      record {
        front = take-set-le (at + k * n) b (at + k * n) 255 (omega arith);
        ends = λ _. get_or-set_same b (at + k * n) 255 0 (omega arith);
        behind = drop-set-lt (at + k * n + 1) b (at + k * n) 255 (omega arith);
      }

-- SIZES

-- A structure's cells are few.
pub size_small : (e n : ℕ) → e ≤ limits.events → n ≤ limits.stations → (e + 1) * n ≤ starts_size
size_small e n h k = mul-le-mul (let g : e + 1 ≤ suc limits.events = omega arith in g) k
