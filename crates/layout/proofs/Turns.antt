-- Lists one after another: what stands where, and the same lists by the elements that they are made of. Assumes nothing.
use mathlib.Core.Path.{◌≡◌, refl, sym, ◌∙◌}
use mathlib.Core.Bool.{Bool, true, false}
use mathlib.Core.List.{List, [], ◌∷◌, ◌++◌, append_assoc, append-nil}
use Prim.Native.Nat.{ℕ, zero, suc, ◌+◌, ◌≤◌, ◌<◌}
use native.Mathlib.Omega.{arith}
use lib.Dec.{eqb}
use lib.ListN.{length, take, get_or, length-append, get_or-append}
use lib.Seq.{take-suc, get_or-append-add}
use borrow.Author.Tests.{eqb-true, eqb-false}
use Rattle.layout.specs.Rows.{in_turn}

-- The lists that g makes of the elements, one after another.
unfoldable pub spread : {A : Type 0} → (A → List ℕ) → List A → List ℕ
spread g [] = []
spread g (x ∷ l) = g x ++ spread g l

module _ {A : Type 0} (g : A → List ℕ) where
  spread-snoc : (l : List A) (x : A) → spread g (l ++ x ∷ []) ≡ spread g l ++ g x
  unfolding spread
  spread-snoc [] x = append-nil (g x)
  spread-snoc (y ∷ l) x = rw (spread-snoc l x) (sym (append_assoc (g y) (spread g l) (g x)))

  pub turns : (f : ℕ → List ℕ) (l : List A) (d : A) → ((k : ℕ) → k < length l → f k ≡ g (get_or l k d)) → (m : ℕ) → m ≤ length l → in_turn f m ≡ spread g (take m l)
  unfolding in_turn spread
  turns f l d h zero b = refl
  turns f l d h (suc m) b = rw (turns f l d h m (omega arith), h m (omega arith), take-suc l m d (omega arith)) (sym (spread-snoc (take m l) (get_or l m d)))

module _ (f : ℕ → List ℕ) where
  turn_length : (j : ℕ) → length (in_turn f (suc j)) ≡ length (in_turn f j) + length (f j)
  unfolding in_turn
  turn_length j = length-append (in_turn f j) (f j)

  turn_front : (j n : ℕ) → j ≤ n → length (in_turn f j) ≤ length (in_turn f n)
  turn_front j zero h = let e : j ≡ 0 = omega arith in rw e (omega arith)
  turn_front j (suc n) h = split (eqb j (suc n)) refl (λ l. turn_front j n l) where
    split : (b : Bool) → eqb j (suc n) ≡ b → (j ≤ n → length (in_turn f j) ≤ length (in_turn f n)) → length (in_turn f j) ≤ length (in_turn f (suc n))
    split true q r = rw (eqb-true j (suc n) q) (omega arith)
    split false q r = omega (arith, r (omega (arith, eqb-false j (suc n) q)), turn_length n)

  pub turn_at : (j n k : ℕ) → j < n → k < length (f j) → get_or (in_turn f n) (length (in_turn f j) + k) 0 ≡ get_or (f j) k 0
  unfolding in_turn
  turn_at j zero k h b = absurd (omega arith)
  turn_at j (suc n) k h b = split (eqb j n) refl (λ l. turn_at j n k l b) where
    split : (b : Bool) → eqb j n ≡ b → (j < n → get_or (in_turn f n) (length (in_turn f j) + k) 0 ≡ get_or (f j) k 0) → get_or (in_turn f n ++ f n) (length (in_turn f j) + k) 0 ≡ get_or (f j) k 0
    split true q r = rw (eqb-true j n q) (get_or-append-add (in_turn f n) (f n) k 0)
    split false q r =
        let l : j < n = omega (arith, eqb-false j n q) in
        get_or-append (in_turn f n) (f n) 0 (length (in_turn f j) + k) (omega (arith, turn_front (suc j) n l, turn_length j)) ∙ r l

  -- where each list has a known length
  pub turn_total : (w : ℕ → ℕ) → w 0 ≡ 0 → (n : ℕ) → ((j : ℕ) → j < n → w (suc j) ≡ w j + length (f j)) → (j : ℕ) → j ≤ n → length (in_turn f j) ≡ w j
  unfolding in_turn
  turn_total w z n h zero b = sym z
  turn_total w z n h (suc j) b = omega (arith, turn_length j, turn_total w z n h j (omega arith), h j (omega arith))
