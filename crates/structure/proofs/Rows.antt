-- Laws of rows that may be none: the larger byte is 255 just where one of the two is.
use mathlib.Core.Path.{◌≡◌, refl, sym, ◌∙◌}
use Prim.Native.Nat.{ℕ, ◌≤◌, ◌<◌, max}
use native.Mathlib.Decide.{dec_lt}
use native.Mathlib.Omega.{arith}
use mathlib.Core.Bool.{Bool, true, false, cond}
use mathlib.Core.List.{List, [], ◌∷◌}
use mathlib.Core.Option.{none, some}
use lib.Dec.{eqb}
use lib.ListN.{length, get_or, take, drop}
use lib.Seq.{get_or-take, get_or-drop, length-take-le}
use borrow.Author.Tests.{eq-eqb, ne_eqb}
use Rattle.model.specs.Cut.{Cut, join}
use Rattle.model.specs.Structure.{joined}
use Rattle.structure.specs.Layout.{decoded}

pub decoded-none : (x : List ℕ) → get_or x 0 0 ≡ 255 → decoded x ≡ none
unfolding decoded
decoded-none x e = rw (eq-eqb (get_or x 0 0) 255 e)

pub decoded-some : (x : List ℕ) → (get_or x 0 0 ≡ 255 → ⊥) → decoded x ≡ some x
unfolding decoded
decoded-some x f = rw (ne_eqb (get_or x 0 0) 255 f)

pub is_none : (n : ℕ) (l : List ℕ) → 0 < n → get_or l 0 0 ≡ 255 → decoded (take n l) ≡ none
is_none n l h e = decoded-none (take n l) (get_or-take n l 0 0 h ∙ e)

pub is_some : (n : ℕ) (l : List ℕ) → 0 < n → (get_or l 0 0 ≡ 255 → ⊥) → decoded (take n l) ≡ some (take n l)
is_some n l h f = decoded-some (take n l) (λ e. f (sym (get_or-take n l 0 0 h) ∙ e))

-- Cells that say a cut are this cut.
pub decoded-is : (c d : Cut) → decoded c ≡ some d → c ≡ d
unfolding decoded
decoded-is c d e = go (eqb (get_or c 0 0) 255) e
  where
    go : (b : Bool) → cond b none (some c) ≡ some d → c ≡ d
    go true q = let z : ◌≡◌ {A = ℕ} 0 1 = cc in absurd (omega arith)
    go false q = cc

pub decoded-join : (a b : List ℕ) → 0 < length a → 0 < length b → get_or a 0 0 ≤ 255 → get_or b 0 0 ≤ 255
    → decoded (join a b) ≡ joined (decoded a) (decoded b)
unfolding decoded join joined
decoded-join [] b h l p q = absurd (omega arith)
decoded-join (x ∷ a) [] h l p q = absurd (omega arith)
decoded-join (x ∷ a) (y ∷ b) h l p q = go (dec_lt x 255) (dec_lt y 255)
  where
    go : Dec (x < 255) → Dec (y < 255) → cond (eqb (max x y) 255) none (some (max x y ∷ join a b)) ≡ joined (cond (eqb x 255) none (some (x ∷ a))) (cond (eqb y 255) none (some (y ∷ b)))
    go (no f) d =
        let u : x ≡ 255 = omega arith in
        let v : max x y ≡ 255 = omega arith in
        rw (eq-eqb (max x y) 255 v, eq-eqb x 255 u)
    go (yes u) (no f) =
        let v : y ≡ 255 = omega arith in
        let m : max x y ≡ 255 = omega arith in
        rw (eq-eqb (max x y) 255 m, ne_eqb x 255 (λ e. omega arith), eq-eqb y 255 v)
    go (yes u) (yes v) =
        let m : max x y < 255 = omega arith in
        rw (ne_eqb (max x y) 255 (λ e. omega arith), ne_eqb x 255 (λ e. omega arith), ne_eqb y 255 (λ e. omega arith))

-- The same of the first n cells of longer lists.
pub decoded-rows : (n : ℕ) (a b : List ℕ) → 0 < n → n ≤ length a → n ≤ length b → get_or a 0 0 < 256 → get_or b 0 0 < 256
    → decoded (join (take n a) (take n b)) ≡ joined (decoded (take n a)) (decoded (take n b))
decoded-rows n a b z h l p q =
    let u : length (take n a) ≡ n = length-take-le n a h in
    let v : length (take n b) ≡ n = length-take-le n b l in
    decoded-join (take n a) (take n b) (omega arith) (omega arith) (rw (get_or-take n a 0 0 z) (omega arith)) (rw (get_or-take n b 0 0 z) (omega arith))

pub first-at : (w : List ℕ) (at : ℕ) → get_or (drop at w) 0 0 ≡ get_or w at 0
first-at w at = get_or-drop at w 0 0 ∙ rw native.Mathlib.Nat.add-zero refl
