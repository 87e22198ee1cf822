-- Bars of two slots, one after the other in a third.
use mathlib.Core.Path.{◌≡◌, refl, sym, ap, ap₂, ◌∙◌}
use Prim.Native.Nat.{ℕ, zero, suc, ◌+◌, ◌-◌, ◌*◌, ◌≤◌, ◌<◌}
use native.Mathlib.Omega.{arith}
use native.Mathlib.Nat.{suc-mul, zero-mul, add-mul, mul-le-mul_right, not-suc-le-zero, le_of_suc-le-suc}
use mathlib.Core.List.{List, [], ◌∷◌, ◌++◌}
use mathlib.Core.Bool.{Bool, true, false, cond, not, ◌&&◌}
use lib.Dec.{eqb}
use lib.ListN.{length, get_or, take, drop, length-append, length-drop}
use lib.Seq.{paste, get_or-take, get_or-drop, drop-drop}
use borrow.Author.Tests.{eq-eqb, ne_eqb}
use Rattle.model.specs.Cut.{Cut, inside_any}
use Rattle.lattice.proofs.Tests.{and-true, false_iff, not_iff}
use Rattle.structure.specs.Layout.{cuts_at, bars_at}
use Rattle.cells.proofs.Parts.{front_same, part_same, paste_front, paste_part}
use Rattle.structure.proofs.Rows.{first-at}
use Rattle.structure.proofs.Places.{one_more}
use Rattle.structure.proofs.Listed.{cuts-add, cuts_same}
use Rattle.steps.specs.Rows.{Ended}
use Rattle.bars.specs.Post.{BarsJoined}

-- COUNTING

module _ (n at i : ℕ) (b : List ℕ) (h : i < 16) where
  pub count_end : get_or b (at + i * n) 0 ≡ 255 → length (bars_at n (16 - i) (drop (at + i * n) b)) ≡ 0
  unfolding bars_at
  count_end f =
      let e : 16 - i ≡ suc (15 - i) = omega arith in
      rw (e, eq-eqb _ 255 (first-at b (at + i * n) ∙ f))

  pub count-more : (get_or b (at + i * n) 0 ≡ 255 → ⊥)
      → i + length (bars_at n (16 - i) (drop (at + i * n) b)) ≡ i + 1 + length (bars_at n (16 - (i + 1)) (drop (at + (i + 1) * n) b))
  unfolding bars_at
  count-more f =
      let e : 16 - i ≡ suc (16 - (i + 1)) = omega arith in
      let d : drop n (drop (at + i * n) b) ≡ drop (at + (i + 1) * n) b =
      drop-drop n (at + i * n) b ∙ ap (λ (x : ℕ). drop x b) (let o : at + i * n + n ≡ at + (i + 1) * n = omega (arith, one_more i n) in o) in
      let g : eqb (get_or (drop (at + i * n) b) 0 0) 255 ≡ false = ne_eqb _ 255 (λ u. f (sym (first-at b (at + i * n)) ∙ u)) in
      let z : length (bars_at n (16 - i) (drop (at + i * n) b)) ≡ suc (length (bars_at n (16 - (i + 1)) (drop (at + (i + 1) * n) b))) =
      ap (λ (x : ℕ). length (bars_at n x (drop (at + i * n) b))) e
      ∙ ap (λ (x : Bool). length (cond x [] (take n (drop (at + i * n) b) ∷ bars_at n (16 - (i + 1)) (drop n (drop (at + i * n) b))))) g
      ∙ ap (λ (x : List ℕ). suc (length (bars_at n (16 - (i + 1)) x))) d in
      omega arith

-- LISTS OF BARS

-- No first cell is 255.
unfoldable clear : List Cut → Bool
clear [] = true
clear (c ∷ l) = not (eqb (get_or c 0 0) 255) && clear l

clear_both : (l m : List Cut) → clear l ≡ true → clear m ≡ true → clear (l ++ m) ≡ true
unfolding clear
clear_both [] m h k = k
clear_both (c ∷ l) m h k =
    let r = (and-true (not (eqb (get_or c 0 0) 255)) (clear l)).0 h in
    (and-true (not (eqb (get_or c 0 0) 255)) (clear (l ++ m))).1 (r.0, clear_both l m r.1 k)

module _ (n : ℕ) where
  -- The bars of a slot as cuts.
  bars-cuts : (m : ℕ) (b : List ℕ) → bars_at n m b ≡ cuts_at n (length (bars_at n m b)) b
  unfolding bars_at cuts_at
  bars-cuts zero b = refl
  bars-cuts (suc m) b = go (eqb (get_or b 0 0) 255) (bars-cuts m (drop n b))
    where
      go : (x : Bool) → bars_at n m (drop n b) ≡ cuts_at n (length (bars_at n m (drop n b))) (drop n b)
          → cond x [] (take n b ∷ bars_at n m (drop n b)) ≡ cuts_at n (length (cond x [] (take n b ∷ bars_at n m (drop n b)))) b
      go true f = refl
      go false f = ap (λ (l : List Cut). take n b ∷ l) f

  bars-clear : 0 < n → (m : ℕ) (b : List ℕ) → clear (bars_at n m b) ≡ true
  unfolding bars_at clear
  bars-clear h zero b = refl
  bars-clear h (suc m) b = go (eqb (get_or b 0 0) 255) refl (bars-clear h m (drop n b))
    where
      go : (x : Bool) → eqb (get_or b 0 0) 255 ≡ x → clear (bars_at n m (drop n b)) ≡ true → clear (cond x [] (take n b ∷ bars_at n m (drop n b))) ≡ true
      go true q f = refl
      go false q f = rw (get_or-take n b 0 0 h, q) f

  -- Cuts that are clear, and an unused slot behind them.
  cuts-bars : 0 < n → (X : List Cut) (m : ℕ) (b : List ℕ) → cuts_at n (length X) b ≡ X → clear X ≡ true → length X ≤ m → (length X < m → get_or b (length X * n) 0 ≡ 255) → bars_at n m b ≡ X
  unfolding bars_at cuts_at clear
  cuts-bars h [] zero b e k l f = refl
  cuts-bars h [] (suc m) b e k l f = rw (eq-eqb (get_or b 0 0) 255 (ap (λ (x : ℕ). get_or b x 0) (sym (zero-mul n)) ∙ f (omega arith)))
  cuts-bars h (c ∷ X) zero b e k l f = absurd (not-suc-le-zero l)
  cuts-bars h (c ∷ X) (suc m) b e k l f =
      let a : take n b ≡ c = cc in
      let t : cuts_at n (length X) (drop n b) ≡ X = cc in
      let r = (and-true (not (eqb (get_or c 0 0) 255)) (clear X)).0 k in
      let s : eqb (get_or c 0 0) 255 ≡ false = (false_iff (eqb (get_or c 0 0) 255)).1 ((not_iff (eqb (get_or c 0 0) 255)).0 r.0) in
      let g : get_or b 0 0 ≡ get_or c 0 0 = sym (get_or-take n b 0 0 h) ∙ ap (λ (x : Cut). get_or x 0 0) a in
      let d : length X < m → get_or (drop n b) (length X * n) 0 ≡ 255 =
      λ q. get_or-drop n b (length X * n) 0 ∙ ap (λ (x : ℕ). get_or b x 0) (let o : n + length X * n ≡ suc (length X) * n = omega (arith, suc-mul (length X) n) in o) ∙ f (omega arith) in
      rw (g, s) (ap₂ (λ (x : Cut) (y : List Cut). x ∷ y) a (cuts-bars h X m (drop n b) t r.1 (le_of_suc-le-suc l) d))

-- THE JOIN

pub fit-two : (k m n : ℕ) → k + m ≤ 16 → k * n + m * n ≤ 16 * n
fit-two k m n h = omega (arith, mul-le-mul_right n h, add-mul k m n)

module _ (n i j o k m : ℕ) (b b₁ b₂ b₃ : List ℕ) (z : 0 < n) (hi : i + 16 * n ≤ o) (hj : j + 16 * n ≤ o) (ho : o + 16 * n ≤ length b)
    (ek : k ≡ length (bars_at n 16 (drop i b))) (em : m ≡ length (bars_at n 16 (drop j b))) (few : k + m ≤ 16)
    (s₁ : b₁ ≡ paste b o (drop i b) (k * n)) (s₂ : b₂ ≡ paste b₁ (o + k * n) (drop j b₁) (m * n)) (end : Ended o (k + m) n b₂ b₃) where
  sums : k * n + m * n ≤ 16 * n
  sums = fit-two k m n few

  l₁ : length b₁ ≡ length b
  l₁ = ap length s₁ ∙ lib.Seq.length-paste b o (drop i b) (k * n) (omega (arith, sums)) (omega (arith, sums, length-drop i b))

  hs₂ : m * n ≤ length (drop j b₁)
  hs₂ = omega (arith, sums, length-drop j b₁, l₁)

  front₁ : take o b₁ ≡ take o b
  front₁ = ap (take o) s₁ ∙ paste_front b o (drop i b) (k * n) (omega (arith, sums)) (omega (arith, sums, length-drop i b))

  front₂ : take (o + k * n) b₂ ≡ take (o + k * n) b₁
  front₂ = ap (take (o + k * n)) s₂ ∙ paste_front b₁ (o + k * n) (drop j b₁) (m * n) (omega (arith, sums, l₁)) hs₂

  both-front : take (o + (k * n + m * n)) b₃ ≡ take (o + (k * n + m * n)) b₂
  both-front = ap (λ (x : ℕ). take (o + x) b₃) (sym (add-mul k m n)) ∙ end.front ∙ ap (λ (x : ℕ). take (o + x) b₂) (add-mul k m n)

  first-cuts : cuts_at n k (drop o b₃) ≡ bars_at n 16 (drop i b)
  first-cuts =
      cuts_same n k (drop o b₃) (drop i b)
      (part_same (o + (k * n + m * n)) b₃ b₂ both-front o (k * n) (omega arith)
      ∙ part_same (o + k * n) b₂ b₁ front₂ o (k * n) (omega arith)
      ∙ ap (λ (x : List ℕ). take (k * n) (drop o x)) s₁ ∙ paste_part b o (drop i b) (k * n) (omega (arith, sums)) (omega (arith, sums, length-drop i b)))
      ∙ ap (λ (x : ℕ). cuts_at n x (drop i b)) ek ∙ sym (bars-cuts n 16 (drop i b))

  second-cuts : cuts_at n m (drop (k * n) (drop o b₃)) ≡ bars_at n 16 (drop j b)
  second-cuts =
      let d : drop (k * n) (drop o b₃) ≡ drop (o + k * n) b₃ = drop-drop (k * n) o b₃ in
      ap (cuts_at n m) d
      ∙ cuts_same n m (drop (o + k * n) b₃) (drop j b)
      (part_same (o + (k * n + m * n)) b₃ b₂ both-front (o + k * n) (m * n) (omega arith)
      ∙ ap (λ (x : List ℕ). take (m * n) (drop (o + k * n) x)) s₂ ∙ paste_part b₁ (o + k * n) (drop j b₁) (m * n) (omega (arith, sums, l₁)) hs₂
      ∙ part_same o b₁ b front₁ j (m * n) (omega (arith, sums)))
      ∙ ap (λ (x : ℕ). cuts_at n x (drop j b)) em ∙ sym (bars-cuts n 16 (drop j b))

  pub bars-joined : BarsJoined n i j o b b₃
  bars-joined =
      let l : length (bars_at n 16 (drop i b) ++ bars_at n 16 (drop j b)) ≡ k + m = length-append (bars_at n 16 (drop i b)) (bars_at n 16 (drop j b)) ∙ ap₂ (λ (x y : ℕ). x + y) (sym ek) (sym em) in
      record {
        bars = cuts-bars n z (bars_at n 16 (drop i b) ++ bars_at n 16 (drop j b)) 16 (drop o b₃)
            (ap (λ (x : ℕ). cuts_at n x (drop o b₃)) l ∙ cuts-add n k m (drop o b₃) ∙ ap₂ (λ (x y : List Cut). x ++ y) first-cuts second-cuts)
            (clear_both (bars_at n 16 (drop i b)) (bars_at n 16 (drop j b)) (bars-clear n z 16 (drop i b)) (bars-clear n z 16 (drop j b)))
            (omega arith)
            (λ q. get_or-drop o b₃ (length (bars_at n 16 (drop i b) ++ bars_at n 16 (drop j b)) * n) 0 ∙ ap (λ (x : ℕ). get_or b₃ (o + x * n) 0) l ∙ end.ends (omega arith));
        front = front_same (o + (k * n + m * n)) b₃ b₂ both-front o (omega arith) ∙ front_same (o + k * n) b₂ b₁ front₂ o (omega arith) ∙ front₁;
      }

-- The end of the count.
pub count_all : (n at i : ℕ) (b : List ℕ) (k : ℕ) → i ≡ 16 → k ≡ i + length (bars_at n (16 - i) (drop (at + i * n) b)) → i ≡ k
unfolding bars_at
count_all n at i b k e h = omega (arith, ap (λ (x : ℕ). length (bars_at n x (drop (at + i * n) b))) (let o : 16 - i ≡ 0 = omega arith in o))

-- Where the first bar is not used there are none.
pub no_bars : (n : ℕ) (b : List ℕ) (c : Cut) → get_or b 0 0 ≡ 255 → inside_any c (bars_at n 16 b) ≡ false
unfolding bars_at inside_any
no_bars n b c e = rw (eq-eqb (get_or b 0 0) 255 e) refl
