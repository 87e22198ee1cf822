-- Marks of no set, of one, of two lists one behind the other, and of structures that stand in a workspace.
use mathlib.Core.Path.{◌≡◌, refl, sym, ap, ap₂, subst, ◌∙◌}
use Prim.Native.Nat.{ℕ, zero, suc, ◌+◌, ◌-◌, ◌*◌, ◌≤◌, ◌<◌}
use native.Mathlib.Omega.{arith}
use mathlib.Core.List.{List, [], ◌∷◌, ◌++◌, append-nil}
use mathlib.Core.Option.{some}
use Rattle.std.specs.Prelude.{Option, Some, None}
use borrow.Author.Rules.{rules}
use lib.ListN.{length, get_or, get_elem?, take, drop, replicate, get_or-eq_default, get_or-append, drop_of_length-le}
use lib.Seq.{paste, get_or-take, drop-drop, length-take-le, get_or-append_right}
use native.Mathlib.Decide.{dec_lt}
use Rattle.model.specs.Computation.{Computation}
use Rattle.model.specs.Structure.{Structure}
use Rattle.lattice.specs.OfStation.{OfOwnRows}
use Rattle.lattice.proofs.Lists.{All, all_elem}
use Rattle.structure.specs.Layout.{structure_at, standing, cells, bar_cells}
use Rattle.structure.specs.Marks.{Mark, Marked, Within}

-- NOTHING SAID

no_mark : (m i : ℕ) → get_or (replicate {A = Option ℕ} m None) i None ≡ None
no_mark zero i = refl
no_mark (suc m) zero = refl
no_mark (suc m) (suc i) = no_mark m i

pub none-marked : (K : Computation) (L : List Structure) (m : ℕ) → Marked K L (replicate m None)
none-marked K L m = record { each = λ i A e s h. let z = no_mark m i in search rules }

pub none_within : (n m : ℕ) → Within n (replicate m None)
none_within n m i s h = let z = no_mark m i in search rules

-- ONE STATION

-- All are of station s, and the first may be marked so.
pub one-marked : (K : Computation) (L : List Structure) (s m : ℕ) → All (OfOwnRows K s) L → Marked K L (Some s ∷ replicate m None)
one-marked K L s m a = record { each = λ i A e. one i (all_elem L a i A e) }
  where
    one : (i : ℕ) {A : Structure} → OfOwnRows K s A → Mark K (get_or (Some s ∷ replicate m None) i None) A
    one zero {A} of t h = let z : s ≡ t = search rules in subst (λ (x : ℕ). OfOwnRows K x A) z of
    one (suc i) of t h = let z = no_mark m i in search rules

pub one-within : (n s m : ℕ) → s < n → Within n (Some s ∷ replicate m None)
one-within n s m h zero t e = let z : s ≡ t = search rules in rw (← z) h
one-within n s m h (suc i) t e = let z = no_mark m i in search rules

-- ONE LIST BEHIND THE OTHER

elem_left : (L R : List Structure) (i : ℕ) → i < length L → get_elem? (L ++ R) i ≡ get_elem? L i
elem_left [] R i h = absurd (omega arith)
elem_left (S ∷ L) R zero h = refl
elem_left (S ∷ L) R (suc i) h = elem_left L R i (omega arith)

elem_right : (L R : List Structure) (i : ℕ) → get_elem? (L ++ R) (length L + i) ≡ get_elem? R i
elem_right [] R i = let e : 0 + i ≡ i = omega arith in rw e refl
elem_right (S ∷ L) R i = let e : suc (length L) + i ≡ suc (length L + i) = omega arith in rw e (elem_right L R i)

-- The marks of the second list behind those of the first, as far as there is room.
module _ (l r : List (Option ℕ)) (k : ℕ) (h : k ≤ 16) (ll : length l ≡ 16) (lr : length r ≡ 16) where
  abbrev m : ℕ
  m = 16 - k

  front : length (take k l) ≡ k
  front = length-take-le k l (omega arith)

  both_are : paste l k r (16 - k) ≡ take k l ++ take m r
  both_are =
      let e : drop (k + m) l ≡ [] = drop_of_length-le l {i = k + m} (omega arith) in
      ap (λ (x : List (Option ℕ)). (take k l ++ take m r) ++ x) e ∙ append-nil (take k l ++ take m r)

  mark_left : (i s : ℕ) → i < k → get_or (paste l k r (16 - k)) i None ≡ Some s → get_or l i None ≡ Some s
  mark_left i s g e =
      sym (get_or-take k l i None g) ∙ sym (get_or-append (take k l) (take m r) None i (omega (arith, front))) ∙ sym (ap (λ (x : List (Option ℕ)). get_or x i None) both_are) ∙ e

  taken : (j s : ℕ) → get_or (take m r) j None ≡ Some s → get_or r j None ≡ Some s
  taken j s e = go (dec_lt j m)
    where
      go : Dec (j < m) → get_or r j None ≡ Some s
      go (yes g) = sym (get_or-take m r j None g) ∙ e
      go (no f) = let z = get_or-eq_default (take m r) None {n = j} (omega (arith, length-take-le m r (omega arith))) in search rules

  mark_right : (i s : ℕ) → k ≤ i → get_or (paste l k r (16 - k)) i None ≡ Some s → get_or r (i - k) None ≡ Some s
  mark_right i s g e =
      taken (i - k) s (ap (λ (x : ℕ). get_or (take m r) (i - x) None) (sym front) ∙ sym (get_or-append_right (take k l) (take m r) i None (omega (arith, front)))
      ∙ sym (ap (λ (x : List (Option ℕ)). get_or x i None) both_are) ∙ e)

  pub both-marked : (K : Computation) (L R : List Structure) → length L ≡ k → Marked K L l → Marked K R r → Marked K (L ++ R) (paste l k r (16 - k))
  both-marked K L R e a b = record { each = λ i A f s q. go i A f s q (dec_lt i k) }
    where
      go : (i : ℕ) (A : Structure) → get_elem? (L ++ R) i ≡ some A → (s : ℕ) → get_or (paste l k r (16 - k)) i None ≡ Some s → Dec (i < k) → OfOwnRows K s A
      go i A f s q (yes g) = a.each i A (sym (elem_left L R i (omega arith)) ∙ f) s (mark_left i s g q)
      go i A f s q (no g) =
          let t : length L + (i - k) ≡ i = omega arith in
          b.each (i - k) A (sym (elem_right L R (i - k)) ∙ ap (get_elem? (L ++ R)) t ∙ f) s (mark_right i s (omega arith) q)

  pub both-within : (n : ℕ) → Within n l → Within n r → Within n (paste l k r (16 - k))
  both-within n a b i s e = go (dec_lt i k)
    where
      go : Dec (i < k) → s < n
      go (yes g) = a i s (mark_left i s g e)
      go (no g) = b (i - k) s (mark_right i s (omega arith) e)

-- IN A WORKSPACE

elem_standing : (n : ℕ) (counts : List ℕ) (k : ℕ) (w b : List ℕ) (i : ℕ) → i < k
    → get_elem? (standing n counts k w b) i ≡ some (structure_at n counts (drop (i * cells n counts) w) (drop (i * bar_cells n) b))
unfolding standing
elem_standing n counts zero w b i h = absurd (omega arith)
elem_standing n counts (suc k) w b zero h = let p : 0 * cells n counts ≡ 0 = omega arith in let q : 0 * bar_cells n ≡ 0 = omega arith in rw (p, q) refl
elem_standing n counts (suc k) w b (suc i) h =
    let p : cells n counts + i * cells n counts ≡ suc i * cells n counts = omega arith in
    let q : bar_cells n + i * bar_cells n ≡ suc i * bar_cells n = omega arith in
    elem_standing n counts k (drop (cells n counts) w) (drop (bar_cells n) b) i (omega arith)
    ∙ ap₂ (λ (x y : List ℕ). some (structure_at n counts x y)) (drop-drop (i * cells n counts) (cells n counts) w ∙ ap (λ (m : ℕ). drop m w) p) (drop-drop (i * bar_cells n) (bar_cells n) b ∙ ap (λ (m : ℕ). drop m b) q)

-- The mark of structure i of those that stand there.
pub standing_mark : (K : Computation) (n : ℕ) (counts : List ℕ) (k : ℕ) (w b : List ℕ) (marks : List (Option ℕ)) → Marked K (standing n counts k w b) marks → (i : ℕ) → i < k
    → Mark K (get_or marks i None) (structure_at n counts (drop (i * cells n counts) w) (drop (i * bar_cells n) b))
standing_mark K n counts k w b marks a i h = a.each i _ (elem_standing n counts k w b i h)
