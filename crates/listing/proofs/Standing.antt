-- Laws of loops over the structures that stand in a workspace.
use mathlib.Core.Path.{◌≡◌, refl, sym, ap, ◌∙◌}
use Prim.Native.Nat.{ℕ, zero, suc, ◌+◌, ◌*◌, ◌-◌, ◌≤◌, ◌<◌}
use native.Mathlib.Nat.{add-mul, zero-mul, sub-zero}
use native.Mathlib.Omega.{arith}
use mathlib.Core.Bool.{Bool, true, false}
use mathlib.Core.List.{List, ◌∷◌, map}
use lib.ListN.{take, drop, replicate}
use lib.Seq.{drop-drop}
use Rattle.model.specs.Lists.{total}
use Rattle.model.specs.Cut.{Cut, empty}
use Rattle.model.specs.Structure.{Structure, greatest, belongs, belongs_any}
use Rattle.model.specs.Answer.{tops, sort}
use Rattle.structure.specs.Layout.{cuts_at, structure_at, standing}
use Rattle.structure.proofs.Places.{cells_are}
use Rattle.lattice.proofs.Lists.{All, all_head, all_tail}
use Rattle.lattice.proofs.Sorting.{sort-tops}
use Rattle.cuts.specs.Cuts.{added}

next_place : (c i : ℕ) (l : List ℕ) → drop c (drop (i * c) l) ≡ drop ((i + 1) * c) l
next_place c i l = let d : i * c + c ≡ (i + 1) * c = omega (arith, add-mul i 1 c) in drop-drop c (i * c) l ∙ ap (λ (m : ℕ). drop m l) d

-- k structures of e events stand in ws.
module _ (n e k : ℕ) (counts ws : List ℕ) (t : total counts ≡ e) where
  -- From the i-th on.
  standing-from : (i : ℕ) (bs : List ℕ) → i < k
      → standing n counts (k - i) (drop (i * ((e + 1) * n)) ws) bs ≡ structure_at n counts (drop (i * ((e + 1) * n)) ws) bs ∷ standing n counts (k - (i + 1)) (drop ((i + 1) * ((e + 1) * n)) ws) (drop (16 * n) bs)
  unfolding standing
  standing-from i bs h =
      let s : k - i ≡ suc (k - (i + 1)) = omega arith in
      rw (s, cells_are n e counts t, next_place ((e + 1) * n) i ws)

  -- BELONGING

  module _ (c : Cut) (bs : List ℕ) (i : ℕ) where
    pub one-belongs : {b : Bool} → i < k → b ≡ belongs (structure_at n counts (drop (i * ((e + 1) * n)) ws) (drop (i * (16 * n)) bs)) c → b ≡ true
        → belongs_any (standing n counts (k - i) (drop (i * ((e + 1) * n)) ws) (drop (i * (16 * n)) bs)) c ≡ true
    unfolding belongs_any
    one-belongs h b t = rw (standing-from i (drop (i * (16 * n)) bs) h, ← b, t)

    pub others_belong : {b : Bool} → i < k → b ≡ belongs (structure_at n counts (drop (i * ((e + 1) * n)) ws) (drop (i * (16 * n)) bs)) c → b ≡ false
        → belongs_any (standing n counts (k - i) (drop (i * ((e + 1) * n)) ws) (drop (i * (16 * n)) bs)) c ≡ belongs_any (standing n counts (k - (i + 1)) (drop ((i + 1) * ((e + 1) * n)) ws) (drop ((i + 1) * (16 * n)) bs)) c
    unfolding belongs_any
    others_belong h b f = rw (standing-from i (drop (i * (16 * n)) bs) h, ← b, f, next_place (16 * n) i bs)

    pub none-belongs : k ≤ i → belongs_any (standing n counts (k - i) (drop (i * ((e + 1) * n)) ws) (drop (i * (16 * n)) bs)) c ≡ false
    unfolding belongs_any standing
    none-belongs h = let s : k - i ≡ 0 = omega arith in rw s

  -- LISTING

  -- What all from the j-th on have the j-th has, and all behind it.
  pub all_from : {G : Structure → Type 0} (i j : ℕ) (bs : List ℕ) → i ≡ j + 1 → j < k → All G (standing n counts (k - j) (drop (j * ((e + 1) * n)) ws) bs)
      → G (structure_at n counts (drop (j * ((e + 1) * n)) ws) bs) × All G (standing n counts (k - i) (drop (i * ((e + 1) * n)) ws) (drop (16 * n) bs))
  all_from i j bs s h a = let b = rw (standing-from j bs h) at a in (all_head b, rw s (all_tail b))

  -- One structure more in front: its greatest cut g is added.
  pub list-more : (i j : ℕ) (bs : List ℕ) (g : Cut) (was r : List Cut) → i ≡ j + 1 → j < k
      → was ≡ sort (tops (map greatest (standing n counts (k - i) (drop (i * ((e + 1) * n)) ws) (drop (16 * n) bs))))
      → g ≡ greatest (structure_at n counts (drop (j * ((e + 1) * n)) ws) bs)
      → r ≡ added g was
      → r ≡ sort (tops (map greatest (standing n counts (k - j) (drop (j * ((e + 1) * n)) ws) bs)))
  list-more i j bs g was r s h p o q =
      let m = map greatest (standing n counts (k - (j + 1)) (drop ((j + 1) * ((e + 1) * n)) ws) (drop (16 * n) bs)) in
      let u : was ≡ sort (tops m) = p ∙ ap (λ (x : ℕ). sort (tops (map greatest (standing n counts (k - x) (drop (x * ((e + 1) * n)) ws) (drop (16 * n) bs))))) s in
      q ∙ ap (added g) u ∙ sym (sort-tops g m) ∙ ap (λ (x : Cut). sort (tops (x ∷ m))) o
      ∙ ap (λ (l : List Structure). sort (tops (map greatest l))) (sym (standing-from j bs h))

  pub list_all : (i : ℕ) (bs : List ℕ) → i ≤ 0 → standing n counts (k - i) (drop (i * ((e + 1) * n)) ws) bs ≡ standing n counts k ws bs
  list_all i bs h = let s : i ≡ 0 = omega arith in rw (s, zero-mul ((e + 1) * n), sub-zero k)

pub list-none : (n k : ℕ) (l counts w bs : List ℕ) → cuts_at n 0 l ≡ sort (tops (map greatest (standing n counts (k - k) w bs)))
unfolding cuts_at standing tops sort
list-none n k l counts w bs = let s : k - k ≡ 0 = omega arith in rw s

-- From the first on.
pub belongs_all : (n e k : ℕ) (counts ws bs : List ℕ) (c : Cut)
    → belongs_any (standing n counts k ws bs) c ≡ belongs_any (standing n counts (k - 0) (drop (0 * ((e + 1) * n)) ws) (drop (0 * (16 * n)) bs)) c
belongs_all n e k counts ws bs c = rw (zero-mul ((e + 1) * n), zero-mul (16 * n), sub-zero k)

take_zeros : (n m : ℕ) → n ≤ m → take n (replicate m 0) ≡ empty n
take_zeros zero m h = refl
take_zeros (suc n) zero h = absurd (omega arith)
take_zeros (suc n) (suc m) h = ap (λ (l : List ℕ). 0 ∷ l) (take_zeros n m (omega arith))

-- The first n of eight zeros are the cut that holds no event.
pub belongs-empty : (n k : ℕ) (counts ws bs : List ℕ) {b : Bool} {cut : List ℕ} → n ≤ 8 → cut ≡ replicate 8 0 → b ≡ belongs_any (standing n counts k ws bs) (take n cut)
    → b ≡ belongs_any (standing n counts k ws bs) (empty n)
belongs-empty n k counts ws bs h z e = e ∙ ap (belongs_any (standing n counts k ws bs)) (ap (take n) z ∙ take_zeros n 8 h)
