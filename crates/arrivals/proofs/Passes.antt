-- A turn of the passes over the table: upwards, where entries become the largest so far, and down again, where they are settled.
use mathlib.Core.Path.{◌≡◌, refl, ap, ap₂, ◌∙◌}
use Prim.Native.Nat.{ℕ, zero, suc, ◌+◌, ◌≤◌, ◌<◌, max}
use native.Mathlib.Omega.{arith}
use native.Mathlib.Numerals.{add-one}
use mathlib.Core.Bool.{Bool, true, false, cond}
use mathlib.Core.List.{List}
use lib.Dec.{eqb, ltb}
use lib.ListN.{length, get_or, set}
use lib.Seq.{get_or-set_same, get_or-set_other}
use borrow.Author.Tests.{eqb-true, eqb-false, ltb-true}
use Rattle.arrivals.specs.Table.{highest, brought, onward, settled, Known}

-- UPWARDS

pub gather_first : (t : List ℕ) (y : ℕ) → y ≤ 0 → get_or t y 0 ≡ highest t y
unfolding highest
gather_first t zero h = refl
gather_first t (suc y) h = absurd (omega arith)

module _ (t₀ t : List ℕ) (x v : ℕ) (n : length t ≡ 256) (h : x + 1 < 256) where
  pub gather_turn : ((y : ℕ) → y ≤ x → get_or t y 0 ≡ highest t₀ y) → ((y : ℕ) → x < y → get_or t y 0 ≡ get_or t₀ y 0) → v ≡ max (get_or t (x + 1) 0) (get_or t x 0)
      → (y : ℕ) → y ≤ x + 1 → get_or (set t (x + 1) v) y 0 ≡ highest t₀ y
  unfolding highest
  gather_turn below above e y l = go (eqb y (x + 1)) refl
    where
      go : (b : Bool) → eqb y (x + 1) ≡ b → get_or (set t (x + 1) v) y 0 ≡ highest t₀ y
      go true q =
          let r : y ≡ x + 1 = eqb-true y (x + 1) q in
          let s : get_or (set t (x + 1) v) (x + 1) 0 ≡ max (get_or t₀ (x + 1) 0) (highest t₀ x) =
          get_or-set_same t (x + 1) v 0 (omega arith) ∙ e ∙ ap₂ max (above (x + 1) (omega arith)) (below x (omega arith)) in
          rw (r, add-one x) (rw (add-one x) at s)
      go false q = let r = eqb-false y (x + 1) q in get_or-set_other t (x + 1) y v 0 r ∙ below y (omega arith)

  pub gather_kept : ((y : ℕ) → x < y → get_or t y 0 ≡ get_or t₀ y 0) → (y : ℕ) → x + 1 < y → get_or (set t (x + 1) v) y 0 ≡ get_or t₀ y 0
  gather_kept above y l = get_or-set_other t (x + 1) y v 0 (λ e. omega arith) ∙ above y (omega arith)

-- DOWN AGAIN

module _ (n i off : ℕ) (starts t : List ℕ) (x : ℕ) where
  -- An entry looks only at those above it.
  settled_same : (v y k : ℕ) → x ≤ y → settled n i off starts t y k ≡ settled n i off starts (set t x v) y k
  unfolding settled onward
  settled_same v y k h = go (ltb y z) refl
    where
      z : ℕ
      z = brought n i off starts k

      go : (b : Bool) → ltb y z ≡ b → cond (eqb k 255) 255 (cond (ltb y z) (get_or t z 0) k) ≡ cond (eqb k 255) 255 (cond (ltb y z) (get_or (set t x v) z 0) k)
      go true q = rw (q, get_or-set_other t x z v 0 (λ e. omega (arith, ltb-true y z q)))
      go false q = rw q

  pub known_same : (t₀ : List ℕ) → get_or t x 0 ≡ get_or t₀ x 0 → Known n i off starts t₀ x → Known n i off starts t x
  known_same t₀ e h = rw e h

  module _ (t₀ : List ℕ) (v c : ℕ) (l : length t ≡ 256) (h : x < 256) (same : (y : ℕ) → y ≤ x → get_or t y 0 ≡ get_or t₀ y 0) (is : v ≡ settled n i off starts t x (get_or t x 0)) where
    pub settle_turn : ((y : ℕ) → x + 1 ≤ y → y ≤ c → get_or t y 0 ≡ settled n i off starts t y (get_or t₀ y 0))
        → (y : ℕ) → x ≤ y → y ≤ c → get_or (set t x v) y 0 ≡ settled n i off starts (set t x v) y (get_or t₀ y 0)
    settle_turn above y a b = go (eqb y x) refl
      where
        go : (d : Bool) → eqb y x ≡ d → get_or (set t x v) y 0 ≡ settled n i off starts (set t x v) y (get_or t₀ y 0)
        go true q =
            let r : y ≡ x = eqb-true y x q in
            rw r (get_or-set_same t x v 0 (omega arith) ∙ is ∙ ap (settled n i off starts t x) (same x (omega arith)) ∙ settled_same v x (get_or t₀ x 0) (omega arith))
        go false q = let r = eqb-false y x q in get_or-set_other t x y v 0 r ∙ above y (omega arith) b ∙ settled_same v y (get_or t₀ y 0) a
