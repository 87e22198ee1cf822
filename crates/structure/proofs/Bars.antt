-- Laws of the bars at a place, from slot i on, and of belonging.
use mathlib.Core.Path.{◌≡◌, sym, ◌∙◌}
use Prim.Native.Nat.{ℕ, suc, ◌+◌, ◌-◌, ◌*◌, ◌≤◌, ◌<◌}
use native.Mathlib.Nat.{zero-mul}
use native.Mathlib.Omega.{arith}
use mathlib.Core.Bool.{Bool, true, false, not, ◌||◌}
use mathlib.Core.List.{List}
use lib.ListN.{get_or, take, drop}
use lib.Seq.{drop-drop}
use borrow.Author.Tests.{eq-eqb, ne_eqb}
use Rattle.model.specs.Cut.{Cut, inside, inside_any}
use Rattle.model.specs.Structure.{Structure, raise, reaches, in_set, belongs}
use Rattle.structure.specs.Layout.{decoded, bars_at}
use Rattle.structure.proofs.Rows.{is_none, is_some, first-at}
use Rattle.structure.proofs.Places.{one_more}

-- Is c contained in one of the bars from slot i on?
abbrev pub barred_from : ℕ → Cut → List ℕ → ℕ → Bool
barred_from n c bars i = inside_any c (bars_at n (16 - i) (drop (i * n) bars))

pub bars_all : (n : ℕ) (c : Cut) (bars : List ℕ) → inside_any c (bars_at n 16 bars) ≡ barred_from n c bars 0
bars_all n c bars = rw zero-mul

module _ (n : ℕ) (c : Cut) (bars : List ℕ) (i : ℕ) where
  pub bars_end : 16 ≤ i → barred_from n c bars i ≡ false
  unfolding bars_at inside_any
  bars_end e = let q : 16 - i ≡ 0 = omega arith in rw q

  module _ (h : i < 16) where
    more : 16 - i ≡ suc (16 - (i + 1))
    more = omega arith

    pub bars_unused : get_or bars (i * n) 0 ≡ 255 → barred_from n c bars i ≡ false
    unfolding bars_at inside_any
    bars_unused f = rw (more, first-at bars (i * n), eq-eqb (get_or bars (i * n) 0) 255 f)

    pub bars-here : (get_or bars (i * n) 0 ≡ 255 → ⊥) → (b : Bool) → b ≡ inside c (take n (drop (i * n) bars))
        → barred_from n c bars i ≡ (b || barred_from n c bars (i + 1))
    unfolding bars_at inside_any
    bars-here f b q =
        let s : i * n + n ≡ (i + 1) * n = omega (arith, one_more i n) in
        rw (q, more, first-at bars (i * n), ne_eqb (get_or bars (i * n) 0) 255 f, drop-drop n (i * n) bars, s)

-- What raising a cut to r tells of belonging.
module _ (n : ℕ) (S : Structure) (c : Cut) (r : List ℕ) (z : 0 < n) (e : decoded (take n r) ≡ raise S c) where
  pub none_outside : get_or r 0 0 ≡ 255 → false ≡ belongs S c
  unfolding belongs in_set reaches
  none_outside f = rw (sym e ∙ is_none n r z f)

  module _ (f : get_or r 0 0 ≡ 255 → ⊥) (t : Bool) (g : t ≡ inside (take n r) c) where
    raised : in_set S c ≡ t
    unfolding in_set reaches
    raised = rw (sym e ∙ is_some n r z f) (sym g)

    pub raised_outside : t ≡ false → t ≡ belongs S c
    unfolding belongs
    raised_outside k = rw (k, raised ∙ k)

    pub raised_inside : t ≡ true → (b : Bool) → b ≡ inside_any c S.bars → not b ≡ belongs S c
    unfolding belongs
    raised_inside k b q = rw (raised ∙ k, q)
