-- The extent of a joined or lifted formula follows from those of its operands.
use Rattle.std.specs.Prelude.{None, Some}
use mathlib.Core.Path.{◌≡◌, refl}
use mathlib.Core.Bool.{Bool, true, false, cond, and-true, and-false}
use Prim.Native.Nat.{ℕ, suc, ◌+◌, ◌*◌, ◌≤◌, max}
use native.Mathlib.Omega.{arith}
use native.Mathlib.Nat.{add-zero, zero-max}
use borrow.Author.Tests.{le-leb}
use Rattle.model.specs.Formula.{Formula, weigh, atoms}
use Rattle.model.specs.Rules.{Normal}
use Rattle.model.specs.Rules.Normal.{literal, both, either, possible, impossible}
use Rattle.model.specs.Size.{width, bars, held, slim, narrow}
use Rattle.model.specs.Forecast.{most_bars, ceiling}
use Rattle.lattice.specs.Signed.{normal, joined_form, lifted_form}
use Rattle.lattice.proofs.Size.{narrow_to}
use Rattle.lattice.proofs.Weights.{weighed, signs_of, weight_true, weight_false, signs-atoms}
use Rattle.lattice.proofs.Held.{five_held}
use Rattle.lattice.proofs.Rounds.{ceiling-normal}
use Rattle.extents.specs.declared.Figures.{Figures}
use Rattle.extents.specs.Extents.{pairs_of, figures_of, extent_of, bounded, joined, lifted, Small}

-- WHAT AN EXTENT TELLS

-- The figures of a narrow formula.
pub record Exact (p : Normal) (g : Figures) : Type 0 where
  pub narrow : narrow p ≡ true
  pub figures : g ≡ figures_of p

pub narrow_of : (p : Normal) (g : Figures) → Some g ≡ extent_of p → Exact p g
unfolding extent_of
narrow_of p g e = go (narrow p) refl e
  where
    go : (k : Bool) → narrow p ≡ k → Some g ≡ cond k (Some (figures_of p)) None → Exact p g
    go true h e = record { narrow = h; figures = cc }
    go false h e = record { narrow = cc; figures = cc }

pub wide_of : (p : Normal) → None ≡ extent_of p → narrow p ≡ false
unfolding extent_of
wide_of p e = go (narrow p) refl e
  where
    go : (k : Bool) → narrow p ≡ k → None ≡ cond k (Some (figures_of p)) None → narrow p ≡ false
    go true h e = cc
    go false h e = h

-- HOW LARGE FIGURES GET

-- A ceiling for the rounds is that of one pair times the pairs.
pub ceiling-pairs : (e : ℕ) (p : Normal) → ceiling e p ≡ pairs_of p * (suc e * suc e)
unfolding ceiling pairs_of
ceiling-pairs e (literal b a) = omega arith
ceiling-pairs e (both p q) = omega (arith, ceiling-pairs e p, ceiling-pairs e q)
ceiling-pairs e (either p q) = omega (arith, ceiling-pairs e p, ceiling-pairs e q)
ceiling-pairs e (possible p) = ceiling-pairs e p
ceiling-pairs e (impossible p) = ceiling-pairs e p

-- A sign of a narrow formula has at most 16 pairs.
pairs-signs : (p : Normal) → narrow p ≡ true → pairs_of p ≤ 16 * signs_of p
pairs-signs p h = omega (arith, ceiling-pairs 0 p, ceiling-normal 0 p h)

normal_weight : (a b : ℕ) (s : Bool) (f : Formula) → weighed a b (normal s f) ≡ weigh a 0 b f
normal_weight a b true f = weight_true a b f
normal_weight a b false f = weight_false a b f

pub extent-small : (s : Bool) (f : Formula) → atoms f ≤ 99 → Small (extent_of (normal s f))
unfolding extent_of figures_of
extent-small s f l = go (narrow (normal s f)) refl
  where
    go : (k : Bool) → narrow (normal s f) ≡ k → Small (cond k (Some (figures_of (normal s f))) None)
    go true h =
        let p = normal s f in
        record {
          width = (narrow_to p h).0;
          bars = (narrow_to p h).1;
          held = omega (arith, five_held p h, normal_weight 1 0 s f);
          pairs = omega (arith, pairs-signs p h, normal_weight 0 1 s f, signs-atoms f);
        }
    go false h = tt

-- POSSIBLY, AND NOT POSSIBLY

pub lift_wide : (k : Bool) (p : Normal) → None ≡ extent_of p → None ≡ extent_of (lifted_form k p)
unfolding extent_of narrow
lift_wide true p e = simp (wide_of p e, and-false)
lift_wide false p e = simp (wide_of p e, and-false)

module _ (p : Normal) (g : Figures) (x : Exact p g) where
  pub lift_keep : Some (lifted g g.width 0) ≡ extent_of (lifted_form true p)
  unfolding extent_of figures_of narrow slim width bars most_bars held pairs_of
  lift_keep = rw x.figures (simp (le-leb (width p) 16 (narrow_to p x.narrow).0, x.narrow, zero-max))

  pub lift_bars : Some (lifted g 1 g.width) ≡ extent_of (lifted_form false p)
  unfolding extent_of figures_of narrow slim width bars most_bars held pairs_of
  lift_bars = rw x.figures (simp (le-leb (width p) 16 (narrow_to p x.narrow).0, x.narrow))

-- AND, OR

pub join_wide_left : (k : Bool) (p q : Normal) → None ≡ extent_of p → None ≡ extent_of (joined_form k p q)
unfolding extent_of narrow
join_wide_left true p q e = simp (wide_of p e, and-false)
join_wide_left false p q e = simp (wide_of p e, and-false)

pub join_wide_right : (k : Bool) (p q : Normal) → None ≡ extent_of q → None ≡ extent_of (joined_form k p q)
unfolding extent_of narrow
join_wide_right true p q e = simp (wide_of q e, and-false)
join_wide_right false p q e = simp (wide_of q e, and-false)

module _ (p q : Normal) (a b : Figures) (x : Exact p a) (y : Exact q b) where
  pub join-both : bounded (joined a b (a.width * b.width) (a.bars + b.bars) (a.width * b.width)) ≡ extent_of (joined_form true p q)
  unfolding bounded extent_of figures_of narrow slim width bars most_bars held pairs_of
  join-both = rw (x.figures, y.figures) (simp (x.narrow, y.narrow, and-true))

  pub join-either : bounded (joined a b (a.width + b.width) (max a.bars b.bars) 0) ≡ extent_of (joined_form false p q)
  unfolding bounded extent_of figures_of narrow slim width bars most_bars held pairs_of
  join-either = rw (x.figures, y.figures) (simp (x.narrow, y.narrow, and-true, add-zero))
