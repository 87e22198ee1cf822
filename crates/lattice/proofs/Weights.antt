-- The counts of a formula's tokens are those of its normal forms.
use mathlib.Core.Path.{◌≡◌, refl}
use Prim.Native.Nat.{ℕ, suc, ◌+◌}
use native.Mathlib.Omega.{arith}
use Rattle.model.specs.Formula.{Formula, weigh, atoms, signs}
use Rattle.model.specs.Formula.Formula.{atom, not, and, or, possibly, always}
use Rattle.model.specs.Rules.{Normal, as_true, as_false}
use Rattle.model.specs.Rules.Normal.{literal, both, either, possible, impossible}

-- Each atom weighed by a, and each both and either by b.
unfoldable pub weighed : ℕ → ℕ → Normal → ℕ
weighed a b (literal t x) = a
weighed a b (both p q) = b + weighed a b p + weighed a b q
weighed a b (either p q) = b + weighed a b p + weighed a b q
weighed a b (possible p) = weighed a b p
weighed a b (impossible p) = weighed a b p

abbrev pub atoms_of : Normal → ℕ
atoms_of = weighed 1 0

abbrev pub signs_of : Normal → ℕ
signs_of = weighed 0 1

-- Either rule keeps the counts.
mutual
  unfolding weighed weigh as_true as_false

  pub weight_true : (a b : ℕ) (f : Formula) → weighed a b (as_true f) ≡ weigh a 0 b f
  weight_true a b (atom x) = refl
  weight_true a b (not f) = omega (arith, weight_false a b f)
  weight_true a b (and f g) = omega (arith, weight_true a b f, weight_true a b g)
  weight_true a b (or f g) = omega (arith, weight_true a b f, weight_true a b g)
  weight_true a b (possibly f) = omega (arith, weight_true a b f)
  weight_true a b (always f) = omega (arith, weight_false a b f)

  pub weight_false : (a b : ℕ) (f : Formula) → weighed a b (as_false f) ≡ weigh a 0 b f
  weight_false a b (atom x) = refl
  weight_false a b (not f) = omega (arith, weight_true a b f)
  weight_false a b (and f g) = omega (arith, weight_false a b f, weight_false a b g)
  weight_false a b (or f g) = omega (arith, weight_false a b f, weight_false a b g)
  weight_false a b (possibly f) = omega (arith, weight_true a b f)
  weight_false a b (always f) = omega (arith, weight_false a b f)

-- There is one atom more than and- and or-signs.
pub signs-atoms : (f : Formula) → suc (signs f) ≡ atoms f
unfolding weigh
signs-atoms (atom x) = refl
signs-atoms (not f) = omega (arith, signs-atoms f)
signs-atoms (and f g) = omega (arith, signs-atoms f, signs-atoms g)
signs-atoms (or f g) = omega (arith, signs-atoms f, signs-atoms g)
signs-atoms (possibly f) = omega (arith, signs-atoms f)
signs-atoms (always f) = omega (arith, signs-atoms f)
