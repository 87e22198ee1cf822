-- The structures held while a question is worked out: each step's need is within the figure, and an accepted question's figure has its bound.
-- A width is at most 16, and at most the atoms if these are fewer than 5: so 5 * width ≤ 16 * atoms, and 5 * held ≤ 16 * atoms + 80.
use mathlib.Core.Path.{◌≡◌}
use mathlib.Core.Logic.{◌⊎◌, inl, inr}
use Prim.Native.Nat.{ℕ, zero, suc, ◌+◌, ◌*◌, ◌≤◌}
use native.Mathlib.Omega.{arith}
use native.Mathlib.Nat.{mul-le-mul}
use native.Mathlib.Decide.{dec_le}
use mathlib.Core.Bool.{true, ◌&&◌}
use lib.Dec.{leb}
use borrow.Author.Tests.{leb-true}
use Rattle.model.specs.Limits.{limits, barspace_size, most_held}
use Rattle.model.specs.Formula.{Formula, tokens, atoms, signs}
use Rattle.model.specs.Rules.{Normal, as_true}
use Rattle.model.specs.Rules.Normal.{literal, both, either, possible, impossible}
use Rattle.model.specs.Size.{width, held, narrow, fits}
use Rattle.lattice.proofs.Tests.{and-true}
use Rattle.lattice.proofs.Size.{narrow_to, narrow_both, narrow-either, narrow-possible, narrow-impossible}
use Rattle.lattice.proofs.Weights.{atoms_of, weighed, weight_true, signs-atoms}

-- EACH STEP

-- The left operand's needs; the right operand's behind the left basis; both bases and what is made of them.
pub held_both : (p q : Normal) → (held p ≤ held (both p q)) × (width p + held q ≤ held (both p q)) × (width p + width q + width (both p q) ≤ held (both p q))
unfolding held
held_both p q = (omega arith, omega arith, omega arith)

pub held-either : (p q : Normal) → (held p ≤ held (either p q)) × (width p + held q ≤ held (either p q)) × (width p + width q + width (either p q) ≤ held (either p q))
unfolding held
held-either p q = (omega arith, omega arith, omega arith)

-- The operand's needs; its basis and what is made of it.
pub held-possible : (p : Normal) → (held p ≤ held (possible p)) × (width p + width (possible p) ≤ held (possible p))
unfolding held
held-possible p = (omega arith, omega arith)

pub held-impossible : (p : Normal) → (held p ≤ held (impossible p)) × (width p + width (impossible p) ≤ held (impossible p))
unfolding held
held-impossible p = (omega arith, omega arith)

-- A basis itself.
pub width-held : (p : Normal) → width p ≤ held p
unfolding held width
width-held (literal b a) = omega arith
width-held (both p q) = omega (arith, (held_both p q).2)
width-held (either p q) = omega (arith, (held-either p q).2)
width-held (possible p) = omega (arith, (held-possible p).1)
width-held (impossible p) = omega (arith, (held-impossible p).1)

-- THE WHOLE

small_product : (x y : ℕ) → x + y ≤ 4 → x * y ≤ x + y
small_product zero y h = omega arith
small_product (suc zero) y h = omega arith
small_product (suc (suc zero)) y h = omega arith
small_product (suc (suc (suc x))) y h = few y h
  where
    few : (z : ℕ) → suc (suc (suc x)) + z ≤ 4 → suc (suc (suc x)) * z ≤ suc (suc (suc x)) + z
    few zero h = omega arith
    few (suc zero) h = omega arith
    few (suc (suc z)) h = absurd (omega arith)

atoms_pos : (p : Normal) → 1 ≤ atoms_of p
unfolding weighed
atoms_pos (literal b a) = omega arith
atoms_pos (both p q) = omega (arith, atoms_pos p)
atoms_pos (either p q) = omega (arith, atoms_pos p)
atoms_pos (possible p) = atoms_pos p
atoms_pos (impossible p) = atoms_pos p

-- With fewer than 5 atoms a width is at most their number.
width-atoms : (p : Normal) → (width p ≤ atoms_of p) ⊎ (5 ≤ atoms_of p)
unfolding width weighed
width-atoms (literal b a) = inl (omega arith)
width-atoms (both p q) = go (width-atoms p) (width-atoms q) (dec_le 5 (atoms_of p + atoms_of q))
  where
    go : (width p ≤ atoms_of p) ⊎ (5 ≤ atoms_of p) → (width q ≤ atoms_of q) ⊎ (5 ≤ atoms_of q) → Dec (5 ≤ atoms_of p + atoms_of q)
        → (width (both p q) ≤ atoms_of (both p q)) ⊎ (5 ≤ atoms_of (both p q))
    go u v (yes h) = inr (omega arith)
    go (inl u) (inl v) (no h) = inl (omega (arith, mul-le-mul u v, small_product (atoms_of p) (atoms_of q) (omega arith)))
    go (inl u) (inr v) (no h) = inr (omega arith)
    go (inr u) v (no h) = inr (omega arith)
width-atoms (either p q) = go (width-atoms p) (width-atoms q)
  where
    go : (width p ≤ atoms_of p) ⊎ (5 ≤ atoms_of p) → (width q ≤ atoms_of q) ⊎ (5 ≤ atoms_of q) → (width (either p q) ≤ atoms_of (either p q)) ⊎ (5 ≤ atoms_of (either p q))
    go (inl u) (inl v) = inl (omega arith)
    go (inl u) (inr v) = inr (omega arith)
    go (inr u) v = inr (omega arith)
width-atoms (possible p) = width-atoms p
width-atoms (impossible p) = inl (atoms_pos p)

-- Five times a width, by the atoms.
five_width : (p : Normal) → narrow p ≡ true → 5 * width p ≤ 16 * atoms_of p
five_width p h = go (width-atoms p) (narrow_to p h).0
  where
    go : (width p ≤ atoms_of p) ⊎ (5 ≤ atoms_of p) → width p ≤ 16 → 5 * width p ≤ 16 * atoms_of p
    go (inl u) w = omega arith
    go (inr u) w = omega arith

-- Five times the figure, by the atoms.
pub five_held : (p : Normal) → narrow p ≡ true → 5 * held p ≤ 16 * atoms_of p + 80
unfolding held width weighed
five_held (literal b a) h = omega arith
five_held (both p q) h = let n = narrow_both p q h in
    omega (arith, n.0, five_held p n.2, five_held q n.3, five_width p n.2, five_width q n.3)
five_held (either p q) h = let n = narrow-either p q h in
    omega (arith, n.0, five_held p n.2, five_held q n.3, five_width p n.2, five_width q n.3)
five_held (possible p) h = let n = narrow-possible p h in omega (arith, n.0, five_held p n.1, five_width p n.1)
five_held (impossible p) h = let n = narrow-impossible p h in omega (arith, n.0, five_held p n.1, five_width p n.1)

-- What an accepted question is.
pub fits_to : (f : Formula) → fits f ≡ true → (tokens f ≤ 32) × (atoms f ≤ 12) × (narrow (as_true f) ≡ true)
unfolding fits
fits_to f h =
    let a = (and-true (leb (tokens f) 32 && leb (atoms f) 12) (narrow (as_true f))).0 h in
    let b = (and-true (leb (tokens f) 32) (leb (atoms f) 12)).0 a.0 in
    (leb-true (tokens f) 32 b.0, leb-true (atoms f) 12 b.1, a.1)

-- Its and- and or-signs.
pub fits-signs : (f : Formula) → fits f ≡ true → signs f ≤ 31
fits-signs f h = omega (arith, signs-atoms f, (fits_to f h).1)

-- By its atoms.
pub held-atoms : (f : Formula) → fits f ≡ true → 5 * held (as_true f) ≤ 16 * atoms f + 80
held-atoms f h = rw (weight_true 1 0 f) at (five_held (as_true f) (fits_to f h).2)

-- As many structures are held at most.
pub held-le : (f : Formula) → fits f ≡ true → held (as_true f) ≤ most_held
held-le f h = omega (arith, held-atoms f h, (fits_to f h).1)

-- The bar space suffices.
pub barspace_fits : (f : Formula) → fits f ≡ true → (n : ℕ) → n ≤ limits.stations → held (as_true f) * (16 * n) ≤ barspace_size
barspace_fits f h n a =
    let d : held (as_true f) * (16 * n) ≤ most_held * (16 * limits.stations) = mul-le-mul {n₁ = held (as_true f)} {m₁ = 16 * n} {n₂ = most_held} {m₂ = 16 * limits.stations} (held-le f h) (omega arith) in
    omega (arith, d)
