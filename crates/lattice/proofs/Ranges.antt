-- When a range, 01 or 08, is true and when false, in numbers, where the station is not silent; where it is, it is neither.
use mathlib.Core.Path.{◌≡◌, refl}
use mathlib.Core.Logic.{◌↔◌, ◌⊎◌, inl, inr}
use Prim.Native.Nat.{ℕ, suc, ◌≤◌, ◌<◌}
use native.Mathlib.Omega.{arith}
use native.Mathlib.Decide.{dec_le}
use mathlib.Core.Bool.{Bool, true, false, cond, not as negated}
use lib.Dec.{leb}
use borrow.Author.Tests.{le-leb, lt-leb}
use Rattle.model.specs.declared.Aspect.{Aspect}
use Rattle.model.specs.declared.Finding.TheVariants.{Inside, Outside}
use Rattle.model.specs.Cut.{Cut, ◌!◌}
use Rattle.model.specs.Computation.{Computation, report}
use Rattle.model.specs.Atom.{seen, is_silent, within, test, is_inside, is_outside, atom_is_true, atom_is_false}
use Rattle.model.specs.Atom.Atom.{in_range}
use Rattle.model.specs.Formula.{Formula}
use Rattle.model.specs.Formula.Formula.{atom, not}
use Rattle.model.specs.Truth.{True, False}
use Rattle.lattice.proofs.Tests.{clash, not_iff, or_iff, leb_iff, between_iff}

inside_if : (w : Bool) → is_inside (cond w Inside Outside) ≡ w
unfolding is_inside
inside_if true = refl
inside_if false = refl

outside_unless : (w : Bool) → is_outside (cond w Inside Outside) ≡ negated w
unfolding is_outside
outside_unless true = refl
outside_unless false = refl

-- What is not silent is inside, or else outside.
module _ (a : Aspect) (lo hi v : ℕ) (heard : is_silent a v ≡ false) where
  pub found_inside : is_inside (test a lo hi v) ≡ within lo hi v
  unfolding test
  found_inside = rw heard (inside_if (within lo hi v))

  pub found_outside : is_outside (test a lo hi v) ≡ negated (within lo hi v)
  unfolding test
  found_outside = rw heard (outside_unless (within lo hi v))

module _ (K : Computation) (a : Aspect) (s lo hi : ℕ) (c : Cut) where
  abbrev v : ℕ
  v = seen a (report K s (c ! s))

  abbrev range : Formula
  range = atom (in_range a s lo hi)

  -- Silent: neither.
  pub silent_neither : is_silent a v ≡ true → (True K range c → ⊥) × (False K range c → ⊥)
  unfolding atom_is_true atom_is_false test is_inside is_outside
  silent_neither h = rw h (λ t. clash t refl, λ t. clash t refl)

  module _ (heard : is_silent a v ≡ false) where
    -- From lo to hi.
    pub from_lo_to_hi : lo ≤ hi → True K range c ↔ ((lo ≤ v) × (v ≤ hi))
    unfolding atom_is_true within
    from_lo_to_hi h = rw (found_inside a lo hi v heard, le-leb lo hi h) (between_iff lo hi v)

    -- Through zero: from lo up, and up to hi.
    pub through_zero : hi < lo → True K range c ↔ ((lo ≤ v) ⊎ (v ≤ hi))
    unfolding atom_is_true within
    through_zero h = rw (found_inside a lo hi v heard, lt-leb lo hi h) (or_iff (leb lo v) (leb v hi) (leb_iff lo v) (leb_iff v hi))

    -- False where it is not true.
    pub outside_iff : False K range c ↔ (True K range c → ⊥)
    unfolding atom_is_true atom_is_false
    outside_iff = rw (found_inside a lo hi v heard, found_outside a lo hi v heard) (not_iff (within lo hi v))

    -- Neither end is in the negation.
    pub not_through_zero : hi < lo → True K (not range) c ↔ ((hi < v) × (v < lo))
    not_through_zero h = (
      λ u. let n = outside_iff.0 u in (above n (dec_le v hi), below n (dec_le lo v)),
      λ b. outside_iff.1 (λ t. elim ((through_zero h).0 t) [ inl p ↦ omega arith | inr p ↦ omega arith ]),
    )
      where
        above : (True K range c → ⊥) → Dec (v ≤ hi) → hi < v
        above n (yes p) = absurd (n ((through_zero h).1 (inr p)))
        above n (no p) = omega arith

        below : (True K range c → ⊥) → Dec (lo ≤ v) → v < lo
        below n (yes p) = absurd (n ((through_zero h).1 (inl p)))
        below n (no p) = omega arith

    -- Where lo is one above hi every value is in the range.
    pub every_value : lo ≡ suc hi → True K range c
    every_value e = (through_zero (omega arith)).1 (at (dec_le v hi))
      where
        at : Dec (v ≤ hi) → (lo ≤ v) ⊎ (v ≤ hi)
        at (yes p) = inr p
        at (no p) = inl (omega arith)
