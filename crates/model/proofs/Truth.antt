-- Truth and falsity: possibly and always take in the cut itself, always asks for no more than that nothing is false, and nothing is both true and false.
use mathlib.Core.Path.{◌≡◌}
use mathlib.Core.Logic.{inl, inr}
use native.Mathlib.Nat.{le_refl}
use mathlib.Core.Bool.{Bool, true, false, false≢true, not as negated}
use Rattle.model.specs.declared.Finding.{Finding}
use Rattle.model.specs.declared.Finding.TheVariants.{Inside, Outside, Silent}
use Rattle.model.specs.Atom.{Atom, test, seen, is_inside, is_outside, atom_is_true, atom_is_false}
use Rattle.model.specs.Atom.Atom.{in_range, clear}
use Rattle.model.specs.Formula.{Formula}
use Rattle.model.specs.Formula.Formula.{atom, not, and, or, possibly, always}
use Rattle.model.specs.Cut.{Cut, ◌!◌, ◌⊑◌}
use Rattle.model.specs.Computation.{Computation, Consistent, report}
use Rattle.model.specs.Truth.{True, False}

pub possibly_now : (K : Computation) (f : Formula) (c : Cut) → Consistent K c → True K f c → True K (possibly f) c
possibly_now K f c p t = (c, p, λ j. le_refl (c ! j), t)

pub not-always_now : (K : Computation) (f : Formula) (c : Cut) → Consistent K c → False K f c → True K (not (always f)) c
not-always_now K f c p n = (c, p, λ j. le_refl (c ! j), n)

-- Always f is true where f is false at no cut to come, though it be true at none.
pub always_unless_false : (K : Computation) (f : Formula) (c : Cut) → ((d : Cut) → Consistent K d → c ⊑ d → False K f d → ⊥) → True K (always f) c
always_unless_false K f c never = λ u. never u.0 u.1 u.2 u.3

-- NEVER BOTH

found_once : (x : Finding) → is_inside x ≡ true → is_outside x ≡ true → ⊥
unfolding is_inside is_outside
found_once Inside p q = false≢true q
found_once Outside p q = false≢true p
found_once Silent p q = false≢true p

not-both : (b : Bool) → b ≡ true → negated b ≡ true → ⊥
not-both true p q = false≢true q
not-both false p q = false≢true p

atom_once : (K : Computation) (a : Atom) (c : Cut) → atom_is_true K a c ≡ true → atom_is_false K a c ≡ true → ⊥
unfolding atom_is_true atom_is_false
atom_once K (in_range a s lo hi) c = found_once (test a lo hi (seen a (report K s (c ! s))))
atom_once K (clear i j) c = not-both (atom_is_true K (clear i j) c)

pub never_both : (K : Computation) (f : Formula) (c : Cut) → True K f c → False K f c → ⊥
never_both K (atom a) c t u = atom_once K a c t u
never_both K (not f) c t u = never_both K f c u t
never_both K (and f g) c t u = elim u [ inl v ↦ never_both K f c t.0 v | inr v ↦ never_both K g c t.1 v ]
never_both K (or f g) c t u = elim t [ inl v ↦ never_both K f c v u.0 | inr v ↦ never_both K g c v u.1 ]
never_both K (possibly f) c t u = u t
never_both K (always f) c t u = t u
