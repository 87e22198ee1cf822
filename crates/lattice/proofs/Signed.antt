-- The two rules as one: the normal form, the weight and the soundness of a formula by its first token, and whether it can be worked out.
use mathlib.Core.Path.{◌≡◌, refl}
use mathlib.Core.Bool.{Bool, true, false, ◌&&◌, beq, not as flip}
use Prim.Native.Nat.{ℕ, ◌+◌}
use Rattle.model.specs.Formula.{Formula, weigh, sound}
use Rattle.model.specs.Formula.Formula.{atom, not}
use Rattle.model.specs.Atom.{Atom, askable}
use Rattle.model.specs.Rules.{Normal, as_true, as_false, workable}
use Rattle.lattice.specs.Signed.{normal, two, modal, joined_form, lifted_form}

pub normal-not : (s : Bool) (f : Formula) → normal s (not f) ≡ normal (flip s) f
unfolding as_true as_false
normal-not true f = refl
normal-not false f = refl

pub normal-two : (s b : Bool) (f g : Formula) → normal s (two b f g) ≡ joined_form (beq b s) (normal s f) (normal s g)
unfolding as_true as_false
normal-two true true f g = refl
normal-two true false f g = refl
normal-two false true f g = refl
normal-two false false f g = refl

pub normal-modal : (s b : Bool) (f : Formula) → normal s (modal b f) ≡ lifted_form (beq b s) (normal b f)
unfolding as_true as_false
normal-modal true true f = refl
normal-modal true false f = refl
normal-modal false true f = refl
normal-modal false false f = refl

pub weigh-two : (a u k : ℕ) (b : Bool) (f g : Formula) → weigh a u k (two b f g) ≡ k + weigh a u k f + weigh a u k g
unfolding weigh
weigh-two a u k true f g = refl
weigh-two a u k false f g = refl

pub weigh-modal : (a u k : ℕ) (b : Bool) (f : Formula) → weigh a u k (modal b f) ≡ u + weigh a u k f
unfolding weigh
weigh-modal a u k true f = refl
weigh-modal a u k false f = refl

pub sound-two : (n : ℕ) (b : Bool) (f g : Formula) → sound n (two b f g) ≡ (sound n f && sound n g)
unfolding sound
sound-two n true f g = refl
sound-two n false f g = refl

pub sound-modal : (n : ℕ) (b : Bool) (f : Formula) → sound n (modal b f) ≡ sound n f
unfolding sound
sound-modal n true f = refl
sound-modal n false f = refl

workable-joined : (b : Bool) (p q : Normal) → workable (joined_form b p q) ≡ (workable p && workable q)
unfolding workable
workable-joined true p q = refl
workable-joined false p q = refl

workable-lifted : (b : Bool) (p : Normal) → workable (lifted_form b p) ≡ workable p
unfolding workable
workable-lifted true p = refl
workable-lifted false p = refl

-- The sign of an atom is that in which the rules come to it.
pub workable-atom : (s : Bool) (a : Atom) → workable (normal s (atom a)) ≡ askable s a
unfolding workable as_true as_false
workable-atom true a = refl
workable-atom false a = refl

pub workable-two : (s b : Bool) (f g : Formula) → workable (normal s (two b f g)) ≡ (workable (normal s f) && workable (normal s g))
workable-two s b f g = rw (normal-two s b f g) (workable-joined (beq b s) (normal s f) (normal s g))

pub workable-modal : (s b : Bool) (f : Formula) → workable (normal s (modal b f)) ≡ workable (normal b f)
workable-modal s b f = rw (normal-modal s b f) (workable-lifted (beq b s) (normal b f))
