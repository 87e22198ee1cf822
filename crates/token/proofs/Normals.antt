-- The two rules as one: sizes, bases and rounds under a sign.
use mathlib.Core.Path.{◌≡◌, refl}
use Prim.Native.Nat.{suc, ◌+◌, ◌*◌, ◌≤◌}
use native.Mathlib.Omega.{arith}
use native.Mathlib.Nat.{mul-le-mul}
use mathlib.Core.Bool.{Bool, true, false}
use mathlib.Core.List.{[]}
use Rattle.model.specs.Atom.{Atom, raise_atom}
use Rattle.model.specs.Formula.{Formula, tokens, signs}
use Rattle.model.specs.Formula.Formula.{atom}
use Rattle.model.specs.Computation.{Computation, event_count}
use Rattle.model.specs.Rules.{Normal, as_true, as_false}
use Rattle.model.specs.Structure.{build}
use Rattle.model.specs.Size.{width, held, narrow}
use Rattle.model.specs.Basis.{basis}
use Rattle.model.specs.Rounds.{rounds}
use Rattle.lattice.proofs.Size.{narrow_both, narrow-either, narrow-possible, narrow-impossible, width_pos}
use Rattle.lattice.proofs.Held.{held_both, held-either, held-possible, held-impossible}
use Rattle.lattice.proofs.Weights.{signs_of, weight_true, weight_false}
use Rattle.lattice.proofs.Rounds.{rounds-normal, square}
use Rattle.lattice.specs.Signed.{normal, joined_form, lifted_form}
use Rattle.model.specs.Limits.{limits, pair_rounds}
use Rattle.token.specs.Contract.{rounds_most}
use Rattle.token.specs.Signed.{joined_basis, rounds_of_joined, lifted_basis}
use Rattle.token.proofs.Tokens.{signs-tokens}

-- SIZES

pub narrow-joined : (c : Bool) (p q : Normal) → narrow (joined_form c p q) ≡ true → (narrow p ≡ true) × (narrow q ≡ true)
narrow-joined true p q h = let r = narrow_both p q h in (r.2, r.3)
narrow-joined false p q h = let r = narrow-either p q h in (r.2, r.3)

pub held-joined : (c : Bool) (p q : Normal) → (held p ≤ held (joined_form c p q)) × (width p + held q ≤ held (joined_form c p q))
held-joined true p q = let r = held_both p q in (r.0, r.1)
held-joined false p q = let r = held-either p q in (r.0, r.1)

pub narrow-lifted : (c : Bool) (p : Normal) → narrow (lifted_form c p) ≡ true → (width p ≤ 16) × (narrow p ≡ true)
narrow-lifted true p h = narrow-possible p h
narrow-lifted false p h = narrow-impossible p h

pub held-lifted : (c : Bool) (p : Normal) → (held p ≤ held (lifted_form c p)) × (width p ≤ held (lifted_form c p)) × (1 ≤ held (lifted_form c p))
held-lifted true p = let r = held-possible p in (r.0, omega (arith, r.1), omega (arith, r.1, width_pos p))
held-lifted false p = let r = held-impossible p in (r.0, omega (arith, r.1), omega (arith, r.1, width_pos p))

-- BASES AND ROUNDS

pub basis-atom : (c : Bool) (K : Computation) (a : Atom) → build K (raise_atom K c a) [] ≡ basis K (normal c (atom a))
unfolding as_true as_false basis
basis-atom true K a = refl
basis-atom false K a = refl

pub rounds-atom : (c : Bool) (K : Computation) (a : Atom) → 0 ≡ rounds K (normal c (atom a))
unfolding as_true as_false rounds
rounds-atom true K a = refl
rounds-atom false K a = refl

pub basis-joined : (c : Bool) (K : Computation) (p q : Normal) → basis K (joined_form c p q) ≡ joined_basis c K (basis K p) (basis K q)
unfolding basis
basis-joined true K p q = refl
basis-joined false K p q = refl

pub rounds-joined : (c : Bool) (K : Computation) (p q : Normal)
    → rounds K (joined_form c p q) ≡ rounds K p + rounds K q + rounds_of_joined c K (basis K p) (basis K q)
unfolding rounds
rounds-joined true K p q = refl
rounds-joined false K p q = omega arith

pub basis-lifted : (c : Bool) (K : Computation) (p : Normal) → basis K (lifted_form c p) ≡ lifted_basis c K (basis K p)
unfolding basis
basis-lifted true K p = refl
basis-lifted false K p = refl

pub rounds-lifted : (c : Bool) (K : Computation) (p : Normal) → rounds K (lifted_form c p) ≡ rounds K p
unfolding rounds
rounds-lifted true K p = refl
rounds-lifted false K p = refl

signs-normal : (s : Bool) (f : Formula) → signs_of (normal s f) ≡ signs f
signs-normal true f = weight_true 0 1 f
signs-normal false f = weight_false 0 1 f

-- The rounds of a question of at most 32 tokens.
pub rounds-small : (K : Computation) (s : Bool) (f : Formula) → narrow (normal s f) ≡ true → tokens f ≤ 32 → event_count K ≤ limits.events → rounds K (normal s f) ≤ rounds_most
rounds-small K s f h t e =
    let a : square K ≤ pair_rounds = mul-le-mul {n₁ = suc (event_count K)} {m₁ = suc (event_count K)} {n₂ = suc limits.events} {m₂ = suc limits.events} (omega arith) (omega arith) in
    let c : 16 * signs_of (normal s f) ≤ 512 = omega (arith, signs-normal s f, signs-tokens f) in
    let b : 16 * signs_of (normal s f) * square K ≤ 512 * pair_rounds = mul-le-mul {n₁ = 16 * signs_of (normal s f)} {m₁ = square K} {n₂ = 512} {m₂ = pair_rounds} c a in
    omega (arith, rounds-normal K (normal s f) h, b)
