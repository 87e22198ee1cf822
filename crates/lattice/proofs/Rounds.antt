-- The rounds: every start follows the rule.
-- Their bounds: a pair takes at most (events + 1) rounds from each of events + 1 starts, and a sign has no more pairs than the product of both widths, at most 16.
use mathlib.Core.Path.{◌≡◌, sym, subst}
use Prim.Native.Nat.{ℕ, suc, ◌*◌, ◌≤◌, ◌<◌, ◌^◌}
use native.Mathlib.Omega.{arith}
use native.Mathlib.Nat.{le_trans, mul-le-mul, mul-le-mul_right}
use mathlib.Core.Bool.{true}
use mathlib.Core.List.{List}
use lib.ListN.{length}
use Rattle.model.specs.Lists.{Member, sum}
use Rattle.model.specs.Formula.{Formula, signs}
use Rattle.model.specs.Cut.{Cut, empty}
use Rattle.model.specs.Computation.{Computation, Event, stations, event_count, clock}
use Rattle.model.specs.Rules.{Normal, as_true}
use Rattle.model.specs.Rules.Normal.{literal, both, either, possible, impossible}
use Rattle.model.specs.Size.{width, narrow}
use Rattle.model.specs.Forecast.{ceiling}
use Rattle.model.specs.Structure.{Structure}
use Rattle.model.specs.Basis.{start, basis}
use Rattle.model.specs.Rounds.{rounds_of_pair, rounds_of_pairs, rounds, PairByRule, AllByRule}
use Rattle.lattice.proofs.Valid.{Valid}
use Rattle.lattice.proofs.Lists.{some_one}
use Rattle.lattice.proofs.Sums.{sum-le, sum-sum-le}
use Rattle.lattice.proofs.Consistency.{clock-consistent}
use Rattle.lattice.proofs.Bases.{Good}
use Rattle.lattice.proofs.Intersection.{rounds-le, start_rule}
use Rattle.lattice.proofs.Theorem.{basis_sat}
use Rattle.lattice.proofs.Size.{basis-width, narrow_both, narrow-either, narrow-possible, narrow-impossible}
use Rattle.lattice.proofs.Weights.{signs_of, weighed, weight_true}

-- THE RULE

module _ (K : Computation) (ok : Valid K) where
  member_good : (p : Normal) (S : Structure) → Member S (basis K p) → Good K S
  member_good p S m = some_one (λ T g e. subst (Good K) (sym e) g) (basis_sat K ok p).all_good m

  pub pair_by_rule : (S T : Structure) → Good K S → Good K T → PairByRule K S T
  pair_by_rule S T gs gt j k h = start_rule K S T gs gt (clock K j k) (clock-consistent K ok j k h)

  pub all_by_rule : (p : Normal) → AllByRule K p
  all_by_rule (literal b a) = tt
  all_by_rule (both p q) = (all_by_rule p, all_by_rule q, λ S T m n. pair_by_rule S T (member_good p S m) (member_good q T n))
  all_by_rule (either p q) = (all_by_rule p, all_by_rule q)
  all_by_rule (possible p) = all_by_rule p
  all_by_rule (impossible p) = all_by_rule p

-- PAIRS

-- The starts of a pair times the rounds of a start.
abbrev pub square : Computation → ℕ
square K = suc (event_count K) * suc (event_count K)

-- A start takes at most events + 1 rounds.
pub start-le : (K : Computation) (S T : Structure) (c : Cut) → (start K S T c).rounds ≤ suc (event_count K)
unfolding start
start-le K S T c = rounds-le S T (suc (event_count K)) c

-- A pair takes at most the square.
pub pair-le : (K : Computation) (S T : Structure) → rounds_of_pair K S T ≤ square K
unfolding rounds_of_pair
pair-le K S T =
    omega (arith, start-le K S T (empty (stations K)), sum-sum-le (λ (e : Event). (start K S T e.clock).rounds) (suc (event_count K)) (λ e. start-le K S T e.clock) K.events)

-- The pairs of two lists.
pub pairs-le : (K : Computation) (L R : List Structure) → rounds_of_pairs K L R ≤ length L * (length R * square K)
unfolding rounds_of_pairs
pairs-le K L R = sum-le (λ S. sum (rounds_of_pair K S) R) (length R * square K) (λ S. sum-le (rounds_of_pair K S) (square K) (pair-le K S) R) L

-- Pairs of two bases, by their widths.
pairs-width : (K : Computation) (p q : Normal) → rounds_of_pairs K (basis K p) (basis K q) ≤ width p * width q * square K
pairs-width K p q = omega (arith, pairs-le K (basis K p) (basis K q), mul-le-mul_right (square K) (mul-le-mul (basis-width K p) (basis-width K q)))

-- FORMULAS

-- Never above the ceiling, whatever the formula.
pub rounds-ceiling : (K : Computation) (p : Normal) → rounds K p ≤ ceiling (event_count K) p
unfolding rounds ceiling
rounds-ceiling K (literal b a) = omega arith
rounds-ceiling K (both p q) = omega (arith, rounds-ceiling K p, rounds-ceiling K q, pairs-width K p q)
rounds-ceiling K (either p q) = omega (arith, rounds-ceiling K p, rounds-ceiling K q)
rounds-ceiling K (possible p) = rounds-ceiling K p
rounds-ceiling K (impossible p) = rounds-ceiling K p

-- The ceiling of a narrow normal form, by its signs.
pub ceiling-normal : (e : ℕ) (p : Normal) → narrow p ≡ true → ceiling e p ≤ 16 * signs_of p * (suc e * suc e)
unfolding ceiling weighed
ceiling-normal e (literal b a) h = omega arith
ceiling-normal e (both p q) h = let n = narrow_both p q h in omega (arith, ceiling-normal e p n.2, ceiling-normal e q n.3, mul-le-mul_right (suc e * suc e) n.0)
ceiling-normal e (either p q) h = let n = narrow-either p q h in omega (arith, ceiling-normal e p n.2, ceiling-normal e q n.3)
ceiling-normal e (possible p) h = ceiling-normal e p (narrow-possible p h).1
ceiling-normal e (impossible p) h = ceiling-normal e p (narrow-impossible p h).1

-- So its rounds too.
pub rounds-normal : (K : Computation) (p : Normal) → narrow p ≡ true → rounds K p ≤ 16 * signs_of p * square K
rounds-normal K p h = le_trans (rounds-ceiling K p) (ceiling-normal (event_count K) p h)

-- They fit four bytes, where the events fit one.
pub normal-fit : (K : Computation) (p : Normal) → narrow p ≡ true → signs_of p ≤ 31 → event_count K < 256 → rounds K p < 2 ^ 32
normal-fit K p h s e =
    let a : square K ≤ 256 * 256 = mul-le-mul {n₁ = suc (event_count K)} {m₁ = suc (event_count K)} {n₂ = 256} {m₂ = 256} (omega arith) (omega arith) in
    let b : 16 * signs_of p * square K ≤ 16 * 31 * (256 * 256) = mul-le-mul {n₁ = 16 * signs_of p} {m₁ = square K} {n₂ = 16 * 31} {m₂ = 256 * 256} (omega arith) a in
    omega (arith, rounds-normal K p h, b)

-- Of a narrow question, by its and- and or-signs.
pub ceiling_bound : (e : ℕ) (f : Formula) → narrow (as_true f) ≡ true → ceiling e (as_true f) ≤ 16 * signs f * (suc e * suc e)
ceiling_bound e f h = rw (weight_true 0 1 f) at (ceiling-normal e (as_true f) h)

pub rounds_bound : (K : Computation) (f : Formula) → narrow (as_true f) ≡ true → rounds K (as_true f) ≤ 16 * signs f * square K
rounds_bound K f h = le_trans (rounds-ceiling K (as_true f)) (ceiling_bound (event_count K) f h)

-- They fit four bytes too.
pub rounds-fit : (K : Computation) (f : Formula) → narrow (as_true f) ≡ true → signs f ≤ 31 → event_count K < 256 → rounds K (as_true f) < 2 ^ 32
rounds-fit K f h s e = normal-fit K (as_true f) h (rw (weight_true 0 1 f) s) e
