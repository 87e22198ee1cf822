-- Where no value is FFFF the answers are those of before silent stations were told apart, rounds included: an answer is made from
-- how a cut is raised to each atom, and that is the same.
use mathlib.Core.Path.{◌≡◌, refl, sym, ap, ap₂, ◌∙◌}
use Prim.Native.Nat.{ℕ, ◌+◌}
use mathlib.Core.Bool.{Bool, true, false, not as negated}
use mathlib.Core.List.{List, [], ◌++◌, map}
use mathlib.Core.Option.{Option}
use Rattle.model.specs.Cut.{Cut, empty}
use Rattle.model.specs.Computation.{Computation, stations, report}
use Rattle.model.specs.Atom.{Atom, seen, is_silent, within, raise_to, passes, raise_atom}
use Rattle.model.specs.Atom.Atom.{in_range, clear}
use Rattle.model.specs.declared.Aspect.{Aspect}
use Rattle.model.specs.Formula.{Formula}
use Rattle.model.specs.Rules.{Normal, as_true}
use Rattle.model.specs.Rules.Normal.{literal, both, either, possible, impossible}
use Rattle.model.specs.Structure.{Structure, greatest, belongs_any, build}
use Rattle.model.specs.Basis.{pairs, lowered, barred, basis}
use Rattle.model.specs.Rounds.{rounds_of_pairs, rounds}
use Rattle.model.specs.Answer.{Answer, tops, sort, true_at, answer}
use Rattle.lattice.proofs.Ranges.{found_inside, found_outside}
use Rattle.lattice.proofs.Silence.{NoneSilent, heard}

-- How a cut is raised to an atom, as true or as false.
abbrev pub Raising : Type 0
Raising = Bool → Atom → Cut → Option Cut

-- The basis, the rounds, the test of a cut and the answer as the rules make them from it.
unfoldable pub basis_by : Raising → Computation → Normal → List Structure
basis_by r K (literal b a) = build K (r b a) []
basis_by r K (both p q) = pairs K (basis_by r K p) (basis_by r K q)
basis_by r K (either p q) = basis_by r K p ++ basis_by r K q
basis_by r K (possible p) = lowered K (basis_by r K p)
basis_by r K (impossible p) = barred K (basis_by r K p)

unfoldable pub rounds_by : Raising → Computation → Normal → ℕ
rounds_by r K (literal b a) = 0
rounds_by r K (both p q) = rounds_by r K p + rounds_by r K q + rounds_of_pairs K (basis_by r K p) (basis_by r K q)
rounds_by r K (either p q) = rounds_by r K p + rounds_by r K q
rounds_by r K (possible p) = rounds_by r K p
rounds_by r K (impossible p) = rounds_by r K p

unfoldable pub true_by : Raising → Computation → Formula → Cut → Bool
true_by r K f c = belongs_any (basis_by r K (as_true f)) c

unfoldable pub answer_by : Raising → Computation → Formula → Answer
answer_by r K f = record { start = true_by r K f (empty (stations K)); cuts = sort (tops (map greatest (basis_by r K (as_true f)))); rounds = rounds_by r K (as_true f) }

-- BEFORE

-- Did a value, or a panel, pass a range, as true or as false?
unfoldable pub passed : Bool → ℕ → ℕ → ℕ → Bool
passed true lo hi v = within lo hi v
passed false lo hi v = negated (within lo hi v)

unfoldable pub was_raised : Computation → Raising
was_raised K b (in_range a s lo hi) c = raise_to K s (λ k. passed b lo hi (seen a (report K s k))) c
was_raised K b (clear i j) c = raise_atom K b (clear i j) c

-- THE SAME

module _ (K : Computation) where
  basis-by : (p : Normal) → basis_by (raise_atom K) K p ≡ basis K p
  unfolding basis_by basis
  basis-by (literal b a) = refl
  basis-by (both p q) = ap₂ (pairs K) (basis-by p) (basis-by q)
  basis-by (either p q) = ap₂ ◌++◌ (basis-by p) (basis-by q)
  basis-by (possible p) = ap (lowered K) (basis-by p)
  basis-by (impossible p) = ap (barred K) (basis-by p)

  rounds-by : (p : Normal) → rounds_by (raise_atom K) K p ≡ rounds K p
  unfolding rounds_by rounds
  rounds-by (literal b a) = refl
  rounds-by (both p q) = rw (rounds-by p, rounds-by q, basis-by p, basis-by q)
  rounds-by (either p q) = rw (rounds-by p, rounds-by q)
  rounds-by (possible p) = rounds-by p
  rounds-by (impossible p) = rounds-by p

  true-by : (f : Formula) (c : Cut) → true_by (raise_atom K) K f c ≡ true_at K f c
  unfolding true_by true_at
  true-by f c = rw (basis-by (as_true f))

  answer-by : (f : Formula) → answer_by (raise_atom K) K f ≡ answer K f
  unfolding answer_by true_by answer true_at
  answer-by f = rw (basis-by (as_true f), rounds-by (as_true f))

passes_same : (b : Bool) (a : Aspect) (lo hi v : ℕ) → is_silent a v ≡ false → passes b a lo hi v ≡ passed b lo hi v
unfolding passes passed
passes_same true a lo hi v h = found_inside a lo hi v h
passes_same false a lo hi v h = found_outside a lo hi v h

module _ (K : Computation) (spoken : NoneSilent K) where
  raise_same : (b : Bool) (a : Atom) → raise_atom K b a ≡ was_raised K b a
  unfolding raise_atom was_raised
  raise_same b (in_range a s lo hi) = λ i c. raise_to K s (λ k. passes_same b a lo hi (seen a (report K s k)) (heard K spoken a s k) i) c
  raise_same b (clear j k) = refl

  raises_same : raise_atom K ≡ was_raised K
  raises_same = λ i b a. raise_same b a i

  -- Start, cuts and rounds; and the test of a cut.
  pub answer_as_before : (f : Formula) → answer K f ≡ answer_by (was_raised K) K f
  answer_as_before f = sym (answer-by K f) ∙ ap (λ r. answer_by r K f) raises_same

  pub test_as_before : (f : Formula) (c : Cut) → true_at K f c ≡ true_by (was_raised K) K f c
  test_as_before f c = sym (true-by K f c) ∙ ap (λ r. true_by r K f c) raises_same
