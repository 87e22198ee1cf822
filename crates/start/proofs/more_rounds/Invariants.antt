-- `start::more_rounds` meets its contract: what the rounds so far and what is left to run make together is the start's outcome.
use Rattle.std.proofs.Common.{◌≡◌, suc, ◌-◌}
use Rattle.model.specs.Cut.{Cut}
use Rattle.model.specs.Computation.{Computation}
use Rattle.model.specs.Structure.{Structure}
use Rattle.lattice.proofs.Bases.{In}
use Rattle.lattice.proofs.Shortcuts.{later, quick_on}
use Rattle.slots.specs.Slots.{Coded}
use Rattle.slots.specs.Pair.{Both}
use Rattle.start.proofs.Turns as turns
use Rattle.start.proofs.more_rounds.Given as goal

abbrev pub invariant-loop-rounds : goal.invariant-loop-rounds
invariant-loop-rounds l =
    (K : Computation) (S T : Structure) (x₀ : Cut) → Both K S T l.left l.right → Coded K x₀ l.initial.cut → In K T x₀
    → (x : Cut) × Coded K x l.cut × In K T x × (later (quick_on S T l.e x₀) ≡ turns.plus l.rounds (quick_on S T (suc l.e - l.rounds) x))
