-- The invariant: every station before j passes, whatever computation the store holds. Assumes nothing.
use mathlib.Core.Path.{◌≡◌}
use mathlib.Core.Bool.{true}
use lib.ListN.{get_or}
use Rattle.model.specs.Lists.{every}
use Rattle.model.specs.Computation.{Computation, known}
use Rattle.table.specs.Table.{Stored}
use Rattle.layout.proofs.consistent.consistent.Given as goal

abbrev pub invariant-loop-j : goal.invariant-loop-j
invariant-loop-j l = (K : Computation) → Stored K l.n l.counts l.store → every l.j (λ i. known K l.cut i (get_or l.cut i 0)) ≡ true
