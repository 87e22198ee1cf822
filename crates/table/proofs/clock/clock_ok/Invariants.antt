-- The invariant: every entry before j passes, whatever computation the table holds. Assumes nothing.
use Rattle.std.proofs.Common.{◌≡◌, length, true}
use Rattle.model.specs.Lists.{every}
use Rattle.model.specs.Computation.{Computation, known, counted}
use Rattle.table.specs.Table.{Stored}
use Rattle.table.proofs.clock.clock_ok.Given as goal

abbrev pub invariant-loop-j : goal.invariant-loop-j
invariant-loop-j l = (K : Computation) → Stored K (length l.v) l.counts l.store → every l.j (λ i. known K l.v i (counted l.s l.v i)) ≡ true
