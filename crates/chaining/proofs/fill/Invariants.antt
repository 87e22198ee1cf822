-- `chaining::fill` meets its contract: with k events left to do, the tables have the entries of those above.
use Prim.Native.Nat.{suc, ◌-◌}
use Rattle.model.specs.Computation.{Computation}
use Rattle.model.specs.Structure.{Structure}
use Rattle.picking.specs.Formed.{Formed}
use Rattle.chaining.specs.Table.{Given, Low}
use Rattle.chaining.proofs.Filling as laws
use Rattle.chaining.proofs.fill.Given as goal

abbrev pub invariant-loop-k : goal.invariant-loop-k
invariant-loop-k l = record {
  low : Low (suc (l.most - (l.k - 1))) l.chain;
  filled : (K : Computation) (A B : Structure) → Formed K l.q.x → Given K A B l.q.s l.picks l.table l.first → laws.Filled K A B l.q.right l.q.s (l.k - 1) l.chain;
}
