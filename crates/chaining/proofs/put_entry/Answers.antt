-- `chaining::put_entry` meets its contract.
use mathlib.Core.Path.{refl}
use native.Mathlib.Omega.{arith}
use Rattle.chaining.proofs.Filling.{wrote}
use Rattle.chaining.proofs.put_entry.Goals as goal

pub returns : goal.returns
returns c =
    let a = c.args in
    wrote a.chain.now _ a.v a.entry.now.above a.entry.now.under a.entry.now.rounds (omega arith) (omega arith) (omega arith) c.requires (omega arith) (omega arith) c.put_row.ensures c.put_row-2.ensures refl
