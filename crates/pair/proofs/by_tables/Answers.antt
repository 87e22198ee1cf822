-- `pair::by_tables` meets its contract: the right structure stands in a table too, and the rows go to their place.
use mathlib.Core.Path.{◌∙◌, sym, ap}
use Rattle.std.specs.Prelude.{Some}
use native.Mathlib.Omega.{arith}
use Rattle.pair.proofs.Tables as laws
use Rattle.pair.proofs.Ways as ways
use Rattle.pair.proofs.by_tables.Goals as goal

pub overflow_mul-p : goal.overflow_mul-p
overflow_mul-p c = omega (arith, ways.right-before c.requires, ways.new-fits c.requires)

pub put_rows-requires : goal.put_rows-requires
put_rows-requires c =
    (c.args.x.few_stations, c.args.x.few_events, omega (arith, ways.right-before c.requires, ways.new-fits c.requires), c.coding-code.ensures.0)

pub returns-in-None : goal.returns-in-None
returns-in-None c =
    let r = c.intersect in
    let k = c.coding-code in
    ways.from_there c.requires (λ b K h. r.ensures.intersected K _ _ (ways.both-known h k.result c.put_rows.new.table k.ensures.1 (c.put_rows.ensures K))) (laws.looser c.args.x.e r.result r.ensures.upper_bound)

pub intersect_left-requires : goal.intersect_left-requires
intersect_left-requires c = record { there = rw c.from.ensures (c.requires.within_left _ c.in-Some.is); fits = ways.part_fits c.requires }

pub returns-in-Some : goal.returns-in-Some
returns-in-Some c =
    let r = c.intersect_left in
    let k = c.coding-code in
    ways.from_there c.requires (λ b K h. r.ensures.intersected K _ _ (ways.left-known h k.result c.put_rows.new.table k.ensures.1 (c.put_rows.ensures K) (c.in-Some.is ∙ ap Some (sym c.from.ensures)))) r.ensures.few_rounds
