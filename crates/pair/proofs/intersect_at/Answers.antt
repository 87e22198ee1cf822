-- `pair::intersect_at` meets its contract: a right set that is marked is of the station that its mark says.
use mathlib.Core.Path.{◌∙◌, sym, ap}
use Rattle.std.specs.Prelude.{Some}
use native.Mathlib.Omega.{arith}
use Rattle.pair.proofs.Ways as ways
use Rattle.pair.proofs.intersect_at.Goals as goal

pub overflow_mul-p : goal.overflow_mul-p
overflow_mul-p c = omega (arith, ways.right-before c.requires, ways.new-fits c.requires)

pub intersect_right-requires : goal.intersect_right-requires
intersect_right-requires c = record { there = rw c.from.ensures (c.requires.within_right _ c.in-Some.is); fits = (ways.right-before c.requires, ways.new-fits c.requires) }

pub returns-in-Some : goal.returns-in-Some
returns-in-Some c =
    let r = c.intersect_right in
    record { is = λ b K h. r.ensures.intersected K _ _ (ways.right-known h (c.in-Some.is ∙ ap Some (sym c.from.ensures))); small = r.ensures.few_rounds; front = r.ensures.ws_unchanged }
