use mathlib.Core.Path.{refl, ap}
use mathlib.Core.Bool.{not}
use native.Mathlib.Omega.{arith}
use Rattle.model.specs.Lists.{every}
use Rattle.table.proofs.Clocks.{every_more, known-not, known_yes, own-wrong, entry-wrong, all_right}
use Rattle.table.proofs.clock.clock_ok.Goals as goal

pub returns-then-from : goal.returns-then-from
returns-then-from c = λ K g. own-wrong _ g _ _ _ c.from.ensures c.from-2.ensures c.if-from.true

pub loop-j-init : goal.loop-j-init
unfolding every
loop-j-init c = λ K g. refl

pub known-requires : goal.known-requires
known-requires c = let p = c.requires in record { j_in_bounds = (c.loop-j-test.true, p.s_in_bounds.1); by_index = p.by_index }

pub returns-then-not-known : goal.returns-then-not-known
returns-then-not-known c = λ K g. entry-wrong _ g _ _ _ c.from.ensures c.from-2.ensures c.if-from.false _ c.loop-j-test.true (known-not K _ _ _ _ c.last_counted.ensures _ (c.known.ensures K g) (ap not c.if-not-known.true))

pub loop-j-preserved : goal.loop-j-preserved
loop-j-preserved c = (λ K g. every_more _ _ (c.loop-j.invariant K g) (known_yes K _ _ _ _ c.last_counted.ensures _ (c.known.ensures K g) (ap not c.if-not-known.false)))

pub returns : goal.returns
returns c = λ K g. all_right _ g _ _ _ c.from.ensures c.from-2.ensures c.if-from.false _ (omega arith) c.loop-j-test.false (c.loop-j.invariant K g)
