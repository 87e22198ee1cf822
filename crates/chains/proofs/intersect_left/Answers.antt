-- `chains::intersect_left` meets its contract: the cut of the first round is what a start looks up.
use native.Mathlib.Omega.{arith}
use Rattle.chains.proofs.Finding.{left_given, left-found, zeros}
use Rattle.chains.proofs.intersect_left.Goals as goal

pub fill-requires : goal.fill-requires
fill-requires c = λ i. omega (arith, zeros 256 i)

pub returns-clause-intersected : goal.returns-clause-intersected
returns-clause-intersected c = λ K S T k.
    let a = c.args in
    let r = c.pick_numbers-picks.result in
    let picks = c.pick_numbers-picks.ensures K S k.formed k.both.slots_left in
    c.all_starts.ensures.intersected K S T k.formed (left-found K S T a.x a.s a.left.now a.right.now a.first.now k c.first_cuts.new.cuts r c.fill.new.chain
    (c.first_cuts.ensures K S T k.both.small k.formed.counted k.both.slots_left k.both.slots_right) picks
    (c.fill.ensures.chained K S T k.formed (left_given K S T a.x a.s a.left.now a.right.now a.first.now k r picks)))
