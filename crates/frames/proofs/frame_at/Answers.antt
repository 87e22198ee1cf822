use Rattle.std.proofs.Common.{◌≡◌, ◌+◌, ◌-◌, length, take, drop, arith}
use Rattle.cells.proofs.Parts.{drop-whole}
use Rattle.frames.proofs.Walks.{Passed, passed_none, passed-more, passed_all, reached}
use Rattle.frames.proofs.frame_at.Goals as goal

pub bounds-rest-0 : goal.bounds-rest-0
bounds-rest-0 c = omega (arith, (reached c.loop.invariant c.requires (omega arith)).fits)

pub slice_bounds-rest-count : goal.slice_bounds-rest-count
slice_bounds-rest-count c = let h = reached c.loop.invariant c.requires (omega arith) in omega (arith, h.fits, h.size, c.from-size.ensures)

pub slice_bounds-rest-start : goal.slice_bounds-rest-start
slice_bounds-rest-start c = slice_bounds-rest-count c

pub loop-init : goal.loop-init
loop-init c = passed_none _ _

pub loop-preserved : goal.loop-preserved
loop-preserved c =
    let k = c.from-size.result + 1 in
    let r = c.loop.rest.now in
    let h : Passed c.args.list.now c.args.index (take (length r - k) (drop k r)) (c.loop.counter + 1) = rw (drop-whole k r) (passed-more c.loop.invariant c.loop-test.true c.from-size.result c.from-size.ensures) in
    h

pub bounds-rest-0-2 : goal.bounds-rest-0-2
bounds-rest-0-2 c = omega (arith, (reached c.loop.invariant c.requires (omega arith)).fits)

pub slice_bounds-result-end : goal.slice_bounds-result-end
slice_bounds-result-end c = let h = reached c.loop.invariant c.requires (omega arith) in omega (arith, h.fits, h.size, c.from-size-2.ensures)

pub returns : goal.returns
returns c =
    let k = c.from-size-2.result in
    let e : k + 1 - 1 ≡ k = omega arith in
    rw e (passed_all c.loop.invariant (omega arith) k c.from-size-2.ensures)
