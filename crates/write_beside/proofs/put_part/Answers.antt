use Rattle.std.proofs.Common.{◌≡◌, ◌∙◌, sym, get_or, arith}
use Rattle.write_beside.specs.Moved.{kind}
use Rattle.write_beside.proofs.Walks.{walked_none, walked_all, Meets, low, room, fits-here, room-here, walked_more, walked_past}
use Rattle.write_beside.proofs.put_part.Goals as goal
use Rattle.write_beside.proofs.put_part.Goals.{After-from-in-Some, After-split_at, Then-frame-own}

pub loop-size-init : goal.loop-size-init
loop-size-init c =
    walked_none c.args.part c.args.side c.args.list.now c.args.out.now c.args.at c.requires.covered.1 c.requires.all c.requires.list_in_bounds

meets : (c : After-from-in-Some) → let a = c.args in let l = c.loop-size in Meets a.part a.side a.list.now a.out.now a.at l.out l.rest.now l.end c.from-in-Some.result c.in-Some.behind.now
meets c = record { walked = c.loop-size.invariant; splits = rw c.from-in-Some.ensures c.in-Some.ensures.cases.0 }

pub split_at-requires : goal.split_at-requires
split_at-requires c = room (meets (goal.at.split_at-requires c).After-from-in-Some)

pub bounds-frame-0 : goal.bounds-frame-0
bounds-frame-0 c = omega (arith, low (meets (goal.at.bounds-frame-0 c).After-from-in-Some), c.split_at.ensures.front_len)

-- It is of the part.
own : (c : Then-frame-own) → get_or c.split_at.result.0.now 0 0 ≡ kind c.args.part
own c = c.if-frame-own.true ∙ c.from-own.ensures ∙ c.from.ensures

pub put_moved-end-requires : goal.put_moved-end-requires
put_moved-end-requires c =
    let m = meets (goal.at.put_moved-end-requires c).After-from-in-Some in
    let o = own (goal.at.put_moved-end-requires c).Then-frame-own in
    let e = c.split_at.ensures in
    let k = rw e.front at o in
    record { covered = (c.requires.covered.0, omega (arith, low m, e.front_len), o, rw e.front (fits-here m k)); frame_in_bounds = rw e.front (room-here m k) }

pub loop-size-preserved-then-frame-own : goal.loop-size-preserved-then-frame-own
loop-size-preserved-then-frame-own c =
    let e = c.split_at.ensures in
    let k = rw e.front at (own (goal.at.loop-size-preserved-then-frame-own c).Then-frame-own) in
    let p = rw e.front at c.put_moved-end.ensures in
    rw e.back (walked_more (meets (goal.at.loop-size-preserved-then-frame-own c).After-from-in-Some) k _ _ p.0 p.1)

pub loop-size-preserved : goal.loop-size-preserved
loop-size-preserved c =
    let e = c.split_at.ensures in
    rw e.back (walked_past (meets (goal.at.loop-size-preserved c).After-from-in-Some) (λ z. c.if-frame-own.false (rw e.front z ∙ sym c.from.ensures ∙ sym c.from-own.ensures)))

pub returns : goal.returns
returns c = let r = walked_all c.loop-size.invariant c.in_default.ensures.cases in
    record { value = r.0; out_after = r.1 }
