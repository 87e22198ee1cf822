-- `write_beside::frames::moved_event` meets its contract: kind and station, the report, zeros, the clock and zeros are put one behind the other, and together are the event. Assumes nothing.
use Rattle.std.proofs.Common.{◌≡◌, ◌+◌, ◌∙◌, length, arith, length-drop, length-set}
use Rattle.cells.proofs.Parts.{drop-whole}
use Rattle.model.specs.Reading.{report_size}
use Rattle.write_beside.specs.Moved.{event_size}
use Rattle.write_beside.proofs.Moves.{event-long, event-station, event-room, clock-room, event-moved}
use Rattle.write_beside.proofs.frames.moved_event.Goals as goal
use Rattle.write_beside.proofs.frames.moved_event.Goals.{After-put_report-clock, After-put_zeros-own, After-put_bytes-end}

pub bounds-frame-1 : goal.bounds-frame-1
bounds-frame-1 c = omega (arith, event-long c.args.side c.args.frame.now c.requires.1)

pub overflow_add-event : goal.overflow_add-event
overflow_add-event c = omega (arith, event-station c.args.side c.args.frame.now c.requires.1)

pub put_report-clock-requires : goal.put_report-clock-requires
unfolding report_size
put_report-clock-requires c =
    let s = c.args.side in
    let f = c.args.frame.now in
    let h = c.requires.1 in
    record { covered = c.requires.0; panelled_in_bounds = (rw (drop-whole 2 f) (omega (arith, event-long s f h, length-drop 2 f)), simp length-set (omega (arith, c.told-event, event-room s f h c.requires.0))) }

-- no call changes the length
length-first : (c : After-put_report-clock) → length c.put_report-clock.new.frame ≡ event_size
unfolding report_size
length-first c = c.put_report-clock.auto.frame ∙ simp length-set c.told-event

length-second : (c : After-put_zeros-own) → length c.put_zeros-own.new.frame ≡ event_size
unfolding report_size
length-second c = c.put_zeros-own.auto.frame ∙ c.put_report-clock.auto.frame ∙ simp length-set c.told-event

length-third : (c : After-put_bytes-end) → length c.put_bytes-end.new.frame ≡ event_size
unfolding report_size
length-third c = c.put_bytes-end.auto.frame ∙ c.put_zeros-own.auto.frame ∙ c.put_report-clock.auto.frame ∙ simp length-set c.told-event

pub put_zeros-own-requires : goal.put_zeros-own-requires
put_zeros-own-requires c =
    omega (arith, c.put_report-clock.ensures.0, length-first (goal.at.put_zeros-own-requires c).After-put_report-clock, event-room c.args.side c.args.frame.now c.requires.1 c.requires.0)

pub put_bytes-end-requires : goal.put_bytes-end-requires
put_bytes-end-requires c =
    let e = c.report_size.ensures in
    rw (drop-whole (2 + c.report_size.result) c.args.frame.now)
    (omega (arith, c.put_zeros-own.ensures.0, length-second (goal.at.put_bytes-end-requires c).After-put_zeros-own, c.put_report-clock.ensures.0, clock-room c.args.side c.args.frame.now c.requires.1 c.requires.0 _ e.0))

pub put_zeros-requires : goal.put_zeros-requires
put_zeros-requires c =
    let r = rw (drop-whole (2 + c.report_size.result) c.args.frame.now) at c.put_bytes-end.ensures in
    omega (arith, r.0, length-third (goal.at.put_zeros-requires c).After-put_bytes-end, c.put_zeros-own.ensures.0, c.put_report-clock.ensures.0, clock-room c.args.side c.args.frame.now c.requires.1 c.requires.0 _ c.report_size.ensures.0)

pub returns : goal.returns
unfolding report_size
returns c =
    let p = rw (c.from.ensures, drop-whole 2 c.args.frame.now) at c.put_report-clock.ensures in
    let z = c.put_zeros-own.ensures in
    let e = c.report_size.ensures in
    let r = rw (drop-whole (2 + c.report_size.result) c.args.frame.now) at c.put_bytes-end.ensures in
    let w = c.put_zeros.ensures in
    event-moved c.args.side c.args.frame.now c.requires.1 c.requires.0 c.args.event.now _ _ _ _ _ _ _ _ _ e.0 c.told-event p.1 p.0 z.1 z.0 r.1 r.0 w.1 w.0
