use Rattle.std.proofs.Common.{◌+◌, ◌-◌, length, take, drop}
use Rattle.cells.proofs.Parts.{drop-whole}
use Rattle.write_beside.proofs.Reports.{Reported, reported_none, next_in, next_fits, reported_more, reported_all}
use Rattle.write_beside.proofs.report.put_reports.Goals as goal

pub loop-init : goal.loop-init
loop-init c = reported_none c.requires.covered c.requires.panelled_in_bounds.0 c.requires.panelled_in_bounds.1

pub put_report-end-requires : goal.put_report-end-requires
put_report-end-requires c =
    let r = c.loop.invariant in
    let h = c.loop-test.true in
    record { covered = r.covers; panelled_in_bounds = (next_in r h, next_fits r h) }

pub loop-preserved : goal.loop-preserved
loop-preserved c =
    let a = c.args in
    let m = c.report_size-size.result in
    let r = c.loop.rest.now in
    let e = c.put_report-end.ensures in
    let h : Reported a.side.panelled a.side.carried a.n a.source.now a.frame.now a.at c.put_report-end.new.frame (take (length r - m) (drop m r)) c.put_report-end.result (c.loop.counter + 1) =
    rw (drop-whole m r) (reported_more c.loop.invariant c.loop-test.true m c.report_size-size.ensures.0 _ _ e.0 e.1) in
    h

pub returns : goal.returns
returns c = reported_all c.loop.invariant c.loop-test.false
