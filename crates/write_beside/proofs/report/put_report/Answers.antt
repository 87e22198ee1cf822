-- The report's own bytes are put, and zeros behind them. Assumes nothing.
use Rattle.std.proofs.Common.{arith, length-take-le}
use Rattle.write_beside.proofs.Reports.{report-put}
use Rattle.write_beside.proofs.report.put_report.Goals as goal

pub returns : goal.returns
returns c =
    let a = c.args in
    let own = c.report_size-own in
    let size = c.report_size-size in
    let put = c.put_bytes-end.ensures in
    let long = length-take-le own.result a.source.now (omega (arith, own.ensures.0, c.requires.panelled_in_bounds.0)) in (
      omega (arith, c.put_zeros.ensures.0, put.0, long, c.requires.covered, own.ensures.0, size.ensures.0),
      report-put _ _ a.frame.now a.source.now _ _ a.at _ _ _ own.ensures.0 size.ensures.0 (omega (arith, own.ensures.0, c.requires.panelled_in_bounds.0)) (omega (arith, c.requires.panelled_in_bounds.1)) (omega (arith, put.0, long)) put.1 c.put_zeros.ensures.1,
    )
