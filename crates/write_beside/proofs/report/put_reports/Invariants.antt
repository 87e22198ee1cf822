-- The invariant: the first reports are put, and they end at `end`; those left stand at the front of `rest`. Assumes nothing.
use Rattle.write_beside.proofs.Reports.{Reported}
use Rattle.write_beside.proofs.report.put_reports.Given as goal

abbrev pub invariant-loop : goal.invariant-loop
invariant-loop l = Reported l.side.panelled l.side.carried l.n l.source l.initial.frame l.at l.frame l.rest l.end l.counter
