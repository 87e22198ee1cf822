-- `cases::run_cases`: each case leaves less behind it.
use Rattle.std.proofs.Common.{length}
use Rattle.cases.proofs.run_cases.Given as goal

abbrev pub decreases-loop-case : goal.decreases-loop-case
decreases-loop-case l = length l.rest
