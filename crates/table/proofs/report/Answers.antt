-- The report's bytes are there. Assumes nothing.
use native.Mathlib.Omega.{arith}
use Rattle.lattice.proofs.Reports.{report-size, size-carried}
use Rattle.table.proofs.report.Goals as goal

pub slice_bounds-copy_from_slice-end-then-panelled : goal.slice_bounds-copy_from_slice-end-then-panelled
slice_bounds-copy_from_slice-end-then-panelled c = omega (arith, size-carried _ c.if-panelled.true, c.requires)

pub slice_bounds-copy_from_slice-end-else-panelled-2 : goal.slice_bounds-copy_from_slice-end-else-panelled-2
slice_bounds-copy_from_slice-end-else-panelled-2 c = omega (arith, report-size c.args.panelled, c.requires)
