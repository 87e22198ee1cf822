use Rattle.std.proofs.Common.{arith}
use Rattle.lattice.proofs.Reports.{report_in}
use Rattle.table.proofs.Openings.{open_none, open_more, open_all}
use Rattle.table.proofs.open_stations.Goals as goal

pub loop-j-init : goal.loop-j-init
loop-j-init c = record { long = c.told-store; opened = open_none }

pub open_station-requires : goal.open_station-requires
open_station-requires c = omega (arith, c.loop-j-test.true, report_in c.args.panelled _ _ c.loop-j-test.true)

pub loop-j-preserved : goal.loop-j-preserved
loop-j-preserved c = let i = c.loop-j.invariant in record { long = c.open_station.array_long; opened = open_more _ (omega (arith, c.loop-j-test.true)) i.long i.opened c.open_station.ensures }

pub returns : goal.returns
returns c = open_all (omega arith) c.loop-j-test.false c.loop-j.invariant.opened
