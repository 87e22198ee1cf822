-- One more value behind those of the station. Assumes nothing.
use mathlib.Core.Path.{refl}
use Prim.Native.Nat.{◌+◌, ◌<◌}
use native.Mathlib.Omega.{arith}
use lib.ListN.{length, length-set}
use Rattle.layout.specs.Rows.{in_turn, values_of}
use Rattle.layout.proofs.Grown.{none_yet, value-more}
use Rattle.layout.proofs.reports.station_values.Goals as goal

pub loop-k-init : goal.loop-k-init
unfolding values_of in_turn
loop-k-init c = record { long = refl; values = none_yet c.args.values.now c.args.at }

pub loop-k-preserved : goal.loop-k-preserved
loop-k-preserved c =
    let a = c.args in
    let l = c.loop-k in
    let h : a.at + l.k < length l.values = omega arith in record {
      long = simp length-set l.invariant.long;
      values = value-more a.values.now l.values a.at a.b a.store.now a.j l.k c.slot.result c.word.result c.slot.ensures.0 c.word.ensures h l.invariant.values;
    }
