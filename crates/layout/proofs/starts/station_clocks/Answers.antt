-- One more clock behind those of the station. Assumes nothing.
use mathlib.Core.Path.{refl, ◌∙◌}
use Prim.Native.Nat.{◌+◌, ◌*◌, ◌≤◌}
use native.Mathlib.Omega.{arith}
use native.Mathlib.Nat.{zero-mul}
use lib.ListN.{length}
use Rattle.model.specs.Limits.{stored_report}
use Rattle.layout.specs.Rows.{in_turn, clocks_in}
use Rattle.structure.proofs.Places.{next_fits}
use Rattle.layout.proofs.Grown.{none_yet, copied, clock-more}
use Rattle.layout.proofs.starts.station_clocks.Goals as goal
use Rattle.layout.proofs.starts.station_clocks.Goals.{In-loop-k}

pub loop-k-init : goal.loop-k-init
unfolding clocks_in in_turn
loop-k-init c = record { long = refl; clocks = rw (zero-mul c.args.n) (none_yet c.args.starts.now c.args.at) }

fits-here : (c : In-loop-k) → c.args.at + c.loop-k.k * c.args.n + c.args.n ≤ length c.loop-k.starts
fits-here c = omega (arith, next_fits c.loop-k.k c.args.m c.args.n c.loop-k-test.true, c.loop-k.invariant.long, c.requires)

pub loop-k-preserved : goal.loop-k-preserved
loop-k-preserved c =
    let a = c.args in
    let l = c.loop-k in
    let d = c.copy.new.ws in
    let f = fits-here (goal.at.loop-k-preserved c).In-loop-k in record {
      long = c.copy.auto.ws ∙ l.invariant.long;
      clocks = clock-more a.starts.now l.starts a.at a.store.now d a.n a.j l.k c.slot.result c.slot.ensures.0 l.invariant.clocks (copied l.starts d a.store.now (a.at + l.k * a.n) (c.slot.result + stored_report) a.n f (omega (arith, c.told-store)) c.copy.ensures);
    }
