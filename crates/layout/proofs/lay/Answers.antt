-- The starts and values laid out are those of the computation that the store holds. Assumes nothing.
use mathlib.Core.Path.{refl}
use native.Mathlib.Omega.{arith}
use Prim.Native.Nat.{◌≤◌}
use lib.ListN.{length}
use Rattle.layout.proofs.Laying.{laid, faced}
use Rattle.layout.proofs.lay.Goals as goal

pub returns : goal.returns
returns c =
    let fit : c.args.n ≤ length c.args.counts = omega arith in (
      refl,
      refl,
      λ K g. (
        laid _ g fit c.told-store _ (omega (arith, c.requires.sizes.2, c.lay_starts.auto)) c.lay_starts.ensures,
        faced _ g fit c.told-store _ _ (omega (arith, c.requires.sizes.3, c.lay_reports.auto)) c.lay_messages.auto.facts c.requires.counted.2 c.lay_reports.ensures c.lay_messages.ensures,
      ),
    )
