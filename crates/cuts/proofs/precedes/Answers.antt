-- `cuts::precedes` meets its contract: `<` is the order of slices.
use mathlib.Core.Path.{◌≡◌}
use Prim.Native.Nat.{◌+◌, ◌-◌}
use native.Mathlib.Omega.{arith}
use lib.ListN.{take, drop}
use Rattle.cuts.proofs.Order.{by_order}
use Rattle.cuts.proofs.precedes.Goals as goal

pub returns : goal.returns
returns c =
    let a = c.args in
    let e : a.at + a.n - a.at ≡ a.n = omega arith in
    rw e at (by_order (take a.n a.cut.now) (take (a.at + a.n - a.at) (drop a.at a.cuts.now)) c.lt.result c.lt.ensures)
