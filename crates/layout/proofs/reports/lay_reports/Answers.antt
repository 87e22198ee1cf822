-- The values are laid at the front, and the panels in the part behind them. Assumes nothing.
use Prim.Native.Nat.{◌+◌}
use native.Mathlib.Omega.{arith}
use Rattle.layout.specs.Rows.{byte_of, values_in}
use Rattle.layout.proofs.Aspects.{each_laid}
use Rattle.layout.proofs.reports.lay_reports.Goals as goal

pub returns : goal.returns
returns c =
    let a = c.args in
    let l = c.lay_values in
    each_laid l.new.values _ (a.x.e + a.x.n) (λ i. values_in (byte_of i) a.store.now a.x.counts a.x.n) (omega (arith, a.x.few_events, a.x.few_stations)) (omega (arith, c.requires, l.auto)) l.ensures c.lay_values-2.ensures
