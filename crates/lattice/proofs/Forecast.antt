-- What is forecast of an accepted question is small: its figures fit the bits that they are handed back in, and its cells the program's workspace.
use mathlib.Core.Path.{◌≡◌}
use Prim.Native.Nat.{suc, ◌+◌, ◌*◌, ◌≤◌}
use native.Mathlib.Omega.{arith}
use native.Mathlib.Nat.{le_trans, mul-le-mul}
use mathlib.Core.Bool.{true}
use Rattle.model.specs.declared.Forecast.{Forecast}
use Rattle.model.specs.Limits.{print_limits, most_held, workspace_size}
use Rattle.model.specs.Formula.{Formula, signs}
use Rattle.model.specs.Computation.{Computation, stations, event_count}
use Rattle.model.specs.Rules.{Normal, as_true}
use Rattle.model.specs.Rules.Normal.{literal, both, either, possible, impossible}
use Rattle.model.specs.Size.{bars, narrow, fits}
use Rattle.model.specs.Forecast.{most_bars, forecast}
use Rattle.lattice.proofs.Size.{narrow_to, narrow_both, narrow-either, narrow-possible, narrow-impossible}
use Rattle.lattice.proofs.Weights.{signs-atoms}
use Rattle.lattice.proofs.Held.{fits_to, held-le}
use Rattle.lattice.proofs.Rounds.{ceiling_bound}

-- No token of a narrow normal form has more than 16 bars.
pub most-bars : (p : Normal) → narrow p ≡ true → most_bars p ≤ 16
unfolding most_bars bars
most-bars (literal b a) h = omega arith
most-bars (both p q) h = let n = narrow_both p q h in omega (arith, n.1, most-bars p n.2, most-bars q n.3)
most-bars (either p q) h = let n = narrow-either p q h in omega (arith, n.1, most-bars p n.2, most-bars q n.3)
most-bars (possible p) h = omega (arith, most-bars p (narrow-possible p h).1)
most-bars (impossible p) h = let n = narrow-impossible p h in omega (arith, n.0, most-bars p n.1)

-- Figures that fit the bits given to each.
pub record Low (c : Forecast) : Type 0 where
  pub width : c.width ≤ 16
  pub bars : c.bars ≤ 16
  pub held : c.held ≤ most_held
  pub cells : c.cells ≤ most_held * 8 * 255
  pub ceiling : c.ceiling ≤ 16 * 11 * (255 * 255)

-- Those of a question that fits, which has at most 11 signs, with at most 254 events.
pub forecast-low : (K : Computation) (f : Formula) → fits f ≡ true → stations K ≤ 8 → event_count K ≤ 254 → Low (forecast K f)
unfolding forecast
forecast-low K f h n e = record {
  width = (narrow_to (as_true f) slender).0;
  bars = most-bars (as_true f) slender;
  held = held-le f h;
  cells = mul-le-mul {m₂ = 255} (mul-le-mul (held-le f h) n) (omega arith);
  ceiling = le_trans (ceiling_bound (event_count K) f slender) (mul-le-mul {n₁ = 16 * signs f} {n₂ = 16 * 11} {m₂ = 255 * 255} (omega (arith, signs-atoms f, (fits_to f h).1)) (mul-le-mul {n₁ = suc (event_count K)} {m₁ = suc (event_count K)} {n₂ = 255} {m₂ = 255} (omega arith) (omega arith)));
}
  where
    slender : narrow (as_true f) ≡ true
    slender = (fits_to f h).2

-- Its cells are within the program's workspace, with at most as many events as the program takes.
pub workspace_fits : (K : Computation) (f : Formula) → fits f ≡ true → stations K ≤ print_limits.stations → event_count K ≤ print_limits.events → (forecast K f).cells ≤ workspace_size
unfolding forecast
workspace_fits K f h n e = mul-le-mul {m₂ = print_limits.events + 1} (mul-le-mul (held-le f h) n) (omega arith)
