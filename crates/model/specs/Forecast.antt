-- What a question can cost, told by the formula and the counts of stations and events alone.
use Rattle.std.specs.Prelude.{ℕ, suc, ◌+◌, ◌*◌, max}
use Rattle.model.specs.declared.Forecast.{Forecast}
use Rattle.model.specs.Formula.{Formula}
use Rattle.model.specs.Computation.{Computation, stations, event_count}
use Rattle.model.specs.Rules.{Normal, as_true}
use Rattle.model.specs.Rules.Normal.{literal, both, either, possible, impossible}
use Rattle.model.specs.Size.{width, bars, held}

-- The largest bar count at any token.
unfoldable pub most_bars : Normal → ℕ
most_bars (literal b a) = bars (literal b a)
most_bars (both p q) = max (bars (both p q)) (max (most_bars p) (most_bars q))
most_bars (either p q) = max (bars (either p q)) (max (most_bars p) (most_bars q))
most_bars (possible p) = max (bars (possible p)) (most_bars p)
most_bars (impossible p) = max (bars (impossible p)) (most_bars p)

-- A ceiling for the rounds with e events: over the signs joined as "and", the product of both widths times the square of e + 1.
unfoldable pub ceiling : ℕ → Normal → ℕ
ceiling e (literal b a) = 0
ceiling e (both p q) = ceiling e p + ceiling e q + width p * width q * (suc e * suc e)
ceiling e (either p q) = ceiling e p + ceiling e q
ceiling e (possible p) = ceiling e p
ceiling e (impossible p) = ceiling e p

-- The forecast of a question. Each structure held takes n cells for its least cut and n for each event.
unfoldable pub forecast : Computation → Formula → Forecast
forecast K f = record {
  width = width (as_true f);
  bars = most_bars (as_true f);
  held = held (as_true f);
  cells = held (as_true f) * stations K * suc (event_count K);
  ceiling = ceiling (event_count K) (as_true f);
}
