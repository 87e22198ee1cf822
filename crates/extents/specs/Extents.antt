-- The figures of a formula in negation normal form, while width and bar count are within their limit at every token.
use Rattle.std.specs.Prelude.{ℕ, ◌+◌, ◌*◌, ◌≤◌, max, cond, ◌&&◌, leb, Option, None, Some}
use Rattle.model.specs.Rules.{Normal}
use Rattle.model.specs.Rules.Normal.{literal, both, either, possible, impossible}
use Rattle.model.specs.Size.{width, bars, held, narrow}
use Rattle.model.specs.Forecast.{most_bars}
use Rattle.extents.specs.declared.Figures.{Figures}

-- The pairs that the signs joined as "and" intersect if no structure is dropped.
unfoldable pub pairs_of : Normal → ℕ
pairs_of (literal b a) = 0
pairs_of (both p q) = pairs_of p + pairs_of q + width p * width q
pairs_of (either p q) = pairs_of p + pairs_of q
pairs_of (possible p) = pairs_of p
pairs_of (impossible p) = pairs_of p

unfoldable pub figures_of : Normal → Figures
figures_of p = record { width = width p; bars = bars p; most = most_bars p; held = held p; pairs = pairs_of p }

-- None if width or bar count is over its limit at some token.
unfoldable pub extent_of : Normal → Option Figures
extent_of p = cond (narrow p) (Some (figures_of p)) None

-- Figures, if width and bar count are at most 16.
unfoldable pub bounded : Figures → Option Figures
bounded g = cond (leb g.width 16 && leb g.bars 16) (Some g) None

-- Two operands joined to a width and a bar count, with so many pairs intersected.
abbrev pub joined : Figures → Figures → ℕ → ℕ → ℕ → Figures
joined a b w d k = record { width = w; bars = d; most = max d (max a.most b.most); held = max a.held (max (a.width + b.held) (a.width + b.width + w)); pairs = a.pairs + b.pairs + k }

-- One operand lifted to a width and a bar count.
abbrev pub lifted : Figures → ℕ → ℕ → Figures
lifted a w d = record { width = w; bars = d; most = max d a.most; held = max a.held (a.width + w); pairs = a.pairs }

-- Figures of a narrow formula of at most 99 atoms: they can be multiplied and added.
pub record Modest (g : Figures) : Type 0 where
  pub width : g.width ≤ 16
  pub bars : g.bars ≤ 16
  pub held : g.held ≤ 16 * 99
  pub pairs : g.pairs ≤ 16 * 99

abbrev pub Small : Option Figures → Type 0
Small None = Unit
Small (Some g) = Modest g
