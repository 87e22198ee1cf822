-- The forecast of a question of a loaded log, from its figures and the counts of stations and events.
use mathlib.Core.Path.{◌≡◌, sym}
use mathlib.Core.List.{List}
use mathlib.Core.Option.{some}
use Prim.Native.Nat.{ℕ, ◌+◌, ◌*◌, ◌≤◌}
use native.Mathlib.Omega.{arith}
use native.Mathlib.Numerals.{add-one}
use lib.ListN.{length, get_elem?}
use Rattle.model.specs.declared.Limits.{Limits}
use Rattle.model.specs.declared.Forecast.{Forecast}
use Rattle.model.specs.Formula.{Formula, prefix, formula_of}
use Rattle.model.specs.Computation.{Computation, stations, event_count}
use Rattle.model.specs.Rules.{as_true}
use Rattle.model.specs.Forecast.{forecast}
use Rattle.lattice.proofs.Held.{fits_to}
use Rattle.codec.proofs.Formulas.{formula-prefix, length-formula}
use Rattle.extents.specs.declared.Figures.{Figures}
use Rattle.extents.specs.Extents.{figures_of}
use Rattle.extents.proofs.Extents.{ceiling-pairs}
use Rattle.query.specs.Judged.{judged, figures_in}
use Rattle.query.proofs.Judged.{figures-prefix}
use Rattle.frame.specs.declared.State.{State}
use Rattle.load.specs.Loading.{Accepts}
use Rattle.opening.proofs.Logs.{good-at}

-- As the code counts: n stations, and e + 1 starts.
abbrev pub costs : Figures → ℕ → ℕ → Forecast
costs g n e = record { width = g.width; bars = g.most; held = g.held; cells = g.held * n * (e + 1); ceiling = g.pairs * ((e + 1) * (e + 1)) }

costs-forecast : (K : Computation) (f : Formula) (g : Figures) (n e : ℕ) → g ≡ figures_of (as_true f) → n ≡ stations K → e ≡ event_count K → costs g n e ≡ forecast K f
unfolding forecast figures_of
costs-forecast K f g n e h s t = rw (h, s, t, add-one (event_count K), ceiling-pairs (event_count K) (as_true f))

module _ {m : Limits} {log : List ℕ} {s : State} {k : ℕ} {list t : List ℕ} (a : Accepts m log s k list t) (q : ℕ) (f : Formula) (is : get_elem? a.reading.questions q ≡ some f) where
  abbrev K : Computation
  K = a.reading.computation

  -- A question's bytes are few.
  pub few_bytes : length (prefix f) ≤ 99
  few_bytes = let h = fits_to f (good-at a q f is).1 in omega (arith, length-formula (prefix f) f (formula-prefix f), h.0, h.1)

  -- It is fine, so what is judged of its bytes has its figures.
  pub figures-here : {b : List ℕ} {g : Figures} → b ≡ prefix f → g ≡ figures_in (judged s.stations (formula_of b)) → g ≡ figures_of (as_true f)
  figures-here e = let good = good-at a q f is in figures-prefix s.stations f e (rw a.holds.stored.size at good.0) good.1 good.2

  pub foreseen : (g : Figures) → g ≡ figures_of (as_true f) → costs g s.stations s.events ≡ forecast K f
  foreseen g e = costs-forecast K f g s.stations s.events e (sym a.holds.stored.size) a.holds.events
