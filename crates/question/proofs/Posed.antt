-- A question that is sound, fits and can be worked out, and room to work it out in.
use mathlib.Core.Path.{◌≡◌}
use mathlib.Core.Bool.{true}
use mathlib.Core.List.{List}
use Prim.Native.Nat.{ℕ, ◌≤◌}
use native.Mathlib.Nat.{le_trans}
use Rattle.model.specs.Limits.{print_limits, workspace_size}
use Rattle.model.specs.Formula.{Formula, prefix, sound}
use Rattle.model.specs.Rules.{as_true, workable}
use Rattle.model.specs.Size.{fits}
use Rattle.model.specs.Computation.{Computation, stations, event_count}
use Rattle.model.specs.Forecast.{forecast}
use Rattle.lattice.proofs.Forecast.{workspace_fits}
use Rattle.structure.specs.declared.Run.{Run}
use Rattle.structure.specs.Laid.{Given}
use Rattle.question.specs.Questions.{Question}

module _ (K : Computation) (f : Formula) (good : (sound (stations K) f ≡ true) × (fits f ≡ true) × (workable (as_true f) ≡ true)) {run : Run} (bytes : List ℕ) (e : bytes ≡ prefix f) (laid : Given K run) where
  pub question : Question K f run bytes
  question = record { laid = laid; spells = e; named = rw laid.0.stationed at good.0; fitting = good.1; works = good.2 }

  -- There is room to work it out in the program's workspace, with at most as many events as the program takes.
  pub posed : event_count K ≤ print_limits.events → (room : ℕ) → workspace_size ≤ room → (K : Computation) × (f : Formula) × Question K f run bytes × ((forecast K f).cells ≤ room)
  posed few room h =
      let l = laid.0 in
      (K, f, question, le_trans (workspace_fits K f good.1 (rw l.stationed run.x.few_stations) few) h)
