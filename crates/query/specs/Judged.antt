-- What is to be said of a question's bytes, its number, and its figures.
use Rattle.std.specs.Prelude.{ℕ, cond, Result, Ok, Err}
use Rattle.std.proofs.Math.Option.{Option, none, some}
use Rattle.model.specs.Formula.{Formula, sound}
use Rattle.model.specs.Rules.{as_true, workable}
use Rattle.model.specs.Size.{fits}
use Rattle.extents.specs.declared.Figures.{Figures}
use Rattle.extents.specs.Extents.{figures_of}
use Rattle.model.specs.declared.Fault.{Fault}
use Rattle.model.specs.declared.Fault.TheVariants as fault
use Rattle.model.specs.Reply.{number}

-- 8: not exactly one formula, or one with an atom that is not sound. 9: too large. 16: one not too large, with an atom under a sign in which it cannot be worked out. Ok: its figures as true.
unfoldable pub judged : ℕ → Option Formula → Result Figures Fault
judged n none = Err fault.Formula
judged n (some f) = cond (sound n f) (cond (fits f) (cond (workable (as_true f)) (Ok (figures_of (as_true f))) (Err fault.Unworkable)) (Err fault.Size)) (Err fault.Formula)

-- The number of the fault.
abbrev pub fault_of : Result Figures Fault → Option ℕ
fault_of (Ok g) = none
fault_of (Err x) = some (number x)

-- The figures of no question.
abbrev pub no_figures : Figures
no_figures = record { width = 0; bars = 0; most = 0; held = 0; pairs = 0 }

-- The figures of a question that is fine; zeros where it is not.
abbrev pub figures_in : Result Figures Fault → Figures
figures_in (Ok g) = g
figures_in (Err x) = no_figures
