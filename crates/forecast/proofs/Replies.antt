-- What Forecast comes to; what is promised of it follows from the equality with the definition.
use mathlib.Core.Path.{◌≡◌}
use mathlib.Core.List.{List}
use Prim.Native.Nat.{ℕ}
use Rattle.std.specs.Prelude.{Result, Ok, Err}
use Rattle.model.specs.declared.Forecast.{Forecast}
use Rattle.model.specs.declared.Refusal.{Refusal}
use Rattle.model.specs.Limits.{limits}
use Rattle.model.specs.Formula.{Formula}
use Rattle.model.specs.Computation.{Computation}
use Rattle.model.specs.Forecast.{forecast}
use Rattle.model.specs.Reply.{number, forecast_reply}
use Rattle.model.specs.Operations.{shut, poses, opening, forecast_reply_to, forecast_op}
use Rattle.model.specs.Promise.{Asked, Foretold}
use Rattle.codec.proofs.Suited.{suitable}
use Rattle.codec.proofs.Forecast.{asked_foretold}

-- All that is promised of Forecast.
abbrev pub Met : List ℕ → ℕ → Result Forecast Refusal → Type 0
Met log q r = (forecast_reply r ≡ forecast_op limits log q) × ((K : Computation) (f : Formula) → Asked limits log q K f → Foretold limits log q K f (forecast_reply r))

module _ (log : List ℕ) (q : ℕ) where
  met : (r : Result Forecast Refusal) → forecast_reply r ≡ forecast_op limits log q → Met log q r
  met r e = (e, λ K f a. asked_foretold suitable a (forecast_reply r) e)

  pub met_shut : (x : Refusal) → opening limits log q ≡ shut (number x.fault) x.line → Met log q (Err x)
  unfolding forecast_op forecast_reply_to
  met_shut x e = met (Err x) (rw e)

  pub met_given : (K : Computation) (f : Formula) → opening limits log q ≡ poses K f → (c : Forecast) → c ≡ forecast K f → Met log q (Ok c)
  unfolding forecast_op forecast_reply_to
  met_given K f e c h = met (Ok c) (rw (e, h))
