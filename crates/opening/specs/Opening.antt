-- A log opened for a question, as code hands it on.
use Rattle.std.specs.Prelude.{◌≡◌, ℕ, List, Result, MatchResult}
use Rattle.std.proofs.Math.Option.{some}
use Rattle.std.proofs.Math.ListN.{get_elem?}
use Rattle.model.specs.declared.Limits.{Limits}
use Rattle.model.specs.Limits.{limits}
use Rattle.model.specs.Formula.{Formula}
use Rattle.model.specs.Reply.{number}
use Rattle.model.specs.Operations.{shut, opening}
use Rattle.codec.specs.Limits.{NoLarger}
use Rattle.load.specs.declared.Loaded.{Loaded}
use Rattle.load.specs.declared.Unread.{Unread}
use Rattle.load.specs.Loading.{Accepts}

-- Some log was loaded, and list and store hold it.
pub record Holding (l : Loaded) (list t : List ℕ) : Type 0 where
  pub limits_are : Limits
  pub small : NoLarger limits_are limits
  pub log : List ℕ
  pub accepts : Accepts limits_are log l.state l.length list t

-- The log was loaded under the limits m, and has the question number q.
pub record Poses (m : Limits) (log : List ℕ) (q : ℕ) (l : Loaded) (list t : List ℕ) : Type 0 where
  pub accepts : Accepts m log l.state l.length list t
  pub question : Formula
  pub is : get_elem? accepts.reading.questions q ≡ some question

-- What opening a log for a question comes to.
abbrev pub Opens : Limits → List ℕ → ℕ → Result Loaded Unread → List ℕ → List ℕ → Type 0
Opens m log q r list t = MatchResult r (λ l. Poses m log q l list t) (λ u. opening m log q ≡ shut (number u.refusal.fault) u.refusal.line)
