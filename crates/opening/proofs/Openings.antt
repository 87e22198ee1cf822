-- What opening a log for a question comes to, by what loading it came to.
use mathlib.Core.Path.{◌≡◌, refl}
use mathlib.Core.List.{List}
use Prim.Native.Nat.{ℕ, ◌≤◌, ◌<◌}
use native.Mathlib.Omega.{arith}
use Rattle.model.specs.declared.Limits.{Limits}
use Rattle.model.specs.Limits.{limits}
use Rattle.model.specs.declared.Refusal.{Refusal}
use Rattle.model.specs.Reply.{number}
use Rattle.model.specs.Operations.{shut, poses, posing, opening_of, opening}
use Rattle.codec.specs.Limits.{NoLarger}
use Rattle.load.specs.declared.Loaded.{Loaded}
use Rattle.std.specs.Prelude.{Result, Ok, Err}
use Rattle.std.specs.Result.{IsErrAnd}
use Rattle.load.specs.declared.Unread.{Unread}
use Rattle.load.specs.Loading.{Accepts, Refuses, refusal_of}
use Rattle.opening.specs.Opening.{Holding, Poses}
use Rattle.opening.proofs.Logs.{question-count, question-there, no_question}

-- List and store hold a log that was loaded, under the operations' limits or smaller ones.
pub holding : {m : Limits} {log : List ℕ} {l : Loaded} {list t : List ℕ} → NoLarger m limits → Accepts m log l.state l.length list t → Holding l list t
holding {m} {log} up a = record { limits_are = m; small = up; log = log; accepts = a }

module _ (m : Limits) (log : List ℕ) (q : ℕ) (l : Loaded) (list t : List ℕ) where
  -- A log that has the question poses it.
  pub poses-is : (p : Poses m log q l list t) → opening m log q ≡ poses p.accepts.reading.computation p.question
  unfolding opening opening_of posing
  poses-is p = rw (p.accepts.is, p.is)

  pub opens_posed : Accepts m log l.state l.length list t → q < l.state.questions → Poses m log q l list t
  opens_posed a b = let f = question-there a.reading.questions q (omega (arith, question-count a)) in record { accepts = a; question = f.0; is = f.1 }

  -- One that does not have it is shut.
  pub opens_without : Accepts m log l.state l.length list t → l.state.questions ≤ q → opening m log q ≡ shut 10 0
  unfolding opening opening_of posing
  opens_without a b = rw (a.is, no_question a.reading.questions q (omega (arith, question-count a)))

-- A refused log is shut by its refusal.
pub opens_refused : (m : Limits) (log : List ℕ) (q : ℕ) (x : Refusal) → Refuses m log x → opening m log q ≡ shut (number x.fault) x.line
unfolding opening opening_of
opens_refused m log q x e = rw e

-- What `?` hands on of a log that was not read.
pub unread-is : {A : Type 0} (r : Result A Refusal) (u : Unread) → IsErrAnd r (refusal_of u) → r ≡ Err u.refusal
unread-is (Ok x) u e = elim e [ ]
unread-is (Err x) u e = rw e refl
