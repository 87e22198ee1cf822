-- What a value was, from what was made of it.
use mathlib.Core.Path.{◌≡◌, refl, ap}
use Rattle.std.specs.Prelude.{Option, None, Some, Result, Ok, Err}
use Rattle.std.specs.Option.{ok_or}
use Rattle.std.specs.Result.{IsErrAnd}

pub was_some : {A B : Type 0} (o : Option A) (k : B) {x : A} → Ok x ≡ ok_or o k → o ≡ Some x
was_some None k e = cc
was_some (Some y) k e = cc

pub was_none : {A B : Type 0} (o : Option A) (k : B) {x : B} → Err x ≡ ok_or o k → (o ≡ None) × (x ≡ k)
was_none None k e = (refl, cc)
was_none (Some y) k e = cc

-- An error handed on.
pub handed : {A B : Type 0} (r : Result A B) {x : B} → IsErrAnd r (λ e. e ≡ x) → r ≡ Err x
handed (Ok a) h = absurd h
handed (Err y) h = ap Err h
