-- What a table for 07 holds: for each count of the sender, the event of the receiver by which all is received.
use Rattle.std.specs.Prelude.{ℕ, zero, suc, max, cond, List, [], ◌∷◌}
use Rattle.std.proofs.Math.Option.{Option, none, some}
use Rattle.model.specs.Computation.{Message}
use Rattle.model.specs.Atom.{sent_by}

-- The later of two events of a station, if both are there.
unfoldable pub later : ℕ → Option ℕ → Option ℕ
later zero o = none
later (suc k) none = none
later (suc k) (some r) = some (max (suc k) r)

-- The event of j by which all messages from i sent by event x are received, 0 if there are no such; none if one never is.
unfoldable pub due : ℕ → ℕ → ℕ → List Message → Option ℕ
due i j x [] = some 0
due i j x (m ∷ l) = cond (sent_by i j x m) (later m.received (due i j x l)) (due i j x l)
