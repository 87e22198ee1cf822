-- Pairs of a set A that raises cuts by an event of one station s and any other set B. The rounds from a cut x of B go through a chain of
-- events of s: A joins x with the clock of the event k that it finds for x, B then joins it with its row w for event k, A with the clock of the
-- event that it finds for w, and so on. All of it follows from k. So a table has for each event k of s what the chain from k on comes to,
-- made from the last event downwards, and a start looks up the event that A finds for its first cut of B.
use Rattle.std.specs.Prelude.{ℕ, zero, suc, ◌+◌, ◌-◌, Bool, cond, eqb}
use Rattle.std.proofs.Math.Option.{Option, none, some}
use Rattle.model.specs.Cut.{Cut, ◌!◌, inside, join}
use Rattle.model.specs.Computation.{Computation, count, clock}
use Rattle.model.specs.Structure.{Structure, row, joined}
use Rattle.model.specs.Basis.{Outcome}

-- What a start comes to whose first cut of B is x, if A finds event k for it and x does not hold it.
pub data Entry : Type 0 where
  -- none, in this many rounds
  lost : ℕ → Entry
  -- x joined with the first cut, in this many rounds; in one more if x joined with the second cut, which it was a round before, is not that
  moved : Cut → Cut → ℕ → Entry

-- What the entry says of x.
unfoldable pub outcome_of : Cut → Entry → Outcome
outcome_of x (lost n) = record { reached = none; rounds = n }
outcome_of x (moved a u n) = record { reached = some (join x a); rounds = n + cond (inside (join x a) (join x u)) 0 1 }

-- The entry of an event whose row in B is w and from which A goes on to an event with this entry.
unfoldable pub climbed : Cut → Entry → Entry
climbed w (lost n) = lost (suc n)
climbed w (moved a u n) = moved (join w a) (join w u) (suc n)

-- The rounds that stand in an entry.
unfoldable pub rounds_in : Entry → ℕ
rounds_in (lost n) = n
rounds_in (moved a u n) = n

-- b says whether A is the right set; f finds the events for A.
module _ (K : Computation) (b : Bool) (s : ℕ) (f : Cut → Option ℕ) (B : Structure) where
  -- THE TABLE

  -- For the row w of event k in B A finds this. If the event is in w, w is in both sets.
  unfoldable pub entry_from_row : (ℕ → Entry) → ℕ → Cut → Option ℕ → Entry
  entry_from_row E k w none = lost (cond b 2 3)
  entry_from_row E k w (some i) = cond (eqb i (w ! s)) (moved w (clock K s (cond b k 0)) 2) (climbed w (E i))

  -- Event k has this row in B.
  unfoldable pub at_row : (ℕ → Entry) → ℕ → Option Cut → Entry
  at_row E k none = lost 2
  at_row E k (some w) = entry_from_row E k w (f w)

  -- The entry of event k, by those of later events.
  abbrev pub entry_at : (ℕ → Entry) → ℕ → Entry
  entry_at E k = at_row E k (row B s k)

  -- The table with the entries of the n last events.
  unfoldable pub entries : ℕ → ℕ → Entry
  entries zero k = lost 0
  entries (suc n) k = cond (eqb k (count K s - n)) (entry_at (entries n) k) (entries n k)

  -- THE LOOKUP

  -- A start from c whose first cut of B is x and for which A finds this. If the event is in x, x is in both sets.
  unfoldable pub found : (ℕ → Entry) → Cut → Cut → Option ℕ → Outcome
  found E c x none = record { reached = none; rounds = cond b 1 2 }
  found E c x (some k) = cond (eqb k (x ! s)) (record { reached = some x; rounds = 1 + cond (inside x c) 0 1 }) (outcome_of x (E k))

  -- A start from c whose first cut of B is this.
  unfoldable pub lookup : (ℕ → Entry) → Cut → Option Cut → Outcome
  lookup E c none = record { reached = none; rounds = 1 }
  lookup E c (some x) = found E c x (f x)

-- The first cut of B if A is the left set, for a start from the clock of event k of station j, which has this row in A.
unfoldable pub outcome_of_first_round : Structure → ℕ → ℕ → ℕ → Option Cut → Option Cut
outcome_of_first_round B s j k none = none
outcome_of_first_round B s j k (some l) = joined (row B j k) (row B s (l ! s))
