-- The rounds of a question.
use Rattle.std.specs.Prelude.{◌≡◌, ℕ, suc, ◌+◌, ◌≤◌, List}
use Rattle.std.proofs.Math.Option.{Option, none, some}
use Rattle.model.specs.Lists.{Member, sum}
use Rattle.model.specs.Cut.{Cut, empty}
use Rattle.model.specs.Computation.{Computation, Event, stations, count, clock}
use Rattle.model.specs.Structure.{Structure}
use Rattle.model.specs.Rules.{Normal}
use Rattle.model.specs.Rules.Normal.{literal, both, either, possible, impossible}
use Rattle.model.specs.Basis.{round, start, basis}

-- THEIR SUM

-- The rounds of one pair: from the empty cut and from each event's clock.
unfoldable pub rounds_of_pair : Computation → Structure → Structure → ℕ
rounds_of_pair K S T = (start K S T (empty (stations K))).rounds + sum (sum (λ (e : Event). (start K S T e.clock).rounds)) K.events

-- The rounds of all pairs.
unfoldable pub rounds_of_pairs : Computation → List Structure → List Structure → ℕ
rounds_of_pairs K L R = sum (λ S. sum (rounds_of_pair K S) R) L

-- The rounds while p is worked out one time.
unfoldable pub rounds : Computation → Normal → ℕ
rounds K (literal b a) = 0
rounds K (both p q) = rounds K p + rounds K q + rounds_of_pairs K (basis K p) (basis K q)
rounds K (either p q) = rounds K p + rounds K q
rounds K (possible p) = rounds K p
rounds K (impossible p) = rounds K p

-- THE RULE, with no limit on the rounds

-- From c a start comes to o, a cut or none, and n rounds were begun.
pub data ByRule (S T : Structure) : Cut → Option Cut → ℕ → Type 0 where
  -- a none ends the start
  ends : {c : Cut} → round S T c ≡ none → ByRule S T c none 1
  -- so does a round that changed nothing
  still : {c : Cut} → round S T c ≡ some c → ByRule S T c (some c) 1
  -- every other round is followed by one more
  goes : {c d : Cut} {o : Option Cut} {n : ℕ} → round S T c ≡ some d → (d ≡ c → ⊥) → ByRule S T d o n → ByRule S T c o (suc n)

-- Each start of a pair, the empty cut (where k is 0) and each event's clock, follows the rule.
abbrev pub PairByRule : Computation → Structure → Structure → Type 0
PairByRule K S T = (j k : ℕ) → k ≤ count K j → ByRule S T (clock K j k) (start K S T (clock K j k)).reached (start K S T (clock K j k)).rounds

-- So does each start of every pair intersected while p is worked out.
abbrev pub AllByRule : Computation → Normal → Type 0
AllByRule K (literal b a) = Unit {0}
AllByRule K (both p q) = AllByRule K p × AllByRule K q × ((S T : Structure) → Member S (basis K p) → Member T (basis K q) → PairByRule K S T)
AllByRule K (either p q) = AllByRule K p × AllByRule K q
AllByRule K (possible p) = AllByRule K p
AllByRule K (impossible p) = AllByRule K p
