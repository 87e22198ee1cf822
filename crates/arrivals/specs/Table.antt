-- The table of 07 by the sender's count: what its passes make of it, and what it comes to.
use Rattle.std.specs.Prelude.{◌≡◌, ℕ, zero, suc, ◌+◌, ◌*◌, ◌≤◌, ◌<◌, max, Bool, cond, ◌&&◌, List, [], ◌∷◌, eqb, ltb, length, get_or}
use Rattle.std.proofs.Math.Option.{Option}
use Rattle.model.specs.Computation.{Computation, Message, count}
use Rattle.lattice.proofs.Valid.{Valid}
use Rattle.lattice.proofs.Due.{Entry}
use Rattle.structure.specs.Layout.{coded, event_row}
use Rattle.structure.specs.Laid.{pair_of}

-- MARKS

-- The event that receives a message, or 255 if it never came.
unfoldable pub receipt : ℕ → ℕ
receipt k = cond (eqb k 0) 255 k

-- Is it a message of the pair, and sent at event x?
unfoldable pub sent_at : ℕ → ℕ → Message → Bool
sent_at pair x m = eqb (pair_of m.sender m.receiver) pair && eqb m.sent x

-- The last event that receives a message of the pair which event x sends; 255 if one never came, and 0 if there is none.
unfoldable pub latest : ℕ → ℕ → List Message → ℕ
latest pair x [] = 0
latest pair x (m ∷ l) = cond (sent_at pair x m) (max (latest pair x l) (receipt m.received)) (latest pair x l)

-- WHAT IS DUE: all that is sent up to x

-- The largest entry up to x.
unfoldable pub highest : List ℕ → ℕ → ℕ
highest table zero = get_or table 0 0
highest table (suc x) = max (get_or table (suc x) 0) (highest table x)

-- ENTRIES

-- How many events of the sender i the clock of event k of the receiver has, before whose events off others stand.
unfoldable pub brought : ℕ → ℕ → ℕ → List ℕ → ℕ → ℕ
brought n i off starts k = get_or starts (event_row off k * n + i) 0

-- Event k, unless the y events of the sender that its clock has are more than x; then the entry at y.
unfoldable pub onward : List ℕ → ℕ → ℕ → ℕ → ℕ
onward table x k y = cond (ltb x y) (get_or table y 0) k

-- The entry at x, where event k is due by x, or 255 if something never comes.
unfoldable pub settled : ℕ → ℕ → ℕ → List ℕ → List ℕ → ℕ → ℕ → ℕ
settled n i off starts table x k = cond (eqb k 255) 255 (onward table x k (brought n i off starts k))

-- The clock of the event that a table names at x stands in the starts.
abbrev pub Known : ℕ → ℕ → ℕ → List ℕ → List ℕ → ℕ → Type 0
Known n i off starts table x = (get_or table x 0 ≡ 255 → ⊥) → event_row off (get_or table x 0) * n + i < length starts

-- The table has an entry at x: the event of the receiver by which all is received, or none.
abbrev pub Entered : (K : Computation) → Valid K → (i j : ℕ) → List ℕ → ℕ → Type 0
Entered K ok i j table x = (o : Option ℕ) × (get_or table x 0 ≡ coded o) × Entry K ok i j x o

-- The table of 07 for the sender i and the receiver j: an entry at each count of the sender, and no event named that is not there.
pub record Arrivals (K : Computation) (ok : Valid K) (i j : ℕ) (table : List ℕ) : Type 0 where
  pub entries : (x : ℕ) → x ≤ count K i → Entered K ok i j table x
  pub reach : (x : ℕ) → x < 256 → (get_or table x 0 ≡ 255 → ⊥) → get_or table x 0 ≤ count K j
