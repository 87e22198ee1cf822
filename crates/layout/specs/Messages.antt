-- Messages of the store in the facts.
use Rattle.std.specs.Prelude.{◌≡◌, ℕ, ◌+◌, ◌<◌, List, get_or}
use Rattle.model.specs.Limits.{values_size}
use Rattle.table.specs.Table.{message_slot}
use Rattle.structure.specs.Laid.{pair_of, message_at}

-- The message that begins with byte `from` of the store t stands at a place of d; its numbers are bytes.
pub record Entered (t : List ℕ) (from : ℕ) (d : List ℕ) (at : ℕ) : Type 0 where
  pub pair : get_or d at 0 ≡ pair_of (get_or t from 0) (get_or t (from + 2) 0)
  pub sent : get_or d (at + 1) 0 ≡ get_or t (from + 1) 0
  pub received : get_or d (at + 2) 0 ≡ get_or t (from + 3) 0
  pub receiver_low : get_or t (from + 2) 0 < 256
  pub sent_low : get_or t (from + 1) 0 < 256
  pub received_low : get_or t (from + 3) 0 < 256

-- It was put there: what stands before the place in d₀ stands so in d.
pub record Copied (t : List ℕ) (from : ℕ) (d₀ d : List ℕ) (at : ℕ) : Type 0 where
  pub entered : Entered t from d at
  pub before : (i : ℕ) → i < at → get_or d i 0 ≡ get_or d₀ i 0

-- The first k messages were put there; the values in d₀ stand so in d.
pub record Filled (t : List ℕ) (k : ℕ) (d₀ d : List ℕ) : Type 0 where
  pub each : (q : ℕ) → q < k → Entered t (message_slot q) d (message_at q)
  pub before : (i : ℕ) → i < values_size → get_or d i 0 ≡ get_or d₀ i 0
