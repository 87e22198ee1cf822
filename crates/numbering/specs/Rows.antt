-- Cuts and rows of a structure in eight cells each, the counts as numbers of events.
use Rattle.std.specs.Prelude.{◌≡◌, ℕ, zero, suc, ◌+◌, ◌*◌, ◌≤◌, ◌<◌, min, List, get_or, take, drop}
use Rattle.std.proofs.Math.Option.{Option, none, some}
use Rattle.model.specs.Lists.{total}
use Rattle.model.specs.Cut.{Cut, ◌!◌}
use Rattle.model.specs.Computation.{Computation, Consistent, stations, count, full, event_count}
use Rattle.structure.specs.Layout.{decoded}
use Rattle.lattice.proofs.Valid.{Valid}
use Rattle.numbering.specs.declared.Code.{Code}

-- The number of event k of station j: events are numbered from 1 on, station by station. At 0 nothing has happened.
unfoldable pub number : Computation → ℕ → ℕ → ℕ
number K j zero = 0
number K j (suc k) = total (take j (full K)) + suc k

-- A lawful computation of at most 8 stations and 254 events: a number is below 255.
pub record Small (K : Computation) : Type 0 where
  pub valid : Valid K
  pub some_station : 0 < stations K
  pub few_stations : stations K ≤ 8
  pub few_events : event_count K ≤ 254

-- The cells c are the consistent cut x: for each station the number of its last event in x.
pub record Coded (K : Computation) (x : Cut) (c : List ℕ) : Type 0 where
  pub consistent : Consistent K x
  pub cells : (j : ℕ) → get_or c j 0 ≡ number K j (x ! j)

-- The cells c say o: a consistent cut, or none where the first is 255.
abbrev pub Says : Computation → Option Cut → List ℕ → Type 0
Says K none c = get_or c 0 0 ≡ 255
Says K (some x) c = Coded K x c

-- The eight cells of event k of station j in a table.
abbrev pub slot : Computation → List ℕ → ℕ → ℕ → List ℕ
slot K table j k = take 8 (drop (8 * number K j k) table)

-- A table has a row for each event, that of event k of station j saying R j k.
abbrev pub Slots : Computation → (ℕ → ℕ → Option Cut) → List ℕ → Type 0
Slots K R table = (j k : ℕ) → k ≤ count K j → Says K (R j k) (slot K table j k)

-- The same rows in a workspace, n cells each, from a place on; those that are there are consistent cuts.
pub record Rows (K : Computation) (R : ℕ → ℕ → Option Cut) (n at : ℕ) (ws : List ℕ) : Type 0 where
  pub says : (j k : ℕ) → k ≤ count K j → decoded (take n (drop (at + number K j k * n) ws)) ≡ R j k
  pub consistent : (j k : ℕ) → k ≤ count K j → (d : Cut) → R j k ≡ some d → Consistent K d

-- How n counts become numbers: the events before each station, and what is left up to 255.
pub record Coding (n : ℕ) (code : Code) : Type 0 where
  pub sums : (i : ℕ) → i < n → get_or code.room i 0 + get_or code.before i 0 ≡ 255
  pub past : (i : ℕ) → n ≤ i → i < 8 → (get_or code.room i 0 ≡ 0) × (get_or code.before i 0 ≡ 0)

-- They are those of a computation.
abbrev pub Offsets : Computation → Code → Type 0
Offsets K code = (j : ℕ) → j < stations K → get_or code.before j 0 ≡ total (take j (full K))

-- No number passes 255.
abbrev pub Fits : Code → Type 0
Fits code = (i : ℕ) → i < 8 → get_or code.room i 0 + get_or code.before i 0 ≤ 255

-- A count that is not above `most`, with `before` more unless it is 0.
abbrev pub numbered : ℕ → ℕ → ℕ → ℕ
numbered most before v = min v most + min before (255 * min (min v most) 1)

-- The eight cells of a row were put at `to`, numbered, and the cells before are as they were.
pub record Put (code : Code) (to : ℕ) (row t t₂ : List ℕ) : Type 0 where
  pub front : take to t₂ ≡ take to t
  pub cells : (i : ℕ) → i < 8 → get_or t₂ (to + i) 0 ≡ numbered (get_or code.room i 0) (get_or code.before i 0) (get_or row i 0)

-- The first k rows of n cells from a place on stand in a table, numbered.
abbrev pub Copied : Code → ℕ → List ℕ → ℕ → ℕ → List ℕ → Type 0
Copied code n ws at k table =
    (i c : ℕ) → i < k → c < 8 → get_or table (i * 8 + c) 0 ≡ numbered (get_or code.room c 0) (get_or code.before c 0) (get_or ws (at + i * n + c) 0)
