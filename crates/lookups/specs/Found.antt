-- What the starts of a pair look up, where one set is of one station.
use Rattle.std.specs.Prelude.{◌≡◌, ℕ, suc, ◌+◌, ◌*◌, ◌≤◌, Bool, List, get_or, option_copied}
use Rattle.std.proofs.Math.Option.{Option}
use Rattle.model.specs.Cut.{Cut, join}
use Rattle.model.specs.Computation.{Computation, count, clock}
use Rattle.model.specs.Structure.{Structure}
use Rattle.model.specs.Basis as rule
use Rattle.model.specs.Basis.{start}
use Rattle.lattice.specs.OfStation.{own_row, OfOwnRows}
use Rattle.lattice.specs.Chains.{entries, lookup}
use Rattle.slots.specs.Slots.{number, Small, Slots}
use Rattle.slots.specs.Pair.{Above, Clocks}
use Rattle.slots.specs.Reached.{Reached}
use Rattle.picking.specs.Formed.{Picks}
use Rattle.picking.specs.Rows.{row_of}
use Rattle.chaining.specs.declared.Chain.{Chain}
use Rattle.chaining.specs.Table.{Chained}
use Rattle.lookups.specs.declared.Step.{Step}

-- The entry that row i of a table looks up.
abbrev pub place_of : List ℕ → List ℕ → ℕ → ℕ → ℕ
place_of picks cuts s i = get_or picks (get_or cuts (i * 8 + s) 0) 0

-- The first e + 1 rows of a table are those of the cuts, each joined with the row that it looks up.
abbrev pub Joined : ℕ → ℕ → List ℕ → List ℕ → List ℕ → List ℕ → Type 0
Joined e s picks cuts rows out = (i : ℕ) → i ≤ e → row_of out i ≡ join (row_of cuts i) (row_of rows (place_of picks cuts s i))

-- Each start of a pair comes to what its first cut of the other set looks up, where one set is of station s; those cuts stand in a table.
pub record Found (K : Computation) (S T : Structure) (s : ℕ) (cuts first picks : List ℕ) (chain : Chain) : Type 0 where
  pub own : Structure
  pub other : Structure
  pub right : Bool
  pub rows : ℕ → ℕ → Option Cut
  pub small : Small K
  pub of_station : OfOwnRows K s own
  pub picks_are : Picks K s own picks
  pub chained : Chained K right s (entries K right s (own_row own s) other (suc (count K s))) 1 chain
  pub cuts_are : Slots K rows cuts
  pub clocks_are : Clocks K first
  pub above_clock : (j k : ℕ) → k ≤ count K j → Above (clock K j k) (rows j k)
  pub starts : (j k : ℕ) → k ≤ count K j → start K S T (clock K j k) ≡ lookup K right s (own_row own s) other (entries K right s (own_row own s) other (suc (count K s))) (clock K j k) (rows j k)

-- Row i of the tables is that of event k of station j; in `out` and `last` its cut is joined with what it looks up.
pub record AtEvent (K : Computation) (S T : Structure) (s : ℕ) (out last cuts first picks : List ℕ) (chain : Chain) (i j k : ℕ) : Type 0 where
  pub found : Found K S T s cuts first picks chain
  pub there : k ≤ count K j
  pub numbered : i ≡ number K j k
  pub reached : row_of out i ≡ join (row_of cuts i) (row_of chain.above (place_of picks cuts s i))
  pub before : row_of last i ≡ join (row_of cuts i) (row_of chain.under (place_of picks cuts s i))

-- A start's step says the rule's outcome.
pub record Looked (K : Computation) (o : rule.Outcome) (r : Step) : Type 0 where
  pub rounds : r.rounds ≡ o.rounds
  pub reached : Reached K (option_copied r.cut) o.reached
