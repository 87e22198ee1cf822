-- The tables of entries: for each number of an event the cut to join and the cut a round before, in eight cells each, and the rounds less one.
use Rattle.std.specs.Prelude.{◌≡◌, ℕ, suc, ◌≤◌, Bool, cond, List, eqb, get_or, replicate}
use Rattle.std.proofs.Math.Option.{Option, none, some}
use Rattle.model.specs.Cut.{Cut, ◌⊑◌, join}
use Rattle.model.specs.Computation.{Computation, count}
use Rattle.model.specs.Structure.{Structure, row}
use Rattle.lattice.specs.OfStation.{OfOwnRows}
use Rattle.lattice.specs.Chains.{Entry}
use Rattle.lattice.specs.Chains.Entry.{lost, moved}
use Rattle.lattice.proofs.Bases.{Good}
use Rattle.slots.specs.Slots.{number, Small, Coded, Slots}
use Rattle.slots.specs.Pair.{Clocks}
use Rattle.picking.specs.Formed.{Picks}
use Rattle.picking.specs.Rows.{row_of}
use Rattle.chaining.specs.declared.Chain.{Chain}

-- What stands at place i.
abbrev pub above_of : Chain → ℕ → List ℕ
above_of chain i = row_of chain.above i

abbrev pub under_of : Chain → ℕ → List ℕ
under_of chain i = row_of chain.under i

abbrev pub rounds_of : Chain → ℕ → ℕ
rounds_of chain i = get_or chain.rounds i 0

-- What a cut with k events of s looks up, if this event is found for it: nothing if it holds the event.
unfoldable pub sought : Bool → (ℕ → Entry) → ℕ → Option ℕ → Option Entry
sought b E k none = some (lost (cond b 1 2))
sought b E k (some i) = cond (eqb i k) none (some (E i))

-- Two cuts in eight cells each and the rounds less one say an entry, or that there is nothing to look up.
abbrev pub Tells : Computation → Option Entry → List ℕ → List ℕ → ℕ → Type 0
Tells K none above under r = (above ≡ replicate 8 0) × (under ≡ replicate 8 0) × (r ≡ 0)
Tells K (some (lost n)) above under r = (above ≡ replicate 8 255) × (under ≡ replicate 8 255) × (suc r ≡ n)
Tells K (some (moved a u n)) above under r = Coded K a above × Coded K u under × (u ⊑ a) × (suc r ≡ n)

-- It stands at place p of the tables; nothing at 0 alone.
abbrev pub Stands : Computation → Chain → ℕ → Option Entry → Type 0
Stands K chain p none = (p ≡ 0) × Tells K none (above_of chain p) (under_of chain p) (rounds_of chain p)
Stands K chain p (some e) = (p ≡ 0 → ⊥) × Tells K (some e) (above_of chain p) (under_of chain p) (rounds_of chain p)

-- What x is joined to where it looks this up.
abbrev pub Reaches : Computation → Cut → Option Entry → List ℕ → Type 0
Reaches K x none out = Coded K x out
Reaches K x (some (lost n)) out = out ≡ replicate 8 255
Reaches K x (some (moved a u n)) out = Coded K (join x a) out

-- What it was a round before; c, if there is nothing to look up.
abbrev pub Comes : Computation → Cut → Cut → Option Entry → List ℕ → Type 0
Comes K c x none out = Coded K c out
Comes K c x (some (lost n)) out = out ≡ replicate 8 255
Comes K c x (some (moved a u n)) out = Coded K (join x u) out

-- The tables have the entries E of the events from a count on; place 0 is for nothing to look up, place 255 for no event found.
pub record Chained (K : Computation) (b : Bool) (s : ℕ) (E : ℕ → Entry) (least : ℕ) (chain : Chain) : Type 0 where
  pub rests : Stands K chain 0 none
  pub finds_none : Stands K chain 255 (some (lost (cond b 1 2)))
  pub events : (k : ℕ) → least ≤ k → k ≤ count K s → Stands K chain (number K s k) (some (E k))

-- A set A of station s and any other set B, as the entries are made from them.
pub record Given (K : Computation) (A B : Structure) (s : ℕ) (picks table first : List ℕ) : Type 0 where
  pub small : Small K
  pub good : Good K B
  pub of_station : OfOwnRows K s A
  pub picks_are : Picks K s A picks
  pub slots_are : Slots K (row B) table
  pub clocks_are : Clocks K first

-- No entry has more rounds than m + 1.
abbrev pub Low : ℕ → Chain → Type 0
Low m chain = (i : ℕ) → rounds_of chain i ≤ m

-- An entry was written to place v, and nothing else changed.
pub record Wrote (v : ℕ) (above under : List ℕ) (r : ℕ) (chain chain₂ : Chain) : Type 0 where
  pub above_is : above_of chain₂ v ≡ above
  pub under_is : under_of chain₂ v ≡ under
  pub rounds_is : rounds_of chain₂ v ≡ r
  pub others : (i : ℕ) → (i ≡ v → ⊥) → (above_of chain₂ i ≡ above_of chain i) × (under_of chain₂ i ≡ under_of chain i) × (rounds_of chain₂ i ≡ rounds_of chain i)
