-- Structures: sets of cuts closed under join and meet, with bars.
use Rattle.std.specs.Prelude.{ℕ, zero, suc, Bool, false, not, cond, ◌&&◌, ◌||◌, List, [], ◌∷◌, map, length, get_or}
use Rattle.std.proofs.Math.Option.{Option, none, some}
use Rattle.model.specs.Cut.{Cut, ◌!◌, empty, inside, inside_any, join}
use Rattle.model.specs.Computation.{Computation, Event, stations}

-- The least cut of the set; for each event, station by station, the least cut of the set that holds it, or none; the bars.
-- On the bench log, with clocks (1,0) of station 0 and (0,1), (1,2) of station 1, `station 0 in 5..5` is true at (1,0), (1,1), (1,2):
-- least (1,0); rows (1,0) for station 0 and (1,1), (1,2) for station 1; no bars. Its greatest cut is the join of these, (1,2).
-- `station 0 in 0..0` is true at (0,0), (0,1): least (0,0); rows none for station 0 and (0,1), none for station 1, as no cut of the
-- set holds event 1 of station 0 or event 2 of station 1. Its greatest cut is (0,1).
pub record Structure : Type 0 where
  pub least : Cut
  pub rows : List (List (Option Cut))
  pub bars : List Cut

-- The least cut of the set that holds event k of station j, or none; at 0 the least cut of the set.
unfoldable pub row : Structure → ℕ → ℕ → Option Cut
row S j zero = some S.least
row S j (suc k) = get_or (get_or S.rows j []) k none

-- The join of two cuts that are both there.
unfoldable pub joined : Option Cut → Option Cut → Option Cut
joined none o = none
joined (some c) none = none
joined (some c) (some d) = some (join c d)

-- The least cut joined with the row of the last event in c of each of the first j stations.
unfoldable pub raise_by : Structure → Cut → ℕ → Option Cut
raise_by S c zero = some S.least
raise_by S c (suc j) = joined (raise_by S c j) (row S j (c ! j))

-- Raising: the least cut of the set that contains c, or none.
unfoldable pub raise : Structure → Cut → Option Cut
raise S c = raise_by S c (length c)

-- Is there a cut, and does c contain it?
unfoldable pub reaches : Option Cut → Cut → Bool
reaches none c = false
reaches (some d) c = inside d c

-- Is c in the set: the least cut of the set that contains c?
unfoldable pub in_set : Structure → Cut → Bool
in_set S c = reaches (raise S c) c

-- Does c belong: in the set, and contained in no bar?
unfoldable pub belongs : Structure → Cut → Bool
belongs S c = in_set S c && not (inside_any c S.bars)

-- Does c belong to one of the structures?
unfoldable pub belongs_any : List Structure → Cut → Bool
belongs_any [] c = false
belongs_any (S ∷ L) c = belongs S c || belongs_any L c

-- A cut joined with those of the rows that are there.
unfoldable pub join_row : List (Option Cut) → Cut → Cut
join_row [] g = g
join_row (none ∷ l) g = join_row l g
join_row (some d ∷ l) g = join d (join_row l g)

-- The same over the rows of all stations.
unfoldable pub join_rows : List (List (Option Cut)) → Cut → Cut
join_rows [] g = g
join_rows (l ∷ ls) g = join_row l (join_rows ls g)

-- The greatest cut of the set.
unfoldable pub greatest : Structure → Cut
greatest S = join_rows S.rows S.least

-- Dropping: the structure alone, or nothing if its greatest cut is contained in a bar.
unfoldable pub keep : Structure → List Structure
keep S = cond (inside_any (greatest S) S.bars) [] (S ∷ [])

-- The structure with this least cut, with f at each event's clock for rows, and these bars; dropped if the set is empty.
unfoldable pub build_on : Computation → (Cut → Option Cut) → List Cut → Option Cut → List Structure
build_on K f bars none = []
build_on K f bars (some c) = keep (record { least = c; rows = map (map (λ (e : Event). f e.clock)) K.events; bars = bars })

-- The structure of a set, given the f that raises a cut in it.
unfoldable pub build : Computation → (Cut → Option Cut) → List Cut → List Structure
build K f bars = build_on K f bars (f (empty (stations K)))
