-- How structures stand in a workspace and a bar space: n cells for the least cut and n for each event, station by station.
use Rattle.std.specs.Prelude.{ℕ, zero, suc, ◌+◌, ◌*◌, cond, List, [], ◌∷◌, eqb, get_or, take, drop}
use Rattle.std.proofs.Math.Option.{Option, none, some}
use Rattle.model.specs.Lists.{total}
use Rattle.model.specs.Cut.{Cut}
use Rattle.model.specs.Structure.{Structure}

-- What the n cells of a row say: a cut, or none where the first is 255.
unfoldable pub decoded : List ℕ → Option Cut
decoded cells = cond (eqb (get_or cells 0 0) 255) none (some cells)

-- A count or none, in a byte.
unfoldable pub coded : Option ℕ → ℕ
coded none = 255
coded (some k) = k

-- The row of event k of a station that off events stand before; at 0 the row of the empty cut.
unfoldable pub event_row : ℕ → ℕ → ℕ
event_row off k = cond (eqb k 0) 0 (off + k)

-- m rows at the front of ws.
unfoldable pub rows_at : ℕ → ℕ → List ℕ → List (Option Cut)
rows_at n zero ws = []
rows_at n (suc m) ws = decoded (take n ws) ∷ rows_at n m (drop n ws)

-- The rows of all stations, of which counts tells the events.
unfoldable pub stations_at : ℕ → List ℕ → List ℕ → List (List (Option Cut))
stations_at n [] ws = []
stations_at n (m ∷ counts) ws = rows_at n m ws ∷ stations_at n counts (drop (m * n) ws)

-- m cuts at the front of ws.
unfoldable pub cuts_at : ℕ → ℕ → List ℕ → List Cut
cuts_at n zero ws = []
cuts_at n (suc m) ws = take n ws ∷ cuts_at n m (drop n ws)

-- At most m bars at the front of bs, up to a slot that is not used: its first cell is 255.
unfoldable pub bars_at : ℕ → ℕ → List ℕ → List Cut
bars_at n zero bs = []
bars_at n (suc m) bs = cond (eqb (get_or bs 0 0) 255) [] (take n bs ∷ bars_at n m (drop n bs))

-- The structure at the front of ws, its bars at the front of bs.
abbrev pub structure_at : ℕ → List ℕ → List ℕ → List ℕ → Structure
structure_at n counts ws bs = record { least = take n ws; rows = stations_at n counts (drop n ws); bars = bars_at n 16 bs }

-- The structure at a place of ws; counts may be longer than there are stations.
abbrev pub placed : ℕ → List ℕ → List ℕ → ℕ → List ℕ → Structure
placed n counts ws at bs = structure_at n (take n counts) (drop at ws) bs

-- The cells of a structure, and those of its bars.
abbrev pub cells : ℕ → List ℕ → ℕ
cells n counts = suc (total counts) * n

abbrev pub bar_cells : ℕ → ℕ
bar_cells n = 16 * n

-- The k structures at the front of ws and bs.
unfoldable pub standing : ℕ → List ℕ → ℕ → List ℕ → List ℕ → List Structure
standing n counts zero ws bs = []
standing n counts (suc k) ws bs = structure_at n counts ws bs ∷ standing n counts k (drop (cells n counts) ws) (drop (bar_cells n) bs)
