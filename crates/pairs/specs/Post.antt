-- What the step for "and" asks and leaves.
use Rattle.std.specs.Prelude.{ℕ, ◌+◌, ◌*◌, ◌≤◌, ◌<◌, ◌≡◌, Some, List, length, drop}
use Rattle.model.specs.Computation.{Computation, full}
use Rattle.model.specs.Basis.{pairs}
use Rattle.model.specs.Rounds.{rounds_of_pairs}
use Rattle.lattice.proofs.Lists.{All}
use Rattle.lattice.proofs.Bases.{Good}
use Rattle.structure.specs.declared.Shape.{Shape}
use Rattle.structure.specs.declared.Sets.{Sets}
use Rattle.structure.specs.Marks.{Mark, Marked, Within}
use Rattle.structure.specs.Layout.{standing, bars_at}
use Rattle.modal.specs.Post.{Present}
use Rattle.structure.specs.Laid.{Laid}
use Rattle.pair.specs.Post.{structure_of, standing_from, Begun}
use Rattle.pairs.specs.declared.Row.{Row}

-- A structure of a basis and some of another, with their marks.
pub record RowPair (x : Shape) (q : Row) (first w b : List ℕ) (K : Computation) : Type 0 where
  pub begun : Begun x first K
  pub good_left : Good K (structure_of x.n x.e K w b q.left)
  pub good_right : All (Good K) (standing_from x.n x.e K w b q.right q.many)
  pub mark_left : Mark K q.leftmark (structure_of x.n x.e K w b q.left)
  pub marked_right : Marked K (standing_from x.n x.e K w b q.right q.many) q.marks

-- Two bases of K, one behind the other at the front of w and b, with their marks.
pub record Bases (x : Shape) (l r : Sets) (w b : List ℕ) (K : Computation) : Type 0 where
  pub good_left : All (Good K) (standing x.n (full K) l.count w b)
  pub good_right : All (Good K) (standing_from x.n x.e K w b l.count r.count)
  pub marked_left : Marked K (standing x.n (full K) l.count w b) l.stations
  pub marked_right : Marked K (standing_from x.n x.e K w b l.count r.count) r.stations

-- The same of a computation whose starts stand in a table.
pub record AllPairs (x : Shape) (l r : Sets) (first w b : List ℕ) (K : Computation) : Type 0 where
  pub begun : Begun x first K
  pub bases : Bases x l r w b K

-- Room for a row of pairs; marks of the stations that there are.
pub record RowReady (x : Shape) (q : Row) (w b : List ℕ) : Type 0 where
  pub left : q.left < q.to
  pub right : q.right + q.many ≤ q.to
  pub few : q.many ≤ 16
  pub cells_fit : (q.to + q.many) * ((x.e + 1) * x.n) ≤ length w
  pub bars_fit : (q.to + q.many) * (16 * x.n) ≤ length b
  pub small : q.to + q.many ≤ 300
  pub bars : (j : ℕ) → j < q.many → length (bars_at x.n 16 (drop (q.left * (16 * x.n)) b)) + length (bars_at x.n 16 (drop ((q.right + j) * (16 * x.n)) b)) ≤ 16
  pub within_left : (s : ℕ) → q.leftmark ≡ Some s → s < x.n
  pub within_right : Within x.n q.marks

-- Room for the pairs of l structures and of r structures behind them, and no pair with more than 16 bars; marks of the stations that there are.
pub record PairsReady (x : Shape) (l r : Sets) (w b : List ℕ) : Type 0 where
  pub few : l.count * r.count ≤ 16
  pub left : l.count ≤ 16
  pub right : r.count ≤ 16
  pub cells_fit : (l.count + r.count + l.count * r.count) * ((x.e + 1) * x.n) ≤ length w
  pub bars_fit : (l.count + r.count + l.count * r.count) * (16 * x.n) ≤ length b
  pub bars : (i j : ℕ) → i < l.count → j < r.count → length (bars_at x.n 16 (drop (i * (16 * x.n)) b)) + length (bars_at x.n 16 (drop ((l.count + j) * (16 * x.n)) b)) ≤ 16
  pub within_left : Within x.n l.stations
  pub within_right : Within x.n r.stations

-- The pairs of the l structures at the front of w and b and the r behind them, if both are a basis, stand at the front of w₂ and b₂.
pub record Paired (x : Shape) (l r : Sets) (starts w w₂ b b₂ : List ℕ) (count rounds : ℕ) : Type 0 where
  pub stands : (K : Computation) → Laid K x starts → Bases x l r w b K
      → standing x.n (full K) count w₂ b₂ ≡ pairs K (standing x.n (full K) l.count w b) (standing_from x.n x.e K w b l.count r.count)
  pub summed : (K : Computation) → Laid K x starts → Bases x l r w b K
      → rounds ≡ rounds_of_pairs K (standing x.n (full K) l.count w b) (standing_from x.n x.e K w b l.count r.count)
  pub least : Present ((x.e + 1) * x.n) count w₂
  pub small : rounds ≤ 16 * ((x.e + 1) * (x.e + 5))
