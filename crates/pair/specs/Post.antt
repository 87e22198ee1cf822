-- What one pair asks and leaves.
use Rattle.std.specs.Prelude.{ℕ, ◌+◌, ◌*◌, ◌≤◌, ◌<◌, ◌≡◌, Some, List, length, get_or, take, drop}
use Rattle.model.specs.Lists.{total}
use Rattle.model.specs.Computation.{Computation, stations, full, event_count}
use Rattle.model.specs.Structure.{Structure, row}
use Rattle.lattice.proofs.Bases.{Good}
use Rattle.structure.specs.declared.Shape.{Shape}
use Rattle.structure.specs.Layout.{structure_at, standing, bars_at}
use Rattle.structure.specs.Marks.{Mark}
use Rattle.slots.specs.Slots.{Small, Slots}
use Rattle.slots.specs.Pair.{Clocks, Intersected}
use Rattle.pair.specs.declared.Pair.{Pair}

-- Structure i of those that stand in w and b, and k of them from structure i on.
abbrev pub structure_of : ℕ → ℕ → Computation → List ℕ → List ℕ → ℕ → Structure
structure_of n e K w b i = structure_at n (full K) (drop (i * ((e + 1) * n)) w) (drop (i * (16 * n)) b)

abbrev pub standing_from : ℕ → ℕ → Computation → List ℕ → List ℕ → ℕ → ℕ → List Structure
standing_from n e K w b i k = standing n (full K) k (drop (i * ((e + 1) * n)) w) (drop (i * (16 * n)) b)

-- From structure o on k structures have been put, those that X says, in the rounds that Y says, of each computation of which P is known;
-- what stands before them is as it was.
pub record Put (n e o k : ℕ) (P : Computation → Type 0) (w w₂ b b₂ : List ℕ) (X : Computation → List Structure) (Y : Computation → ℕ) (rounds : ℕ) : Type 0 where
  pub stands : (K : Computation) → P K → standing_from n e K w₂ b₂ o k ≡ X K
  pub summed : (K : Computation) → P K → rounds ≡ Y K
  pub cells_kept : take (o * ((e + 1) * n)) w₂ ≡ take (o * ((e + 1) * n)) w
  pub bars_kept : take (o * (16 * n)) b₂ ≡ take (o * (16 * n)) b
  pub least : (j : ℕ) → j < k → get_or w₂ ((o + j) * ((e + 1) * n)) 0 ≡ 255 → ⊥

-- A computation of shape x, its starts as a table.
pub record Begun (x : Shape) (first : List ℕ) (K : Computation) : Type 0 where
  pub small : Small K
  pub stationed : stations K ≡ x.n
  pub counted : event_count K ≡ x.e
  pub counts_are : take x.n x.counts ≡ full K
  pub offs_are : (j : ℕ) → j < x.n → get_or x.offs j 0 ≡ total (take j (full K))
  pub clocks_are : Clocks K first

-- A pair of structures of bases, with their marks; the left one also stands in a table.
pub record OnePair (x : Shape) (p : Pair) (left first w b : List ℕ) (K : Computation) : Type 0 where
  pub begun : Begun x first K
  pub good_left : Good K (structure_of x.n x.e K w b p.left)
  pub slots_left : Slots K (row (structure_of x.n x.e K w b p.left)) left
  pub good_right : Good K (structure_of x.n x.e K w b p.right)
  pub mark_left : Mark K p.leftmark (structure_of x.n x.e K w b p.left)
  pub mark_right : Mark K p.rightmark (structure_of x.n x.e K w b p.right)

-- A pair in the workspace: both structures before the new one, for which there is room; marks of the stations that there are.
pub record Placed (x : Shape) (p : Pair) (w : List ℕ) : Type 0 where
  pub left : p.left < p.to
  pub right : p.right < p.to
  pub cells_fit : (p.to + 1) * ((x.e + 1) * x.n) ≤ length w
  pub small : p.to ≤ 300
  pub within_left : (s : ℕ) → p.leftmark ≡ Some s → s < x.n
  pub within_right : (s : ℕ) → p.rightmark ≡ Some s → s < x.n

-- The same with room for the bars of both.
pub record OneReady (x : Shape) (p : Pair) (w b : List ℕ) : Type 0 where
  pub placed : Placed x p w
  pub bars_fit : (p.to + 1) * (16 * x.n) ≤ length b
  pub bars : length (bars_at x.n 16 (drop (p.left * (16 * x.n)) b)) + length (bars_at x.n 16 (drop (p.right * (16 * x.n)) b)) ≤ 16

-- The intersection of a pair stands where it goes, with r rounds; what stands before it is as it was.
pub record IntersectedAt (x : Shape) (p : Pair) (left first w w₂ : List ℕ) (r : ℕ) : Type 0 where
  pub is : (b : List ℕ) (K : Computation) → OnePair x p left first w b K
      → Intersected K (structure_of x.n x.e K w b p.left) (structure_of x.n x.e K w b p.right) x.n (drop (p.to * ((x.e + 1) * x.n)) w₂) r
  pub small : r ≤ (x.e + 1) * (x.e + 5)
  pub front : take (p.to * ((x.e + 1) * x.n)) w₂ ≡ take (p.to * ((x.e + 1) * x.n)) w
