-- What the steps for possibly and not possibly leave.
use Rattle.std.specs.Prelude.{ℕ, ◌+◌, ◌*◌, ◌≤◌, ◌<◌, ◌≡◌, List, [], ◌∷◌, get_or, drop}
use Rattle.model.specs.Computation.{Computation, full}
use Rattle.model.specs.Structure.{greatest, build}
use Rattle.model.specs.Basis.{below, lowered, barred}
use Rattle.lattice.specs.Ascending.{RowsAscend}
use Rattle.lattice.proofs.Lists.{All}
use Rattle.structure.specs.Layout.{structure_at, standing}
use Rattle.structure.specs.declared.Shape.{Shape}
use Rattle.structure.specs.Laid.{Laid}

-- The first cell of each of k structures is not 255: their least cuts are there.
abbrev pub Present : ℕ → ℕ → List ℕ → Type 0
Present size k ws = (i : ℕ) → i < k → get_or ws (i * size) 0 ≡ 255 → ⊥

-- The structure at the front of w and b becomes, if its rows ascend, the one at the front of w₂ and b₂, and nothing behind it changes.
pub record Lowered (x : Shape) (starts w w₂ b b₂ : List ℕ) : Type 0 where
  pub stands : (K : Computation) → Laid K x starts → RowsAscend (full K) (structure_at x.n (full K) w b)
      → structure_at x.n (full K) w₂ b₂ ∷ [] ≡ build K (below (greatest (structure_at x.n (full K) w b))) []
  pub least : get_or w₂ 0 0 ≡ 255 → ⊥
  pub cells_behind : drop ((x.e + 1) * x.n) w₂ ≡ drop ((x.e + 1) * x.n) w
  pub bars_behind : drop (16 * x.n) b₂ ≡ drop (16 * x.n) b

-- possibly: of the k structures at the front, if their rows ascend; nothing behind them changes.
pub record Possible (x : Shape) (k : ℕ) (starts w w₂ b b₂ : List ℕ) : Type 0 where
  pub stands : (K : Computation) → Laid K x starts → All (RowsAscend (full K)) (standing x.n (full K) k w b)
      → standing x.n (full K) k w₂ b₂ ≡ lowered K (standing x.n (full K) k w b)
  pub least : Present ((x.e + 1) * x.n) k w₂
  pub cells_behind : drop (k * ((x.e + 1) * x.n)) w₂ ≡ drop (k * ((x.e + 1) * x.n)) w
  pub bars_behind : drop (k * (16 * x.n)) b₂ ≡ drop (k * (16 * x.n)) b

-- not possibly, likewise
pub record Impossible (x : Shape) (k r : ℕ) (starts w w₂ b b₂ : List ℕ) : Type 0 where
  pub stands : (K : Computation) → Laid K x starts → All (RowsAscend (full K)) (standing x.n (full K) k w b)
      → standing x.n (full K) r w₂ b₂ ≡ barred K (standing x.n (full K) k w b)
  pub least : Present ((x.e + 1) * x.n) r w₂
  pub few : r ≤ 1
