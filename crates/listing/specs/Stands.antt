-- What is asked of a workspace and a bar space in which structures stand.
use Rattle.std.specs.Prelude.{◌≡◌, ℕ, ◌+◌, ◌*◌, ◌≤◌, ◌<◌, List, length, get_or}
use Rattle.structure.specs.declared.Shape.{Shape}

-- count structures of the shape x and their bars are within, and each has a least cut.
pub record Stands (x : Shape) (count : ℕ) (ws bs : List ℕ) : Type 0 where
  pub cells_fit : count * ((x.e + 1) * x.n) ≤ length ws
  pub bars_fit : count * (16 * x.n) ≤ length bs
  pub least_there : (i : ℕ) → i < count → get_or ws (i * ((x.e + 1) * x.n)) 0 ≡ 255 → ⊥
