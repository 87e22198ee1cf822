-- What joining two bases leaves.
use Rattle.std.specs.Prelude.{ℕ, ◌+◌, ◌*◌, ◌≡◌, Bool, List, length}
use Rattle.model.specs.Computation.{Computation, full}
use Rattle.model.specs.Structure.{Structure}
use Rattle.structure.specs.Layout.{standing}
use Rattle.structure.specs.declared.Shape.{Shape}
use Rattle.structure.specs.declared.Sets.{Sets}
use Rattle.structure.specs.Marks.{Marked, Within}
use Rattle.structure.specs.Laid.{Laid}
use Rattle.modal.specs.Post.{Present}
use Rattle.pair.specs.Post.{standing_from}
use Rattle.pairs.specs.Post.{Bases}
use Rattle.token.specs.Signed.{joined_basis, rounds_of_joined}

-- The l structures at the front of w and b and the r behind them, if both are bases, became those at the front of w₂ and b₂, in `sum` rounds.
pub record Joined (pair : Bool) (x : Shape) (l r : Sets) (starts w w₂ b b₂ : List ℕ) (sets : Sets) (sum : ℕ) : Type 0 where
  pub stands : (K : Computation) → Laid K x starts → Bases x l r w b K
      → standing x.n (full K) sets.count w₂ b₂ ≡ joined_basis pair K (standing x.n (full K) l.count w b) (standing_from x.n x.e K w b l.count r.count)
  pub summed : (K : Computation) → Laid K x starts → Bases x l r w b K
      → sum ≡ rounds_of_joined pair K (standing x.n (full K) l.count w b) (standing_from x.n x.e K w b l.count r.count)
  pub least : Present ((x.e + 1) * x.n) sets.count w₂
  pub marked : (K : Computation) (L R : List Structure) → length L ≡ l.count → Marked K L l.stations → Marked K R r.stations → Marked K (joined_basis pair K L R) sets.stations
  pub within : Within x.n sets.stations

-- The same with the rounds u and v of the two bases.
pub record Combined (pair : Bool) (x : Shape) (l r : Sets) (u v : ℕ) (starts w w₂ b b₂ : List ℕ) (sets : Sets) (sum : ℕ) : Type 0 where
  pub joined_rounds : ℕ
  pub joined : Joined pair x l r starts w w₂ b b₂ sets joined_rounds
  pub summed : sum ≡ u + v + joined_rounds
