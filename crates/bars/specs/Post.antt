-- What joining the bars of two structures leaves.
use Rattle.std.specs.Prelude.{ℕ, ◌≡◌, List, ◌++◌, take, drop}
use Rattle.structure.specs.Layout.{bars_at}

-- The bars of two slots, one after the other, in a third.
pub record BarsJoined (n i j o : ℕ) (b b₂ : List ℕ) : Type 0 where
  pub bars : bars_at n 16 (drop o b₂) ≡ bars_at n 16 (drop i b) ++ bars_at n 16 (drop j b)
  pub front : take o b₂ ≡ take o b
