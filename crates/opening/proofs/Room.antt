-- Room enough, and what a refusal keeps.
use mathlib.Core.Path.{◌≡◌, refl}
use mathlib.Core.Bool.{Bool, true, false, ◌||◌}
use mathlib.Core.List.{List}
use Prim.Native.Nat.{ℕ, ◌≤◌}
use native.Mathlib.Omega.{arith}
use lib.Dec.{ltb}
use borrow.Author.Tests.{ltb-false}
use Rattle.model.specs.Limits.{barspace_size}
use Rattle.model.specs.Formula.{Formula}
use Rattle.model.specs.Computation.{Computation}
use Rattle.model.specs.Forecast.{forecast}
use Rattle.model.specs.Reply.{Reply, gives, refuses}
use Rattle.model.specs.Operations.{Kept, cramped}

-- There is room where the test for too little says no.
module _ (K : Computation) (f : Formula) (ws bs : ℕ) where
  pub roomy : cramped K f ws bs ≡ false → ((forecast K f).cells ≤ ws) × (barspace_size ≤ bs)
  unfolding cramped
  roomy e = by (ltb ws (forecast K f).cells) refl e
    where
      by : (b : Bool) → ltb ws (forecast K f).cells ≡ b → (b || ltb bs barspace_size) ≡ false → ((forecast K f).cells ≤ ws) × (barspace_size ≤ bs)
      by true h e = let z : ◌≡◌ {A = ℕ} 0 1 = cc in absurd (omega arith)
      by false h e = (ltb-false ws (forecast K f).cells h, ltb-false bs barspace_size e)

-- What was not touched is kept.
pub kept : (reply : Reply) (l : List ℕ) → Kept reply l l
kept (gives values) l = tt
kept (refuses k n) l = refl
