-- The events of one station in a shape.
use mathlib.Core.Path.{◌≡◌, sym, ap, ◌∙◌}
use Prim.Native.Nat.{ℕ, ◌+◌, ◌≤◌, ◌<◌}
use native.Mathlib.Omega.{arith}
use mathlib.Core.List.{List}
use lib.ListN.{get_or, take}
use lib.Seq.{get_or-take}
use Rattle.model.specs.Lists.{total}
use Rattle.model.specs.Computation.{Computation, count, full}
use Rattle.lattice.proofs.Sums.{total-take}
use Rattle.lattice.proofs.Consistency.{full_at}
use Rattle.structure.specs.declared.Shape.{Shape}
use Rattle.picking.specs.Formed.{Formed}

module _ (x : Shape) (s : ℕ) (l : s < x.n) where
  in_counts : get_or (take x.n x.counts) s 0 ≡ get_or x.counts s 0
  in_counts = get_or-take x.n x.counts s 0 l

  -- With those before it they are no more than there are.
  pub events-fit : get_or x.offs s 0 + get_or x.counts s 0 ≤ x.e
  events-fit = omega (arith, in_counts, x.offs_are s l, x.events_are, total-take (take x.n x.counts) s)

  module _ (K : Computation) (f : Formed K x) where
    pub before-is : get_or x.offs s 0 ≡ total (take s (full K))
    before-is = x.offs_are s l ∙ ap (λ (c : List ℕ). total (take s c)) f.counts_are

    pub count-is : get_or x.counts s 0 ≡ count K s
    count-is = sym in_counts ∙ ap (λ (c : List ℕ). get_or c s 0) f.counts_are ∙ full_at K s
