-- A join is raised to the join of what its parts are raised to.
use mathlib.Core.Path.{◌≡◌}
use native.Mathlib.Omega.{arith}
use Rattle.model.specs.Cut.{Cut, ◌⊑◌, join}
use Rattle.model.specs.Computation.{Computation, Consistent}
use Rattle.model.specs.Structure.{Structure, joined, raise}
use Rattle.lattice.proofs.Valid.{Valid}
use Rattle.lattice.proofs.Cuts.{refl⊑, trans⊑, antisym⊑, length-join, join-at, join-left, join-right, join-least}
use Rattle.lattice.proofs.Consistency.{same_cut, join-consistent}
use Rattle.lattice.proofs.Structures.{least-join}
use Rattle.lattice.proofs.Bases.{In, Good}
use Rattle.lattice.proofs.Shortcuts.{least_same}

pub join_assoc : (a b c : Cut) → join (join a b) c ≡ join a (join b c)
join_assoc a b c = antisym⊑ (join (join a b) c) (join a (join b c))
    (omega (arith, length-join (join a b) c, length-join a b, length-join a (join b c), length-join b c))
    (λ j. omega (arith, join-at (join a b) c j, join-at a b j, join-at a (join b c) j, join-at b c j))
    (λ j. omega (arith, join-at (join a b) c j, join-at a b j, join-at a (join b c) j, join-at b c j))

-- A cut joined with one that it contains.
pub join-inside : (K : Computation) → Valid K → (c d : Cut) → Consistent K c → Consistent K d → d ⊑ c → join c d ≡ c
join-inside K ok c d p q h = same_cut K (join c d) c (join-consistent K ok c d p q) p (join-least c d c (refl⊑ c) h) (join-left c d)

-- The law.
pub raise-join : (K : Computation) → Valid K → (S : Structure) → Good K S → (a b : Cut) → Consistent K a → Consistent K b
    → raise S (join a b) ≡ joined (raise S a) (raise S b)
raise-join K ok S g a b p q = least_same K (λ e. join a b ⊑ e) (λ c u. u.0) (raise S (join a b)) (joined (raise S a) (raise S b))
    (g.up (join a b) (join-consistent K ok a b p q))
    (least-join g.join_in split both (raise S a) (raise S b) (g.up a p) (g.up b q))
  where
    split : (e : Cut) → In K S e → join a b ⊑ e → (a ⊑ e) × (b ⊑ e)
    split e u v = (trans⊑ a (join a b) e (join-left a b) v, trans⊑ b (join a b) e (join-right a b) v)

    both : (c d : Cut) → a ⊑ c → b ⊑ d → join a b ⊑ join c d
    both c d u v j = omega (arith, join-at a b j, join-at c d j, u j, v j)
