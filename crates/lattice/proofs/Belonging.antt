-- What the tests for belonging say.
use mathlib.Core.Path.{◌≡◌, refl}
use mathlib.Core.Logic.{◌↔◌, inl, inr}
use mathlib.Core.Bool.{Bool, true, false, not, ◌&&◌}
use mathlib.Core.List.{List, [], ◌∷◌}
use Rattle.model.specs.Lists.{Some}
use Rattle.model.specs.Lists.Some.{here, there}
use Rattle.model.specs.Cut.{Cut, inside_any}
use Rattle.model.specs.Structure.{Structure, belongs, belongs_any, in_set}
use Rattle.lattice.proofs.Tests.{clash, or-true}

-- In the set, and contained in no bar.
pub belongs_iff : (S : Structure) (c : Cut) → (belongs S c ≡ true) ↔ ((in_set S c ≡ true) × (inside_any c S.bars ≡ false))
unfolding belongs
belongs_iff S c = go (in_set S c) (inside_any c S.bars)
  where
    go : (a b : Bool) → (a && not b ≡ true) ↔ ((a ≡ true) × (b ≡ false))
    go true true = (λ h. clash h refl, λ h. clash refl h.1)
    go true false = (λ h. (refl, refl), λ h. refl)
    go false b = (λ h. clash h refl, λ h. clash h.0 refl)

-- To one of the structures.
pub belongs_any-some : (L : List Structure) (c : Cut) → belongs_any L c ≡ true → Some (λ S. belongs S c ≡ true) L
unfolding belongs_any
belongs_any-some [] c h = clash h refl
belongs_any-some (S ∷ L) c h = elim ((or-true (belongs S c) (belongs_any L c)).0 h) [ inl p ↦ here p | inr q ↦ there (belongs_any-some L c q) ]

pub some-belongs_any : (L : List Structure) (c : Cut) → Some (λ S. belongs S c ≡ true) L → belongs_any L c ≡ true
unfolding belongs_any
some-belongs_any [] c x' = elim x' [ ]
some-belongs_any (S ∷ L) c (here p) = (or-true (belongs S c) (belongs_any L c)).1 (inl p)
some-belongs_any (S ∷ L) c (there q) = (or-true (belongs S c) (belongs_any L c)).1 (inr (some-belongs_any L c q))
