-- Cuts: how many events of each station lie in one.
use Rattle.std.specs.Prelude.{ℕ, ◌≤◌, max, min, Bool, true, false, ◌&&◌, ◌||◌, List, [], ◌∷◌, get_or, replicate, leb}

-- A count for each station, station 0 first.
abbrev pub Cut : Type 0
Cut = List ℕ

infixl 90 ◌!◌
-- The count of station j; past the last station it is 0.
abbrev pub ◌!◌ : Cut → ℕ → ℕ
c ! j = get_or c j 0

-- The cut of n stations that holds no event.
abbrev pub empty : ℕ → Cut
empty n = replicate n 0

infixl 20 ◌⊑◌
-- c is contained in d: nowhere above it.
abbrev pub ◌⊑◌ : Cut → Cut → Type 0
c ⊑ d = (j : ℕ) → c ! j ≤ d ! j

-- The test for containment.
unfoldable pub inside : Cut → Cut → Bool
inside [] d = true
inside (x ∷ c) [] = leb x 0 && inside c []
inside (x ∷ c) (y ∷ d) = leb x y && inside c d

-- The test for containment in one of some cuts.
unfoldable pub inside_any : Cut → List Cut → Bool
inside_any c [] = false
inside_any c (d ∷ l) = inside c d || inside_any c l

-- The larger count, station by station.
unfoldable pub join : Cut → Cut → Cut
join [] d = d
join (x ∷ c) [] = x ∷ c
join (x ∷ c) (y ∷ d) = max x y ∷ join c d

-- The smaller count, station by station.
unfoldable pub meet : Cut → Cut → Cut
meet [] d = []
meet (x ∷ c) [] = 0 ∷ meet c []
meet (x ∷ c) (y ∷ d) = min x y ∷ meet c d
