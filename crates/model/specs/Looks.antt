-- How many bytes of a log a walk over one line looks at.
use Rattle.std.specs.Prelude.{◌≡◌, Bool, true, false, not, List, [], ◌∷◌, ℕ, ◌+◌, ◌≤◌, eqb, length}
use Rattle.model.specs.Bytes.{Lines, more, rest, Item, frame, bad, items}

-- The first line's own bytes: those before its 0A, and the 0A; where there is none, all that are left.
unfoldable pub own : Lines → ℕ
own (more l ls) = length l + 1
own (rest l) = length l

-- The first line is well formed: it brings anything but fault 2.
unfoldable pub well_formed : List Item → Bool
well_formed [] = false
well_formed (frame f ∷ l) = true
well_formed (bad k ∷ l) = not (eqb k 2)

-- n looks are exactly the line's own bytes where it is well formed, and never more than it has.
pub record Looks (ls : Lines) (n : ℕ) : Type 0 where
  pub exact : well_formed (items ls) ≡ true → n ≡ own ls
  pub most : n ≤ own ls
