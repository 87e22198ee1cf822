-- Sizes that can be joined, and the size of formulas under one sign more.
use Rattle.std.specs.Prelude.{ℕ, ◌+◌, ◌≤◌, ◌≡◌, Bool, true, false, ◌&&◌, Option}
use Rattle.extents.specs.declared.Figures.{Figures}
use Rattle.extents.specs.Extents.{Small}
use Rattle.atoms.specs.declared.Size.{Size}

-- Numbers that can be added and multiplied.
pub record Short (z : Size) : Type 0 where
  pub used : z.used ≤ 99
  pub tokens : z.tokens ≤ 99
  pub atoms : z.atoms ≤ 99
  pub extent : Small z.extent

-- The size of a formula under one sign more, whose extent is e.
pub record Longer (z : Size) (e : Option Figures) (r : Size) : Type 0 where
  pub used : r.used ≡ z.used + 1
  pub tokens : r.tokens ≡ z.tokens + 1
  pub atoms : r.atoms ≡ z.atoms
  pub sound : r.sound ≡ z.sound
  pub workable : r.workable ≡ z.workable
  pub extent : r.extent ≡ e

-- The size of two formulas under a sign, whose extent is e.
pub record Together (y z : Size) (e : Option Figures) (r : Size) : Type 0 where
  pub used : r.used ≡ y.used + z.used + 1
  pub tokens : r.tokens ≡ y.tokens + z.tokens + 1
  pub atoms : r.atoms ≡ y.atoms + z.atoms
  pub sound : r.sound ≡ (y.sound && z.sound)
  pub workable : r.workable ≡ (y.workable && z.workable)
  pub extent : r.extent ≡ e

-- The token of possibly, or of always; of "and", or of "or".
abbrev pub modal_byte : Bool → ℕ
modal_byte true = 0x05
modal_byte false = 0x06

abbrev pub pair_byte : Bool → ℕ
pair_byte true = 0x03
pair_byte false = 0x04
