-- What is said of the front of some bytes: that no formula stands there, or the size of the one that does.
use Rattle.std.specs.Prelude as prelude
use Rattle.std.specs.Prelude.{ℕ, ◌≤◌, ◌≡◌, Bool, List, [], ◌∷◌, length, drop, None, Some}
use Rattle.std.proofs.Math.Option.{Option, none, some}
use Rattle.model.specs.Formula as model
use Rattle.model.specs.Formula.{ahead}
use Rattle.model.specs.Rules.{workable}
use Rattle.lattice.specs.Signed.{normal}
use Rattle.codec.specs.Formulas.{formulas}
use Rattle.atoms.specs.declared.Size.{Size}
use Rattle.extents.specs.Extents.{extent_of}

unfoldable pub first : Option (List model.Formula) → Option model.Formula
first none = none
first (some []) = none
first (some (f ∷ l)) = some f

-- A formula stands at the front of q, and z is its size under the sign s.
pub record Sized (n : ℕ) (s : Bool) (q : List ℕ) (z : Size) : Type 0 where
  pub formula : model.Formula
  pub reads : formulas q ≡ ahead formula (formulas (drop z.used q))
  pub within : z.used ≤ length q
  pub few_tokens : z.tokens ≤ z.used
  pub few_atoms : z.atoms ≤ z.tokens
  pub tokens : z.tokens ≡ model.tokens formula
  pub atoms : z.atoms ≡ model.atoms formula
  pub sound : z.sound ≡ model.sound n formula
  pub workable : z.workable ≡ workable (normal s formula)
  pub extent : z.extent ≡ extent_of (normal s formula)

abbrev pub Measured : ℕ → Bool → List ℕ → prelude.Option Size → Type 0
Measured n s q None = first (formulas q) ≡ none
Measured n s q (Some z) = Sized n s q z
