-- What a loaded log gives.
use Rattle.std.specs.Prelude.{◌≡◌, ℕ, List, length}
use Rattle.model.specs.Computation.{Computation}
use Rattle.lattice.proofs.Valid.{Valid}
use Rattle.table.specs.Table.{Stored, Posted}

-- The store holds K of n stations and k messages, which is lawful.
pub record StoredValid (K : Computation) (n k : ℕ) (counts t : List ℕ) : Type 0 where
  pub stored : Stored K n counts t
  pub posted : Posted K t
  pub messages : length K.messages ≡ k
  pub valid : Valid K
