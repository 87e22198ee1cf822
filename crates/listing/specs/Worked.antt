-- A basis that was worked out, and what is listed of it.
use Rattle.std.specs.Prelude.{◌≡◌, ℕ, ◌≤◌, List, take}
use Rattle.model.specs.Formula.{Formula}
use Rattle.model.specs.Computation.{Computation, stations, full}
use Rattle.model.specs.Rules.{as_true}
use Rattle.model.specs.Basis.{basis}
use Rattle.model.specs.Rounds.{rounds}
use Rattle.model.specs.Answer.{Answer}
use Rattle.lattice.proofs.Valid.{Valid}
use Rattle.structure.specs.declared.Shape.{Shape}
use Rattle.structure.specs.Layout.{cuts_at, standing}
use Rattle.listing.specs.declared.Listing.{Listing}
use Rattle.listing.specs.Stands.{Stands}

-- The basis of the question f of the lawful computation K, which has the shape x, stands at the front of ws and bs: count structures, worked out in sum rounds.
pub record Worked (K : Computation) (f : Formula) (x : Shape) (count sum : ℕ) (ws bs : List ℕ) : Type 0 where
  pub stands : Stands x count ws bs
  pub valid : Valid K
  pub stationed : stations K ≡ x.n
  pub counts_are : take x.n x.counts ≡ full K
  pub is_basis : standing x.n (take x.n x.counts) count ws bs ≡ basis K (as_true f)
  pub summed : sum ≡ rounds K (as_true f)
  pub few : count ≤ 16

-- The answer that a listing gives, its cuts of n counts at the front of cells.
abbrev pub answer_of : ℕ → Listing → List ℕ → Answer
answer_of n l cells = record { start = l.start; cuts = cuts_at n l.count cells; rounds = l.rounds }
