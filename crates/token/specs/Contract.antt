-- What the two rules and their steps ask, and what they leave.
use Rattle.std.specs.Prelude.{ℕ, ◌+◌, ◌*◌, ◌≤◌, ◌≡◌, Bool, true, None, List, ◌++◌, length, replicate}
use Rattle.model.specs.Limits.{step_rounds}
use Rattle.model.specs.Formula.{Formula, prefix, sound, tokens}
use Rattle.model.specs.Computation.{Computation, full}
use Rattle.model.specs.Rules.{workable}
use Rattle.model.specs.Size.{held, narrow}
use Rattle.model.specs.Basis.{basis}
use Rattle.model.specs.Rounds.{rounds}
use Rattle.structure.specs.Layout.{standing}
use Rattle.structure.specs.declared.Shape.{Shape}
use Rattle.structure.specs.declared.Run.{Run}
use Rattle.structure.specs.declared.Sets.{Sets}
use Rattle.structure.specs.Marks.{Marked, Within}
use Rattle.structure.specs.Laid.{Laid, Given}
use Rattle.modal.specs.Post.{Present}
use Rattle.lattice.specs.Signed.{normal}
use Rattle.lattice.specs.Ascending.{RowsAscend}
use Rattle.lattice.proofs.Lists.{All}
use Rattle.token.specs.Signed.{lifted_basis}

-- The most rounds of a question.
abbrev pub rounds_most : ℕ
rounds_most = 64 * step_rounds

-- A computation is laid out, a formula stands at the front of q, is narrow and can be worked out under the sign s, and there is room for what is held.
pub record Ready (s : Bool) (run : Run) (q : List ℕ) (mw mb : ℕ) : Type 0 where
  pub computation : Computation
  pub laid : Given computation run
  pub formula : Formula
  pub rest : List ℕ
  pub reads : q ≡ prefix formula ++ rest
  pub known : sound run.x.n formula ≡ true
  pub slim : narrow (normal s formula) ≡ true
  pub works : workable (normal s formula) ≡ true
  pub short : tokens formula ≤ 32
  pub cells_fit : held (normal s formula) * ((run.x.e + 1) * run.x.n) ≤ mw
  pub bars_fit : held (normal s formula) * (16 * run.x.n) ≤ mb

-- Whatever computation is laid out and whatever formula stands at the front of q: its length, its basis at the front of w and b, its rounds; and the marks of its structures.
pub record Made (s : Bool) (run : Run) (q : List ℕ) (sets : Sets) (used sum : ℕ) (w b : List ℕ) : Type 0 where
  pub passed : (f : Formula) (rest : List ℕ) → q ≡ prefix f ++ rest → used ≡ length (prefix f)
  pub stands : (K : Computation) (f : Formula) (rest : List ℕ) → Given K run → q ≡ prefix f ++ rest → standing run.x.n (full K) sets.count w b ≡ basis K (normal s f)
  pub counted : (K : Computation) (f : Formula) (rest : List ℕ) → Given K run → q ≡ prefix f ++ rest → sum ≡ rounds K (normal s f)
  pub least : Present ((run.x.e + 1) * run.x.n) sets.count w
  pub marked : (K : Computation) (f : Formula) (rest : List ℕ) → Given K run → q ≡ prefix f ++ rest → Marked K (basis K (normal s f)) sets.stations
  pub within : Within run.x.n sets.stations

-- STEPS

-- The k structures at the front of w and b, if their rows ascend, became those at the front of w₂ and b₂, of which none is marked.
pub record Lifted (wide : Bool) (x : Shape) (k : ℕ) (starts w w₂ b b₂ : List ℕ) (sets : Sets) : Type 0 where
  pub stands : (K : Computation) → Laid K x starts → All (RowsAscend (full K)) (standing x.n (full K) k w b)
      → standing x.n (full K) sets.count w₂ b₂ ≡ lifted_basis wide K (standing x.n (full K) k w b)
  pub least : Present ((x.e + 1) * x.n) sets.count w₂
  pub unmarked : sets.stations ≡ replicate 16 None
