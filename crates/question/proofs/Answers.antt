-- A basis that was worked out is the question's: a cut that belongs to it is one at which the question is true, and its listing is the answer.
use mathlib.Core.Path.{◌≡◌, ap, subst, ◌∙◌}
use mathlib.Core.Bool.{Bool}
use mathlib.Core.List.{List}
use Prim.Native.Nat.{ℕ, ◌*◌, ◌≤◌}
use native.Mathlib.Omega.{arith}
use native.Mathlib.Nat.{le_trans, mul-le-mul}
use lib.ListN.{length, take, drop}
use lib.Seq.{take_all}
use Rattle.model.specs.Limits.{limits}
use Rattle.model.specs.Formula.{Formula}
use Rattle.model.specs.Computation.{Computation}
use Rattle.model.specs.Rules.{as_true}
use Rattle.model.specs.Structure.{belongs_any}
use Rattle.model.specs.Basis.{basis}
use Rattle.model.specs.Answer.{Answer, true_at, answer_line}
use Rattle.structure.specs.Layout.{standing}
use Rattle.structure.specs.declared.Shape.{Shape}
use Rattle.listing.specs.Worked.{Worked}
use Rattle.line.specs.AtFront.{AtFront}

module _ {K : Computation} {f : Formula} {x : Shape} {count sum : ℕ} {ws bs : List ℕ} (w : Worked K f x count sum ws bs) where
  -- Whether the question is true at a cut that was copied.
  pub cut-told : (b : Bool) (at cut : List ℕ) → b ≡ belongs_any (standing x.n (take x.n x.counts) count ws bs) (take x.n at) → take x.n at ≡ take x.n (drop 0 cut) → length cut ≡ x.n → b ≡ true_at K f cut
  unfolding true_at
  cut-told b at cut p q l = p ∙ ap (λ L. belongs_any L (take x.n at)) w.is_basis ∙ ap (belongs_any (basis K (as_true f))) (q ∙ take_all x.n cut (omega arith))

  -- The listed cuts are within the cells lent for them.
  pub cuts-within : (k m : ℕ) → k ≤ 16 → m ≡ 16 * limits.stations → k * x.n ≤ m
  cuts-within k m h l = le_trans (mul-le-mul {n₂ = 16} {m₂ = 8} h x.few_stations) (omega arith)

-- The line of a listing is that of the answer which it gives.
pub line-told : {a b : Answer} {r : ℕ} {was out : List ℕ} → a ≡ b → AtFront (answer_line a) r was out → AtFront (answer_line b) r was out
line-told {r = r} {was = was} {out = out} e = subst (λ a. AtFront (answer_line a) r was out) e
