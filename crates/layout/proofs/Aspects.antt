-- Values at the front of the facts and panels behind them: each stand where they were put. Assumes nothing.
use mathlib.Core.Path.{◌≡◌, ap, ◌∙◌}
use mathlib.Core.List.{List}
use Prim.Native.Nat.{ℕ, ◌-◌, ◌≤◌}
use native.Mathlib.Omega.{arith}
use lib.ListN.{length, take, drop}
use lib.Seq.{length-take-le, take-take, take-append-le, drop_at}
use borrow.Rule.Slice.PartMut.{put_mid}
use Rattle.model.specs.declared.Aspect.{Aspect}
use Rattle.model.specs.declared.Aspect.TheVariants.{Value, Panel}
use Rattle.model.specs.Limits.{reports_size}
use Rattle.cells.proofs.Parts.{put_end}
use Rattle.structure.specs.Laid.{aspect_at}

pub each_laid : (w p : List ℕ) (m : ℕ) (f : Aspect → List ℕ) → m ≤ reports_size → reports_size ≤ length w → take m w ≡ f Value → take m p ≡ f Panel
    → (a : Aspect) → take m (drop (aspect_at a) (put_mid reports_size (length w - reports_size) w p)) ≡ f a
each_laid w p m f few long u v Value =
    ap (take m) (put_end reports_size w p long) ∙ take-append-le m (take reports_size w) p (omega (arith, length-take-le reports_size w long)) ∙ take-take m reports_size w few ∙ u
each_laid w p m f few long u v Panel =
    ap (λ (x : List ℕ). take m (drop reports_size x)) (put_end reports_size w p long) ∙ ap (take m) (drop_at (take reports_size w) p reports_size (length-take-le reports_size w long)) ∙ v
