-- 01 and 08: a table of the values, or panels, that stand there leads to the rows of the raising function.
use mathlib.Core.Path.{◌≡◌, sym, ap, ◌∙◌}
use Prim.Native.Nat.{ℕ, ◌+◌, ◌≤◌, ◌<◌}
use native.Mathlib.Omega.{arith}
use mathlib.Core.List.{List}
use mathlib.Core.Bool.{Bool}
use lib.ListN.{length, get_or, take}
use Rattle.model.specs.declared.Aspect.{Aspect}
use Rattle.model.specs.declared.Aspect.TheVariants.{Value, Panel}
use Rattle.model.specs.Limits.{reports_size}
use Rattle.model.specs.Lists.{total}
use Rattle.model.specs.Computation.{Computation, count, full, report}
use Rattle.model.specs.Atom.{seen, passes, raise_atom}
use Rattle.model.specs.Atom.Atom.{in_range}
use Rattle.structure.specs.declared.Shape.{Shape}
use Rattle.structure.specs.Laid.{Laid, aspect_at, Facts}
use Rattle.structure.proofs.Starts.{offs_is, count-is, own-fit}
use Rattle.steps.specs.Rows.{entry, Tabled, Leads}
use Rattle.steps.proofs.Atoms as atoms

pub aspect_low : (a : Aspect) → aspect_at a ≤ reports_size
aspect_low Value = omega arith
aspect_low Panel = omega arith

module _ (K : Computation) (shape : Shape) (starts : List ℕ) (laid : Laid K shape starts) (s : ℕ) (h : s < shape.n)
    (values : List ℕ) (facts : Facts K shape values) (a : Aspect) (at : ℕ) (begins : at ≡ aspect_at a) where
  pub values_fit : at + get_or shape.offs s 0 + s + get_or shape.counts s 0 < length values
  values_fit = omega (arith, own-fit K shape starts laid s h, aspect_low a, facts.filed.fit, shape.few_events, shape.few_stations)

  module _ (b : Bool) (lo hi : ℕ) (table : List ℕ)
      (tab : (k : ℕ) → k < 256 → get_or table k 0 ≡ entry (λ j. passes b a lo hi (get_or values (at + get_or shape.offs s 0 + s + j) 0)) (get_or shape.counts s 0) k) where
    abbrev found : ℕ → Bool
    found j = passes b a lo hi (get_or values (at + get_or shape.offs s 0 + s + j) 0)

    abbrev looked : ℕ → Bool
    looked j = passes b a lo hi (seen a (report K s j))

    found_same : (j : ℕ) → j ≤ get_or shape.counts s 0 → looked j ≡ found j
    found_same j l =
        let c : j ≤ count K s = omega (arith, count-is K shape starts laid s h) in
        let e : aspect_at a + (total (take s (full K)) + s + j) ≡ at + get_or shape.offs s 0 + s + j = omega (arith, begins, offs_is K shape starts laid s h) in
        ap (passes b a lo hi) (sym (facts.shown a s j h c) ∙ ap (λ (x : ℕ). get_or values x 0) e)

    pub range_tabled : Tabled shape.n shape.e s (get_or shape.offs s 0) table (length starts)
    range_tabled = atoms.tabled K shape starts laid s h looked found found_same table tab

    pub range_leads : Leads shape.n shape.e s (get_or shape.offs s 0) table starts (raise_atom K b (in_range a s lo hi))
    unfolding raise_atom
    range_leads = atoms.leads K shape starts laid s h looked found found_same table tab
