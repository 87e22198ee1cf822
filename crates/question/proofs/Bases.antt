-- A question and its basis: there is room for it, and what the rules leave in the workspace is worked out.
use mathlib.Core.Path.{◌≡◌, sym, ap, ◌∙◌}
use mathlib.Core.Bool.{true}
use mathlib.Core.List.{List, [], ◌++◌, append-nil}
use Prim.Native.Nat.{ℕ, ◌+◌, ◌*◌, ◌≤◌}
use native.Mathlib.Omega.{arith}
use native.Mathlib.Nat.{le_trans, mul-le-mul, mul-le-mul_right}
use lib.ListN.{length}
use Rattle.model.specs.Limits.{barspace_size}
use Rattle.model.specs.Formula.{Formula, prefix}
use Rattle.model.specs.Computation.{Computation, full}
use Rattle.model.specs.Rules.{as_true}
use Rattle.model.specs.Size.{held}
use Rattle.model.specs.Forecast.{forecast}
use Rattle.model.specs.Basis.{basis}
use Rattle.lattice.proofs.Size.{basis-width, narrow_to}
use Rattle.lattice.proofs.Held.{fits_to, width-held, barspace_fits}
use Rattle.structure.specs.Layout.{standing}
use Rattle.structure.specs.declared.Run.{Run}
use Rattle.structure.specs.declared.Sets.{Sets}
use Rattle.structure.proofs.Standing.{length-standing}
use Rattle.token.specs.Contract.{Ready, Made}
use Rattle.listing.specs.Stands.{Stands}
use Rattle.listing.specs.Worked.{Worked}
use Rattle.question.specs.Questions.{Question}

module _ {K : Computation} {f : Formula} {run : Run} {q : List ℕ} (g : Question K f run q) where
  spelt : q ≡ prefix f ++ []
  spelt = g.spells ∙ sym (append-nil (prefix f))

  -- The cells forecast are those of the structures held.
  cells-held : (forecast K f).cells ≡ held (as_true f) * ((run.x.e + 1) * run.x.n)
  unfolding forecast
  cells-held = rw (g.laid.0.stationed, g.laid.0.counted) (omega arith)

  -- There is room.
  pub room : (ws bs : ℕ) → (forecast K f).cells ≤ ws → barspace_size ≤ bs → Ready true run q ws bs
  room ws bs h k =
      record {
        computation = K;
        laid = g.laid;
        formula = f;
        rest = [];
        reads = spelt;
        known = g.named;
        slim = (fits_to f g.fitting).2;
        works = g.works;
        short = (fits_to f g.fitting).0;
        cells_fit = rw cells-held at h;
        bars_fit = le_trans (barspace_fits f g.fitting run.x.n run.x.few_stations) k;
      }

  -- THE BASIS

  module _ {sets : Sets} {used sum : ℕ} {ws bs : List ℕ} (w : Made true run q sets used sum ws bs) where
    abbrev count : ℕ
    count = sets.count

    is_basis : standing run.x.n (full K) count ws bs ≡ basis K (as_true f)
    is_basis = w.stands K f [] g.laid spelt

    pub count-few : count ≤ 16
    count-few = omega (arith, length-standing run.x.n (full K) count ws bs, ap length is_basis, basis-width K (as_true f), (narrow_to (as_true f) (fits_to f g.fitting).2).0)

    count_held : count ≤ held (as_true f)
    count_held = omega (arith, length-standing run.x.n (full K) count ws bs, ap length is_basis, basis-width K (as_true f), width-held (as_true f))

    pub stands : (forecast K f).cells ≤ length ws → barspace_size ≤ length bs → Stands run.x count ws bs
    stands h b = record {
      cells_fit = le_trans (mul-le-mul_right ((run.x.e + 1) * run.x.n) count_held) (rw cells-held at h);
      bars_fit = le_trans (mul-le-mul {n₂ = 16} {m₂ = 128} count-few (omega (arith, run.x.few_stations))) (omega arith);
      least_there = w.least;
    }

    -- It is worked out.
    pub worked : Stands run.x count ws bs → Worked K f run.x count sum ws bs
    worked s = record {
      stands = s;
      valid = g.laid.0.valid;
      stationed = g.laid.0.stationed;
      counts_are = g.laid.0.counts_are;
      is_basis = ap (λ (l : List ℕ). standing run.x.n l count ws bs) g.laid.0.counts_are ∙ is_basis;
      summed = w.counted K f [] g.laid spelt;
      few = count-few;
    }
