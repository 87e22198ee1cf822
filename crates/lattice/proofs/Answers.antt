-- All that is promised of the reply to a cut and of the line of a question: demands 2 and 3.
use mathlib.Core.Path.{◌≡◌, refl}
use mathlib.Core.Logic.{◌↔◌}
use Prim.Native.Nat.{ℕ, ◌<◌}
use native.Mathlib.Omega.{arith}
use mathlib.Core.Bool.{Bool, true, false}
use mathlib.Core.List.{[], ◌∷◌}
use Rattle.model.specs.Formula.{Formula}
use Rattle.model.specs.Cut.{Cut, empty}
use Rattle.model.specs.Computation.{Computation, Consistent, stations, event_count}
use Rattle.model.specs.Rules.{as_true, workable}
use Rattle.model.specs.Size.{narrow, fits}
use Rattle.model.specs.Forecast.{forecast}
use Rattle.model.specs.Rounds.{rounds}
use Rattle.model.specs.Answer.{true_at, answer, yes_no, answer_line}
use Rattle.model.specs.Reply.{Reply, gives}
use Rattle.model.specs.Promise.{Answered, Tested}
use Rattle.lattice.proofs.Valid.{Valid}
use Rattle.lattice.proofs.Tests.{clash}
use Rattle.lattice.proofs.Consistency.{empty-consistent}
use Rattle.lattice.proofs.Theorem.{tested, untested}
use Rattle.lattice.proofs.Maximal.{maximal, listed_iff, listed_ascending, true_below, never_iff}
use Rattle.lattice.proofs.Rounds.{all_by_rule, rounds-ceiling, rounds_bound, rounds-fit}
use Rattle.lattice.proofs.Held.{fits_to, fits-signs}
use Rattle.lattice.proofs.Line.{listed-width, listed-few, listed-size, listed-count}

said_yes : (b : Bool) → (◌≡◌ {A = Reply} (gives (yes_no b ∷ [])) (gives (1 ∷ []))) ↔ (b ≡ true)
said_yes true = (λ h. refl, λ h. refl)
said_yes false = (λ h. let z : ◌≡◌ {A = ℕ} 0 1 = cc in absurd (omega arith), λ h. clash h refl)

said_no : (b : Bool) → (◌≡◌ {A = Reply} (gives (yes_no b ∷ [])) (gives (0 ∷ []))) ↔ (b ≡ false)
said_no true = (λ h. let z : ◌≡◌ {A = ℕ} 0 1 = cc in absurd (omega arith), λ h. clash refl h)
said_no false = (λ h. refl, λ h. refl)

-- Demand 2.
pub told : (K : Computation) → Valid K → (f : Formula) → workable (as_true f) ≡ true → (c : Cut) → Consistent K c → Tested K f c (gives (yes_no (true_at K f c) ∷ []))
told K ok f w c p = record {
  when_true = (λ h. (tested K ok f w c p).0 ((said_yes (true_at K f c)).0 h), λ t. (said_yes (true_at K f c)).1 ((tested K ok f w c p).1 t));
  when_not_true = (λ h. (untested K ok f w c p).0 ((said_no (true_at K f c)).0 h), λ n. (said_no (true_at K f c)).1 ((untested K ok f w c p).1 n));
}

-- Demand 3.
pub answered : (K : Computation) → Valid K → event_count K < 256 → (f : Formula) → fits f ≡ true → workable (as_true f) ≡ true → Answered K f (answer_line (answer K f))
unfolding answer forecast
answered K ok e f h w = record {
  start = true_at K f (empty (stations K));
  cuts = maximal K f;
  rounds = rounds K (as_true f);
  encodes = refl;
  few = omega (arith, listed-few K f slender);
  sized = listed-size K ok f;
  small = λ c m j. omega (arith, listed-count K ok f c m j);
  short = rounds-fit K f slender (fits-signs f h) e;
  listed = listed_iff K ok f w;
  ordered = listed_ascending K f;
  covered = true_below K ok f w;
  never = never_iff K ok f w;
  first = tested K ok f w (empty (stations K)) (empty-consistent K ok);
  counted = refl;
  by_rule = all_by_rule K ok (as_true f);
  bounded = rounds_bound K f slender;
  under_ceiling = rounds-ceiling K (as_true f);
  within_width = listed-width K f;
}
  where
    slender : narrow (as_true f) ≡ true
    slender = (fits_to f h).2
