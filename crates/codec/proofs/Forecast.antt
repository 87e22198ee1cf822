-- What is forecast of a question of an accepted log is kept to: Answer and Holds work with just these cells, and refuse with 11 exactly where there are fewer, or too little bar space.
use mathlib.Core.Path.{◌≡◌, refl, ◌∙◌}
use mathlib.Core.Logic.{◌↔◌, ◌⊎◌, inl, inr}
use mathlib.Core.Bool.{Bool, true, false, cond, ◌||◌}
use mathlib.Core.List.{List, [], ◌∷◌}
use Prim.Native.Nat.{ℕ, ◌<◌}
use native.Mathlib.Omega.{arith}
use native.Mathlib.Nat.{le_trans}
use lib.ListN.{length}
use lib.Dec.{ltb}
use borrow.Author.Tests.{ltb-true, lt-ltb}
use Rattle.model.specs.declared.Limits.{Limits}
use Rattle.model.specs.Limits.{barspace_size, line_size}
use Rattle.model.specs.Formula.{Formula}
use Rattle.model.specs.Cut.{Cut}
use Rattle.model.specs.Computation.{Computation, Consistent}
use Rattle.model.specs.Forecast.{forecast}
use Rattle.model.specs.Answer.{answer, answer_line}
use Rattle.model.specs.Reply.{Reply, gives, refuses, figures}
use Rattle.model.specs.Promise.{Asked, Foretold}
use Rattle.model.specs.Operations.{Effect, refuse, write, poses, opening, cramped, forecast_reply_to, forecast_op, line_effect, answer_effect, answer_op, holds_reply_to, holds_op}
use Rattle.lattice.proofs.Tests.{clash, or-true}
use Rattle.lattice.proofs.Consistency.{consistent_iff}
use Rattle.lattice.proofs.Forecast.{Low, forecast-low}
use Rattle.codec.specs.Limits.{Suitable}
use Rattle.codec.proofs.Readings.{asked-valid}
use Rattle.codec.proofs.Demands.{asked-opens, asked-answered, asked_written, asked-holds, opened-asked}

-- One of two sizes is too small exactly where one of two tests says so.
too_small : (a b c d : ℕ) → ((ltb a b || ltb c d) ≡ true) ↔ ((a < b) ⊎ (c < d))
too_small a b c d = (λ h. by ((or-true (ltb a b) (ltb c d)).0 h), λ h. (or-true (ltb a b) (ltb c d)).1 (back h))
  where
    by : (ltb a b ≡ true) ⊎ (ltb c d ≡ true) → (a < b) ⊎ (c < d)
    by (inl h) = inl (ltb-true a b h)
    by (inr h) = inr (ltb-true c d h)

    back : (a < b) ⊎ (c < d) → (ltb a b ≡ true) ⊎ (ltb c d ≡ true)
    back (inl h) = inl (lt-ltb a b h)
    back (inr h) = inr (lt-ltb c d h)

-- 11 is said exactly where a test does, if nothing else says it.
only_there : {A : Type 0} (reply : A → Reply) (b : Bool) (x y : A) → reply x ≡ refuses 11 0 → (reply y ≡ refuses 11 0 → ⊥) → (reply (cond b x y) ≡ refuses 11 0) ↔ (b ≡ true)
only_there reply true x y p n = (λ r. refl, λ h. p)
only_there reply false x y p n = (λ r. absurd (n r), λ h. clash h refl)

given_not : (values : List ℕ) → ◌≡◌ {A = Reply} (gives values) (refuses 11 0) → ⊥
given_not values h = let z : ◌≡◌ {A = ℕ} 0 1 = cc in absurd (omega arith)

line-not : (l out : List ℕ) → (line_effect l out).reply ≡ refuses 11 0 → ⊥
unfolding line_effect
line-not l out = by (ltb (length out) line_size)
  where
    by : (b : Bool) → (cond b (refuse 12 0 out) (write (length l ∷ []) l out)).reply ≡ refuses 11 0 → ⊥
    by true h = let z : ◌≡◌ {A = ℕ} 12 11 = cc in absurd (omega arith)
    by false h = given_not _ h

module _ {m : Limits} (fit : Suitable m) {log : List ℕ} {q : ℕ} {K : Computation} {f : Formula} (a : Asked m log q K f) where
  pub asked-forecast : forecast_op m log q ≡ gives (figures (forecast K f))
  unfolding forecast_op forecast_reply_to
  asked-forecast = rw (asked-opens fit a)

  module _ (ws bs : ℕ) where
    abbrev Less : Type 0
    Less = (ws < (forecast K f).cells) ⊎ (bs < barspace_size)

    less : (cramped K f ws bs ≡ true) ↔ Less
    unfolding cramped
    less = too_small ws (forecast K f).cells bs barspace_size

    answer_less : (out : List ℕ) → ((answer_op m log q ws bs out).reply ≡ refuses 11 0) ↔ Less
    unfolding answer_op answer_effect
    answer_less out =
        let i = only_there (λ (e : Effect). e.reply) (cramped K f ws bs) (refuse 11 0 out) (line_effect (answer_line (answer K f)) out) refl (line-not _ out) in
        rw (asked-opens fit a) (λ h. less.0 (i.0 h), λ l. i.1 (less.1 l))

    holds_less : (c : Cut) → Consistent K c → (holds_op m log q c ws bs ≡ refuses 11 0) ↔ Less
    unfolding holds_op holds_reply_to
    holds_less c p =
        let i = only_there (λ (r : Reply). r) (cramped K f ws bs) (refuses 11 0) _ refl (given_not _) in
        rw (asked-opens fit a, (consistent_iff K c).1 p) (λ h. less.0 (i.0 h), λ l. i.1 (less.1 l))

  -- All that is promised of the reply.
  pub asked_foretold : (reply : Reply) → reply ≡ forecast_op m log q → Foretold m log q K f reply
  asked_foretold reply e = record {
    told = e ∙ asked-forecast;
    answers = λ ws bs out hw hb ho. (answer_line (answer K f), asked-answered fit a, asked_written fit a ws bs hw hb out ho);
    tests = λ ws bs c hw hb p. asked-holds fit a ws bs hw hb c p;
    turned = answer_less;
    turned_cut = holds_less;
  }

-- What a log poses has low figures.
pub opened-low : {m : Limits} → Suitable m → (log : List ℕ) (q : ℕ) (K : Computation) (f : Formula) → opening m log q ≡ poses K f → Low (forecast K f)
opened-low fit log q K f e = let p = asked-valid (opened-asked log q K f e) in forecast-low K f p.fitting (le_trans p.high fit.stations) (le_trans p.few fit.events)
