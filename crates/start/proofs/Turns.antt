-- Laws of a start: what is left to run after some rounds, and what its answer says.
use mathlib.Core.Path.{◌≡◌, refl, sym, ap, subst, ◌∙◌}
use Prim.Native.Nat.{ℕ, suc, ◌+◌, ◌*◌, ◌-◌, ◌≤◌}
use native.Mathlib.Nat.{add-zero}
use native.Mathlib.Omega.{arith}
use mathlib.Core.Bool.{true, false}
use mathlib.Core.List.{List}
use mathlib.Core.Option.{none, some}
use lib.ListN.{take, drop}
use Rattle.model.specs.Cut.{Cut}
use Rattle.model.specs.Computation.{Computation, count, clock, event_count}
use Rattle.model.specs.Structure.{Structure, raise}
use Rattle.model.specs.Basis as rule
use Rattle.model.specs.Basis.{run}
use Rattle.lattice.proofs.Consistency.{clock-consistent}
use Rattle.lattice.proofs.Shortcuts.{came, later, after_left, next_left, quick_on, quick_run}
use Rattle.slots.specs.Slots.{number, Coded}
use Rattle.round.specs.Said.{reading, Came, Answers}
use Rattle.slots.specs.Pair.{Both, Clocks}
use Rattle.start.specs.Ended.{Ended}
use Rattle.round.specs.declared.Round.{Round}
use Rattle.std.specs.Prelude.{Some, None}

-- ANSWERS

pub ended_lost : (K : Computation) (o : rule.Outcome) (n : ℕ) → o ≡ came none n → Ended K o (record { cut = None; rounds = n })
ended_lost K o n e = rw e (record { rounds = refl; reached = refl })

pub ended_raised : (K : Computation) (o : rule.Outcome) (y : Cut) (cut : List ℕ) (n : ℕ) → o ≡ came (some y) n → Coded K y cut → Ended K o (record { cut = Some cut; rounds = n })
ended_raised K o y cut n e h = rw e (record { rounds = refl; reached = (y, refl, h) })

-- LATER ROUNDS

-- An outcome with k rounds before it.
abbrev pub plus : ℕ → rule.Outcome → rule.Outcome
plus k o = came o.reached (k + o.rounds)

pub begins : (S T : Structure) (e : ℕ) (c : Cut) → later (quick_on S T e c) ≡ plus 1 (quick_on S T (suc e - 1) c)
begins S T e c =
    let q : suc e - 1 ≡ e = omega arith in
    let o : rule.Outcome = quick_on S T e c in
    let s : suc o.rounds ≡ 1 + o.rounds = omega arith in
    ap (came o.reached) s ∙ ap (λ (m : ℕ). plus 1 (quick_on S T m c)) (sym q)

module _ (K : Computation) (S T : Structure) (e k : ℕ) (h : k ≤ e) (c : Cut) where
  more : (F : (Cut → rule.Outcome) → rule.Outcome) → ((go : Cut → rule.Outcome) → next_left go T c (raise S c) ≡ F go) → quick_on S T (suc e - k) c ≡ F (quick_on S T (suc e - (k + 1)))
  unfolding quick_on
  more F p = let q : suc e - k ≡ suc (suc e - (k + 1)) = omega arith in ap (λ (m : ℕ). quick_on S T m c) q ∙ p (quick_on S T (suc e - (k + 1)))

  pub turn_lost : Answers K T (λ go. next_left go T c (raise S c)) None → plus k (quick_on S T (suc e - k) c) ≡ came none (k + 1)
  turn_lost p = ap (plus k) (more (λ go. came none 1) p)

  module _ (r : Round) (p : Came K T (λ go. next_left go T c (raise S c)) r) where
    read : quick_on S T (suc e - k) c ≡ reading (quick_on S T (suc e - (k + 1))) r.changed r.settled p.cut
    read = more (λ go. reading go r.changed r.settled p.cut) p.says

    pub turn_ended : r.changed ≡ false → plus k (quick_on S T (suc e - k) c) ≡ came (some p.cut) (k + 1)
    unfolding reading
    turn_ended u = ap (plus k) (read ∙ rw u refl)

    pub turn_settled : r.changed ≡ true → r.settled ≡ true → plus k (quick_on S T (suc e - k) c) ≡ came (some p.cut) (k + 2)
    unfolding reading
    turn_settled u w = ap (plus k) (read ∙ rw (u, w) refl)

    pub turn_goes : r.changed ≡ true → r.settled ≡ false → plus k (quick_on S T (suc e - k) c) ≡ plus (k + 1) (quick_on S T (suc e - (k + 1)) p.cut)
    unfolding reading
    turn_goes u w =
        let o : rule.Outcome = quick_on S T (suc e - (k + 1)) p.cut in
        let q : k + suc o.rounds ≡ k + 1 + o.rounds = omega arith in
        ap (plus k) (read ∙ rw (u, w) refl) ∙ ap (came o.reached) q

pub turn_out : (S T : Structure) (e k : ℕ) (c : Cut) → k ≡ e + 1 → plus k (quick_on S T (suc e - k) c) ≡ came none (e + 1)
unfolding quick_on
turn_out S T e k c h = let q : suc e - k ≡ 0 = omega arith in rw (q, add-zero k) (ap (came none) h)

-- THE FIRST ROUND

-- The eight cells read are the clock.
pub clock_read : (K : Computation) (first : List ℕ) (j k i : ℕ) (x : List ℕ) → Clocks K first → k ≤ count K j → i ≡ number K j k → x ≡ take 8 (drop (i * 8) first) → Coded K (clock K j k) x
clock_read K first j k i x t l q e =
    let p : i * 8 ≡ 8 * number K j k = omega arith in subst (λ (y : List ℕ). Coded K (clock K j k) y) (sym (e ∙ ap (λ (y : ℕ). take 8 (drop y first)) p)) (t j k l)

-- Its answer, and what follows.
module _ (K : Computation) (S T : Structure) (left right : List ℕ) (e : ℕ) (q : event_count K ≡ e) (b : Both K S T left right) (j k : ℕ) (l : k ≤ count K j) where
  abbrev c : Cut
  c = clock K j k

  abbrev first : (Cut → rule.Outcome) → rule.Outcome
  first go = after_left go T c (raise S c)

  runs : run S T (suc e) c ≡ first (quick_on S T e)
  runs = sym (quick_run K S T b.good_left b.good_right e c (clock-consistent K b.small.valid j k l) (omega arith))

  pub first_lost : Answers K T first None → run S T (suc e) c ≡ came none 1
  first_lost p = runs ∙ p (quick_on S T e)

  module _ (r : Round) (p : Came K T first r) where
    pub first_ended : r.changed ≡ false → run S T (suc e) c ≡ came (some p.cut) 1
    unfolding reading
    first_ended u = runs ∙ p.says (quick_on S T e) ∙ rw u refl

    pub first_settled : r.changed ≡ true → r.settled ≡ true → run S T (suc e) c ≡ came (some p.cut) 2
    unfolding reading
    first_settled u w = runs ∙ p.says (quick_on S T e) ∙ rw (u, w) refl

    pub first_goes : r.changed ≡ true → r.settled ≡ false → run S T (suc e) c ≡ later (quick_on S T e p.cut)
    unfolding reading
    first_goes u w = runs ∙ p.says (quick_on S T e) ∙ rw (u, w) refl
