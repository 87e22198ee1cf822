-- What a start comes to follows from the cut of its first round, and so from its left row: all starts with the same left row come to
-- the same, in as many rounds, but for one round less where that is the start itself.
use mathlib.Core.Path.{◌≡◌, refl, ap, sym, ◌∙◌, subst}
use mathlib.Core.Logic.{◌⊎◌, inl, inr}
use Prim.Native.Nat.{ℕ, suc, ◌+◌, ◌≤◌, ◌<◌}
use native.Mathlib.Omega.{arith}
use mathlib.Core.Bool.{true, false, cond}
use mathlib.Core.Option.{Option, none, some}
use Rattle.model.specs.Lists.{total}
use Rattle.model.specs.Cut.{Cut, ◌⊑◌}
use Rattle.model.specs.Computation.{Computation, Consistent, count, clock}
use Rattle.model.specs.Structure.{Structure, row, reaches}
use Rattle.model.specs.Basis.{then_right, round, start}
use Rattle.model.specs.Rounds.{ByRule}
use Rattle.model.specs.Rounds.ByRule.{ends, still, goes}
use Rattle.lattice.specs.Starts.{upon, from_first}
use Rattle.lattice.proofs.Valid.{Valid}
use Rattle.lattice.proofs.Tests.{clash, false_iff}
use Rattle.lattice.proofs.Cuts.{refl⊑, trans⊑, inside_⊑, ⊑-inside, total_⊑}
use Rattle.lattice.proofs.Consistency.{clock-consistent}
use Rattle.lattice.proofs.Structures.{Least}
use Rattle.lattice.proofs.Bases.{Good}
use Rattle.lattice.proofs.Intersection.{rule_unique, Both, round-step, start_rule, start-least}
use Rattle.lattice.proofs.Shortcuts.{came, raise-row}

module _ (K : Computation) (S T : Structure) (gs : Good K S) (gt : Good K T) where
  -- A start is what the rule says.
  pub start_is : (c : Cut) (o : Option Cut) (n : ℕ) → Consistent K c → ByRule S T c o n → start K S T c ≡ came o n
  start_is c o n p r = let u = rule_unique (start_rule K S T gs gt c p) r in
      ap (λ x. came x (start K S T c).rounds) u.0 ∙ ap (came o) u.1

  -- What a start comes to contains it.
  reached-above : (q c : Cut) (o : Option Cut) → Least (Both K S T gs gt) (λ e. q ⊑ e) o → reaches o c ≡ true → q ⊑ c
  unfolding reaches
  reached-above q c none h e = clash e refl
  reached-above q c (some d) h e = trans⊑ q d c h.1 (inside_⊑ d c e)

  pub rule_on : (c q : Cut) (o : Option Cut) (n : ℕ) → Consistent K c → round S T c ≡ some q → ByRule S T q o n → ByRule S T c o (n + cond (reaches o c) 0 1)
  unfolding reaches
  rule_on c q o n p e r = elim g.2 [ inl s ↦ same s | inr t ↦ more t ]
    where
      g : Consistent K q × (c ⊑ q) × ((q ≡ c) ⊎ (total c < total q))
      g = round-step K S T gs gt c q p e

      same : q ≡ c → ByRule S T c o (n + cond (reaches o c) 0 1)
      same s =
          let r' : ByRule S T c o n = subst (λ x. ByRule S T x o n) s r in
          let u = rule_unique r' (still (subst (λ x. round S T c ≡ some x) s e)) in
          let h : reaches o c ≡ true = subst (λ x. reaches x c ≡ true) (sym u.0) (⊑-inside c c (refl⊑ c)) in
          let z : n + cond (reaches o c) 0 1 ≡ n = rw h (omega arith) in
          subst (ByRule S T c o) (sym z) r'

      more : total c < total q → ByRule S T c o (n + cond (reaches o c) 0 1)
      more t =
          let l : Least (Both K S T gs gt) (λ x. q ⊑ x) o = subst (Least (Both K S T gs gt) (λ x. q ⊑ x)) (rule_unique (start_rule K S T gs gt q g.0) r).0 (start-least K S T gs gt q g.0) in
          let h : reaches o c ≡ false = (false_iff (reaches o c)).1 (λ a. absurd (omega (arith, t, total_⊑ q c (reached-above q c o l a)))) in
          let z : n + cond (reaches o c) 0 1 ≡ suc n = rw h (omega arith) in
          subst (ByRule S T c o) (sym z) (goes e (λ s. absurd (omega (arith, t, total_⊑ q c (subst (λ x. q ⊑ x) s (refl⊑ q))))) r)

  pub start_on : (c : Cut) (o : Option Cut) → Consistent K c → round S T c ≡ o → start K S T c ≡ from_first K S T c o
  unfolding upon from_first
  start_on c none p e = start_is c none 1 p (ends e)
  start_on c (some q) p e = start_is c _ _ p (rule_on c q _ _ p e (start_rule K S T gs gt q (round-step K S T gs gt c q p e).0))

  -- The first round of a start from an event's clock goes by the event's left row.
  pub start-row : Valid K → (j k : ℕ) → k ≤ count K j → start K S T (clock K j k) ≡ from_first K S T (clock K j k) (then_right T (row S j k))
  unfolding round
  start-row ok j k h = start_on (clock K j k) (then_right T (row S j k)) (clock-consistent K ok j k h) (ap (then_right T) (raise-row K S gs ok j k h))
