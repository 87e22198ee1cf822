-- The intersection of two structures: the rounds of a start follow the rule and end at the least common cut that contains it.
use mathlib.Core.Path.{◌≡◌, refl, ap, sym, ◌∙◌, subst}
use mathlib.Core.Logic.{◌↔◌, ◌⊎◌, inl, inr}
use Prim.Native.Nat.{ℕ, zero, suc, ◌+◌, ◌≤◌, ◌<◌}
use native.Mathlib.Omega.{arith}
use native.Mathlib.Nat.{zero-add}
use native.Mathlib.Decide.{dec_le}
use mathlib.Core.Bool.{Bool, true, false}
use mathlib.Core.Option.{Option, none, some}
use mathlib.Core.List.{List, ◌++◌}
use Rattle.model.specs.Lists.{total}
use Rattle.model.specs.Cut.{Cut, ◌⊑◌, inside, inside_any, empty}
use Rattle.model.specs.Computation.{Computation, Consistent, full, stations, event_count}
use Rattle.model.specs.Structure.{Structure, raise}
use Rattle.model.specs.Basis.{Outcome, then_right, round, onward, after, run, start, intersect}
use Rattle.model.specs.Rounds.{ByRule}
use Rattle.model.specs.Rounds.ByRule.{ends, still, goes}
use Rattle.lattice.specs.Ascending.{RowsAscend}
use Rattle.lattice.proofs.Valid.{Valid}
use Rattle.lattice.proofs.Tests.{clash, yes_or_no}
use Rattle.lattice.proofs.Cuts.{refl⊑, trans⊑, inside_⊑, ⊑-inside, total_⊑, total_back, empty_⊑}
use Rattle.lattice.proofs.Consistency.{same_cut, ⊑-full, empty-consistent}
use Rattle.lattice.proofs.Structures.{Least, least_iff, Regular, table, table_represents}
use Rattle.lattice.proofs.Bases.{In, Good, IsBasis, build-basis}
use Rattle.lattice.proofs.Ascending.{least_ascend}

-- Whatever the structures, a start takes no more rounds than it may.
pub rounds-le : (S T : Structure) (m : ℕ) (c : Cut) → (run S T m c).rounds ≤ m
unfolding run after onward
rounds-le S T zero c = omega arith
rounds-le S T (suc m) c = ended (rounds-le S T m) (round S T c)
  where
    ended : ((d : Cut) → (run S T m d).rounds ≤ m) → (o : Option Cut) → (after (run S T m) c o).rounds ≤ suc m
    ended h none = omega arith
    ended h (some d) = turn (inside d c)
      where
        turn : (b : Bool) → (onward (run S T m) d b).rounds ≤ suc m
        turn true = omega arith
        turn false = omega (arith, h d)

-- The rule leaves no choice.
pub rule_unique : {S T : Structure} {c : Cut} {o o' : Option Cut} {n n' : ℕ} → ByRule S T c o n → ByRule S T c o' n' → (o ≡ o') × (n ≡ n')
rule_unique (ends e) (ends e') = (refl, refl)
rule_unique (ends e) (still e') = (cc, refl)
rule_unique (ends e) (goes e' m r) = let z : ◌≡◌ {A = ℕ} 0 1 = cc in absurd (omega arith)
rule_unique (still e) (ends e') = (cc, refl)
rule_unique (still e) (still e') = (refl, refl)
rule_unique (still e) (goes {d = d} e' m r) = absurd (m (cc))
rule_unique (goes e m r) (ends e') = let z : ◌≡◌ {A = ℕ} 0 1 = cc in absurd (omega arith)
rule_unique (goes e m r) (still e') = absurd (m (cc))
rule_unique {S} {T} (goes {d = d} e m r) (goes {d = d'} {o = o} {n = n} e' m' r') =
    let s : d' ≡ d = cc in let u = rule_unique r (subst (λ x. ByRule S T x o n) s r') in (u.0, ap suc u.1)

module _ (K : Computation) (S T : Structure) (gs : Good K S) (gt : Good K T) where
  -- The cuts of both sets.
  abbrev pub Both : Cut → Type 0
  Both c = In K S c × In K T c

  pub both_regular : Regular K Both
  both_regular = record { consistent = λ c u. u.0.0; join_in = λ c d u v. (gs.join_in c d u.0 v.0, gt.join_in c d u.1 v.1) }

  -- What a round from c comes to.
  abbrev Rounded : Cut → Option Cut → Type 0
  Rounded c none = (e : Cut) → Both e → c ⊑ e → ⊥
  Rounded c (some d) = In K T d × (c ⊑ d) × (d ⊑ c → In K S c) × ((e : Cut) → Both e → c ⊑ e → d ⊑ e)

  round_ok : (c : Cut) → Consistent K c → Rounded c (round S T c)
  unfolding round then_right
  round_ok c p = left (raise S c) (gs.up c p)
    where
      right : (x : Cut) → Least (In K S) (λ e. c ⊑ e) (some x) → (o : Option Cut) → Least (In K T) (λ e. x ⊑ e) o → Rounded c o
      right x h none k = λ e u v. k e u.1 (h.2 e u.0 v)
      right x h (some d) k = (k.0, trans⊑ c x d h.1 k.1, λ q. subst (In K S) (same_cut K x c h.0.0 p (trans⊑ x d c k.1 q) h.1) h.0, λ e u v. k.2 e u.1 (h.2 e u.0 v))

      left : (o : Option Cut) → Least (In K S) (λ e. c ⊑ e) o → Rounded c (then_right T o)
      left none h = λ e u v. h e u.0 v
      left (some x) h = right x h (raise T x) (gt.up x h.0.0)

  grown : (c d : Cut) → c ⊑ d → inside d c ≡ false → total c < total d
  grown c d h q = go (dec_le (total d) (total c))
    where
      go : Dec (total d ≤ total c) → total c < total d
      go (yes t) = clash (⊑-inside d c (total_back c d h t)) q
      go (no t) = omega arith

  -- A round that comes to a cut comes to one of the right set; if nothing changed, it is one of the left set too.
  pub round_in : (c d : Cut) → Consistent K c → round S T c ≡ some d → In K T d × (d ≡ c → In K S c)
  round_in c d p e = let r : Rounded c (some d) = rw e at (round_ok c p) in (r.0, λ z. r.2 (subst (λ x. d ⊑ x) z (refl⊑ d)))

  -- A round that comes to a cut comes to a consistent one that contains c; with more events, unless nothing changed.
  pub round-step : (c d : Cut) → Consistent K c → round S T c ≡ some d → Consistent K d × (c ⊑ d) × ((d ≡ c) ⊎ (total c < total d))
  round-step c d p e = (r.0.0, r.1, go (yes_or_no (inside d c)))
    where
      r : Rounded c (some d)
      r = rw e at (round_ok c p)

      go : (inside d c ≡ true) ⊎ (inside d c ≡ false) → (d ≡ c) ⊎ (total c < total d)
      go (inl q) = inl (same_cut K d c r.0.0 p (inside_⊑ d c q) r.1)
      go (inr q) = inr (grown c d r.1 q)

  after_ok : (go : Cut → Outcome) (c : Cut) → Consistent K c → ((d : Cut) → Consistent K d → total c < total d → Least Both (λ e. d ⊑ e) (go d).reached)
      → (o : Option Cut) → Rounded c o → Least Both (λ e. c ⊑ e) (after go c o).reached
  unfolding after onward
  after_ok go c p h none r = r
  after_ok go c p h (some d) r = turn (inside d c) refl
    where
      turn : (b : Bool) → inside d c ≡ b → Least Both (λ e. c ⊑ e) (onward go d b).reached
      turn true q = ((subst (In K S) (same_cut K c d p r.0.0 r.1 (inside_⊑ d c q)) (r.2 (inside_⊑ d c q)), r.0), r.1, r.3)
      turn false q = least_iff (λ e. (λ u. u, λ u. u)) (λ e u. (trans⊑ c d e r.1, r.3 e u)) (go d).reached (h d r.0.0 (grown c d r.1 q))

  -- With enough rounds allowed, the rounds from c end at the least common cut that contains c.
  pub run_ok : (m : ℕ) (c : Cut) → Consistent K c → event_count K < m + total c → Least Both (λ e. c ⊑ e) (run S T m c).reached
  unfolding run after onward
  run_ok zero c p h = absurd (omega (arith, total_⊑ c (full K) (⊑-full K c p)))
  run_ok (suc m) c p h = after_ok (run S T m) c p (λ d q t. run_ok m d q (omega arith)) (round S T c) (round_ok c p)

  -- The allowance of rounds is never what ends a start: with one more the outcome is the same.
  pub run_more : (m : ℕ) (c : Cut) → Consistent K c → event_count K < m + total c → run S T (suc m) c ≡ run S T m c
  unfolding run after onward
  run_more zero c p h = absurd (omega (arith, total_⊑ c (full K) (⊑-full K c p)))
  run_more (suc m) c p h = same (round S T c) (round_ok c p) (λ d q t. run_more m d q (omega arith))
    where
      same : (o : Option Cut) → Rounded c o → ((d : Cut) → Consistent K d → total c < total d → run S T (suc m) d ≡ run S T m d) → after (run S T (suc m)) c o ≡ after (run S T m) c o
      same none r k = refl
      same (some d) r k = turn (inside d c) refl
        where
          turn : (b : Bool) → inside d c ≡ b → onward (run S T (suc m)) d b ≡ onward (run S T m) d b
          turn true q = refl
          turn false q = let e : run S T (suc m) d ≡ run S T m d = k d r.0.0 (grown c d r.1 q) in cc

  -- The outcome and the rounds are those of the rule.
  run_rule : (m : ℕ) (c : Cut) → Consistent K c → event_count K < m + total c → ByRule S T c (run S T m c).reached (run S T m c).rounds
  unfolding run after onward
  run_rule zero c p h = absurd (omega (arith, total_⊑ c (full K) (⊑-full K c p)))
  run_rule (suc m) c p h = by (round S T c) refl (round_ok c p) (λ d q t. run_rule m d q (omega arith))
    where
      by : (o : Option Cut) → round S T c ≡ o → Rounded c o
          → ((d : Cut) → Consistent K d → total c < total d → ByRule S T d (run S T m d).reached (run S T m d).rounds)
          → ByRule S T c (after (run S T m) c o).reached (after (run S T m) c o).rounds
      by none e r k = ends e
      by (some d) e r k = turn (inside d c) refl
        where
          turn : (b : Bool) → inside d c ≡ b → ByRule S T c (onward (run S T m) d b).reached (onward (run S T m) d b).rounds
          turn true q = let s : c ≡ d = same_cut K c d p r.0.0 r.1 (inside_⊑ d c q) in
              subst (λ x. ByRule S T c (some x) 1) s (still (e ∙ ap some (sym s)))
          turn false q = goes e (λ s. clash (⊑-inside d c (subst (λ x. d ⊑ x) s (refl⊑ d))) q) (k d r.0.0 (grown c d r.1 q))

  -- A start follows the rule.
  pub start_rule : (c : Cut) → Consistent K c → ByRule S T c (start K S T c).reached (start K S T c).rounds
  unfolding start
  start_rule c p = run_rule (suc (event_count K)) c p (omega arith)

  -- A start ends at the least common cut that contains it, or at none if there is none.
  pub start-least : (c : Cut) → Consistent K c → Least Both (λ e. c ⊑ e) (start K S T c).reached
  unfolding start
  start-least c p = run_ok (suc (event_count K)) c p (omega arith)

  -- However many more rounds were allowed, a start would come to the same.
  pub start_enough : (k : ℕ) (c : Cut) → Consistent K c → run S T (k + suc (event_count K)) c ≡ start K S T c
  unfolding start
  start_enough zero c p = rw zero-add
  start_enough (suc k) c p =
      let e : suc k + suc (event_count K) ≡ suc (k + suc (event_count K)) = omega arith in
      rw e (run_more (k + suc (event_count K)) c p (omega arith) ∙ start_enough k c p)

  -- The empty start comes to none exactly if the sets have no cut in common.
  pub start_none : Valid K → ((start K S T (empty (stations K))).reached ≡ none) ↔ ((c : Cut) → Both c → ⊥)
  start_none ok = go (start K S T (empty (stations K))).reached (start-least (empty (stations K)) (empty-consistent K ok))
    where
      go : (o : Option Cut) → Least Both (λ e. empty (stations K) ⊑ e) o → (o ≡ none) ↔ ((c : Cut) → Both c → ⊥)
      go none h = (λ e c u. h c u (empty_⊑ (stations K) c), λ n. refl)
      go (some d) h = (λ e c u. let z : ◌≡◌ {A = ℕ} 0 1 = cc in omega arith, λ n. absurd (n d h.0))

  -- The cuts that the starts come to ascend.
  pub reached_ascend : Valid K → (bars : List Cut) (l : Cut) → (start K S T (empty (stations K))).reached ≡ some l → RowsAscend (full K) (table K (λ c. (start K S T c).reached) bars l)
  reached_ascend ok bars l e =
      least_ascend K ok Both (table K (λ c. (start K S T c).reached) bars l)
      (table_represents K ok Both (λ c. (start K S T c).reached) start-least bars l e).rows-least

  -- The intersection is a basis of the common cuts that no bar of either contains.
  pub intersect-basis : Valid K → IsBasis K (intersect K S T) (λ c. Both c × (inside_any c (S.bars ++ T.bars) ≡ false))
  unfolding intersect
  intersect-basis ok = build-basis K ok both_regular (λ c. (start K S T c).reached) start-least (S.bars ++ T.bars)
