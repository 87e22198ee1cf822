-- Short ways through a start: its first left half is a row, and halves that change nothing need not be run.
use mathlib.Core.Path.{◌≡◌, refl, ap, sym, ◌∙◌, subst}
use mathlib.Core.Logic.{inl, inr}
use Prim.Native.Nat.{ℕ, zero, suc, ◌+◌, ◌≤◌, ◌<◌}
use native.Mathlib.Omega.{arith}
use mathlib.Core.Bool.{Bool, true, false, cond}
use mathlib.Core.Option.{Option, none, some}
use Rattle.model.specs.Lists.{total}
use Rattle.model.specs.Cut.{Cut, ◌⊑◌, inside}
use Rattle.model.specs.Computation.{Computation, Consistent, full, count, clock, event_count}
use Rattle.model.specs.Structure.{Structure, row, raise}
use Rattle.model.specs.Basis.{Outcome, then_right, round, onward, after, run}
use Rattle.lattice.proofs.Valid.{Valid}
use Rattle.lattice.proofs.Tests.{clash, false_iff}
use Rattle.lattice.proofs.Cuts.{refl⊑, trans⊑, inside_⊑, ⊑-inside, total_⊑}
use Rattle.lattice.proofs.Consistency.{same_cut, ⊑-full, clock-consistent}
use Rattle.lattice.proofs.Structures.{Least}
use Rattle.lattice.proofs.Bases.{In, Good}
use Rattle.lattice.proofs.Intersection.{round-step}

-- ONE SET

-- There is one least cut.
pub least_same : (K : Computation) {P : Cut → Type 0} (Q : Cut → Type 0) → ((c : Cut) → P c → Consistent K c) → (o o' : Option Cut) → Least P Q o → Least P Q o' → o ≡ o'
least_same K Q pc none none h k = refl
least_same K Q pc none (some d) h k = absurd (h d k.0 k.1)
least_same K Q pc (some c) none h k = absurd (k c h.0 h.1)
least_same K Q pc (some c) (some d) h k = ap some (same_cut K c d (pc c h.0) (pc d k.0) (h.2 d k.0 k.1) (k.2 c h.0 h.1))

module _ (K : Computation) (S : Structure) (g : Good K S) where
  -- An event's clock is raised to the event's row.
  pub raise-row : Valid K → (j k : ℕ) → k ≤ count K j → raise S (clock K j k) ≡ row S j k
  raise-row ok j k h = least_same K (λ x. clock K j k ⊑ x) (λ c u. u.0) (raise S (clock K j k)) (row S j k) (g.up (clock K j k) (clock-consistent K ok j k h)) (g.rows-least j k h)

  -- What is raised is in the set, and contains what it was raised from.
  pub raised : (c d : Cut) → Consistent K c → raise S c ≡ some d → In K S d × (c ⊑ d)
  raised c d p e = let h : Least (In K S) (λ x. c ⊑ x) (some d) = rw e at (g.up c p) in (h.0, h.1)

  -- A cut of the set is raised to itself.
  pub raise_in : (c : Cut) → In K S c → raise S c ≡ some c
  raise_in c u = least_same K (λ x. c ⊑ x) (λ x v. v.0) (raise S c) (some c) (g.up c u.0) (u, refl⊑ c, λ x _ v. v)

  pub raise_again : (c d : Cut) → Consistent K c → raise S c ≡ some d → raise S d ≡ some d
  raise_again c d p e = raise_in d (raised c d p e).0

  -- Nothing changed exactly if what is raised is contained in what it was raised from.
  pub raise_same : (c d : Cut) → Consistent K c → raise S c ≡ some d → inside d c ≡ true → d ≡ c
  raise_same c d p e q = let u = raised c d p e in same_cut K d c u.0.0 p (inside_⊑ d c q) u.1

-- TWO SETS

-- An outcome.
abbrev pub came : Option Cut → ℕ → Outcome
came o n = record { reached = o; rounds = n }

-- One round more.
abbrev pub later : Outcome → Outcome
later r = came r.reached (suc r.rounds)

-- The right half of a round that began at c and has come to d: where it changes nothing, so does all that would follow.
unfoldable pub settle : (Cut → Outcome) → Cut → Cut → Bool → Outcome
settle go c d true = came (some d) (cond (inside d c) 1 2)
settle go c d false = later (go d)

unfoldable pub after_right : (Cut → Outcome) → Cut → Cut → Option Cut → Outcome
after_right go c x none = came none 1
after_right go c x (some d) = settle go c d (inside d x)

-- A round whose left half came to this.
unfoldable pub after_left : (Cut → Outcome) → Structure → Cut → Option Cut → Outcome
after_left go T c none = came none 1
after_left go T c (some x) = after_right go c x (raise T x)

-- A round that began at a cut of the right set: where the left half changes nothing, the right half does not either.
unfoldable pub unless_same : (Cut → Outcome) → Structure → Cut → Cut → Bool → Outcome
unless_same go T d x true = came (some d) 1
unless_same go T d x false = after_right go d x (raise T x)

unfoldable pub next_left : (Cut → Outcome) → Structure → Cut → Option Cut → Outcome
next_left go T d none = came none 1
next_left go T d (some x) = unless_same go T d x (inside x d)

-- At most m rounds from d on, a cut of the right set.
unfoldable pub quick_on : Structure → Structure → ℕ → Cut → Outcome
quick_on S T zero d = came none 0
quick_on S T (suc m) d = next_left (quick_on S T m) T d (raise S d)

module _ (K : Computation) (S T : Structure) (gs : Good K S) (gt : Good K T) where
  -- If the right half changed nothing, the next round changes nothing.
  pub settled : (c x : Cut) → Consistent K c → raise S c ≡ some x → raise T x ≡ some x → round S T x ≡ some x
  unfolding round then_right
  settled c x p e f = rw (raise_again K S gs c x p e) f

  -- If the left half changes nothing at a cut of the right set, the round changes nothing.
  pub kept : (c : Cut) → In K T c → raise S c ≡ some c → round S T c ≡ some c
  unfolding round then_right
  kept c u e = rw e (raise_in K T gt c u)

  run-still : (m : ℕ) (c : Cut) → round S T c ≡ some c → run S T (suc m) c ≡ came (some c) 1
  unfolding run after onward
  run-still m c e = rw (e, ⊑-inside c c (refl⊑ c)) refl

  run_on : (m : ℕ) (c d : Cut) → round S T c ≡ some d → inside d c ≡ false → run S T (suc m) c ≡ later (run S T m d)
  unfolding run after onward
  run_on m c d e q = rw (e, q) refl

  run_none : (m : ℕ) (c : Cut) → round S T c ≡ none → run S T (suc m) c ≡ came none 1
  unfolding run after onward
  run_none m c e = rw e refl

  pub round-none : (c : Cut) → raise S c ≡ none → round S T c ≡ none
  unfolding round then_right
  round-none c e = rw e refl

  pub round_is : (c x : Cut) (o : Option Cut) → raise S c ≡ some x → raise T x ≡ o → round S T c ≡ o
  unfolding round then_right
  round_is c x o e f = rw (e, f) refl

  -- A round from c whose right half changed nothing but whose left half did: there is one round more, and it changes nothing.
  pub run_settled : (m : ℕ) (c x : Cut) → Consistent K c → event_count K < suc m + total c → raise S c ≡ some x → raise T x ≡ some x → inside x c ≡ false
      → run S T (suc m) c ≡ came (some x) 2
  run_settled zero c x p h e f q = elim (round-step K S T gs gt c x p (round_is c x (some x) e f)).2 [
    | inl s ↦ clash (subst (λ y. inside y c ≡ true) (sym s) (⊑-inside c c (refl⊑ c))) q
    | inr t ↦ absurd (omega (arith, t, total_⊑ x (full K) (⊑-full K x (raised K S gs c x p e).0.0)))
  ]
  run_settled (suc m) c x p h e f q = run_on (suc m) c x (round_is c x (some x) e f) q ∙ ap later (run-still m x (settled c x p e f))

  -- The right half of a round, by the short way and by the rule.
  right-run : (m : ℕ) (c x : Cut) → Consistent K c → event_count K < suc m + total c → raise S c ≡ some x
      → ((d : Cut) → In K T d → total c < total d → quick_on S T m d ≡ run S T m d) → after_right (quick_on S T m) c x (raise T x) ≡ run S T (suc m) c
  unfolding after_right settle
  right-run m c x p h e ih = go (raise T x) refl
    where
      u : In K S x × (c ⊑ x)
      u = raised K S gs c x p e

      once : (d : Cut) → d ≡ x → raise T x ≡ some d → (b : Bool) → inside d c ≡ b → came (some d) (cond b 1 2) ≡ run S T (suc m) c
      once d s f true q =
          let t : d ≡ c = same_cut K d c (subst (Consistent K) (sym s) u.0.0) p (inside_⊑ d c q) (subst (λ y. c ⊑ y) (sym s) u.1) in
          subst (λ y. came (some y) 1 ≡ run S T (suc m) c) (sym t) (sym (run-still m c (subst (λ y. round S T c ≡ some y) t (round_is c x (some d) e f))))
      once d s f false q = subst (λ y. came (some y) 2 ≡ run S T (suc m) c) (sym s) (sym (run_settled m c x p h e (subst (λ y. raise T x ≡ some y) s f) (subst (λ y. inside y c ≡ false) s q)))

      more : (d : Cut) → raise T x ≡ some d → inside d x ≡ false → later (quick_on S T m d) ≡ run S T (suc m) c
      more d f q = elim (round-step K S T gs gt c d p (round_is c x (some d) e f)).2 [
        | inl s ↦ clash (⊑-inside d x (subst (λ y. y ⊑ x) (sym s) u.1)) q
        | inr t ↦ ap later (ih d (raised K T gt x d u.0.0 f).0 t) ∙ sym (run_on m c d (round_is c x (some d) e f) (apart d q))
      ]
        where
          apart : (d : Cut) → inside d x ≡ false → inside d c ≡ false
          apart d q = (false_iff (inside d c)).1 (λ r. clash (⊑-inside d x (trans⊑ d c x (inside_⊑ d c r) u.1)) q)

      halves : (d : Cut) → raise T x ≡ some d → (b : Bool) → inside d x ≡ b → settle (quick_on S T m) c d b ≡ run S T (suc m) c
      halves d f true q = once d (raise_same K T gt x d u.0.0 f q) f (inside d c) refl
      halves d f false q = more d f q

      go : (o : Option Cut) → raise T x ≡ o → after_right (quick_on S T m) c x o ≡ run S T (suc m) c
      go none f = sym (run_none m c (round_is c x none e f))
      go (some d) f = halves d f (inside d x) refl

  -- From a cut of the right set on, the short way comes to the same in as many rounds.
  pub quick_on-run : (m : ℕ) (d : Cut) → In K T d → event_count K < m + total d → quick_on S T m d ≡ run S T m d
  unfolding quick_on next_left unless_same
  quick_on-run zero d u h = absurd (omega (arith, total_⊑ d (full K) (⊑-full K d u.0)))
  quick_on-run (suc m) d u h = go (λ y v t. quick_on-run m y v (omega arith)) (raise S d) refl
    where
      half : ((y : Cut) → In K T y → total d < total y → quick_on S T m y ≡ run S T m y) → (x : Cut) → raise S d ≡ some x → (b : Bool) → inside x d ≡ b → unless_same (quick_on S T m) T d x b ≡ run S T (suc m) d
      half ih x e true q = sym (run-still m d (kept d u (subst (λ y. raise S d ≡ some y) (raise_same K S gs d x u.0 e q) e)))
      half ih x e false q = right-run m d x u.0 h e ih

      go : ((y : Cut) → In K T y → total d < total y → quick_on S T m y ≡ run S T m y) → (o : Option Cut) → raise S d ≡ o → next_left (quick_on S T m) T d o ≡ run S T (suc m) d
      go ih none e = sym (run_none m d (round-none d e))
      go ih (some x) e = half ih x e (inside x d) refl

  -- So does a start from any consistent cut.
  pub quick_run : (m : ℕ) (c : Cut) → Consistent K c → event_count K < suc m + total c → after_left (quick_on S T m) T c (raise S c) ≡ run S T (suc m) c
  unfolding after_left
  quick_run m c p h = go (raise S c) refl
    where
      go : (o : Option Cut) → raise S c ≡ o → after_left (quick_on S T m) T c o ≡ run S T (suc m) c
      go none e = sym (run_none m c (round-none c e))
      go (some x) e = right-run m c x p h e (λ d u t. quick_on-run m d u (omega arith))
