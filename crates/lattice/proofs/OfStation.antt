-- Sets that raise a cut by an event of one station: those of an atom that looks at its count; and the set of all cuts, by each station.
use mathlib.Core.Path.{◌≡◌, refl, ap, sym, ◌∙◌}
use Prim.Native.Nat.{ℕ, suc, ◌-◌, ◌≤◌}
use native.Mathlib.Omega.{arith}
use mathlib.Core.Bool.{Bool, true}
use mathlib.Core.Option.{Option, none, some}
use mathlib.Core.List.{List, []}
use Rattle.model.specs.declared.Aspect.{Aspect}
use Rattle.model.specs.Cut.{Cut, ◌!◌, ◌⊑◌, empty}
use Rattle.model.specs.Computation.{Computation, Consistent, stations, count, clock, report}
use Rattle.model.specs.Atom.{seen, next, up_to, raise_to, passes, raise_atom}
use Rattle.model.specs.Atom.Atom.{in_range}
use Rattle.model.specs.Structure.{Structure, row, raise, build}
use Rattle.lattice.specs.OfStation.{OfStation, count_in, own_row, OfOwnRows}
use Rattle.lattice.proofs.Valid.{Valid}
use Rattle.lattice.proofs.Lists.{All}
use Rattle.lattice.proofs.Consistency.{clock-own, clock-consistent}
use Rattle.lattice.proofs.Structures.{Least, Regular, Represents, raise-least, table, table_represents}
use Rattle.lattice.proofs.Sets.{all_regular, all_least, First, next-first, join-own, passes_regular, passes-least}
use Rattle.lattice.proofs.Shortcuts.{least_same}
use Rattle.lattice.proofs.Joins.{join-inside}
use Rattle.lattice.proofs.Built.{build_all}

-- The first event from count k on that passes a test is one of s.
first-within : (K : Computation) (s : ℕ) (p : ℕ → Bool) (k : ℕ) (o : Option ℕ) → k ≤ count K s → First p (suc (count K s) - k) k o → (i : ℕ) → o ≡ some i → (k ≤ i) × (i ≤ count K s)
first-within K s p k none h f i e = let z : ◌≡◌ {A = ℕ} 0 1 = cc in absurd (omega arith)
first-within K s p k (some j) h f i e = let z : j ≡ i = cc in (omega (arith, f.0), omega (arith, f.0, f.1))

-- A set whose cuts are raised by the first event of s that passes a test is of station s, even if the test depends on the cut.
pub of_next : (K : Computation) (s : ℕ) (p : Cut → ℕ → Bool) (A : Structure) → ((c : Cut) → Consistent K c → raise A c ≡ raise_to K s (p c) c)
    → OfStation K s (λ c. next (p c) (suc (count K s) - c ! s) (c ! s)) A
unfolding raise_to
of_next K s p A e = record {
  raises = e;
  onward = λ c k q. first-within K s (p c) (c ! s) (next (p c) (suc (count K s) - c ! s) (c ! s)) (q.within s) (next-first (p c) (suc (count K s) - c ! s) (c ! s)) k;
}

module _ (K : Computation) (ok : Valid K) (s : ℕ) (p : ℕ → Bool) where
  -- That event is counted in a clock of s once it is raised.
  count_raised : (k : ℕ) → k ≤ count K s → count_in s (raise_to K s p (clock K s k)) ≡ next p (suc (count K s) - k) k
  unfolding raise_to up_to count_in
  count_raised k h = rw (clock-own K ok s k h) (go (next p (suc (count K s) - k) k) (next-first p (suc (count K s) - k) k))
    where
      go : (o : Option ℕ) → First p (suc (count K s) - k) k o → count_in s (up_to K s (clock K s k) o) ≡ o
      go none f = refl
      go (some i) f = let w = first-within K s p k (some i) h f i refl in ap some (join-own K ok s (clock K s k) i (omega (arith, w.0, clock-own K ok s k h)) w.1)

  -- So it stands in the set's own rows, if the test does not depend on the cut.
  pub of_station : (A : Structure) → ((c : Cut) → Consistent K c → raise A c ≡ raise_to K s p c) → ((k : ℕ) → k ≤ count K s → row A s k ≡ raise_to K s p (clock K s k)) → OfOwnRows K s A
  of_station A e r = record { raises = λ c q. o.raises c q ∙ ap (up_to K s c) (sym (own c q)); onward = λ c k q h. o.onward c k q (sym (own c q) ∙ h) }
    where
      o : OfStation K s (λ c. next p (suc (count K s) - c ! s) (c ! s)) A
      o = of_next K s (λ c. p) A e

      own : (c : Cut) → Consistent K c → own_row A s c ≡ next p (suc (count K s) - c ! s) (c ! s)
      own c q = ap (count_in s) (r (c ! s) (q.within s)) ∙ count_raised (c ! s) (q.within s)

  -- So is what build makes of a function that raises them so.
  pub build-station : {P : Cut → Type 0} → Regular K P → (f : Cut → Option Cut) → ((c : Cut) → Consistent K c → Least P (λ e. c ⊑ e) (f c)) → ((c : Cut) → Consistent K c → f c ≡ raise_to K s p c)
      → (bars : List Cut) → All (OfOwnRows K s) (build K f bars)
  build-station {P} reg f fl fe bars = build_all K f bars made
    where
      made : (l : Cut) → f (empty (stations K)) ≡ some l → OfOwnRows K s (table K f bars l)
      made l e = of_station (table K f bars l)
          (λ c q. least_same K (λ x. c ⊑ x) reg.consistent _ (f c) (raise-least K ok reg (table K f bars l) rep c q) (fl c q) ∙ fe c q)
          (λ k h. let q = clock-consistent K ok s k h in least_same K (λ x. clock K s k ⊑ x) reg.consistent _ (f (clock K s k)) (rep.rows-least s k h) (fl (clock K s k) q) ∙ fe (clock K s k) q)
        where
          rep : Represents K (table K f bars l) P
          rep = table_represents K ok P f fl bars l e

module _ (K : Computation) (ok : Valid K) where
  -- The structure of a range.
  pub literal-station : (b : Bool) (a : Aspect) (s lo hi : ℕ) → All (OfOwnRows K s) (build K (raise_atom K b (in_range a s lo hi)) [])
  unfolding raise_atom
  literal-station b a s lo hi = build-station K ok s p (passes_regular K ok s p) (raise_to K s p) (passes-least K ok s p) (λ c q. refl) []
    where
      p : ℕ → Bool
      p k = passes b a lo hi (seen a (report K s k))

  -- The structure of all cuts, whatever the bars.
  pub all_station : (s : ℕ) (bars : List Cut) → All (OfOwnRows K s) (build K some bars)
  unfolding raise_to up_to next
  all_station s bars = build-station K ok s (λ k. true) (all_regular K ok) some (all_least K ok) stays bars
    where
      stays : (c : Cut) → Consistent K c → some c ≡ raise_to K s (λ k. true) c
      stays c q = let l : suc (count K s) - c ! s ≡ suc (count K s - c ! s) = omega (arith, q.within s) in
          rw l (ap some (sym (join-inside K ok c (clock K s (c ! s)) q (clock-consistent K ok s (c ! s) (q.within s)) (q.closed s))))
