-- Consistent cuts: the test, clocks, join and meet.
use mathlib.Core.Path.{◌≡◌, sym, ◌∙◌}
use mathlib.Core.Logic.{◌↔◌}
use Prim.Native.Nat.{ℕ, zero, suc, ◌≤◌, ◌<◌}
use native.Mathlib.Omega.{arith}
use native.Mathlib.Decide.{dec_le, dec_lt, ℕ_discrete}
use mathlib.Core.Bool.{true}
use mathlib.Core.List.{[]}
use lib.ListN.{length, length-replicate, length-map, get_or-map, get_or-eq_default}
use lib.Dec.{leb, eqb}
use borrow.Author.Tests.{eqb-true, eq-eqb}
use Rattle.model.specs.Lists.{every}
use Rattle.model.specs.Cut.{Cut, ◌!◌, ◌⊑◌, empty, inside, join, meet}
use Rattle.model.specs.Computation.{Computation, Consistent, stations, count, full, event_count, clock, known, is_consistent}
use Rattle.lattice.proofs.Valid.{Valid, GoodClock}
use Rattle.lattice.proofs.Tests.{and-true, and_iff, leb_iff, every_to, every_from}
use Rattle.lattice.proofs.Cuts.{refl⊑, trans⊑, antisym⊑, inside_⊑, ⊑-inside, join-at, meet-at, length-join, length_meet, join-left, join-right, meet-greatest, meet_left, meet_right, empty-at, empty_⊑, at-total}

-- Consistent cuts that contain each other are the same.
pub same_cut : (K : Computation) (c d : Cut) → Consistent K c → Consistent K d → c ⊑ d → d ⊑ c → c ≡ d
same_cut K c d p q = antisym⊑ c d (p.size ∙ sym q.size)

-- The full cut counts all events, and contains every consistent cut.
pub full_at : (K : Computation) (j : ℕ) → full K ! j ≡ count K j
full_at K j = get_or-map length K.events j []

-- No station has more events than all together.
pub count-le : (K : Computation) (j : ℕ) → count K j ≤ event_count K
count-le K j = omega (arith, full_at K j, at-total (full K) j)

pub ⊑-full : (K : Computation) (c : Cut) → Consistent K c → c ⊑ full K
⊑-full K c p j = omega (arith, full_at K j, p.within j)

pub clock-zero : (K : Computation) (j : ℕ) (c : Cut) → clock K j 0 ⊑ c
unfolding clock
clock-zero K j c = empty_⊑ (stations K) c

-- What the test of the event k of station j says.
pub known_iff : (K : Computation) (v : Cut) (j k : ℕ) → (known K v j k ≡ true) ↔ ((k ≤ count K j) × (clock K j k ⊑ v))
unfolding known
known_iff K v j k = and_iff (leb k (count K j)) (inside (clock K j k) v) (leb_iff k (count K j)) (inside_⊑ (clock K j k) v, ⊑-inside (clock K j k) v)

-- The test says whether a cut is consistent.
pub consistent_iff : (K : Computation) (c : Cut) → (is_consistent K c ≡ true) ↔ Consistent K c
unfolding is_consistent
consistent_iff K c = (to, from)
  where
    past : length c ≡ stations K → (j : ℕ) → stations K ≤ j → c ! j ≡ 0
    past e j h = get_or-eq_default c 0 {n = j} (omega arith)

    to : is_consistent K c ≡ true → Consistent K c
    to h = record { size = size; within = λ j. within j (dec_lt j (stations K)); closed = λ j. closed j (dec_lt j (stations K)) }
      where
        size : length c ≡ stations K
        size = eqb-true (length c) (stations K) ((and-true (eqb (length c) (stations K)) (every (stations K) (λ j. known K c j (c ! j)))).0 h).0

        at : (j : ℕ) → j < stations K → (c ! j ≤ count K j) × (clock K j (c ! j) ⊑ c)
        at j l = (known_iff K c j (c ! j)).0 (every_to (stations K) (λ i. known K c i (c ! i)) ((and-true (eqb (length c) (stations K)) (every (stations K) (λ i. known K c i (c ! i)))).0 h).1 j l)

        within : (j : ℕ) → Dec (j < stations K) → c ! j ≤ count K j
        within j (yes l) = (at j l).0
        within j (no l) = omega (arith, past size j (omega arith))

        closed : (j : ℕ) → Dec (j < stations K) → clock K j (c ! j) ⊑ c
        closed j (yes l) = (at j l).1
        closed j (no l) = rw (past size j (omega arith)) (clock-zero K j c)

    from : Consistent K c → is_consistent K c ≡ true
    from p = (and-true (eqb (length c) (stations K)) (every (stations K) (λ j. known K c j (c ! j)))).1 (
      eq-eqb (length c) (stations K) p.size,
      every_from (stations K) (λ j. known K c j (c ! j)) (λ j l. (known_iff K c j (c ! j)).1 (p.within j, p.closed j)),
    )

module _ (K : Computation) (ok : Valid K) where
  pub empty-consistent : Consistent K (empty (stations K))
  empty-consistent = record {
    size = length-replicate (stations K) 0;
    within = λ j. omega (arith, empty-at (stations K) j);
    closed = λ j. rw (empty-at (stations K) j) (clock-zero K j (empty (stations K)));
  }

  -- The clock of event k of station j counts k of that station.
  pub clock-own : (j k : ℕ) → k ≤ count K j → clock K j k ! j ≡ k
  unfolding clock
  clock-own j zero h = empty-at (stations K) j
  clock-own j (suc k) h = (ok.clocks j k h).own

  -- Clocks are consistent cuts.
  pub clock-consistent : (j k : ℕ) → k ≤ count K j → Consistent K (clock K j k)
  unfolding clock
  clock-consistent j zero h = empty-consistent
  clock-consistent j (suc k) h = record { size = g.size; within = g.within; closed = λ i. at i (ℕ_discrete i j) }
    where
      v : Cut
      v = clock K j (suc k)

      g : GoodClock K j k v
      g = ok.clocks j k h

      at : (i : ℕ) → Dec (i ≡ j) → clock K i (v ! i) ⊑ v
      at i (yes e) = rw (e, g.own) (refl⊑ v)
      at i (no n) = g.others i n

  -- Later clocks contain earlier ones.
  pub clock_grows : (j k m : ℕ) → k ≤ m → m ≤ count K j → clock K j k ⊑ clock K j m
  clock_grows j zero m h l = clock-zero K j (clock K j m)
  clock_grows j (suc k) zero h l = absurd (omega arith)
  clock_grows j (suc k) (suc m) h l = step (dec_le (suc m) (suc k)) (clock_grows j (suc k) m)
    where
      step : Dec (suc m ≤ suc k) → (suc k ≤ m → m ≤ count K j → clock K j (suc k) ⊑ clock K j m) → clock K j (suc k) ⊑ clock K j (suc m)
      step (yes e) r = let e' : k ≡ m = omega arith in rw e' (refl⊑ (clock K j (suc m)))
      step (no n) r = trans⊑ (clock K j (suc k)) (clock K j m) (clock K j (suc m)) (r (omega arith) (omega arith)) (ok.clocks j m l).before

  -- The clock of an event is the least consistent cut that holds it.
  pub clock-least : (j k : ℕ) (c : Cut) → Consistent K c → k ≤ c ! j → clock K j k ⊑ c
  clock-least j k c p h = trans⊑ (clock K j k) (clock K j (c ! j)) c (clock_grows j k (c ! j) h (p.within j)) (p.closed j)

  -- Join and meet of consistent cuts are consistent.
  pub join-consistent : (c d : Cut) → Consistent K c → Consistent K d → Consistent K (join c d)
  join-consistent c d p q = record {
    size = omega (arith, length-join c d, p.size, q.size);
    within = λ j. omega (arith, join-at c d j, p.within j, q.within j);
    closed = λ j. at j (dec_le (c ! j) (d ! j));
  }
    where
      at : (j : ℕ) → Dec (c ! j ≤ d ! j) → clock K j (join c d ! j) ⊑ join c d
      at j (yes h) = let e : join c d ! j ≡ d ! j = omega (arith, join-at c d j) in
          rw e (trans⊑ (clock K j (d ! j)) d (join c d) (q.closed j) (join-right c d))
      at j (no h) = let e : join c d ! j ≡ c ! j = omega (arith, join-at c d j) in
          rw e (trans⊑ (clock K j (c ! j)) c (join c d) (p.closed j) (join-left c d))

  pub meet-consistent : (c d : Cut) → Consistent K c → Consistent K d → Consistent K (meet c d)
  meet-consistent c d p q = record {
    size = length_meet c d ∙ p.size;
    within = λ j. omega (arith, meet-at c d j, p.within j);
    closed = λ j. meet-greatest c d (clock K j (meet c d ! j)) (clock-least j (meet c d ! j) c p (meet_left c d j)) (clock-least j (meet c d ! j) d q (meet_right c d j));
  }

  pub full-consistent : Consistent K (full K)
  full-consistent = record {
    size = length-map K.events length ∙ ok.sizes;
    within = λ j. omega (arith, full_at K j);
    closed = λ j. rw (full_at K j) (⊑-full K (clock K j (count K j)) (clock-consistent j (count K j) (omega arith)));
  }
