-- One more event whose clock passes the test keeps a computation valid, and so does one more message.
use mathlib.Core.Path.{◌≡◌, refl, sym, ◌∙◌}
use mathlib.Core.Logic.{◌≢◌, inl, inr}
use Prim.Native.Nat.{ℕ, zero, suc, ◌-◌, ◌≤◌, ◌<◌}
use native.Mathlib.Decide.{ℕ_discrete, dec_le, dec_lt}
use native.Mathlib.Omega.{arith}
use mathlib.Core.Bool.{true}
use mathlib.Core.List.{List}
use lib.ListN.{length, get_or-eq_default}
use lib.Dec.{eqb}
use borrow.Author.Tests.{eqb-true, eq-eqb, ne_eqb}
use Rattle.model.specs.Lists.{every}
use Rattle.model.specs.Cut.{Cut, ◌!◌, ◌⊑◌}
use Rattle.model.specs.Computation.{Report, Event, Message, Computation, stations, count, clock, known, counted, clock_ok, message_ok}
use Rattle.model.specs.Reading.{opened, extended, informed}
use Rattle.lattice.proofs.Valid.{GoodClock, GoodMessage, Valid}
use Rattle.lattice.proofs.Lists.{All, all_map, all_append}
use Rattle.lattice.proofs.Lists.All.{done, also}
use Rattle.lattice.proofs.Tests.{and-true, every_to}
use Rattle.lattice.proofs.MessageRule.{message_ok_iff}
use Rattle.lattice.proofs.Consistency.{clock-zero, known_iff, clock-consistent}
use Rattle.lattice.proofs.Histories.{stations-opened, length-opened, count-opened, stations-extended, length-extended, count_same, count_grows, old_or-new, clock-none, clock_old, clock-new}

counted-own : (s : ℕ) (v : Cut) → counted s v s ≡ v ! s - 1
unfolding counted
counted-own s v = rw (eq-eqb s s refl)

pub counted-other : (s : ℕ) (v : Cut) (j : ℕ) → j ≢ s → counted s v j ≡ v ! j
unfolding counted
counted-other s v j d = rw (ne_eqb j s d)

-- What the test of a clock says of each station.
module _ (K : Computation) (s : ℕ) (v : Cut) (sized : length v ≡ stations K) (ok : clock_ok K s v ≡ true) where
  pub tests : (v ! s ≡ suc (count K s)) × ((j : ℕ) → j < stations K → known K v j (counted s v j) ≡ true)
  unfolding clock_ok
  tests =
      let h = (and-true (eqb (v ! s) (suc (count K s))) (every (stations K) (λ j. known K v j (counted s v j)))).0 ok in
      (eqb-true (v ! s) (suc (count K s)) h.0, every_to (stations K) (λ j. known K v j (counted s v j)) h.1)

  own-entry : v ! s ≡ suc (count K s)
  own-entry = tests.0

  own-before : s < stations K → clock K s (count K s) ⊑ v
  own-before l =
      let is : counted s v s ≡ count K s = omega (arith, counted-own s v, own-entry) in
      rw is at ((known_iff K v s (counted s v s)).0 (tests.1 s l)).1

  other-entry : (j : ℕ) → j ≢ s → (v ! j ≤ count K j) × (clock K j (v ! j) ⊑ v)
  other-entry j d =
      elim (dec_lt j (stations K)) [
        | yes l ↦ rw (counted-other s v j d) at ((known_iff K v j (counted s v j)).0 (tests.1 j l))
        | no l ↦
            let past : v ! j ≡ 0 = get_or-eq_default v 0 (omega arith) in
            rw past (omega arith, clock-zero K j v)
      ]

-- A header brings no clocks and no messages.
pub opened-valid : (reports : List Report) → Valid (opened reports)
unfolding opened
opened-valid reports = record { sizes = length-opened reports ∙ sym (stations-opened reports); clocks = λ j k h. absurd (omega (arith, count-opened reports j)); messages = none }
  where
    none : All (GoodMessage (opened reports)) (opened reports).messages
    none = done

-- One more event: the old clocks stay good, since counts only grow, and the new one is good, since it passed the test.
module _ (K : Computation) (s : ℕ) (e : Event) (there : s < length K.events) (valid : Valid K) where
  old_good : (j k : ℕ) → k < count K j → GoodClock (extended K s e) j k (clock (extended K s e) j (suc k))
  old_good j k h =
      let good = valid.clocks j k h in
      rw (clock_old K s e there j (suc k) h) (record {
        size = good.size ∙ sym (stations-extended K s e);
        own = good.own;
        within = λ i. omega (arith, good.within i, count_grows K s e there i);
        before = rw (clock_old K s e there j k (omega arith)) good.before;
        others = λ i d. rw (clock_old K s e there i (clock K j (suc k) ! i) (good.within i)) (good.others i d);
      })

  kept : All (GoodMessage (extended K s e)) (extended K s e).messages
  unfolding extended
  kept = all_map (λ m g. record { received = omega (arith, g.received, count_grows K s e there m.receiver); apart = g.apart }) valid.messages

  module _ (sized : length e.clock ≡ stations K) (ok : clock_ok K s e.clock ≡ true) where
    new-within : (i : ℕ) → e.clock ! i ≤ count (extended K s e) i
    new-within i =
        elim (ℕ_discrete i s) [
          | yes p ↦ rw p (omega (arith, own-entry K s e.clock sized ok, count_same K s e there))
          | no d ↦ omega (arith, (other-entry K s e.clock sized ok i d).0, count_grows K s e there i)
        ]

    new-good : GoodClock (extended K s e) s (count K s) e.clock
    new-good = record {
      size = sized ∙ sym (stations-extended K s e);
      own = own-entry K s e.clock sized ok;
      within = new-within;
      before = rw (clock_old K s e there s (count K s) (omega arith)) (own-before K s e.clock sized ok (omega (arith, valid.sizes)));
      others = λ i d.
          let entry = other-entry K s e.clock sized ok i d in
          rw (clock_old K s e there i (e.clock ! i) entry.0) entry.1;
    }

    pub extended-valid : Valid (extended K s e)
    extended-valid = record { sizes = length-extended K s e ∙ valid.sizes ∙ sym (stations-extended K s e); clocks = good; messages = kept }
      where
        good : (j k : ℕ) → k < count (extended K s e) j → GoodClock (extended K s e) j k (clock (extended K s e) j (suc k))
        good j k h =
            elim (old_or-new K s e there j (suc k) h) [
              | inl l ↦ old_good j k l
              | inr p ↦
                  let is : k ≡ count K s = omega (arith, p.1) in
                  rw (p.0, is, clock-new K s e there) new-good
            ]

-- No clock counts more events of a station than there are.
pub entry_≤ : (K : Computation) → Valid K → (j k i : ℕ) → clock K j k ! i ≤ count K i
entry_≤ K valid j k i =
    elim (dec_le k (count K j)) [
      | yes l ↦ (clock-consistent K valid j k l).within i
      | no l ↦ rw (clock-none K j k (omega arith)) (omega arith)
    ]

-- A message changes no clock.
pub clock-informed : (K : Computation) (m : Message) (j k : ℕ) → clock (informed K m) j k ≡ clock K j k
unfolding informed clock
clock-informed K m j zero = refl
clock-informed K m j (suc k) = refl

-- One more message that passes the test.
pub informed-valid : (K : Computation) (m : Message) → Valid K → message_ok K m ≡ true → Valid (informed K m)
unfolding informed
informed-valid K m valid h = record { sizes = valid.sizes; clocks = clocks; messages = all_map (λ x g. record { received = g.received; apart = g.apart }) (all_append valid.messages (also good done)) }
  where
    clocks : (j k : ℕ) → k < count K j → GoodClock (informed K m) j k (clock (informed K m) j (suc k))
    clocks j k l = let g = valid.clocks j k l in
        rw (clock-informed K m j (suc k)) (record {
          size = g.size;
          own = g.own;
          within = g.within;
          before = rw (clock-informed K m j k) g.before;
          others = λ i d. rw (clock-informed K m i (clock K j (suc k) ! i)) (g.others i d);
        })

    good : GoodMessage K m
    good = let s = (message_ok_iff K m).0 h in record { received = s.received-there; apart = s.apart }
