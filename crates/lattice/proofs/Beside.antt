-- Two computations side by side: what of each stands where, and a cut is consistent exactly if its two parts are.
use mathlib.Core.Path.{◌≡◌, refl, sym, ap, ap₂, subst, ◌∙◌}
use mathlib.Core.Logic.{◌↔◌}
use Prim.Native.Nat.{ℕ, zero, suc, ◌+◌, ◌-◌, ◌≤◌, ◌<◌, max}
use native.Mathlib.Omega.{arith}
use native.Mathlib.Decide.{dec_lt}
use mathlib.Core.List.{List, [], ◌∷◌, ◌++◌, map, append-nil, map-append}
use lib.ListN.{length, get_or, take, drop, length-append, length-map, length-replicate, replicate-append-replicate, take-append-drop, get_or-append, get_or-eq_default, get_or-map}
use lib.Seq.{get_or-append-add, length-take-le}
use Rattle.model.specs.Lists.{sum, total}
use Rattle.model.specs.Cut.{Cut, ◌!◌, ◌⊑◌, empty, join}
use Rattle.model.specs.Computation.{Event, Message, Computation, Consistent, stations, history, count, full, event_count, no_report, no_event, clock, report}
use Rattle.model.specs.Beside.{padded, numbered_on, beside}
use Rattle.lattice.proofs.Valid.{Valid, GoodClock, GoodMessage}
use Rattle.lattice.proofs.Lists.{All, all_append, all_map, all_to_map}
use Rattle.lattice.proofs.Cuts.{empty-at}
use Rattle.lattice.proofs.Structures.{get_or-map-lt}
use Rattle.lattice.proofs.Consistency.{clock-zero, clock-consistent, empty-consistent}

-- CUTS OF TWO PARTS

module _ (c d : Cut) where
  pub left_at : (j : ℕ) → j < length c → (c ++ d) ! j ≡ c ! j
  left_at j h = get_or-append c d 0 j h

  pub right-at : {n : ℕ} → length c ≡ n → (j : ℕ) → (c ++ d) ! (n + j) ≡ d ! j
  right-at e j = rw (← e) (get_or-append-add c d j 0)

-- Counts of 0 behind a cut or before it.
pub behind-at : (v : Cut) (b j : ℕ) → (v ++ empty b) ! j ≡ v ! j
behind-at [] b j = empty-at b j
behind-at (x ∷ v) b zero = refl
behind-at (x ∷ v) b (suc j) = behind-at v b j

pub before_at : (a : ℕ) (v : Cut) (j : ℕ) → (empty a ++ v) ! (a + j) ≡ v ! j
before_at a v j = right-at (empty a) v (length-replicate a 0) j

pub before-below : (a : ℕ) (v : Cut) (j : ℕ) → j < a → (empty a ++ v) ! j ≡ 0
before-below a v j h = left_at (empty a) v j (omega (arith, length-replicate {A = ℕ} a 0)) ∙ empty-at a j

-- A number from n on is n and what it is above.
pub past : (n j : ℕ) → (j < n → ⊥) → j ≡ n + (j - n)
past n j h = omega arith

-- Containment and join go by parts.
pub contained_parts : (c c' d d' : Cut) → length c ≡ length c' → (c ++ d ⊑ c' ++ d') ↔ ((c ⊑ c') × (d ⊑ d'))
contained_parts c c' d d' e = (λ h. (λ j. left h j (dec_lt j (length c)), λ j. right h j), λ h j. both h j (dec_lt j (length c)))
  where
    left : c ++ d ⊑ c' ++ d' → (j : ℕ) → Dec (j < length c) → c ! j ≤ c' ! j
    left h j (yes l) = omega (arith, h j, left_at c d j l, left_at c' d' j (omega arith))
    left h j (no l) = omega (arith, get_or-eq_default c 0 {n = j} (omega arith))

    right : c ++ d ⊑ c' ++ d' → (j : ℕ) → d ! j ≤ d' ! j
    right h j = omega (arith, h (length c' + j), right-at c d e j, right-at c' d' refl j)

    both : (c ⊑ c') × (d ⊑ d') → (j : ℕ) → Dec (j < length c) → (c ++ d) ! j ≤ (c' ++ d') ! j
    both h j (yes l) = omega (arith, h.0 j, left_at c d j l, left_at c' d' j (omega arith))
    both h j (no l) = rw (past (length c) j l) (omega (arith, h.1 (j - length c), right-at c d refl (j - length c), right-at c' d' (sym e) (j - length c)))

pub join-parts : (c c' d d' : Cut) → length c ≡ length c' → join (c ++ d) (c' ++ d') ≡ join c c' ++ join d d'
unfolding join
join-parts [] [] d d' e = refl
join-parts [] (y ∷ c') d d' e = absurd (omega arith)
join-parts (x ∷ c) [] d d' e = absurd (omega arith)
join-parts (x ∷ c) (y ∷ c') d d' e = ap (λ (l : Cut). max x y ∷ l) (join-parts c c' d d' (omega arith))

pub total-parts : (c d : Cut) → total (c ++ d) ≡ total c + total d
unfolding sum
total-parts [] d = omega arith
total-parts (x ∷ c) d = omega (arith, total-parts c d)

-- HISTORIES

report-padded : (a b : ℕ) (l : List Event) (k : ℕ) → (get_or (map (padded a b) l) k no_event).report ≡ (get_or l k no_event).report
report-padded a b [] k = refl
report-padded a b (e ∷ l) zero = refl
report-padded a b (e ∷ l) (suc k) = report-padded a b l k

module _ (K L : Computation) where
  pub stations-beside : stations (beside K L) ≡ stations K + stations L
  unfolding beside
  stations-beside = length-append K.initial L.initial

  pub full-beside : full (beside K L) ≡ full K ++ full L
  unfolding beside
  full-beside = map-append length (map (map (padded 0 (stations L))) K.events) (map (map (padded (stations K) 0)) L.events) ∙ ap₂ ◌++◌ (lengths (padded 0 (stations L)) K.events) (lengths (padded (stations K) 0) L.events)
    where
      lengths : (f : Event → Event) (l : List (List Event)) → map length (map (map f) l) ≡ map length l
      lengths f [] = refl
      lengths f (h ∷ l) = ap₂ (λ (x : ℕ) (m : List ℕ). x ∷ m) (length-map h f) (lengths f l)

  pub event_count-beside : event_count (beside K L) ≡ event_count K + event_count L
  event_count-beside = ap total full-beside ∙ total-parts (full K) (full L)

  pub messages-beside : length (beside K L).messages ≡ length K.messages + length L.messages
  unfolding beside
  messages-beside = length-append K.messages _ ∙ ap (λ (x : ℕ). length K.messages + x) (length-map L.messages _)

  sizes-beside : length K.events ≡ stations K → length L.events ≡ stations L → length (beside K L).events ≡ stations (beside K L)
  unfolding beside
  sizes-beside h g =
      length-append (map (map (padded 0 (stations L))) K.events) (map (map (padded (stations K) 0)) L.events)
      ∙ ap₂ ◌+◌ (length-map K.events _ ∙ h) (length-map L.events _ ∙ g)
      ∙ sym (length-append K.initial L.initial)

module _ (K L : Computation) (sizes : length K.events ≡ stations K) where
  -- Of the first, whose stations come first.
  pub history-first : (j : ℕ) → j < stations K → history (beside K L) j ≡ map (padded 0 (stations L)) (history K j)
  unfolding beside
  history-first j h = get_or-append (map (map (padded 0 (stations L))) K.events) _ [] j (omega (arith, length-map K.events (map (padded 0 (stations L))))) ∙ get_or-map (map (padded 0 (stations L))) K.events j []

  pub count-first : (j : ℕ) → j < stations K → count (beside K L) j ≡ count K j
  count-first j h = ap length (history-first j h) ∙ length-map (history K j) (padded 0 (stations L))

  pub clock-first : (j k : ℕ) → j < stations K → k ≤ count K j → clock (beside K L) j k ≡ clock K j k ++ empty (stations L)
  unfolding clock
  clock-first j zero h l = ap empty (stations-beside K L) ∙ sym (replicate-append-replicate (stations K) (stations L) 0)
  clock-first j (suc k) h l = ap (λ (m : List Event). (get_or m k no_event).clock) (history-first j h) ∙ ap (λ (e : Event). e.clock) (get_or-map-lt (padded 0 (stations L)) (history K j) k no_event no_event (omega arith))

  initial-first : (j : ℕ) → j < stations K → get_or (beside K L).initial j no_report ≡ get_or K.initial j no_report
  unfolding beside
  initial-first j h = get_or-append K.initial L.initial no_report j h

  pub report-first : (j k : ℕ) → j < stations K → report (beside K L) j k ≡ report K j k
  unfolding report
  report-first j zero h = initial-first j h
  report-first j (suc k) h = ap (λ (m : List Event). (get_or m k no_event).report) (history-first j h) ∙ report-padded 0 (stations L) (history K j) k

  -- Of the second, whose stations are numbered on.
  pub history-second : (j : ℕ) → history (beside K L) (stations K + j) ≡ map (padded (stations K) 0) (history L j)
  unfolding beside
  history-second j =
      let e : length (map (map (padded 0 (stations L))) K.events) ≡ stations K = length-map K.events _ ∙ sizes in
      ap (λ (n : ℕ). get_or (map (map (padded 0 (stations L))) K.events ++ map (map (padded (stations K) 0)) L.events) (n + j) []) (sym e)
      ∙ get_or-append-add (map (map (padded 0 (stations L))) K.events) (map (map (padded (stations K) 0)) L.events) j []
      ∙ get_or-map (map (padded (stations K) 0)) L.events j []

  pub count-second : (j : ℕ) → count (beside K L) (stations K + j) ≡ count L j
  count-second j = ap length (history-second j) ∙ length-map (history L j) (padded (stations K) 0)

  pub clock-second : (j k : ℕ) → k ≤ count L j → clock (beside K L) (stations K + j) k ≡ empty (stations K) ++ clock L j k
  unfolding clock
  clock-second j zero l = ap empty (stations-beside K L) ∙ sym (replicate-append-replicate (stations K) (stations L) 0)
  clock-second j (suc k) l =
      ap (λ (m : List Event). (get_or m k no_event).clock) (history-second j)
      ∙ ap (λ (e : Event). e.clock) (get_or-map-lt (padded (stations K) 0) (history L j) k no_event no_event (omega arith))
      ∙ ap (λ (v : Cut). empty (stations K) ++ v) (append-nil (get_or (history L j) k no_event).clock)

-- CONSISTENT CUTS

module _ (K L : Computation) (ok : Valid K) where
  -- Two consistent parts make a consistent cut.
  pub both-consistent : (c d : Cut) → Consistent K c → Consistent L d → Consistent (beside K L) (c ++ d)
  both-consistent c d p q = record {
    size = length-append c d ∙ ap₂ ◌+◌ p.size q.size ∙ sym (stations-beside K L);
    within = λ j. within j (dec_lt j (stations K));
    closed = λ j. closed j (dec_lt j (stations K));
  }
    where
      within : (j : ℕ) → Dec (j < stations K) → (c ++ d) ! j ≤ count (beside K L) j
      within j (yes l) = omega (arith, p.within j, left_at c d j (omega (arith, p.size)), count-first K L ok.sizes j l)
      within j (no l) = rw (past (stations K) j l) (omega (arith, q.within (j - stations K), right-at c d p.size (j - stations K), count-second K L ok.sizes (j - stations K)))

      closed : (j : ℕ) → Dec (j < stations K) → clock (beside K L) j ((c ++ d) ! j) ⊑ c ++ d
      closed j (yes l) = rw (left_at c d j (omega (arith, p.size)), clock-first K L ok.sizes j (c ! j) l (p.within j))
          ((contained_parts (clock K j (c ! j)) c (empty (stations L)) d ((clock-consistent K ok j (c ! j) (p.within j)).size ∙ sym p.size)).1 (p.closed j, λ i. omega (arith, empty-at (stations L) i)))
      closed j (no l) = rw (past (stations K) j l, right-at c d p.size (j - stations K), clock-second K L ok.sizes (j - stations K) (d ! (j - stations K)) (q.within (j - stations K)))
          ((contained_parts (empty (stations K)) c (clock L (j - stations K) (d ! (j - stations K))) d (length-replicate (stations K) 0 ∙ sym p.size)).1 (λ i. omega (arith, empty-at (stations K) i), q.closed (j - stations K)))

  -- The parts of a consistent cut are consistent.
  pub parts-consistent : (c d : Cut) → length c ≡ stations K → Consistent (beside K L) (c ++ d) → Consistent K c × Consistent L d
  parts-consistent c d e p = (record { size = e; within = λ j. within j (dec_lt j (stations K)); closed = λ j. closed j (dec_lt j (stations K)) }, record { size = size; within = within'; closed = closed' })
    where
      none : (j : ℕ) → (j < stations K → ⊥) → c ! j ≡ 0
      none j l = get_or-eq_default c 0 {n = j} (omega arith)

      within : (j : ℕ) → Dec (j < stations K) → c ! j ≤ count K j
      within j (yes l) = omega (arith, p.within j, left_at c d j (omega arith), count-first K L ok.sizes j l)
      within j (no l) = omega (arith, none j l)

      closed : (j : ℕ) → Dec (j < stations K) → clock K j (c ! j) ⊑ c
      closed j (yes l) =
          let s = (clock-consistent K ok j (c ! j) (within j (yes l))).size in
          let h : clock K j (c ! j) ++ empty (stations L) ⊑ c ++ d = subst (λ v. v ⊑ c ++ d) (clock-first K L ok.sizes j (c ! j) l (within j (yes l))) (rw (left_at c d j (omega arith)) at (p.closed j)) in
          ((contained_parts (clock K j (c ! j)) c (empty (stations L)) d (s ∙ sym e)).0 h).0
      closed j (no l) = rw (none j l) (clock-zero K j c)

      size : length d ≡ stations L
      size = omega (arith, p.size, stations-beside K L, length-append c d)

      within' : (j : ℕ) → d ! j ≤ count L j
      within' j = omega (arith, p.within (stations K + j), right-at c d e j, count-second K L ok.sizes j)

      closed' : (j : ℕ) → clock L j (d ! j) ⊑ d
      closed' j =
          let h : empty (stations K) ++ clock L j (d ! j) ⊑ c ++ d = subst (λ v. v ⊑ c ++ d) (clock-second K L ok.sizes j (d ! j) (within' j)) (rw (right-at c d e j) at (p.closed (stations K + j))) in
          ((contained_parts (empty (stations K)) c (clock L j (d ! j)) d (length-replicate (stations K) 0 ∙ sym e)).0 h).1

  -- A cut is consistent exactly if its first n counts are in the first, and the rest in the second.
  pub consistent-parts : (c : Cut) → Consistent (beside K L) c ↔ (Consistent K (take (stations K) c) × Consistent L (drop (stations K) c))
  consistent-parts c = (
    λ p. parts-consistent (take n c) (drop n c) (length-take-le n c (omega (arith, p.size, stations-beside K L))) (rw (take-append-drop n c) p),
    λ p. rw (take-append-drop n c) at (both-consistent (take n c) (drop n c) p.0 p.1),
  )
    where
      n : ℕ
      n = stations K

-- LAWS

module _ (K L : Computation) (ok : Valid K) (ok' : Valid L) where
  good-first : (j k : ℕ) → j < stations K → k < count K j → GoodClock (beside K L) j k (clock (beside K L) j (suc k))
  good-first j k h l = rw (clock-first K L ok.sizes j (suc k) h l) (record {
    size = p.size;
    own = behind-at (clock K j (suc k)) (stations L) j ∙ g.own;
    within = p.within;
    before = rw (clock-first K L ok.sizes j k h (omega arith)) (λ i. omega (arith, behind-at (clock K j k) (stations L) i, behind-at (clock K j (suc k)) (stations L) i, g.before i));
    others = λ i d. p.closed i;
  })
    where
      g : GoodClock K j k (clock K j (suc k))
      g = ok.clocks j k l

      p : Consistent (beside K L) (clock K j (suc k) ++ empty (stations L))
      p = both-consistent K L ok (clock K j (suc k)) (empty (stations L)) (clock-consistent K ok j (suc k) l) (empty-consistent L ok')

  good-second : (j k : ℕ) → k < count L j → GoodClock (beside K L) (stations K + j) k (clock (beside K L) (stations K + j) (suc k))
  good-second j k l = rw (clock-second K L ok.sizes j (suc k) l) (record {
    size = p.size;
    own = before_at (stations K) (clock L j (suc k)) j ∙ g.own;
    within = p.within;
    before = rw (clock-second K L ok.sizes j k (omega arith)) ((contained_parts (empty (stations K)) (empty (stations K)) (clock L j k) (clock L j (suc k)) refl).1 (λ i. omega arith, g.before));
    others = λ i d. p.closed i;
  })
    where
      g : GoodClock L j k (clock L j (suc k))
      g = ok'.clocks j k l

      p : Consistent (beside K L) (empty (stations K) ++ clock L j (suc k))
      p = both-consistent K L ok (empty (stations K)) (clock L j (suc k)) (empty-consistent K ok) (clock-consistent L ok' j (suc k) l)

  message_first : (x : Message) → GoodMessage K x → GoodMessage (beside K L) x
  message_first x g = record { received = received (dec_lt x.receiver (stations K)); apart = g.apart }
    where
      received : Dec (x.receiver < stations K) → x.received ≤ count (beside K L) x.receiver
      received (yes h) = omega (arith, g.received, count-first K L ok.sizes x.receiver h)
      received (no h) = omega (arith, g.received, ap length (get_or-eq_default K.events [] {n = x.receiver} (omega (arith, ok.sizes))))

  message_second : (x : Message) → GoodMessage L x → GoodMessage (beside K L) (numbered_on (stations K) x)
  message_second x g = record { received = omega (arith, g.received, count-second K L ok.sizes x.receiver); apart = λ e. g.apart (omega arith) }

  messages-good : All (GoodMessage (beside K L)) (beside K L).messages
  unfolding beside
  messages-good = (all_append (all_map message_first ok.messages) (all_to_map (numbered_on (stations K)) (all_map message_second ok'.messages)))

  -- Good clocks and good messages of both are so side by side.
  pub beside-valid : Valid (beside K L)
  beside-valid = record { sizes = sizes-beside K L ok.sizes ok'.sizes; clocks = λ j k h. clocks j k h (dec_lt j (stations K)); messages = messages-good }
    where
      clocks : (j k : ℕ) → k < count (beside K L) j → Dec (j < stations K) → GoodClock (beside K L) j k (clock (beside K L) j (suc k))
      clocks j k h (yes l) = good-first j k l (omega (arith, count-first K L ok.sizes j l))
      clocks j k h (no l) = let i = j - stations K in let e : stations K + i ≡ j = omega arith in
          subst (λ z. GoodClock (beside K L) z k (clock (beside K L) z (suc k))) e (good-second i k (omega (arith, count-second K L ok.sizes i, ap (count (beside K L)) e)))
