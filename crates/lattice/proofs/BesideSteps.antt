-- One more event, or one more message, of one of two computations side by side is one more of both: where it stands, and that it passes its rule.
use mathlib.Core.Path.{◌≡◌, refl, sym, ap, ap₂, subst, ◌∙◌}
use Prim.Native.Nat.{ℕ, zero, suc, ◌+◌, ◌-◌, ◌≤◌, ◌<◌}
use native.Mathlib.Omega.{arith}
use native.Mathlib.Decide.{dec_lt, ℕ_discrete}
use mathlib.Core.Bool.{true, cond}
use mathlib.Core.List.{List, [], ◌∷◌, ◌++◌, map, map-append}
use lib.ListN.{length, set, length-map, get_or-eq_default}
use lib.Seq.{set-append_left}
use lib.Dec.{eqb}
use borrow.Author.Tests.{eq-eqb, ne_eqb}
use Rattle.model.specs.Lists.{every}
use Rattle.model.specs.Cut.{Cut, ◌!◌, ◌⊑◌, empty}
use Rattle.model.specs.Computation.{Report, Event, Message, Computation, stations, history, count, clock, known, counted, clock_ok, message_ok}
use Rattle.model.specs.Reading.{opened, extended}
use Rattle.model.specs.Beside.{padded, numbered_on, beside}
use Rattle.lattice.proofs.Tests.{and-true, every_from}
use Rattle.lattice.proofs.Consistency.{clock-zero, known_iff}
use Rattle.lattice.proofs.Clocks.{tests, counted-other}
use Rattle.lattice.proofs.MessageRule.{message_ok_iff}
use Rattle.lattice.proofs.Beside.{behind-at, before_at, before-below, contained_parts, stations-beside, history-first, history-second, count-first, count-second, clock-first, clock-second}

-- LISTS

map-set : {A B : Type 0} (f : A → B) (l : List A) (i : ℕ) (x : A) → map f (set l i x) ≡ set (map f l) i (f x)
map-set f [] i x = refl
map-set f (y ∷ l) zero x = refl
map-set f (y ∷ l) (suc i) x = ap (λ m. f y ∷ m) (map-set f l i x)

set-second : {A : Type 0} (l m : List A) {n : ℕ} → length l ≡ n → (i : ℕ) (x : A) → set (l ++ m) (n + i) x ≡ l ++ set m i x
set-second [] m e i x = rw (← e) (ap (λ (k : ℕ). set m k x) (omega arith))
set-second (y ∷ l) m {n} e i x = let s : n + i ≡ suc (length l + i) = omega arith in rw s (ap (λ k. y ∷ k) (set-second l m refl i x))

map_const : {A B : Type 0} (v : List A) (f : B → B) → map (map f) (map (λ (x : A). []) v) ≡ map (λ (x : A). []) v
map_const [] f = refl
map_const (x ∷ v) f = ap (λ l. [] ∷ l) (map_const v f)

-- What the clock of a station numbered on counts last.
counted_on : (n s i : ℕ) (w v : Cut) → w ! (n + i) ≡ v ! i → counted (n + s) w (n + i) ≡ counted s v i
unfolding counted
counted_on n s i w v r =
    elim (ℕ_discrete i s) [
      | yes h ↦ rw (eq-eqb (n + i) (n + s) (omega arith), eq-eqb i s h, r) refl
      | no h ↦ rw (ne_eqb (n + i) (n + s) (λ z. h (omega arith)), ne_eqb i s h, r) refl
    ]

-- COMPUTATIONS

pub opened-beside : (v u : List Report) → opened (v ++ u) ≡ beside (opened v) (opened u)
unfolding opened beside
opened-beside v u = ap (λ (l : List (List Event)). record { initial = v ++ u; events = l; messages = [] })
    (map-append {B = List Event} (λ (x : Report). []) v u ∙ ap₂ ◌++◌ (sym (map_const v _)) (sym (map_const u _)))

module _ (K L : Computation) (sizes : length K.events ≡ stations K) where
  pub extended-first : (s : ℕ) (e : Event) → s < stations K → extended (beside K L) s (padded 0 (stations L) e) ≡ beside (extended K s e) L
  unfolding extended beside
  extended-first s e h =
      let p = padded 0 (stations L) in
      let X = map (map p) K.events in
      let Y = map (map (padded (stations K) 0)) L.events in
      ap (λ (l : List (List Event)). record { initial = K.initial ++ L.initial; events = l; messages = K.messages ++ map (numbered_on (stations K)) L.messages }) (
      ap (λ (l : List Event). set (X ++ Y) s (l ++ (p e ∷ []))) (history-first K L sizes s h)
      ∙ set-append_left X Y s (map p (history K s) ++ (p e ∷ [])) (omega (arith, length-map K.events (map p)))
      ∙ ap (λ (l : List Event). set X s l ++ Y) (sym (map-append p (history K s) (e ∷ [])))
      ∙ ap (λ (l : List (List Event)). l ++ Y) (sym (map-set (map p) K.events s (history K s ++ (e ∷ []))))
      )

  pub extended_second : (s : ℕ) (e : Event) → extended (beside K L) (stations K + s) (padded (stations K) 0 e) ≡ beside K (extended L s e)
  unfolding extended beside
  extended_second s e =
      let p = padded (stations K) 0 in
      let X = map (map (padded 0 (stations L))) K.events in
      let Y = map (map p) L.events in
      ap (λ (l : List (List Event)). record { initial = K.initial ++ L.initial; events = l; messages = K.messages ++ map (numbered_on (stations K)) L.messages }) (
      ap (λ (l : List Event). set (X ++ Y) (stations K + s) (l ++ (p e ∷ []))) (history-second K L sizes s)
      ∙ set-second X Y (length-map K.events (map (padded 0 (stations L))) ∙ sizes) s (map p (history L s) ++ (p e ∷ []))
      ∙ ap (λ (l : List Event). X ++ set Y s l) (sym (map-append p (history L s) (e ∷ [])))
      ∙ ap (λ (l : List (List Event)). X ++ l) (sym (map-set (map p) L.events s (history L s ++ (e ∷ []))))
      )

  -- THE RULE FOR CLOCKS

  -- A clock of the first.
  pub clock_ok_first : (s : ℕ) (v : Cut) → s < stations K → length v ≡ stations K → clock_ok K s v ≡ true → clock_ok (beside K L) s (v ++ empty (stations L)) ≡ true
  unfolding clock_ok counted
  clock_ok_first s v h l ok = (and-true (eqb (w ! s) (suc (count (beside K L) s))) (every (stations (beside K L)) (λ j. known (beside K L) w j (counted s w j)))).1 (
    eq-eqb (w ! s) (suc (count (beside K L) s)) (omega (arith, behind-at v (stations L) s, (tests K s v l ok).0, count-first K L sizes s h)),
    every_from (stations (beside K L)) (λ j. known (beside K L) w j (counted s w j)) (λ j g. (known_iff (beside K L) w j (counted s w j)).1 (at j (dec_lt j (stations K)))),
  )
    where
      w : Cut
      w = v ++ empty (stations L)

      same : (j : ℕ) → counted s w j ≡ counted s v j
      same j = ap (λ (x : ℕ). cond (eqb j s) (x - 1) x) (behind-at v (stations L) j)

      at : (j : ℕ) → Dec (j < stations K) → (counted s w j ≤ count (beside K L) j) × (clock (beside K L) j (counted s w j) ⊑ w)
      at j (yes g) =
          let t = (known_iff K v j (counted s v j)).0 ((tests K s v l ok).1 j g) in
          rw (same j) (
            omega (arith, t.0, count-first K L sizes j g),
            rw (clock-first K L sizes j (counted s v j) g t.0) (λ i. omega (arith, t.1 i, behind-at (clock K j (counted s v j)) (stations L) i, behind-at v (stations L) i)),
          )
      at j (no g) =
          let z : counted s w j ≡ 0 = same j ∙ counted-other s v j (λ e. g (omega arith)) ∙ get_or-eq_default v 0 {n = j} (omega arith) in
          rw z (omega arith, clock-zero (beside K L) j w)

  -- A clock of the second.
  pub clock_ok_second : (s : ℕ) (v : Cut) → length v ≡ stations L → clock_ok L s v ≡ true → clock_ok (beside K L) (stations K + s) (empty (stations K) ++ v) ≡ true
  unfolding clock_ok
  clock_ok_second s v l ok = (and-true (eqb (w ! (n + s)) (suc (count (beside K L) (n + s)))) (every (stations (beside K L)) (λ j. known (beside K L) w j (counted (n + s) w j)))).1 (
    eq-eqb (w ! (n + s)) (suc (count (beside K L) (n + s))) (omega (arith, before_at n v s, (tests L s v l ok).0, count-second K L sizes s)),
    every_from (stations (beside K L)) (λ j. known (beside K L) w j (counted (n + s) w j)) (λ j g. (known_iff (beside K L) w j (counted (n + s) w j)).1 (at j g (dec_lt j n))),
  )
    where
      n : ℕ
      n = stations K

      w : Cut
      w = empty n ++ v

      same : (i : ℕ) → counted (n + s) w (n + i) ≡ counted s v i
      same i = counted_on n s i w v (before_at n v i)

      at : (j : ℕ) → j < stations (beside K L) → Dec (j < n) → (counted (n + s) w j ≤ count (beside K L) j) × (clock (beside K L) j (counted (n + s) w j) ⊑ w)
      at j g (yes h) =
          let z : counted (n + s) w j ≡ 0 = counted-other (n + s) w j (λ e. omega arith) ∙ before-below n v j h in
          rw z (omega arith, clock-zero (beside K L) j w)
      at j g (no h) =
          let i = j - n in
          let e : n + i ≡ j = omega arith in
          let t = (known_iff L v i (counted s v i)).0 ((tests L s v l ok).1 i (omega (arith, stations-beside K L))) in
          subst (λ j. (counted (n + s) w j ≤ count (beside K L) j) × (clock (beside K L) j (counted (n + s) w j) ⊑ w)) e (
          rw (same i) (
            omega (arith, t.0, count-second K L sizes i),
            rw (clock-second K L sizes i (counted s v i) t.0) ((contained_parts (empty n) (empty n) (clock L i (counted s v i)) v refl).1 (λ x. omega arith, t.1)),
          )
          )

  -- THE RULE FOR MESSAGES

  pub message_ok_first : (x : Message) → message_ok K x ≡ true → message_ok (beside K L) x ≡ true
  message_ok_first x ok =
      let s = (message_ok_iff K x).0 ok in
      (message_ok_iff (beside K L) x).1 (record {
        sender-there = omega (arith, s.sender-there, stations-beside K L);
        receiver-there = omega (arith, s.receiver-there, stations-beside K L);
        sent-there = omega (arith, s.sent-there, count-first K L sizes x.sender s.sender-there);
        received-there = omega (arith, s.received-there, count-first K L sizes x.receiver s.receiver-there);
        apart = s.apart;
        carried = λ h. rw (clock-first K L sizes x.receiver x.received s.receiver-there s.received-there)
            (omega (arith, s.carried h, behind-at (clock K x.receiver x.received) (stations L) x.sender));
      })

  pub message_ok_second : (x : Message) → message_ok L x ≡ true → message_ok (beside K L) (numbered_on (stations K) x) ≡ true
  message_ok_second x ok =
      let s = (message_ok_iff L x).0 ok in
      (message_ok_iff (beside K L) (numbered_on (stations K) x)).1 (record {
        sender-there = omega (arith, s.sender-there, stations-beside K L);
        receiver-there = omega (arith, s.receiver-there, stations-beside K L);
        sent-there = omega (arith, s.sent-there, count-second K L sizes x.sender);
        received-there = omega (arith, s.received-there, count-second K L sizes x.receiver);
        apart = λ e. s.apart (omega arith);
        carried = λ h. rw (clock-second K L sizes x.receiver x.received s.received-there)
            (omega (arith, s.carried h, before_at (stations K) (clock L x.receiver x.received) x.sender));
      })
