-- The rounds of a pair follow from a table over the events of a station, if one of the sets raises cuts by an event of that station.
use mathlib.Core.Path.{◌≡◌, refl, ap, sym, ◌∙◌, subst}
use Prim.Native.Nat.{ℕ, zero, suc, ◌+◌, ◌-◌, ◌≤◌, ◌<◌}
use native.Mathlib.Omega.{arith}
use native.Mathlib.Decide.{ℕ_discrete}
use mathlib.Core.Bool.{Bool, true, false, cond}
use mathlib.Core.Option.{Option, none, some}
use lib.Dec.{eqb}
use borrow.Author.Tests.{eqb-true, eq-eqb}
use Rattle.model.specs.Cut.{Cut, ◌!◌, ◌⊑◌, inside, join}
use Rattle.model.specs.Computation.{Computation, Consistent, count, clock}
use Rattle.model.specs.Atom.{up_to}
use Rattle.model.specs.Structure.{Structure, row, joined, raise, reaches}
use Rattle.model.specs.Basis.{Outcome, round, start}
use Rattle.model.specs.Rounds.{ByRule}
use Rattle.model.specs.Rounds.ByRule.{ends, still, goes}
use Rattle.lattice.specs.OfStation.{OfStation}
use Rattle.lattice.specs.Chains.{Entry, outcome_of, climbed, rounds_in, found, entry_from_row, at_row, entry_at, entries, lookup, outcome_of_first_round}
use Rattle.lattice.specs.Chains.Entry.{lost, moved}
use Rattle.lattice.proofs.Valid.{Valid}
use Rattle.lattice.proofs.Tests.{clash}
use Rattle.lattice.proofs.Cuts.{antisym⊑, length-join, join-at}
use Rattle.lattice.proofs.Consistency.{clock-zero, clock-own, clock-consistent, clock-least}
use Rattle.lattice.proofs.Structures.{Least}
use Rattle.lattice.proofs.Sets.{join-own}
use Rattle.lattice.proofs.Bases.{In, Good}
use Rattle.lattice.proofs.Intersection.{round_in}
use Rattle.lattice.proofs.Shortcuts.{came, later, raise-row, raised, raise_in, settled, kept, round-none, round_is}
use Rattle.lattice.proofs.Joins.{join_assoc, join-inside, raise-join}
use Rattle.lattice.proofs.Starts.{start_is, rule_on}

-- THE CHAIN

-- e is the entry of event k.
pub data Chain (K : Computation) (b : Bool) (s : ℕ) (f : Cut → Option ℕ) (B : Structure) : ℕ → Entry → Type 0 where
  -- B has no cut with event k
  no_row : {k : ℕ} → row B s k ≡ none → Chain K b s f B k (lost 2)
  -- A has none that contains the row
  no-event : {k : ℕ} {w : Cut} → row B s k ≡ some w → f w ≡ none → Chain K b s f B k (lost (cond b 2 3))
  -- the row is in A
  rests : {k : ℕ} {w : Cut} → row B s k ≡ some w → f w ≡ some (w ! s) → Chain K b s f B k (moved w (clock K s (cond b k 0)) 2)
  -- A goes on to a later event
  climbs : {k k' : ℕ} {w : Cut} {e : Entry} → row B s k ≡ some w → f w ≡ some k' → w ! s < k' → Chain K b s f B k' e → Chain K b s f B k (climbed w e)

later_outcome : (x w : Cut) (e : Entry) → later (outcome_of (join x w) e) ≡ outcome_of x (climbed w e)
unfolding outcome_of climbed
later_outcome x w (lost n) = refl
later_outcome x w (moved a u n) = rw (join_assoc x w a, join_assoc x w u) (ap (came (some (join x (join w a)))) (omega arith))

-- The rounds in a table of n entries.
climbed-rounds : (w : Cut) (e : Entry) → rounds_in (climbed w e) ≡ suc (rounds_in e)
unfolding rounds_in climbed
climbed-rounds w (lost n) = refl
climbed-rounds w (moved a u n) = refl

module _ (K : Computation) (b : Bool) (s : ℕ) (f : Cut → Option ℕ) (B : Structure) where
  entry-rounds : (E : ℕ → Entry) (m : ℕ) → ((k : ℕ) → rounds_in (E k) ≤ m + 2) → (k : ℕ) → rounds_in (entry_at K b s f B E k) ≤ suc m + 2
  unfolding at_row entry_from_row rounds_in
  entry-rounds E m h k = by_row (row B s k)
    where
      most : (t : Bool) → cond t 2 3 ≤ suc m + 2
      most true = omega arith
      most false = omega arith

      by_test : (w : Cut) (i : ℕ) (t : Bool) → rounds_in (cond t (moved w (clock K s (cond b k 0)) 2) (climbed w (E i))) ≤ suc m + 2
      by_test w i true = omega arith
      by_test w i false = omega (arith, climbed-rounds w (E i), h i)

      by_event : (w : Cut) (o : Option ℕ) → rounds_in (entry_from_row K b s f B E k w o) ≤ suc m + 2
      by_event w none = most b
      by_event w (some i) = by_test w i (eqb i (w ! s))

      by_row : (o : Option Cut) → rounds_in (at_row K b s f B E k o) ≤ suc m + 2
      by_row none = omega arith
      by_row (some w) = by_event w (f w)

  pub entries-rounds : (n k : ℕ) → rounds_in (entries K b s f B n k) ≤ n + 2
  unfolding entries rounds_in
  entries-rounds zero k = omega arith
  entries-rounds (suc n) k = go (eqb k (count K s - n)) (entries-rounds n)
    where
      go : (t : Bool) → ((i : ℕ) → rounds_in (entries K b s f B n i) ≤ n + 2) → rounds_in (cond t (entry_at K b s f B (entries K b s f B n) k) (entries K b s f B n k)) ≤ suc n + 2
      go true h = entry-rounds (entries K b s f B n) n h k
      go false h = omega (arith, h k)

-- x is a cut of B, and A has found event k of s for it.
record At (K : Computation) (A B : Structure) (s : ℕ) (x : Cut) (k : ℕ) : Type 0 where
  member : In K B x
  event : k ≤ count K s
  onto : x ! s ≤ k
  raises : raise A x ≡ some (join x (clock K s k))

module _ (K : Computation) (ok : Valid K) (A B : Structure) (ga : Good K A) (gb : Good K B) (s : ℕ) (f : Cut → Option ℕ) (of : OfStation K s f A) where
  -- A row of B is in B and holds its event.
  row_of : (k : ℕ) (w : Cut) → k ≤ count K s → row B s k ≡ some w → In K B w × (clock K s k ⊑ w) × (k ≤ w ! s)
  row_of k w h e = let l : Least (In K B) (λ x. clock K s k ⊑ x) (some w) = rw e at (gb.rows-least s k h) in
      (l.0, l.1, omega (arith, l.1 s, clock-own K ok s k h))

  -- The first event.
  at_first : (x : Cut) (k : ℕ) → In K B x → f x ≡ some k → At K A B s x k
  unfolding up_to
  at_first x k u e = let n = of.onward x k u.0 e in record { member = u; event = n.1; onto = n.0; raises = of.raises x u.0 ∙ rw e refl }

  -- The half of B goes by its row for the event.
  half_B : (x : Cut) (k : ℕ) (o : Option Cut) → At K A B s x k → row B s k ≡ o → raise B (join x (clock K s k)) ≡ joined (some x) o
  half_B x k o a e = raise-join K ok B gb x (clock K s k) a.member.0 (clock-consistent K ok s k a.event) ∙ rw (raise_in K B gb x a.member, raise-row K B gb ok s k a.event, e) refl

  -- The half of A behind it by the event that is found for that row.
  half_A : (x w : Cut) (k : ℕ) (o : Option ℕ) → At K A B s x k → row B s k ≡ some w → f w ≡ o → raise A (join x w) ≡ up_to K s (join x w) o
  unfolding joined up_to
  half_A x w k o a e q = raise-join K ok A ga x w a.member.0 g.0.0 ∙ rw (a.raises, of.raises w g.0.0, q) (go o)
    where
      v : Cut
      v = clock K s k

      g : In K B w × (v ⊑ w) × (k ≤ w ! s)
      g = row_of k w a.event e

      go : (o : Option ℕ) → joined (some (join x v)) (up_to K s w o) ≡ up_to K s (join x w) o
      go none = refl
      go (some i) = ap some (antisym⊑ (join (join x v) (join w z)) (join (join x w) z)
          (omega (arith, length-join (join x v) (join w z), length-join x v, length-join w z, length-join (join x w) z, length-join x w, (clock-consistent K ok s k a.event).size, g.0.0.size))
          (λ j. omega (arith, g.1 j, join-at (join x v) (join w z) j, join-at x v j, join-at w z j, join-at (join x w) z j, join-at x w j))
          (λ j. omega (arith, g.1 j, join-at (join x v) (join w z) j, join-at x v j, join-at w z j, join-at (join x w) z j, join-at x w j)))
        where
          z : Cut
          z = clock K s i

  -- The next event.
  at_next : (x w : Cut) (k i : ℕ) → At K A B s x k → row B s k ≡ some w → f w ≡ some i → At K A B s (join x w) i
  unfolding up_to
  at_next x w k i a e q = let g = row_of k w a.event e in let n = of.onward w i g.0.0 q in record {
    member = gb.join_in x w a.member g.0;
    event = n.1;
    onto = omega (arith, join-at x w s, a.onto, g.2, n.0);
    raises = half_A x w k (some i) a e q;
  }

  -- The last: an event that is in the cut.
  at_last : (x : Cut) (k : ℕ) → At K A B s x k → k ≡ x ! s → raise A x ≡ some x
  at_last x k a e = a.raises ∙ ap some (join-inside K ok x (clock K s k) a.member.0 (clock-consistent K ok s k a.event) (clock-least K ok s k x a.member.0 (omega arith)))

  -- Such is the last one for a row that is in A.
  at_rest : (x w : Cut) (k : ℕ) → At K A B s x k → row B s k ≡ some w → f w ≡ some (w ! s) → raise A (join x w) ≡ some (join x w)
  at_rest x w k a e q = at_last (join x w) (w ! s) (at_next x w k (w ! s) a e q) (omega (arith, join-at x w s, a.onto, (row_of k w a.event e).2))

  -- A later event gives another cut.
  at_apart : (x w : Cut) (k i : ℕ) → At K A B s x k → row B s k ≡ some w → f w ≡ some i → w ! s < i → join (join x w) (clock K s i) ≡ join x (clock K s k) → ⊥
  at_apart x w k i a e q m z = let n = at_next x w k i a e q in
      omega (arith, (row_of k w a.event e).2, ap (λ c. c ! s) z, join-own K ok s x k a.onto a.event, join-own K ok s (join x w) i n.onto n.event)

  -- The entry of an event is made of those of later events.
  pub entry-chain : (b : Bool) (E : ℕ → Entry) (k : ℕ) → k ≤ count K s → ((i : ℕ) → k < i → i ≤ count K s → Chain K b s f B i (E i)) → Chain K b s f B k (entry_at K b s f B E k)
  unfolding at_row entry_from_row
  entry-chain b E k h ih = by_row (row B s k) refl
    where
      by_row : (o : Option Cut) → row B s k ≡ o → Chain K b s f B k (at_row K b s f B E k o)
      by_row none e = no_row e
      by_row (some w) e = by_event (f w) refl
        where
          g : In K B w × (clock K s k ⊑ w) × (k ≤ w ! s)
          g = row_of k w h e

          by_event : (o : Option ℕ) → f w ≡ o → Chain K b s f B k (entry_from_row K b s f B E k w o)
          by_event none q = no-event e q
          by_event (some i) q = by_test (eqb i (w ! s)) refl
            where
              n : (w ! s ≤ i) × (i ≤ count K s)
              n = of.onward w i g.0.0 q

              by_test : (t : Bool) → eqb i (w ! s) ≡ t → Chain K b s f B k (cond t (moved w (clock K s (cond b k 0)) 2) (climbed w (E i)))
              by_test true z = rests e (q ∙ ap some (eqb-true i (w ! s) z))
              by_test false z = climbs e q (above (ℕ_discrete i (w ! s))) (ih i (omega (arith, above (ℕ_discrete i (w ! s)), g.2)) n.1)
                where
                  above : Dec (i ≡ w ! s) → w ! s < i
                  above (yes d) = clash (eq-eqb i (w ! s) d) z
                  above (no d) = omega (arith, n.0)

  -- So is the table, from the last event downwards.
  entries-chain : (b : Bool) (n k : ℕ) → n ≤ suc (count K s) → k ≤ count K s → count K s < n + k → Chain K b s f B k (entries K b s f B n k)
  unfolding entries
  entries-chain b zero k m h l = absurd (omega arith)
  entries-chain b (suc n) k m h l = go (eqb k (count K s - n)) refl (λ i h' l'. entries-chain b n i (omega arith) h' l')
    where
      go : (t : Bool) → eqb k (count K s - n) ≡ t → ((i : ℕ) → i ≤ count K s → count K s < n + i → Chain K b s f B i (entries K b s f B n i))
          → Chain K b s f B k (cond t (entry_at K b s f B (entries K b s f B n) k) (entries K b s f B n k))
      go true z ih = entry-chain b (entries K b s f B n) k h (λ i q h'. ih i h' (omega (arith, eqb-true k (count K s - n) z)))
      go false z ih = ih k h (other (ℕ_discrete k (count K s - n)))
        where
          other : Dec (k ≡ count K s - n) → count K s < n + k
          other (yes d) = clash (eq-eqb k (count K s - n) d) z
          other (no d) = omega arith

-- A start from c comes to r.
abbrev Follows : Structure → Structure → Cut → Outcome → Type 0
Follows S T c r = ByRule S T c r.reached r.rounds

-- A start that goes on from c to q, and from there to a cut that stays.
rest_rule : (K : Computation) (S T : Structure) → Good K S → Good K T → (c q y : Cut) → Consistent K q → round S T c ≡ some q → (q ≡ c → ⊥) → round S T q ≡ some y → round S T y ≡ some y
    → ByRule S T c (some y) (2 + cond (inside y q) 0 1)
unfolding reaches
rest_rule K S T gs gt c q y p g n h l =
    let z : suc (1 + cond (inside y q) 0 1) ≡ 2 + cond (inside y q) 0 1 = omega arith in
    subst (ByRule S T c (some y)) z (goes g n (rule_on K S T gs gt q y (some y) 1 p h (still l)))

-- THE RIGHT SET IS OF ONE STATION

module _ (K : Computation) (ok : Valid K) (S T : Structure) (gs : Good K S) (gt : Good K T) (s : ℕ) (f : Cut → Option ℕ) (of : OfStation K s f T) where
  -- A start that came to x by a left half, for which the right set found event k.
  from_right : (k : ℕ) (e : Entry) → Chain K true s f S k e → (x c : Cut) → At K T S s x k → round S T c ≡ some (join x (clock K s k)) → (join x (clock K s k) ≡ c → ⊥) → Follows S T c (outcome_of x e)
  unfolding outcome_of joined up_to reaches
  from_right k _ (no_row r) x c a g n = goes g n (ends (round-none K S T gs gt (join x (clock K s k)) (half_B K ok T S gt gs s f of x k none a r)))
  from_right k _ (no-event {w = w} r q) x c a g n =
      goes g n (ends (round_is K S T gs gt (join x (clock K s k)) (join x w) none (half_B K ok T S gt gs s f of x k (some w) a r) (half_A K ok T S gt gs s f of x w k none a r q)))
  from_right k _ (rests {w = w} r q) x c a g n =
      let p = (raised K T gt x (join x (clock K s k)) a.member.0 a.raises).0.0 in
      let l : raise S (join x (clock K s k)) ≡ some (join x w) = half_B K ok T S gt gs s f of x k (some w) a r in
      let m = at_rest K ok T S gt gs s f of x w k a r q in
      rest_rule K S T gs gt c (join x (clock K s k)) (join x w) p g n (round_is K S T gs gt (join x (clock K s k)) (join x w) (some (join x w)) l m) (settled K S T gs gt (join x (clock K s k)) (join x w) p l m)
  from_right k _ (climbs {k' = i} {w = w} {e = e} r q m d) x c a g n =
      let a' = at_next K ok T S gt gs s f of x w k i a r q in
      subst (Follows S T c) (later_outcome x w e) (goes g n (from_right i e d (join x w) (join x (clock K s k)) a'
      (round_is K S T gs gt (join x (clock K s k)) (join x w) (some (join (join x w) (clock K s i))) (half_B K ok T S gt gs s f of x k (some w) a r) a'.raises)
      (at_apart K ok T S gt gs s f of x w k i a r q m)))

  -- A start looks up what it comes to by its left row.
  pub right-chain : (E : ℕ → Entry) → ((k : ℕ) → k ≤ count K s → Chain K true s f S k (E k)) → (c : Cut) (o : Option Cut) → Consistent K c → raise S c ≡ o → start K S T c ≡ lookup K true s f S E c o
  unfolding lookup found reaches up_to
  right-chain E ch c none p e = start_is K S T gs gt c none 1 p (ends (round-none K S T gs gt c e))
  right-chain E ch c (some x) p e = go (f x) refl
    where
      u : In K S x × (c ⊑ x)
      u = raised K S gs c x p e

      go : (o : Option ℕ) → f x ≡ o → start K S T c ≡ found K true s f S E c x o
      go none q = start_is K S T gs gt c none 1 p (ends (round_is K S T gs gt c x none e (of.raises x u.0.0 ∙ rw q refl)))
      go (some k) q = by_test (eqb k (x ! s)) refl
        where
          a : At K T S s x k
          a = at_first K ok T S gt gs s f of x k u.0 q

          by_test : (t : Bool) → eqb k (x ! s) ≡ t → start K S T c ≡ cond t (came (some x) (1 + cond (inside x c) 0 1)) (outcome_of x (E k))
          by_test true z = let m = at_last K ok T S gt gs s f of x k a (eqb-true k (x ! s) z) in
              start_is K S T gs gt c _ _ p (rule_on K S T gs gt c x (some x) 1 p (round_is K S T gs gt c x (some x) e m) (still (settled K S T gs gt c x p e m)))
          by_test false z = start_is K S T gs gt c _ _ p (from_right k (E k) (ch k a.event) x c a (round_is K S T gs gt c x _ e a.raises)
              (λ d. clash (eq-eqb k (x ! s) (omega (arith, a.onto, u.1 s, ap (λ y. y ! s) d, join-own K ok s x k a.onto a.event))) z))

  pub right-start : (j k : ℕ) → k ≤ count K j → start K S T (clock K j k) ≡ lookup K true s f S (entries K true s f S (suc (count K s))) (clock K j k) (row S j k)
  right-start j k h = right-chain (entries K true s f S (suc (count K s))) (λ i m. entries-chain K ok T S gt gs s f of true (suc (count K s)) i (omega arith) m (omega arith))
      (clock K j k) (row S j k) (clock-consistent K ok j k h) (raise-row K S gs ok j k h)

-- THE LEFT SET IS OF ONE STATION

module _ (K : Computation) (ok : Valid K) (S T : Structure) (gs : Good K S) (gt : Good K T) (s : ℕ) (f : Cut → Option ℕ) (of : OfStation K s f S) where
  -- A start that came to x by its first round, for which the left set finds event k.
  from_left : (k : ℕ) (e : Entry) → Chain K false s f T k e → (x c : Cut) → At K S T s x k → round S T c ≡ some x → (x ≡ c → ⊥) → Follows S T c (outcome_of x e)
  unfolding outcome_of joined up_to reaches
  from_left k _ (no_row r) x c a g n = goes g n (ends (round_is K S T gs gt x (join x (clock K s k)) none a.raises (half_B K ok S T gs gt s f of x k none a r)))
  from_left k _ (no-event {w = w} r q) x c a g n = goes g n (goes (round_is K S T gs gt x (join x (clock K s k)) (some (join x w)) a.raises (half_B K ok S T gs gt s f of x k (some w) a r))
      (λ z. differ z a.raises h) (ends (round-none K S T gs gt (join x w) h)))
    where
      h : raise S (join x w) ≡ none
      h = half_A K ok S T gs gt s f of x w k none a r q

      differ : join x w ≡ x → raise S x ≡ some (join x (clock K s k)) → raise S (join x w) ≡ none → ⊥
      differ z g h = let n : ◌≡◌ {A = ℕ} 0 1 = cc in absurd (omega arith)
  from_left k _ (rests {w = w} r q) x c a g n = rw (join-inside K ok x (clock K s 0) a.member.0 (clock-consistent K ok s 0 (omega arith)) (clock-zero K s x))
      (rest_rule K S T gs gt c x (join x w) a.member.0 g n
      (round_is K S T gs gt x (join x (clock K s k)) (some (join x w)) a.raises (half_B K ok S T gs gt s f of x k (some w) a r))
      (kept K S T gs gt (join x w) (at_next K ok S T gs gt s f of x w k (w ! s) a r q).member (at_rest K ok S T gs gt s f of x w k a r q)))
  from_left k _ (climbs {k' = i} {w = w} {e = e} r q m d) x c a g n =
      let a' = at_next K ok S T gs gt s f of x w k i a r q in
      subst (Follows S T c) (later_outcome x w e) (goes g n (from_left i e d (join x w) x a'
      (round_is K S T gs gt x (join x (clock K s k)) (some (join x w)) a.raises (half_B K ok S T gs gt s f of x k (some w) a r))
      (λ z. at_apart K ok S T gs gt s f of x w k i a r q m (same z a.raises a'.raises))))
    where
      same : join x w ≡ x → raise S x ≡ some (join x (clock K s k)) → raise S (join x w) ≡ some (join (join x w) (clock K s i)) → join (join x w) (clock K s i) ≡ join x (clock K s k)
      same z g h = cc

  -- A start looks up what it comes to by its first round.
  pub left-chain : (E : ℕ → Entry) → ((k : ℕ) → k ≤ count K s → Chain K false s f T k (E k)) → (c : Cut) (o : Option Cut) → Consistent K c → round S T c ≡ o → start K S T c ≡ lookup K false s f T E c o
  unfolding lookup found reaches up_to
  left-chain E ch c none p e = start_is K S T gs gt c none 1 p (ends e)
  left-chain E ch c (some x) p e = go (f x) refl
    where
      u : In K T x × (x ≡ c → In K S c)
      u = round_in K S T gs gt c x p e

      go : (o : Option ℕ) → f x ≡ o → start K S T c ≡ found K false s f T E c x o
      go none q = start_is K S T gs gt c none 2 p (rule_on K S T gs gt c x none 1 p e (ends (round-none K S T gs gt x (of.raises x u.0.0 ∙ rw q refl))))
      go (some k) q = by_test (eqb k (x ! s)) refl
        where
          a : At K S T s x k
          a = at_first K ok S T gs gt s f of x k u.0 q

          moves : x ≡ c → raise S c ≡ some c → raise S x ≡ some (join x (clock K s k)) → join x (clock K s k) ≡ x
          moves z g h = cc

          by_test : (t : Bool) → eqb k (x ! s) ≡ t → start K S T c ≡ cond t (came (some x) (1 + cond (inside x c) 0 1)) (outcome_of x (E k))
          by_test true z = start_is K S T gs gt c _ _ p (rule_on K S T gs gt c x (some x) 1 p e (still (kept K S T gs gt x u.0 (at_last K ok S T gs gt s f of x k a (eqb-true k (x ! s) z)))))
          by_test false z = start_is K S T gs gt c _ _ p (from_left k (E k) (ch k a.event) x c a e
              (λ d. clash (eq-eqb k (x ! s) (sym (join-own K ok s x k a.onto a.event) ∙ ap (λ y. y ! s) (moves d (raise_in K S gs c (u.1 d)) a.raises))) z))

  -- The first round from an event's clock.
  first_round : (j k : ℕ) → k ≤ count K j → (o : Option Cut) → raise S (clock K j k) ≡ o → round S T (clock K j k) ≡ outcome_of_first_round T s j k o
  unfolding outcome_of_first_round up_to
  first_round j k h none e = round-none K S T gs gt (clock K j k) e
  first_round j k h (some l) e = round_is K S T gs gt (clock K j k) l _ e (go (f (clock K j k)) refl)
    where
      p : Consistent K (clock K j k)
      p = clock-consistent K ok j k h

      r : raise S (clock K j k) ≡ up_to K s (clock K j k) (f (clock K j k))
      r = of.raises (clock K j k) p

      go : (o : Option ℕ) → f (clock K j k) ≡ o → raise T l ≡ joined (row T j k) (row T s (l ! s))
      go none q = let z : raise S (clock K j k) ≡ none = r ∙ rw q refl in let n : ◌≡◌ {A = ℕ} 0 1 = cc in absurd (omega arith)
      go (some i) q =
          let z : raise S (clock K j k) ≡ some (join (clock K j k) (clock K s i)) = r ∙ rw q refl in
          let d : l ≡ join (clock K j k) (clock K s i) = cc in
          let n = of.onward (clock K j k) i p q in
          let m : l ! s ≡ i = ap (λ c. c ! s) d ∙ join-own K ok s (clock K j k) i n.0 n.1 in
          ap (raise T) d ∙ raise-join K ok T gt (clock K j k) (clock K s i) p (clock-consistent K ok s i n.1) ∙ rw (raise-row K T gt ok j k h, raise-row K T gt ok s i n.1, m) refl

  pub left-start : (j k : ℕ) → k ≤ count K j → start K S T (clock K j k) ≡ lookup K false s f T (entries K false s f T (suc (count K s))) (clock K j k) (outcome_of_first_round T s j k (row S j k))
  left-start j k h = left-chain (entries K false s f T (suc (count K s))) (λ i m. entries-chain K ok S T gs gt s f of false (suc (count K s)) i (omega arith) m (omega arith))
      (clock K j k) (outcome_of_first_round T s j k (row S j k)) (clock-consistent K ok j k h) (first_round j k h (row S j k) (raise-row K S gs ok j k h))
