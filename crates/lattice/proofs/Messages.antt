-- The cuts at which no message from i to j is on its way: closed under join and meet, and raising finds the least that contains a cut.
use mathlib.Core.Path.{◌≡◌, refl, sym, ◌∙◌}
use mathlib.Core.Logic.{◌↔◌}
use Prim.Native.Nat.{ℕ, ◌≤◌}
use native.Mathlib.Omega.{arith}
use native.Mathlib.Decide.{dec_le}
use mathlib.Core.Bool.{Bool, true, false, not, ◌&&◌}
use mathlib.Core.List.{List, [], ◌∷◌}
use lib.Dec.{leb, eqb}
use borrow.Author.Tests.{eqb-true, eq-eqb}
use Rattle.model.specs.Lists.{between}
use Rattle.model.specs.Cut.{Cut, ◌!◌, ◌⊑◌, join, meet}
use Rattle.model.specs.Computation.{Computation, Message, Consistent, clock}
use Rattle.model.specs.Atom.{sent_by, on_way, no_message, atom_is_true, raise_atom}
use Rattle.model.specs.Atom.Atom.{clear}
use Rattle.model.specs.Formula.Formula.{atom}
use Rattle.model.specs.Truth.{True}
use Rattle.lattice.proofs.Valid.{Valid}
use Rattle.lattice.proofs.Tests.{clash, and-true, and_iff, not_iff, false_iff, leb_iff, between_iff}
use Rattle.lattice.proofs.Lists.{All, all_map, all_both}
use Rattle.lattice.proofs.Lists.All.{done, also}
use Rattle.lattice.proofs.Cuts.{join-at, meet-at, join-least}
use Rattle.lattice.proofs.Consistency.{join-consistent, meet-consistent, clock-consistent}
use Rattle.lattice.proofs.Structures.{Least, Regular}
use Rattle.lattice.proofs.Sets.{raise_to-least, join-own}

-- If the message is one from i to j and sent by event x of i, it is received by event k of j.
abbrev pub Received : ℕ → ℕ → ℕ → ℕ → Message → Type 0
Received i j x k m = m.sender ≡ i → m.receiver ≡ j → m.sent ≤ x → (1 ≤ m.received) × (m.received ≤ k)

-- If it is sent at c, it is received at c.
abbrev pub Arrived : ℕ → ℕ → Cut → Message → Type 0
Arrived i j c = Received i j (c ! i) (c ! j)

-- What the test says.
pub sent_by_iff : (i j x : ℕ) (m : Message) → (sent_by i j x m ≡ true) ↔ (((m.sender ≡ i) × (m.receiver ≡ j)) × (m.sent ≤ x))
unfolding sent_by
sent_by_iff i j x m =
    and_iff (eqb m.sender i && eqb m.receiver j) (leb m.sent x)
    (and_iff (eqb m.sender i) (eqb m.receiver j) (eqb-true m.sender i, eq-eqb m.sender i) (eqb-true m.receiver j, eq-eqb m.receiver j))
    (leb_iff m.sent x)

arrived_iff : (i j : ℕ) (c : Cut) (m : Message) → (on_way i j c m ≡ false) ↔ Arrived i j c m
unfolding on_way
arrived_iff i j c m = (to, from)
  where
    here : Bool
    here = between 1 (c ! j) m.received

    to : on_way i j c m ≡ false → Arrived i j c m
    to q s r t = go here refl
      where
        go : (b : Bool) → here ≡ b → (1 ≤ m.received) × (m.received ≤ c ! j)
        go true e = (between_iff 1 (c ! j) m.received).0 e
        go false e = clash ((and-true (sent_by i j (c ! i) m) (not here)).1 ((sent_by_iff i j (c ! i) m).1 ((s, r), t), (not_iff here).1 (λ u. clash u e))) q

    from : Arrived i j c m → on_way i j c m ≡ false
    from h = (false_iff (sent_by i j (c ! i) m && not here)).1 (λ q.
        let w = (and-true (sent_by i j (c ! i) m) (not here)).0 q in
        let v = (sent_by_iff i j (c ! i) m).0 w.0 in
        (not_iff here).0 w.1 ((between_iff 1 (c ! j) m.received).1 (h v.0.0 v.0.1 v.1)))

no-message : (p : Message → Bool) (l : List Message) → (no_message p l ≡ true) ↔ All (λ m. p m ≡ false) l
unfolding no_message
no-message p l = (to l, from)
  where
    to : (r : List Message) → no_message p r ≡ true → All (λ m. p m ≡ false) r
    to [] h = done
    to (m ∷ r) h = let t = (and-true (not (p m)) (no_message p r)).0 h in also ((false_iff (p m)).1 ((not_iff (p m)).0 t.0)) (to r t.1)

    from : {r : List Message} → All (λ m. p m ≡ false) r → no_message p r ≡ true
    from done = refl
    from (also {x = m} {l = r} e a) = (and-true (not (p m)) (no_message p r)).1 ((not_iff (p m)).1 ((false_iff (p m)).0 e), from a)

module _ (K : Computation) (ok : Valid K) (i j : ℕ) where
  -- The consistent cuts at which all of the messages have arrived.
  abbrev pub Clear : List Message → Cut → Type 0
  Clear l c = Consistent K c × All (Arrived i j c) l

  -- At which 07 is true.
  pub clear_iff : (c : Cut) → (atom_is_true K (clear i j) c ≡ true) ↔ All (Arrived i j c) K.messages
  unfolding atom_is_true
  clear_iff c = (
    λ h. all_map (λ m. (arrived_iff i j c m).0) ((no-message (on_way i j c) K.messages).0 h),
    λ a. (no-message (on_way i j c) K.messages).1 (all_map (λ m. (arrived_iff i j c m).1) a),
  )

  arrived_join : (c d : Cut) (m : Message) → Arrived i j c m × Arrived i j d m → Arrived i j (join c d) m
  arrived_join c d m u s r t = go (dec_le m.sent (c ! i))
    where
      go : Dec (m.sent ≤ c ! i) → (1 ≤ m.received) × (m.received ≤ join c d ! j)
      go (yes h) = let v = u.0 s r h in (v.0, omega (arith, v.1, join-at c d j))
      go (no h) = let v = u.1 s r (omega (arith, join-at c d i)) in (v.0, omega (arith, v.1, join-at c d j))

  arrived_meet : (c d : Cut) (m : Message) → Arrived i j c m × Arrived i j d m → Arrived i j (meet c d) m
  arrived_meet c d m u s r t =
      let v = u.0 s r (omega (arith, meet-at c d i)) in
      let w = u.1 s r (omega (arith, meet-at c d i)) in
      (v.0, omega (arith, v.1, w.1, meet-at c d j))

  -- What has arrived stays so with fewer events of i and no fewer of j.
  arrived_less : (e d : Cut) → d ! i ≤ e ! i → e ! j ≤ d ! j → (m : Message) → Arrived i j e m → Arrived i j d m
  arrived_less e d h k m u s r t = let v = u s r (omega arith) in (v.0, omega (arith, v.1))

  -- Closed under join and meet.
  pub clear_regular : (l : List Message) → Regular K (Clear l)
  clear_regular l = record { consistent = λ c u. u.0; join_in = λ c d u v. (join-consistent K ok c d u.0 v.0, all_map (arrived_join c d) (all_both u.1 v.1)) }

  pub clear-meet : (l : List Message) (c d : Cut) → Clear l c → Clear l d → Clear l (meet c d)
  clear-meet l c d u v = (meet-consistent K ok c d u.0 v.0, all_map (arrived_meet c d) (all_both u.1 v.1))

  -- Raising finds the least cut that contains c and at which 07 is true: it is c joined with the clock of an event of j,
  -- since a cut keeps all that has arrived if it loses events of i and none of j.
  pub clear-least : (c : Cut) → Consistent K c → Least (Clear K.messages) (λ e. c ⊑ e) (raise_atom K true (clear i j) c)
  unfolding raise_atom
  clear-least c q = raise_to-least K ok (Clear K.messages) (clear_regular K.messages) j c q (λ k. atom_is_true K (clear i j) (join c (clock K j k)))
      (λ k h w t. (join-consistent K ok c (clock K j k) q (clock-consistent K ok j k w), (clear_iff (join c (clock K j k))).0 t))
      (λ e u v. (clear_iff (join c (clock K j (e ! j)))).1 (all_map (arrived_less e (join c (clock K j (e ! j))) (below e u v i) (same e u v)) u.1))
    where
      below : (e : Cut) → Clear K.messages e → c ⊑ e → join c (clock K j (e ! j)) ⊑ e
      below e u v = join-least c (clock K j (e ! j)) e v (u.0.closed j)

      same : (e : Cut) → Clear K.messages e → c ⊑ e → e ! j ≤ join c (clock K j (e ! j)) ! j
      same e u v = omega (arith, join-own K ok j c (e ! j) (v j) (u.0.within j))

  -- Truth of 07 is closed under join and meet of consistent cuts.
  pub clear-closed : (c d : Cut) → Consistent K c → Consistent K d → True K (atom (clear i j)) c → True K (atom (clear i j)) d
      → True K (atom (clear i j)) (join c d) × True K (atom (clear i j)) (meet c d)
  clear-closed c d p q u v =
      let a : Clear K.messages c = (p, (clear_iff c).0 u) in
      let b : Clear K.messages d = (q, (clear_iff d).0 v) in
      ((clear_iff (join c d)).1 ((clear_regular K.messages).join_in c d a b).1, (clear_iff (meet c d)).1 (clear-meet K.messages c d a b).1)

-- With i equal to j it is true everywhere.
pub clear_self : (K : Computation) → Valid K → (i : ℕ) (c : Cut) → True K (atom (clear i i)) c
clear_self K ok i c = (clear_iff K ok i i c).1 (all_map (λ m g s r t. absurd (g.apart (s ∙ sym r))) ok.messages)
