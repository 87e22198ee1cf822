-- Laws of the rule for messages: each test of the code is a part of the definition. Assumes nothing.
use mathlib.Core.Path.{◌≡◌, sym, ap, ◌∙◌}
use mathlib.Core.Logic.{◌↔◌, ◌≢◌}
use mathlib.Core.Bool.{Bool, true, false, not, ◌&&◌}
use mathlib.Core.List.{List, []}
use mathlib.Core.Option.{some}
use Prim.Native.Nat.{ℕ, ◌+◌, ◌≤◌, ◌<◌}
use native.Mathlib.Omega.{arith}
use lib.Dec.{leb, ltb}
use lib.ListN.{take, drop, get_or, get_elem?}
use lib.Seq.{get_or-take, get_or-drop}
use borrow.Author.Tests.{ltb-true, lt-ltb, not-true, not-false}
use Rattle.model.specs.Limits.{stored_report, limits}
use Rattle.model.specs.Cut.{◌!◌}
use Rattle.model.specs.Computation.{Computation, Message, stations, count, clock, message_ok}
use Rattle.lattice.proofs.Tests.{clash, and_iff, false_iff, leb_iff, same_test}
use Rattle.lattice.proofs.MessageRule.{Sendable, message_ok_iff}
use Rattle.table.specs.Table.{slot, Stored, Posted}

-- What the test of one event says.
pub there_iff : (j k n c : ℕ) → (ltb j n && leb k c ≡ true) ↔ ((j < n) × (k ≤ c))
there_iff j k n c = and_iff (ltb j n) (leb k c) (ltb-true j n, lt-ltb j n) (leb_iff k c)

-- Its slot is one of the table.
pub in_table : (counts : List ℕ) (j k n : ℕ) (b : Bool) → n ≤ limits.stations → ((i : ℕ) → get_or counts i 0 ≤ limits.events) → b ≡ (ltb j n && leb k (get_or counts j 0)) → not b ≡ false → (j < limits.stations) × (k ≤ limits.events)
in_table counts j k n b few low e h = let t = (there_iff j k n (get_or counts j 0)).0 (sym e ∙ not-false b h) in (omega (arith, t.0), omega (arith, t.1, low j))

-- The numbers of a message as the code has them.
module _ {K : Computation} {n : ℕ} {counts t : List ℕ} (g : Stored K n counts t) (m : Message) (i x j k : ℕ)
    (is-sender : i ≡ m.sender) (is-sent : x ≡ m.sent) (is-receiver : j ≡ m.receiver) (is-received : k ≡ m.received) where
  refused : (Sendable K m → ⊥) → false ≡ message_ok K m
  refused h = sym ((false_iff (message_ok K m)).1 (λ e. h ((message_ok_iff K m).0 e)))

  each : (s : ℕ) → count K s ≡ get_or counts s 0
  each s = sym (g.each s)

  pub never-sent : x ≡ 0 → false ≡ message_ok K m
  never-sent e = refused (λ s. omega (arith, s.sent-there.0))

  pub sender_missing : (b : Bool) → b ≡ (ltb i n && leb x (get_or counts i 0)) → not b ≡ true → false ≡ message_ok K m
  sender_missing b e h = refused (λ s. clash (e ∙ (there_iff i x n (get_or counts i 0)).1 (rw (is-sender, is-sent, ← g.size, ← each m.sender) (s.sender-there, s.sent-there.1))) (not-true b h))

  pub receiver_missing : (b : Bool) → b ≡ (ltb j n && leb k (get_or counts j 0)) → not b ≡ true → false ≡ message_ok K m
  receiver_missing b e h = refused (λ s. clash (e ∙ (there_iff j k n (get_or counts j 0)).1 (rw (is-receiver, is-received, ← g.size, ← each m.receiver) (s.receiver-there, s.received-there))) (not-true b h))

  pub to_itself : i ≡ j → false ≡ message_ok K m
  to_itself e = refused (λ s. s.apart (sym is-sender ∙ e ∙ is-receiver))

  -- Both stations and events are there, and the stations differ.
  module _ (some : x ≢ 0) (sends : (i < n) × (x ≤ get_or counts i 0)) (receives : (j < n) × (k ≤ get_or counts j 0)) (apart : i ≢ j) where
    sendable : (m.received ≢ 0 → m.sent ≤ clock K m.receiver m.received ! m.sender) → Sendable K m
    sendable h = record {
      sender-there = rw (g.size, ← is-sender) sends.0;
      receiver-there = rw (g.size, ← is-receiver) receives.0;
      sent-there = rw (← is-sent, ← is-sender, each i) (omega arith, sends.1);
      received-there = rw (← is-received, ← is-receiver, each j) receives.1;
      apart = λ e. apart (is-sender ∙ e ∙ sym is-receiver);
      carried = h;
    }

    pub never-came : k ≡ 0 → true ≡ message_ok K m
    never-came e = sym ((message_ok_iff K m).1 (sendable (λ d. absurd (d (sym is-received ∙ e)))))

    -- The entry of the sender in the receiving event's clock.
    entry : (a y : ℕ) → a ≡ slot j k → y ≡ get_or t (a + stored_report + i) 0 → y ≡ clock K m.receiver m.received ! m.sender
    entry a y e w =
        let c : take (stations K) (drop (slot j k + stored_report) t) ≡ clock K j k = g.table.clocks j k (rw g.size receives.0) (rw (each j) receives.1) in
        let z : get_or (take (stations K) (drop (slot j k + stored_report) t)) i 0 ≡ get_or t (slot j k + stored_report + i) 0 = get_or-take (stations K) (drop (slot j k + stored_report) t) i 0 (rw g.size sends.0) ∙ get_or-drop (slot j k + stored_report) t i 0 in
        rw (← is-sender, ← is-receiver, ← is-received, ← c) (w ∙ ap (λ (s : ℕ). get_or t (s + stored_report + i) 0) e ∙ sym z)

    pub received_with : k ≢ 0 → (a y : ℕ) → a ≡ slot j k → y ≡ get_or t (a + stored_report + i) 0 → leb x y ≡ message_ok K m
    received_with d a y e w = same_test (leb x y) (message_ok K m)
        (λ h. (message_ok_iff K m).1 (sendable (λ z. rw (← entry a y e w, ← is-sent) ((leb_iff x y).0 h))))
        (λ h. (leb_iff x y).1 (rw (is-sent, entry a y e w) (((message_ok_iff K m).0 h).carried (λ z. d (is-received ∙ z)))))

-- WHERE MESSAGES STAND

-- No message need stand anywhere.
pub none-posted : {K : Computation} (t : List ℕ) → K.messages ≡ [] → Posted K t
none-posted {K} t e = record { at = λ q m h. absurd (nothing q m (rw e at h)) }
  where
    nothing : (q : ℕ) (m : Message) → get_elem? {A = Message} [] q ≡ some m → ⊥
    nothing q m h = let z : ◌≡◌ {A = ℕ} 0 1 = cc in omega arith
