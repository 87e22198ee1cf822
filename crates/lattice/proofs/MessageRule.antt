-- What the test of a message says, one field for each of its parts.
use mathlib.Core.Path.{◌≡◌}
use mathlib.Core.Logic.{◌↔◌, ◌≢◌, inl, inr}
use Prim.Native.Nat.{ℕ, ◌≤◌, ◌<◌}
use native.Mathlib.Decide.{ℕ_discrete}
use mathlib.Core.Bool.{Bool, true, not, ◌||◌}
use lib.Dec.{ltb, eqb}
use borrow.Author.Tests.{eqb-true, eq-eqb, ltb-true, lt-ltb}
use Rattle.model.specs.Cut.{◌!◌}
use Rattle.model.specs.Computation.{Message, Computation, stations, count, clock, message_ok}
use Rattle.lattice.proofs.Tests.{and_iff, or_iff, not_iff, leb_iff, between_iff}

pub record Sendable (K : Computation) (m : Message) : Type 0 where
  pub sender-there : m.sender < stations K
  pub receiver-there : m.receiver < stations K
  pub sent-there : (1 ≤ m.sent) × (m.sent ≤ count K m.sender)
  pub received-there : m.received ≤ count K m.receiver
  pub apart : m.sender ≢ m.receiver
  pub carried : m.received ≢ 0 → m.sent ≤ clock K m.receiver m.received ! m.sender

ltb_iff : (a b : ℕ) → (ltb a b ≡ true) ↔ (a < b)
ltb_iff a b = (ltb-true a b, lt-ltb a b)

-- A test that need not be passed where another is.
unless_iff : {P : Type 0} (k : ℕ) (b : Bool) → (b ≡ true) ↔ P → (eqb k 0 || b ≡ true) ↔ (k ≢ 0 → P)
unless_iff k b p = let o = or_iff (eqb k 0) b (eqb-true k 0, eq-eqb k 0) p in (
  λ h n. elim (o.0 h) [ inl z ↦ absurd (n z) | inr q ↦ q ],
  λ h. o.1 (elim (ℕ_discrete k 0) [ yes z ↦ inl z | no n ↦ inr (h n) ]),
)

apart_iff : (a b : ℕ) → (not (eqb a b) ≡ true) ↔ (a ≢ b)
apart_iff a b = (λ h e. (not_iff (eqb a b)).0 h (eq-eqb a b e), λ n. (not_iff (eqb a b)).1 (λ h. n (eqb-true a b h)))

abbrev Parts : Computation → Message → Type 0
Parts K m =
    ((((((m.sender < stations K) × (m.receiver < stations K))
    × ((1 ≤ m.sent) × (m.sent ≤ count K m.sender)))
    × (m.received ≤ count K m.receiver))
    × (m.sender ≢ m.receiver))
    × (m.received ≢ 0 → m.sent ≤ clock K m.receiver m.received ! m.sender))

parts_iff : (K : Computation) (m : Message) → (message_ok K m ≡ true) ↔ Parts K m
unfolding message_ok
parts_iff K m =
    and_iff _ _
    (and_iff _ _
    (and_iff _ _
    (and_iff _ _ (and_iff _ _ (ltb_iff m.sender (stations K)) (ltb_iff m.receiver (stations K))) (between_iff 1 (count K m.sender) m.sent))
    (leb_iff m.received (count K m.receiver)))
    (apart_iff m.sender m.receiver))
    (unless_iff m.received _ (leb_iff m.sent (clock K m.receiver m.received ! m.sender)))

pub message_ok_iff : (K : Computation) (m : Message) → (message_ok K m ≡ true) ↔ Sendable K m
message_ok_iff K m = (
  λ h. let f = (parts_iff K m).0 h in
      record { sender-there = f.0.0.0.0.0; receiver-there = f.0.0.0.0.1; sent-there = f.0.0.0.1; received-there = f.0.0.1; apart = f.0.1; carried = f.1 },
  λ s. (parts_iff K m).1 (((((s.sender-there, s.receiver-there), s.sent-there), s.received-there), s.apart), s.carried),
)
