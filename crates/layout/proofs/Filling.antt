-- Lists whose front is the same, and a message that was put into the facts. Assumes nothing.
use mathlib.Core.Path.{◌≡◌, refl, sym, ap, ◌∙◌}
use mathlib.Core.List.{List}
use Prim.Native.Nat.{ℕ, ◌+◌, ◌≤◌, ◌<◌}
use native.Mathlib.Omega.{arith}
use native.Mathlib.Nat.{add-zero}
use lib.ListN.{length, take, drop, get_or}
use lib.Seq.{ext_get_or, get_or-take, get_or-drop, length-take-le}
use Rattle.model.specs.Limits.{message_size}
use Rattle.model.specs.Computation.{Message}
use Rattle.table.specs.Table.{message_bytes}
use Rattle.structure.specs.Laid.{Filed}
use Rattle.layout.specs.Messages.{Entered}

-- Lists whose first n are the same.
pub front_same : (a b : List ℕ) (n : ℕ) → n ≤ length a → length a ≡ length b → ((i : ℕ) → i < n → get_or a i 0 ≡ get_or b i 0) → take n a ≡ take n b
front_same a b n h l e =
    let x : length (take n a) ≡ n = length-take-le n a h in
    let y : length (take n b) ≡ n = length-take-le n b (omega arith) in
    ext_get_or 0 (take n a) (take n b) (x ∙ sym y) (λ i k. get_or-take n a i 0 (omega arith) ∙ e i (omega arith) ∙ sym (get_or-take n b i 0 (omega arith)))

-- What was put is the message that stands in the store.
pub filed : {t d : List ℕ} (m : Message) (from at : ℕ) → take message_size (drop from t) ≡ message_bytes m → Entered t from d at → Filed m d at
filed {t} {d} m from at e g = record {
  pair = omega (arith, g.pair, rw (add-zero from) at (byte 0 m.sender (omega arith) refl), byte 2 m.receiver (omega arith) refl);
  sent = g.sent ∙ byte 1 m.sent (omega arith) refl;
  received = g.received ∙ byte 3 m.received (omega arith) refl;
  receiver_low = omega (arith, g.receiver_low, byte 2 m.receiver (omega arith) refl);
  sent_low = omega (arith, g.sent_low, byte 1 m.sent (omega arith) refl);
  received_low = omega (arith, g.received_low, byte 3 m.received (omega arith) refl);
}
  where
    byte : (i v : ℕ) → i < message_size → get_or (message_bytes m) i 0 ≡ v → get_or t (from + i) 0 ≡ v
    byte i v h w = sym (get_or-drop from t i 0) ∙ sym (get_or-take message_size (drop from t) i 0 h) ∙ ap (λ (l : List ℕ). get_or l i 0) e ∙ w
