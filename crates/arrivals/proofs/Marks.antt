-- Marks by the event that sends a message, and what they come to: the largest up to an event is what is due by it.
use mathlib.Core.Path.{◌≡◌, refl, sym, ap, ap₂, ◌∙◌}
use mathlib.Core.Logic.{◌⊎◌, inl, inr}
use Prim.Native.Nat.{ℕ, zero, suc, ◌+◌, ◌≤◌, ◌<◌, max}
use native.Mathlib.Omega.{arith}
use native.Mathlib.Decide.{dec_lt}
use mathlib.Core.Bool.{Bool, true, false, cond, ◌&&◌}
use mathlib.Core.List.{List, ◌∷◌}
use mathlib.Core.Option.{Option, none, some}
use lib.Dec.{eqb, leb}
use lib.ListN.{length, get_or, drop, set, replicate, get_or-replicate, drop_of_length-le}
use lib.Seq.{get_or-set_same, get_or-set_other}
use borrow.Author.Tests.{eqb-true, eqb-false, eq-eqb, ne_eqb, le-leb, lt-leb}
use Rattle.model.specs.Computation.{Message}
use Rattle.model.specs.Atom.{sent_by}
use Rattle.lattice.specs.Due.{later, due}
use Rattle.lattice.proofs.Tests.{and-true, same_test}
use Rattle.lattice.proofs.Lists.{All, elem_there}
use Rattle.lattice.proofs.Lists.All.{done, also}
use Rattle.structure.specs.Layout.{coded}
use Rattle.structure.specs.Laid.{pair_of, message_at, Filed, AllFiled}
use Rattle.arrivals.specs.Table.{receipt, sent_at, latest, highest}

-- THE LOOP OVER THE MESSAGES

module _ (pair : ℕ) (m : Message) (l : List Message) (t : List ℕ) (marks : (x : ℕ) → x < 256 → get_or t x 0 ≡ latest pair x l) where
  -- A message of the pair is marked where it is sent.
  mark_hit : length t ≡ 256 → m.sent < 256 → pair_of m.sender m.receiver ≡ pair → (v : ℕ) → v ≡ max (get_or t m.sent 0) (receipt m.received)
      → (x : ℕ) → x < 256 → get_or (set t m.sent v) x 0 ≡ latest pair x (m ∷ l)
  unfolding latest sent_at
  mark_hit n h e v f x b = go (eqb m.sent x) refl
    where
      go : (c : Bool) → eqb m.sent x ≡ c → get_or (set t m.sent v) x 0 ≡ latest pair x (m ∷ l)
      go true q =
          let r : m.sent ≡ x = eqb-true m.sent x q in
          rw (eq-eqb (pair_of m.sender m.receiver) pair e, q, ← marks x b) (rw (← r) (get_or-set_same t m.sent v 0 (omega arith) ∙ f))
      go false q =
          let r = eqb-false m.sent x q in
          rw (eq-eqb (pair_of m.sender m.receiver) pair e, q) (get_or-set_other t m.sent x v 0 (λ z. r (sym z)) ∙ marks x b)

  -- Any other is passed over.
  mark_miss : (pair_of m.sender m.receiver ≡ pair → ⊥) → (x : ℕ) → x < 256 → get_or t x 0 ≡ latest pair x (m ∷ l)
  unfolding latest sent_at
  mark_miss f x b = rw (ne_eqb (pair_of m.sender m.receiver) pair f) (marks x b)

-- A turn of the loop, at message q of those that stand in the facts.
module _ (l : List Message) (facts : List ℕ) (listed : AllFiled l facts) (q : ℕ) (h : q < length l) where
  abbrev at : ℕ
  at = message_at q

  abbrev m : Message
  m = (elem_there l q h).0

  filed : Filed m facts at
  filed = listed.each q m (elem_there l q h).1

  pub sent_low : get_or facts (at + 1) 0 < 256
  sent_low = omega (arith, filed.sent, filed.sent_low)

  pub received_low : get_or facts (at + 2) 0 < 256
  received_low = omega (arith, filed.received, filed.received_low)

  module _ (pair p : ℕ) (e : p ≡ suc q) (t : List ℕ) (marks : (x : ℕ) → x < 256 → get_or t x 0 ≡ latest pair x (drop p l)) where
    marks-behind : (x : ℕ) → x < 256 → get_or t x 0 ≡ latest pair x (drop (suc q) l)
    marks-behind = rw e at marks

    pub marked : length t ≡ 256 → get_or facts at 0 ≡ pair → (v : ℕ) → v ≡ max (get_or t (get_or facts (at + 1) 0) 0) (receipt (get_or facts (at + 2) 0))
        → (x : ℕ) → x < 256 → get_or (set t (get_or facts (at + 1) 0) v) x 0 ≡ latest pair x (drop q l)
    marked n f v g =
        rw ((elem_there l q h).2, filed.sent)
        (mark_hit pair m (drop (suc q) l) t marks-behind n filed.sent_low (sym filed.pair ∙ f) v (rw (filed.sent, filed.received) at g))

    pub passed : (get_or facts at 0 ≡ pair → ⊥) → (x : ℕ) → x < 256 → get_or t x 0 ≡ latest pair x (drop q l)
    passed f = rw (elem_there l q h).2 (mark_miss pair m (drop (suc q) l) t marks-behind (λ z. f (filed.pair ∙ z)))

-- Before the loop.
pub no_marks : (pair : ℕ) (l : List Message) (p : ℕ) → length l ≡ p → (t : List ℕ) → t ≡ replicate 256 0 → (x : ℕ) → x < 256 → get_or t x 0 ≡ latest pair x (drop p l)
unfolding latest
no_marks pair l p e t z x h = rw (drop_of_length-le l {i = p} (omega arith), z) (get_or-replicate 256 x 0 0 h)

-- RECEIPTS

pub receipt-never : (k : ℕ) → k ≡ 0 → 255 ≡ receipt k
unfolding receipt
receipt-never k e = rw (eq-eqb k 0 e)

pub receipt-there : (k : ℕ) → (k ≡ 0 → ⊥) → k ≡ receipt k
unfolding receipt
receipt-there k f = rw (ne_eqb k 0 f)

-- An event up to c, or 255.
abbrev Low : ℕ → ℕ → Type 0
Low c v = (v ≡ 255) ⊎ (v ≤ c)

receipt-low : (c k : ℕ) → k ≤ c → Low c (receipt k)
receipt-low c zero h = inl (sym (receipt-never 0 refl))
receipt-low c (suc k) h = inr (omega (arith, receipt-there (suc k) (λ e. omega arith)))

max-low : (c : ℕ) → c ≤ 255 → (v w : ℕ) → Low c v → Low c w → Low c (max v w)
max-low c h v w (inl e) (inl f) = inl (omega arith)
max-low c h v w (inl e) (inr f) = inl (omega arith)
max-low c h v w (inr e) (inl f) = inl (omega arith)
max-low c h v w (inr e) (inr f) = inr (omega arith)

-- All marks of a pair whose messages are received by event c.
pub latest-low : (c : ℕ) → c ≤ 255 → (pair x : ℕ) {l : List Message} → All (λ m. pair_of m.sender m.receiver ≡ pair → m.received ≤ c) l → Low c (latest pair x l)
unfolding latest sent_at
latest-low c h pair x done = inr (omega arith)
latest-low c h pair x (also {x = m} {l = l} g a) = go (eqb (pair_of m.sender m.receiver) pair) refl (eqb m.sent x) (latest-low c h pair x a)
  where
    go : (b : Bool) → eqb (pair_of m.sender m.receiver) pair ≡ b → (d : Bool) → Low c (latest pair x l) → Low c (cond (b && d) (max (latest pair x l) (receipt m.received)) (latest pair x l))
    go true e true r = max-low c h (latest pair x l) (receipt m.received) r (receipt-low c m.received (g (eqb-true (pair_of m.sender m.receiver) pair e)))
    go true e false r = r
    go false e d r = r

-- WHAT IS DUE

coded-later : (k : ℕ) (o : Option ℕ) → k < 256 → coded o ≤ 255 → coded (later k o) ≡ max (coded o) (receipt k)
unfolding coded later
coded-later zero o h b = omega (arith, receipt-never 0 refl)
coded-later (suc k) none h b = omega (arith, receipt-there (suc k) (λ e. omega arith))
coded-later (suc k) (some r) h b = omega (arith, receipt-there (suc k) (λ e. omega arith))

later-low : (k : ℕ) (o : Option ℕ) → k < 256 → coded o ≤ 255 → coded (later k o) ≤ 255
unfolding coded later
later-low zero o h b = omega arith
later-low (suc k) none h b = omega arith
later-low (suc k) (some r) h b = omega arith

-- Its receiver and the event that receives it are bytes.
abbrev pub Small : Message → Type 0
Small m = (m.receiver < 256) × (m.received < 256)

module _ (i j : ℕ) (small : j < 256) where
  -- One number tells the pair.
  pair_is : (m : Message) → m.receiver < 256 → eqb (pair_of m.sender m.receiver) (pair_of i j) ≡ eqb m.sender i && eqb m.receiver j
  pair_is m h = same_test _ _
      (λ e. let q = eqb-true (pair_of m.sender m.receiver) (pair_of i j) e in
      (and-true (eqb m.sender i) (eqb m.receiver j)).1 (eq-eqb m.sender i (omega arith), eq-eqb m.receiver j (omega arith)))
      (λ e. let q = (and-true (eqb m.sender i) (eqb m.receiver j)).0 e in
      eq-eqb (pair_of m.sender m.receiver) (pair_of i j) (omega (arith, eqb-true m.sender i q.0, eqb-true m.receiver j q.1)))

  due-low : (x : ℕ) {l : List Message} → All Small l → coded (due i j x l) ≤ 255
  unfolding due coded
  due-low x done = omega arith
  due-low x (also {x = m} {l = l} g a) = go (sent_by i j x m) (due-low x a)
    where
      go : (b : Bool) → coded (due i j x l) ≤ 255 → coded (cond b (later m.received (due i j x l)) (due i j x l)) ≤ 255
      go true h = later-low m.received (due i j x l) g.1 h
      go false h = h

  -- By event 0 what is sent at it; by a later event also what is due by the event before.
  due-zero : {l : List Message} → All Small l → coded (due i j 0 l) ≡ latest (pair_of i j) 0 l
  unfolding due latest sent_by sent_at coded
  due-zero done = refl
  due-zero (also {x = m} {l = l} g a) = rw (pair_is m g.0) (go (eqb m.sender i && eqb m.receiver j) m.sent (due-zero a))
    where
      d : Option ℕ
      d = due i j 0 l

      go : (b : Bool) (u : ℕ) → coded d ≡ latest (pair_of i j) 0 l
          → coded (cond (b && leb u 0) (later m.received d) d) ≡ cond (b && eqb u 0) (max (latest (pair_of i j) 0 l) (receipt m.received)) (latest (pair_of i j) 0 l)
      go true zero e = coded-later m.received d g.1 (due-low 0 a) ∙ ap (λ (v : ℕ). max v (receipt m.received)) e
      go true (suc u) e = rw (lt-leb (suc u) 0 (omega arith), ne_eqb (suc u) 0 (λ z. omega arith)) e
      go false u e = e

  due-suc : (x : ℕ) {l : List Message} → All Small l → coded (due i j (suc x) l) ≡ max (latest (pair_of i j) (suc x) l) (coded (due i j x l))
  unfolding due latest sent_by sent_at coded
  due-suc x done = refl
  due-suc x (also {x = m} {l = l} g a) = rw (pair_is m g.0) (go (eqb m.sender i && eqb m.receiver j) (dec_lt m.sent (suc x)) (dec_lt (suc x) m.sent) (due-suc x a))
    where
      d : Option ℕ
      d = due i j x l

      e : Option ℕ
      e = due i j (suc x) l

      v : ℕ
      v = latest (pair_of i j) (suc x) l

      r : ℕ
      r = receipt m.received

      first : coded (later m.received d) ≡ max (coded d) r
      first = coded-later m.received d g.1 (due-low x a)

      second : coded (later m.received e) ≡ max (coded e) r
      second = coded-later m.received e g.1 (due-low (suc x) a)

      go : (b : Bool) → Dec (m.sent < suc x) → Dec (suc x < m.sent) → coded e ≡ max v (coded d)
          → coded (cond (b && leb m.sent (suc x)) (later m.received e) e) ≡ max (cond (b && eqb m.sent (suc x)) (max v r) v) (coded (cond (b && leb m.sent x) (later m.received d) d))
      go false p q h = h
      go true (yes p) q h =
          rw (le-leb m.sent (suc x) (omega arith), le-leb m.sent x (omega arith), ne_eqb m.sent (suc x) (λ z. omega arith)) (omega (arith, first, second, h))
      go true (no p) (yes q) h =
          rw (lt-leb m.sent (suc x) q, lt-leb m.sent x (omega arith), ne_eqb m.sent (suc x) (λ z. omega arith)) h
      go true (no p) (no q) h =
          rw (le-leb m.sent (suc x) (omega arith), lt-leb m.sent x (omega arith), eq-eqb m.sent (suc x) (omega arith)) (omega (arith, second, h))

  -- The largest mark up to an event is what is due by it.
  pub highest-due : {l : List Message} → All Small l → (t : List ℕ) → ((x : ℕ) → x < 256 → get_or t x 0 ≡ latest (pair_of i j) x l) → (x : ℕ) → x < 256 → highest t x ≡ coded (due i j x l)
  unfolding highest
  highest-due a t h zero b = h 0 b ∙ sym (due-zero a)
  highest-due a t h (suc x) b = ap₂ max (h (suc x) b) (highest-due a t h x (omega arith)) ∙ sym (due-suc x a)
