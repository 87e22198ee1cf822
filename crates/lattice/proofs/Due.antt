-- A table for 07 by the sender's count, filled from the last count down: how code raises a cut with one look and one join.
-- Entry x is what is due by event x of i, unless that event of j brings in events of i past x; then it is the entry of these.
use mathlib.Core.Path.{◌≡◌, refl}
use Prim.Native.Nat.{ℕ, zero, suc, ◌≤◌, ◌<◌, max}
use native.Mathlib.Omega.{arith}
use mathlib.Core.Bool.{Bool, true, false, cond}
use mathlib.Core.Option.{Option, none, some}
use mathlib.Core.List.{List, ◌∷◌}
use Rattle.model.specs.Cut.{Cut, ◌!◌, ◌⊑◌}
use Rattle.model.specs.Computation.{Computation, Message, Consistent, count, clock}
use Rattle.model.specs.Atom.{sent_by, up_to, raise_atom}
use Rattle.model.specs.Atom.Atom.{clear}
use Rattle.lattice.specs.Due.{later, due}
use Rattle.lattice.proofs.Valid.{Valid, GoodMessage}
use Rattle.lattice.proofs.Tests.{clash}
use Rattle.lattice.proofs.Lists.{All, all_map, all_head, all_tail}
use Rattle.lattice.proofs.Lists.All.{done, also}
use Rattle.lattice.proofs.Cuts.{join-at, join-left, join-least}
use Rattle.lattice.proofs.Consistency.{join-consistent, clock-consistent, clock-own, clock-least}
use Rattle.lattice.proofs.Structures.{Least}
use Rattle.lattice.proofs.Shortcuts.{least_same}
use Rattle.lattice.proofs.Messages.{Received, sent_by_iff, Clear, clear-least}

module _ (K : Computation) (ok : Valid K) (i j : ℕ) where
  -- The messages of the list from i to j that are sent by event x are received by event k.
  abbrev By : ℕ → ℕ → List Message → Type 0
  By x k l = All (Received i j x k) l

  -- What is due by event x of i: an event of j by which all is received, and that every clear cut with event x holds.
  abbrev pub Due : ℕ → List Message → Option ℕ → Type 0
  Due x l none = (e : Cut) → Clear K ok i j l e → x ≤ e ! i → ⊥
  Due x l (some k) = (k ≤ count K j) × By x k l × ((e : Cut) → Clear K ok i j l e → x ≤ e ! i → k ≤ e ! j)

  module _ (x : ℕ) (m : Message) (l : List Message) where
    due-other : sent_by i j x m ≡ false → (o : Option ℕ) → Due x l o → Due x (m ∷ l) o
    due-other q none h = λ e u v. h e (u.0, all_tail u.1) v
    due-other q (some k) h = (h.0, also (λ s r t. clash ((sent_by_iff i j x m).1 ((s, r), t)) q) h.1, λ e u v. h.2 e (u.0, all_tail u.1) v)

    due-later : GoodMessage K m → sent_by i j x m ≡ true → (k : ℕ) → m.received ≡ k → (o : Option ℕ) → Due x l o → Due x (m ∷ l) (later k o)
    unfolding later
    due-later g q zero e o h = let w = (sent_by_iff i j x m).0 q in
        λ d u v. omega (arith, (all_head u.1 w.0.0 w.0.1 (omega (arith, w.1))).0)
    due-later g q (suc k) e none h = λ d u v. h d (u.0, all_tail u.1) v
    due-later g q (suc k) e (some r) h = let w = (sent_by_iff i j x m).0 q in
        let b : suc k ≤ count K j = rw (w.0.1, e) at g.received in (
          omega (arith, h.0),
          also {x = m} (λ s t v. (omega (arith, e), omega (arith, e))) (all_map (λ n u s t v. ((u s t v).0, omega (arith, (u s t v).1))) h.1),
          λ d u v. omega (arith, (all_head u.1 w.0.0 w.0.1 (omega (arith, w.1))).1, h.2 d (u.0, all_tail u.1) v),
        )

  pub due_ok : (x : ℕ) {l : List Message} → All (GoodMessage K) l → Due x l (due i j x l)
  unfolding due
  due_ok x done = (omega arith, done, λ e u v. omega arith)
  due_ok x (also {x = m} {l = l} g a) = go (sent_by i j x m) refl (due_ok x a)
    where
      go : (b : Bool) → sent_by i j x m ≡ b → Due x l (due i j x l) → Due x (m ∷ l) (cond b (later m.received (due i j x l)) (due i j x l))
      go true q h = due-later x m l g q m.received refl (due i j x l) h
      go false q h = due-other x m l q (due i j x l) h

  -- An entry: due also by the events of i that its own event brings in.
  abbrev pub Entry : ℕ → Option ℕ → Type 0
  Entry x none = Due x K.messages none
  Entry x (some k) = Due x K.messages (some k) × By (max x (clock K j k ! i)) k K.messages

  -- No entry, if something due is never received.
  pub entry-none : (x : ℕ) → due i j x K.messages ≡ none → Entry x none
  entry-none x e = rw e at (due_ok x ok.messages)

  -- What is due, if its event brings in no more of i.
  pub entry_now : (x k : ℕ) → due i j x K.messages ≡ some k → clock K j k ! i ≤ x → Entry x (some k)
  entry_now x k e h = let d : Due x K.messages (some k) = rw e at (due_ok x ok.messages) in
      (d, all_map (λ m u s r t. u s r (omega arith)) d.1)

  -- Else the entry of what it brings in.
  pub entry_on : (x k : ℕ) → due i j x K.messages ≡ some k → x < clock K j k ! i → (o : Option ℕ) → Entry (clock K j k ! i) o → Entry x o
  entry_on x k e h o t = go o t
    where
      d : Due x K.messages (some k)
      d = rw e at (due_ok x ok.messages)

      brought : (f : Cut) → Clear K ok i j K.messages f → x ≤ f ! i → clock K j k ! i ≤ f ! i
      brought f u v = clock-least K ok j k f u.0 (d.2 f u v) i

      go : (r : Option ℕ) → Entry (clock K j k ! i) r → Entry x r
      go none n = λ f u v. n f u (brought f u v)
      go (some r) n = (
        (n.0.0, all_map (λ m u a b c. u a b (omega arith)) n.0.1, λ f u v. n.0.2 f u (brought f u v)),
        all_map (λ m u a b c. u a b (omega arith)) n.1,
      )

  -- With the entry of its count of i, a cut is raised by one join.
  entry-least : (c : Cut) → Consistent K c → (o : Option ℕ) → Entry (c ! i) o → Least (Clear K ok i j K.messages) (λ e. c ⊑ e) (up_to K j c o)
  unfolding up_to
  entry-least c p none h = λ e u v. h e u (v i)
  entry-least c p (some k) h = let v = clock K j k in (
    (join-consistent K ok c v p (clock-consistent K ok j k h.0.0), all_map (λ m u s r t. ((u s r (omega (arith, join-at c v i))).0, omega (arith, (u s r (omega (arith, join-at c v i))).1, join-at c v j, clock-own K ok j k h.0.0))) h.1),
    join-left c v,
    λ e u w. join-least c v e w (clock-least K ok j k e u.0 (h.0.2 e u (w i))),
  )

  -- So the table gives what the definition does.
  pub entry-raises : (c : Cut) → Consistent K c → (o : Option ℕ) → Entry (c ! i) o → up_to K j c o ≡ raise_atom K true (clear i j) c
  entry-raises c p o h = least_same K (λ e. c ⊑ e) (λ d u. u.0) _ _ (entry-least c p o h) (clear-least K ok i j c p)
