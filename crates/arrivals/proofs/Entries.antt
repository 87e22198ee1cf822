-- A table whose entries are settled leads each count of the sender to where 07 is true.
use mathlib.Core.Path.{◌≡◌, refl, sym, ap, ◌∙◌}
use mathlib.Core.Logic.{⊎_elim}
use Prim.Native.Nat.{ℕ, zero, suc, ◌+◌, ◌*◌, ◌≤◌, ◌<◌}
use native.Mathlib.Omega.{arith}
use native.Mathlib.Decide.{dec_lt}
use mathlib.Core.List.{List}
use mathlib.Core.Option.{Option, none, some}
use lib.ListN.{length, get_or, take, drop}
use lib.Seq.{get_or-take, get_or-drop}
use borrow.Author.Tests.{eq-eqb, ne_eqb, lt-ltb, le-ltb}
use Rattle.model.specs.Cut.{◌!◌}
use Rattle.model.specs.Computation.{Computation, Message, count, clock}
use Rattle.lattice.specs.Due.{due}
use Rattle.lattice.proofs.Valid.{GoodMessage}
use Rattle.lattice.proofs.Lists.{all_elems, All, all_map, all_both}
use Rattle.lattice.proofs.Consistency.{clock-consistent}
use Rattle.lattice.proofs.Due.{Due, due_ok, entry-none, entry_now, entry_on}
use Rattle.structure.specs.declared.Shape.{Shape}
use Rattle.structure.specs.Layout.{coded, event_row}
use Rattle.structure.specs.Laid.{pair_of, Laid, Facts}
use Rattle.structure.proofs.Places.{row_fits}
use Rattle.structure.proofs.Starts.{event-fits, events-few, count-is, own-fit, clock-is}
use Rattle.arrivals.specs.Table.{latest, highest, brought, onward, settled, Known, Entered, Arrivals}
use Rattle.arrivals.proofs.Marks.{Small, latest-low, highest-due}

-- Each entry of the table is what is due by then.
abbrev AllDue : Computation → ℕ → ℕ → List ℕ → Type 0
AllDue K i j table = (x : ℕ) → x ≤ count K i → get_or table x 0 ≡ coded (due i j x K.messages)

module _ (K : Computation) (x : Shape) (starts : List ℕ) (laid : Laid K x starts) where
  -- THE MESSAGES

  small : (facts : List ℕ) → Facts K x facts → All Small K.messages
  small facts f = all_elems K.messages (λ q m e. ((f.filed.each q m e).receiver_low, (f.filed.each q m e).received_low))

  -- The sender's events, and the events of all stations before the receiver.
  module _ (i j : ℕ) (hi : i < x.n) (hj : j < x.n) (m off : ℕ) (m-is : m ≡ get_or x.counts i 0) (off-is : off ≡ get_or x.offs j 0) where
    sent_up_to : m ≡ count K i
    sent_up_to = m-is ∙ count-is K x starts laid i hi

    -- The clock of an event of the receiver, where the code looks for the sender's events.
    brought-is : (k : ℕ) → k ≤ count K j → brought x.n i off starts k ≡ clock K j k ! i
    unfolding brought
    brought-is k h =
        let e : take x.n (drop (event_row off k * x.n) starts) ≡ clock K j k = rw off-is (clock-is K x starts laid j hj k h) in
        sym (get_or-take x.n (drop (event_row off k * x.n) starts) i 0 hi ∙ get_or-drop (event_row off k * x.n) starts i 0)
        ∙ ap (λ (c : List ℕ). c ! i) e

    due-there : (c k : ℕ) → due i j c K.messages ≡ some k → k ≤ count K j
    due-there c k e = let d : Due K laid.valid i j c K.messages (some k) = rw e at (due_ok K laid.valid i j c laid.valid.messages) in d.0

    due-known : (t : List ℕ) (c : ℕ) → get_or t c 0 ≡ coded (due i j c K.messages) → Known x.n i off starts t c
    unfolding coded
    due-known t c e f = go (due i j c K.messages) refl
      where
        go : (o : Option ℕ) → due i j c K.messages ≡ o → event_row off (get_or t c 0) * x.n + i < length starts
        go none q = absurd (f (e ∙ ap coded q))
        go (some k) q =
            let s : get_or t c 0 ≡ k = e ∙ ap coded q in
            let r : event_row off k ≤ x.e = omega (arith, event-fits off k, due-there c k q, own-fit K x starts laid j hj, count-is K x starts laid j hj, off-is) in
            rw s (omega (arith, row_fits (event_row off k) x.e x.n r, laid.starts_fit))

    -- THE ENTRIES

    -- Due are those of t, and t₂ is settled.
    module _ (t t₂ : List ℕ) (all-due : AllDue K i j t)
        (at : (c : ℕ) → c ≤ count K i → get_or t₂ c 0 ≡ settled x.n i off starts t₂ c (get_or t c 0)) where
      step : (c : ℕ) → c ≤ count K i → ((y : ℕ) → c < y → y ≤ count K i → Entered K laid.valid i j t₂ y) → Entered K laid.valid i j t₂ c
      unfolding coded settled onward
      step c h above = go (due i j c K.messages) refl
        where
          go : (o : Option ℕ) → due i j c K.messages ≡ o → Entered K laid.valid i j t₂ c
          go none q = (none, at c h ∙ rw (eq-eqb (get_or t c 0) 255 (all-due c h ∙ ap coded q)), entry-none K laid.valid i j c q)
          go (some k) q = past (dec_lt c (clock K j k ! i))
            where
              s : get_or t c 0 ≡ k
              s = all-due c h ∙ ap coded q

              b : k ≤ count K j
              b = due-there c k q

              there : get_or t₂ c 0 ≡ onward t₂ c k (clock K j k ! i)
              there = at c h ∙ rw (s, ne_eqb k 255 (λ z. omega (arith, b, events-few K x starts laid j)), brought-is k b)

              past : Dec (c < clock K j k ! i) → Entered K laid.valid i j t₂ c
              past (yes l) =
                  let r = above (clock K j k ! i) l ((clock-consistent K laid.valid j k b).within i) in
                  (r.0, there ∙ rw (lt-ltb c (clock K j k ! i) l) r.1, entry_on K laid.valid i j c k q l r.0 r.2)
              past (no l) = (some k, there ∙ rw (le-ltb c (clock K j k ! i) (omega arith)), entry_now K laid.valid i j c k q (omega arith))

      entered : (left c : ℕ) → c ≤ count K i → count K i ≤ c + left → Entered K laid.valid i j t₂ c
      entered zero c h l = step c h (λ y a b. absurd (omega arith))
      entered (suc left) c h l = step c h (λ y a b. entered left y b (omega arith))

    entered-reach : (t : List ℕ) (c : ℕ) → Entered K laid.valid i j t c → (get_or t c 0 ≡ 255 → ⊥) → get_or t c 0 ≤ count K j
    unfolding coded
    entered-reach t c (none, e, n) f = absurd (f e)
    entered-reach t c (some k, e, n) f = omega (arith, e, n.0.0)

    -- Marked, gathered and settled.
    module _ (facts : List ℕ) (f : Facts K x facts) (t t₁ : List ℕ) (marks : (c : ℕ) → c < 256 → get_or t c 0 ≡ latest (pair_of i j) c K.messages)
        (gathered : (c : ℕ) → c ≤ m → get_or t₁ c 0 ≡ highest t c) where
      gathered_due : AllDue K i j t₁
      gathered_due c h =
          gathered c (omega (arith, sent_up_to))
          ∙ highest-due i j (omega (arith, x.few_stations)) (small facts f) t marks c (omega (arith, events-few K x starts laid i))

      pub gathered_known : (c : ℕ) → c ≤ m → Known x.n i off starts t₁ c
      gathered_known c h = due-known t₁ c (gathered_due c (omega (arith, sent_up_to)))

      received : (m : Message) → (m.receiver < 256) × GoodMessage K m → pair_of m.sender m.receiver ≡ pair_of i j → m.received ≤ count K j
      received m g e = let r : m.receiver ≡ j = omega (arith, x.few_stations) in rw r at g.1.received

      mark_reach : (c : ℕ) → c < 256 → (get_or t c 0 ≡ 255 → ⊥) → get_or t c 0 ≤ count K j
      mark_reach c h z =
          ⊎_elim (λ e. absurd (z (marks c h ∙ e))) (λ l. omega (arith, marks c h))
          (latest-low (count K j) (omega (arith, events-few K x starts laid j)) (pair_of i j) c (all_map received (all_both (all_map (λ m s. s.0) (small facts f)) laid.valid.messages)))

      pub arrivals : (t₂ : List ℕ) → ((c : ℕ) → m < c → get_or t₁ c 0 ≡ get_or t c 0)
          → ((c : ℕ) → c ≤ m → get_or t₂ c 0 ≡ settled x.n i off starts t₂ c (get_or t₁ c 0))
          → ((c : ℕ) → m < c → get_or t₂ c 0 ≡ get_or t₁ c 0) → Arrivals K laid.valid i j t₂
      arrivals t₂ other at same = record { entries = entries; reach = λ c h. go c h (dec_lt (count K i) c) }
        where
          entries : (c : ℕ) → c ≤ count K i → Entered K laid.valid i j t₂ c
          entries c h = entered t₁ t₂ gathered_due (λ y l. at y (omega (arith, sent_up_to))) (count K i) c h (omega arith)

          go : (c : ℕ) → c < 256 → Dec (count K i < c) → (get_or t₂ c 0 ≡ 255 → ⊥) → get_or t₂ c 0 ≤ count K j
          go c h (no l) z = entered-reach t₂ c (entries c (omega arith)) z
          go c h (yes l) z =
              let g : m < c = omega (arith, sent_up_to) in
              let e : get_or t₂ c 0 ≡ get_or t c 0 = same c g ∙ other c g in
              rw e (mark_reach c h (λ y. z (e ∙ y)))
