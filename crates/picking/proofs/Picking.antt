-- Laws of the entries to look up: what a row says of its own station's count.
use mathlib.Core.Path.{◌≡◌, refl, sym, ap, ◌∙◌}
use Prim.Native.Nat.{ℕ, zero, suc, ◌+◌, ◌*◌, ◌≤◌, ◌<◌}
use native.Mathlib.Omega.{arith}
use native.Mathlib.Decide.{ℕ_discrete}
use mathlib.Core.Bool.{cond}
use mathlib.Core.List.{List}
use mathlib.Core.Option as math
use mathlib.Core.Option.{none, some}
use Rattle.std.specs.Prelude.{Option, None, Some}
use lib.Dec.{eqb}
use lib.ListN.{length, get_or, take, drop, set}
use lib.Seq.{get_or-set_same, get_or-set_other, get_or-take, get_or-drop}
use borrow.Author.Tests.{eq-eqb, ne_eqb}
use Rattle.model.specs.Lists.{total}
use Rattle.model.specs.Cut.{Cut, ◌!◌}
use Rattle.model.specs.Computation.{Computation, Consistent, count, full}
use Rattle.model.specs.Structure.{Structure, row}
use Rattle.lattice.specs.OfStation.{count_in}
use Rattle.structure.specs.Layout.{decoded}
use Rattle.structure.proofs.Rows.{decoded-some, decoded-is, is_none, first-at}
use Rattle.slots.specs.Slots.{number, Small, Says, Slots, Rows}
use Rattle.numbering.proofs.Numbers.{number_same, first_some}
use Rattle.picking.specs.Formed.{pick_of, Numbers, entry_of}
use Rattle.picking.specs.Rows.{row_of}
use Rattle.picking.proofs.Reading.{row_cell, row_first, slot_row}

pub number-none : (K : Computation) (s k : ℕ) → k ≡ 0 → 0 ≡ number K s k
unfolding number
number-none K s zero e = refl
number-none K s (suc k) e = absurd (omega arith)

pub number-some : (K : Computation) (s k b : ℕ) → (k ≡ 0 → ⊥) → b ≡ total (take s (full K)) → b + k ≡ number K s k
unfolding number
number-some K s zero b f e = absurd (f refl)
number-some K s (suc k) b f e = omega arith

module _ (K : Computation) (s : ℕ) where
  -- Numbers are equal where the events are.
  pick_number : (i k : ℕ) → cond (eqb (number K s i) (number K s k)) 0 (number K s i) ≡ pick_of K s k (some i)
  pick_number i k = go (ℕ_discrete i k)
    where
      go : Dec (i ≡ k) → cond (eqb (number K s i) (number K s k)) 0 (number K s i) ≡ cond (eqb i k) 0 (number K s i)
      go (yes z) = rw (eq-eqb (number K s i) (number K s k) (ap (number K s) z), eq-eqb i k z) refl
      go (no z) = rw (ne_eqb (number K s i) (number K s k) (λ y. z (number_same K s i k y)), ne_eqb i k z) refl

  -- The event found by a row in numbers.
  from_numbers : Small K → (o : math.Option Cut) (c : List ℕ) (found : Option ℕ) → Says K o c → (get_or c 0 0 ≡ 255 → found ≡ None)
      → ((get_or c 0 0 ≡ 255 → ⊥) → found ≡ Some (get_or c s 0)) → Numbers K s (count_in s o) found
  unfolding count_in
  from_numbers m none c found h e f = e h
  from_numbers m (some d) c found h e f = f (λ z. omega (arith, z, first_some K m d c h)) ∙ ap Some (h.cells s)

  pub from_table : Small K → (A : Structure) (table : List ℕ) (k : ℕ) (found : Option ℕ) → s < 8 → Slots K (row A) table → k ≤ count K s
      → (get_or table (number K s k * 8) 0 ≡ 255 → found ≡ None) → ((get_or table (number K s k * 8) 0 ≡ 255 → ⊥) → found ≡ Some (get_or table (number K s k * 8 + s) 0))
      → Numbers K s (count_in s (row A s k)) found
  from_table m A table k found l t h e f =
      let v : ℕ = number K s k in
      from_numbers m (row A s k) (row_of table v) found (slot_row K (row A) table s k v t h refl) (λ z. e (sym (row_first table v) ∙ z))
      (λ z. f (λ y. z (row_first table v ∙ y)) ∙ ap Some (sym (row_cell table v s l)))

  -- The event found by a row in counts.
  from_counts : (o : math.Option Cut) (ws : List ℕ) (at n : ℕ) (found : Option ℕ) → s < n → decoded (take n (drop at ws)) ≡ o → ((d : Cut) → o ≡ some d → Consistent K d)
      → (get_or ws at 0 ≡ 255 → found ≡ None) → (get_or ws (at + s) 0 ≤ count K s → (get_or ws at 0 ≡ 255 → ⊥) → found ≡ Some (number K s (get_or ws (at + s) 0)))
      → Numbers K s (count_in s o) found
  unfolding count_in
  from_counts none ws at n found l h p e f = e (go (ℕ_discrete (get_or ws at 0) 255))
    where
      go : Dec (get_or ws at 0 ≡ 255) → get_or ws at 0 ≡ 255
      go (yes z) = z
      go (no z) =
          let y : some (take n (drop at ws)) ≡ none = sym (decoded-some (take n (drop at ws)) (λ u. z (sym (first-at ws at) ∙ sym (get_or-take n (drop at ws) 0 0 (omega arith)) ∙ u))) ∙ h in
          let n : ◌≡◌ {A = ℕ} 0 1 = cc in
          absurd (omega arith)
  from_counts (some d) ws at n found l h p e f = f (omega (arith, cell, (p d refl).within s)) there ∙ ap (λ (i : ℕ). Some (number K s i)) cell
    where
      row_is : take n (drop at ws) ≡ d
      row_is = decoded-is (take n (drop at ws)) d h

      there : get_or ws at 0 ≡ 255 → ⊥
      there z =
          let y : none ≡ some d = sym (is_none n (drop at ws) (omega arith) (first-at ws at ∙ z)) ∙ h in
          let n : ◌≡◌ {A = ℕ} 0 1 = cc in
          absurd (omega arith)

      cell : get_or ws (at + s) 0 ≡ d ! s
      cell = sym (get_or-drop at ws s 0) ∙ sym (get_or-take n (drop at ws) s 0 l) ∙ ap (λ (c : List ℕ). get_or c s 0) row_is

  pub from_rows : (A : Structure) (ws : List ℕ) (from n k : ℕ) (found : Option ℕ) → s < n → Rows K (row A) n from ws → k ≤ count K s
      → (get_or ws (from + number K s k * n) 0 ≡ 255 → found ≡ None)
      → (get_or ws (from + number K s k * n + s) 0 ≤ count K s → (get_or ws (from + number K s k * n) 0 ≡ 255 → ⊥) → found ≡ Some (number K s (get_or ws (from + number K s k * n + s) 0)))
      → Numbers K s (count_in s (row A s k)) found
  from_rows A ws from n k found l t h e f = from_counts (row A s k) ws (from + number K s k * n) n found l (t.says s k h) (t.consistent s k h) e f

  -- The entry to look up where this event is found.
  pub entry-found : (k : ℕ) (o : math.Option ℕ) (found : Option ℕ) → Numbers K s o found → entry_of found (number K s k) ≡ pick_of K s k o
  entry-found k none found e = rw e refl
  entry-found k (some i) found e = rw e (pick_number i k)

  -- The events before k are done.
  abbrev pub Picked : Structure → List ℕ → ℕ → Type 0
  Picked A pick k = (i : ℕ) → i < k → get_or pick (number K s i) 0 ≡ pick_of K s i (count_in s (row A s i))

  pub picked_more : (A : Structure) (pick : List ℕ) (k v p : ℕ) → v < length pick → v ≡ number K s k → p ≡ pick_of K s k (count_in s (row A s k)) → Picked A pick k → Picked A (set pick v p) (k + 1)
  picked_more A pick k v p h e q f i l = go (ℕ_discrete i k)
    where
      go : Dec (i ≡ k) → get_or (set pick v p) (number K s i) 0 ≡ pick_of K s i (count_in s (row A s i))
      go (yes z) = rw (z, ← e) (get_or-set_same pick v p 0 h ∙ q)
      go (no z) = get_or-set_other pick v (number K s i) p 0 (λ y. z (number_same K s i k (y ∙ e))) ∙ f i (omega arith)
