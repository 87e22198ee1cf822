-- Where the clocks of a computation stand that is laid out.
use mathlib.Core.Path.{◌≡◌, refl, sym, ap, ◌∙◌}
use Prim.Native.Nat.{ℕ, zero, suc, ◌+◌, ◌*◌, ◌≤◌, ◌<◌}
use native.Mathlib.Omega.{arith}
use native.Mathlib.Nat.{zero-mul}
use mathlib.Core.Bool.{Bool, true, false, cond}
use mathlib.Core.List.{List, [], ◌∷◌, map}
use mathlib.Core.Option.{Option, none, some}
use lib.Dec.{eqb}
use lib.ListN.{length, get_or, take, drop, get_or-map}
use lib.Seq.{get_or-take}
use borrow.Author.Tests.{ne_eqb}
use Rattle.model.specs.Limits.{limits}
use Rattle.model.specs.Lists.{total}
use Rattle.model.specs.Cut.{Cut, empty}
use Rattle.model.specs.Computation.{Computation, Event, history, count, full, no_event, clock}
use Rattle.model.specs.Structure.{Structure, row}
use Rattle.lattice.proofs.Sums.{total-take}
use Rattle.lattice.proofs.Consistency.{count-le}
use Rattle.structure.specs.declared.Shape.{Shape}
use Rattle.structure.specs.Layout.{event_row, structure_at}
use Rattle.structure.specs.Laid.{Laid}
use Rattle.structure.proofs.Rows.{decoded-is}
use Rattle.structure.proofs.Places.{row-place}

-- ROWS OF EVENTS

pub event-fits : (off k : ℕ) → event_row off k ≤ off + k
unfolding event_row
event-fits off k = go (eqb k 0)
  where
    go : (b : Bool) → cond b 0 (off + k) ≤ off + k
    go true = omega arith
    go false = omega arith

event-later : (off k : ℕ) → 0 < k → event_row off k ≡ off + k
unfolding event_row
event-later off k h = rw (ne_eqb k 0 (λ e. omega arith))

get_d_some : {A B : Type 0} (g : A → B) (l : List A) (k : ℕ) (d : A) (z : B) → k < length l → get_or (map g l) k z ≡ g (get_or l k d)
get_d_some g [] k d z h = absurd (omega arith)
get_d_some g (a ∷ l) zero d z h = refl
get_d_some g (a ∷ l) (suc k) d z h = get_d_some g l k d z (omega arith)

module _ (K : Computation) (shape : Shape) (starts : List ℕ) (laid : Laid K shape starts) where
  pub events-few : (j : ℕ) → count K j ≤ limits.events
  events-few j = omega (arith, count-le K j, laid.counted, shape.few_events)

  -- The starts as a structure: a row for each clock.
  abbrev S₀ : Structure
  S₀ = structure_at shape.n (full K) starts []

  pub row-clock : (j k : ℕ) → k ≤ count K j → row S₀ j k ≡ some (clock K j k)
  unfolding row clock
  row-clock j zero h = ap some (laid.starts_least ∙ ap empty (sym laid.stationed))
  row-clock j (suc k) h =
      ap (λ (r : List (List (Option Cut))). get_or (get_or r j []) k none) laid.starts_rows
      ∙ ap (λ (r : List (Option Cut)). get_or r k none) (get_or-map (map (λ (v : Event). some v.clock)) K.events j [])
      ∙ get_d_some (λ (v : Event). some v.clock) (history K j) k no_event none h

  module _ (s : ℕ) (h : s < shape.n) where
    -- The events of all stations before s.
    pub offs_is : get_or shape.offs s 0 ≡ total (take s (full K))
    offs_is = shape.offs_are s h ∙ ap (λ (c : List ℕ). total (take s c)) laid.counts_are

    full_is : get_or shape.counts s 0 ≡ get_or (full K) s 0
    full_is = sym (get_or-take shape.n shape.counts s 0 h) ∙ ap (λ (l : List ℕ). get_or l s 0) laid.counts_are

    pub count-is : get_or shape.counts s 0 ≡ count K s
    count-is = full_is ∙ get_or-map length K.events s []

    pub own-fit : get_or shape.offs s 0 + get_or shape.counts s 0 ≤ shape.e
    own-fit = omega (arith, total-take (full K) s, offs_is, laid.counted, full_is)

    -- The clock of event k, where the code finds it.
    pub clock-is : (k : ℕ) → k ≤ count K s → take shape.n (drop (event_row (get_or shape.offs s 0) k * shape.n) starts) ≡ clock K s k
    unfolding event_row clock
    clock-is zero l = rw zero-mul (laid.starts_least ∙ ap empty (sym laid.stationed))
    clock-is (suc k) l =
        let e : event_row (get_or shape.offs s 0) (suc k) ≡ total (take s (full K)) + suc k = event-later (get_or shape.offs s 0) (suc k) (omega arith) ∙ ap (λ (x : ℕ). x + suc k) offs_is in
        let c : suc k ≤ get_or (full K) s 0 = omega (arith, count-is, full_is) in
        ap (λ (x : ℕ). take shape.n (drop (x * shape.n) starts)) e
        ∙ decoded-is _ _ (sym (row-place shape.n (full K) starts [] s (suc k) (λ z. omega arith) c) ∙ row-clock s (suc k) l)
