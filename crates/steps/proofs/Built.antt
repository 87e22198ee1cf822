-- A structure whose rows are what f makes of the starts is the one that `build` makes of f.
use mathlib.Core.Path.{◌≡◌, refl, sym, ap, ap₂, ◌∙◌}
use Prim.Native.Nat.{ℕ, zero, suc, ◌+◌, ◌-◌, ◌*◌, ◌≤◌, ◌<◌}
use native.Mathlib.Omega.{arith}
use native.Mathlib.Nat.{not-suc-le-zero, le_of_suc-le-suc}
use mathlib.Core.List.{List, [], ◌∷◌, map}
use mathlib.Core.Bool.{Bool, true, false}
use mathlib.Core.Option.{Option, some}
use lib.Dec.{ltb}
use lib.ListN.{length, get_or, take, drop}
use lib.Seq.{get_or-take}
use borrow.Author.Tests.{eq-eqb, ltb-true, ltb-false}
use Rattle.model.specs.Lists.{sum, total}
use Rattle.model.specs.Cut.{Cut, empty, inside_any}
use Rattle.model.specs.Computation.{Computation, Event, Consistent, stations, full, count, no_event, clock}
use Rattle.model.specs.Structure.{keep, build, build_on}
use Rattle.structure.specs.Layout.{decoded, rows_at, stations_at, bars_at}
use Rattle.structure.specs.declared.Shape.{Shape}
use Rattle.structure.specs.Laid.{Laid}
use Rattle.lattice.proofs.Consistency.{clock-consistent}
use Rattle.structure.proofs.Rows.{decoded-none, decoded-some, decoded-is}
use Rattle.structure.proofs.Starts.{events-few}
use Rattle.steps.specs.Rows.{row_at}
use Rattle.steps.proofs.Parts.{row_zero, row-suc, row_skip}

-- A row that says a cut does not begin with 255.
pub first-there : (x c : List ℕ) → decoded x ≡ some c → get_or x 0 0 ≡ 255 → ⊥
first-there x c e f = let n = decoded-none x f in let z : ◌≡◌ {A = ℕ} 0 1 = cc in omega arith

module _ {A : Type 0} {x y : A} {l m : List A} (e : x ∷ l ≡ y ∷ m) where
  head_of : x ≡ y
  head_of = cc e

  tail_of : l ≡ m
  tail_of = cc e

-- ROWS, STATION BY STATION

abbrev clocks : List Event → List (Option Cut)
clocks l = map (λ (v : Event). some v.clock) l

module _ (n : ℕ) where
  row-there : (l : List Event) (w : List ℕ) → rows_at n (length l) w ≡ clocks l → (i : ℕ) → i < length l
      → decoded (row_at n i w) ≡ some (get_or l i no_event).clock
  unfolding rows_at
  row-there [] w e i h = absurd (not-suc-le-zero h)
  row-there (v ∷ l) w e zero h = ap decoded (row_zero n w) ∙ head_of e
  row-there (v ∷ l) w e (suc i) h = ap decoded (row-suc n i w) ∙ row-there l (drop n w) (tail_of e) i (le_of_suc-le-suc h)

  -- Row i is the clock of an event.
  each-there : (ls : List (List Event)) (w : List ℕ) → stations_at n (map length ls) w ≡ map clocks ls → (i : ℕ) → i < total (map length ls)
      → (s k : ℕ) × (k < length (get_or ls s [])) × (decoded (row_at n i w) ≡ some (get_or (get_or ls s []) k no_event).clock)
  unfolding stations_at sum
  each-there [] w e i h = absurd (not-suc-le-zero h)
  each-there (l ∷ ls) w e i h = go (ltb i (length l)) refl (each-there ls (drop (length l * n) w) (tail_of e) (i - length l))
    where
      Event_of : List (List Event) → ℕ → List ℕ → Type 0
      Event_of r q v = (s k : ℕ) × (k < length (get_or r s [])) × (decoded (row_at n q v) ≡ some (get_or (get_or r s []) k no_event).clock)

      go : (b : Bool) → ltb i (length l) ≡ b → (i - length l < total (map length ls) → Event_of ls (i - length l) (drop (length l * n) w)) → Event_of (l ∷ ls) i w
      go true q r = (0, i, ltb-true i (length l) q, row-there l w (head_of e) i (ltb-true i (length l) q))
      go false q r =
          let a : length l ≤ i = ltb-false i (length l) q in
          let z : i ≡ length l + (i - length l) = omega arith in
          let g = r (omega arith) in
          (suc g.0, g.1, g.2, ap (λ (x : ℕ). decoded (row_at n x w)) z ∙ ap decoded (row_skip n (length l) (i - length l) w) ∙ g.3)

  module _ (f : Cut → Option Cut) where
    rows_built : (l : List Event) (v w : List ℕ) → rows_at n (length l) v ≡ clocks l
        → ((i : ℕ) → i < length l → decoded (row_at n i w) ≡ f (row_at n i v)) → rows_at n (length l) w ≡ map (λ (x : Event). f x.clock) l
    unfolding rows_at
    rows_built [] v w e g = refl
    rows_built (x ∷ l) v w e g =
        ap₂ (λ (o : Option Cut) (r : List (Option Cut)). o ∷ r)
        (ap decoded (sym (row_zero n w)) ∙ g 0 (omega arith) ∙ ap f (row_zero n v ∙ decoded-is (take n v) x.clock (head_of e)))
        (rows_built l (drop n v) (drop n w) (tail_of e)
        (λ i h. ap decoded (sym (row-suc n i w)) ∙ g (suc i) (omega arith) ∙ ap f (row-suc n i v)))

    pub stations_built : (ls : List (List Event)) (v w : List ℕ) → stations_at n (map length ls) v ≡ map clocks ls
        → ((i : ℕ) → i < total (map length ls) → decoded (row_at n i w) ≡ f (row_at n i v))
        → stations_at n (map length ls) w ≡ map (map (λ (x : Event). f x.clock)) ls
    unfolding stations_at sum
    stations_built [] v w e g = refl
    stations_built (l ∷ ls) v w e g =
        ap₂ (λ (o : List (Option Cut)) (r : List (List (Option Cut))). o ∷ r)
        (rows_built l v w (head_of e) (λ i h. g i (omega arith)))
        (stations_built ls (drop (length l * n) v) (drop (length l * n) w) (tail_of e)
        (λ i h. ap decoded (sym (row_skip n (length l) i w)) ∙ g (length l + i) (omega arith) ∙ ap f (row_skip n (length l) i v)))

-- A COMPUTATION LAID OUT

module _ (K : Computation) (shape : Shape) (starts : List ℕ) (laid : Laid K shape starts) where
  pub first-row : row_at shape.n 0 starts ≡ empty shape.n
  first-row = row_zero shape.n starts ∙ laid.starts_least

  pub later_rows : stations_at shape.n (full K) (drop shape.n starts) ≡ map clocks K.events
  later_rows = laid.starts_rows

  -- Each start is the clock of an event, or the empty cut.
  start_is : (i : ℕ) → i ≤ shape.e → (s k : ℕ) × (k ≤ count K s) × (row_at shape.n i starts ≡ clock K s k)
  unfolding clock
  start_is zero h = (0, 0, omega arith, first-row ∙ ap empty (sym laid.stationed))
  start_is (suc i) h =
      let r = each-there shape.n K.events (drop shape.n starts) later_rows i (omega (arith, laid.counted)) in
      (r.0, suc r.1, r.2, row-suc shape.n i starts ∙ decoded-is _ _ r.3)

  pub start-consistent : (i : ℕ) → i ≤ shape.e → Consistent K (row_at shape.n i starts)
  start-consistent i h = let r = start_is i h in rw r.3 (clock-consistent K laid.valid r.0 r.1 r.2)

  -- The first cell of no start is 255.
  pub start-there : (i : ℕ) → i ≤ shape.e → get_or (row_at shape.n i starts) 0 0 ≡ 255 → ⊥
  start-there i h f = omega (arith, f, (start-consistent i h).within 0, events-few K shape starts laid 0)

  module _ (f : Cut → Option Cut) (w : List ℕ) (rows : (i : ℕ) → i ≤ shape.e → decoded (row_at shape.n i w) ≡ f (row_at shape.n i starts)) where
    least-is : f (empty (stations K)) ≡ decoded (take shape.n w)
    least-is = sym (ap decoded (sym (row_zero shape.n w)) ∙ rows 0 (omega arith) ∙ ap f (first-row ∙ ap empty (sym laid.stationed)))

    rows_are : stations_at shape.n (full K) (drop shape.n w) ≡ map (map (λ (x : Event). f x.clock)) K.events
    rows_are = stations_built shape.n f K.events (drop shape.n starts) (drop shape.n w) later_rows
        (λ i h. ap decoded (sym (row-suc shape.n i w)) ∙ rows (suc i) (omega (arith, laid.counted)) ∙ ap f (row-suc shape.n i starts))

    pub build-empty : (bars : List Cut) → get_or w 0 0 ≡ 255 → build K f bars ≡ []
    unfolding build build_on
    build-empty bars h = rw (least-is, decoded-none (take shape.n w) (get_or-take shape.n w 0 0 shape.some_station ∙ h))

    pub build-there : (bars : List Cut) → (get_or w 0 0 ≡ 255 → ⊥)
        → build K f bars ≡ keep (record { least = take shape.n w; rows = stations_at shape.n (full K) (drop shape.n w); bars = bars })
    unfolding build build_on
    build-there bars h = rw (least-is, decoded-some (take shape.n w) (λ g. h (sym (get_or-take shape.n w 0 0 shape.some_station) ∙ g)), rows_are)

-- With no bars nothing is dropped.
pub keep_free : (c : Cut) (r : List (List (Option Cut))) → keep (record { least = c; rows = r; bars = [] }) ≡ record { least = c; rows = r; bars = [] } ∷ []
unfolding keep inside_any
keep_free c r = refl

pub no_bars : (n : ℕ) (b : List ℕ) → get_or b 0 0 ≡ 255 → bars_at n 16 b ≡ []
unfolding bars_at
no_bars n b e = rw (eq-eqb (get_or b 0 0) 255 e)
