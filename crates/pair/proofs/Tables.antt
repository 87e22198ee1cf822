-- The tables of a pair: a structure of a basis that stands in the workspace, and the starts of a computation, have their rows in their slots.
use mathlib.Core.Path.{◌≡◌, refl, sym, ap, subst, ◌∙◌}
use Prim.Native.Nat.{ℕ, zero, suc, ◌+◌, ◌*◌, ◌≤◌, ◌<◌}
use native.Mathlib.Omega.{arith}
use native.Mathlib.Nat.{le_trans, mul-le-mul}
use mathlib.Core.List.{List, []}
use mathlib.Core.Option.{Option, some}
use lib.ListN.{get_or, take, drop}
use lib.Seq.{drop-drop}
use Rattle.model.specs.Lists.{total}
use Rattle.model.specs.Cut.{Cut}
use Rattle.model.specs.Computation.{Computation, Consistent, stations, count, clock, full, event_count}
use Rattle.model.specs.Structure.{Structure, row}
use Rattle.lattice.proofs.Bases.{Good}
use Rattle.lattice.proofs.Consistency.{full_at, count-le, clock-consistent}
use Rattle.structure.specs.declared.Shape.{Shape}
use Rattle.structure.specs.Layout.{decoded, structure_at}
use Rattle.structure.proofs.Rows.{decoded-some}
use Rattle.structure.proofs.Places.{row-place}
use Rattle.structure.proofs.Starts.{row-clock, offs_is}
use Rattle.slots.specs.Slots.{Code, number, Small, Says, Slots, Rows, Offsets}
use Rattle.structure.specs.Laid.{Laid}
use Rattle.pair.specs.Post.{structure_of, Begun}

-- The rows of a structure in the workspace, if those that are there are consistent cuts.
module _ (K : Computation) (m : Small K) (n : ℕ) (stationed : stations K ≡ n) (w bs : List ℕ) (at : ℕ) where
  abbrev S : Structure
  S = structure_at n (full K) (drop at w) bs

  module _ (consistent : (j k : ℕ) → k ≤ count K j → (d : Cut) → row S j k ≡ some d → Consistent K d) where
    says : (j k : ℕ) → k ≤ count K j → decoded (take n (drop (at + number K j k * n) w)) ≡ row S j k
    unfolding number row
    says j zero h =
        let z : at + 0 * n ≡ at = omega arith in
        let q : Consistent K (take n (drop at w)) = consistent j zero h (take n (drop at w)) refl in
        ap (λ (x : ℕ). decoded (take n (drop x w))) z ∙ decoded-some (take n (drop at w)) (λ e. omega (arith, e, q.within 0, count-le K 0, m.few_events))
    says j (suc k) h =
        let t : ℕ = (total (take j (full K)) + suc k) * n in
        ap (λ (x : List ℕ). decoded (take n x)) (sym (drop-drop t at w))
        ∙ sym (row-place n (full K) (drop at w) bs j (suc k) (λ e. omega arith) (omega (arith, full_at K j)))

    pub rows_in : Rows K (row S) n at w
    rows_in = record { says = says; consistent = consistent }

-- A structure of a basis.
pub structure_rows : (K : Computation) (m : Small K) (n e : ℕ) → stations K ≡ n → (w b : List ℕ) (i : ℕ) → Good K (structure_of n e K w b i) → Rows K (row (structure_of n e K w b i)) n (i * ((e + 1) * n)) w
structure_rows K m n e p w b i g = rows_in K m n p w (drop (i * (16 * n)) b) (i * ((e + 1) * n)) (λ j k h d f. (g.rows_in j k d f).0)

-- The code's offsets are those of the computation.
pub offsets_are : (x : Shape) (K : Computation) (code : Code) → stations K ≡ x.n → ((j : ℕ) → j < x.n → get_or x.offs j 0 ≡ total (take j (full K)))
    → ((i : ℕ) → i < x.n → get_or code.before i 0 ≡ get_or x.offs i 0) → Offsets K code
offsets_are x K code p o c j h = c j (omega (arith, p)) ∙ o j (omega (arith, p))

-- STARTS

module _ (K : Computation) (x : Shape) (starts : List ℕ) (laid : Laid K x starts) where
  laid-small : Small K
  laid-small = record {
    valid = laid.valid;
    some_station = omega (arith, laid.stationed, x.some_station);
    few_stations = omega (arith, laid.stationed, x.few_stations);
    few_events = omega (arith, laid.counted, x.few_events);
  }

  -- The starts as a structure: a row for each clock.
  abbrev S₀ : Structure
  S₀ = structure_at x.n (full K) (drop 0 starts) []

  start-rows : Rows K (row S₀) x.n 0 starts
  start-rows = rows_in K laid-small x.n laid.stationed starts [] 0 (λ j k h d f.
      let e : some (clock K j k) ≡ some d = sym (row-clock K x starts laid j k h) ∙ f in
      let q : clock K j k ≡ d = cc in
      subst (Consistent K) q (clock-consistent K laid.valid j k h))

  laid-begun : (first : List ℕ) → Slots K (row S₀) first → Begun x first K
  laid-begun first s = record {
    small = laid-small;
    stationed = laid.stationed;
    counted = laid.counted;
    counts_are = laid.counts_are;
    offs_are = offs_is K x starts laid;
    clocks_are = λ j k h. subst (λ (o : Option Cut). Says K o (take 8 (drop (8 * number K j k) first))) (row-clock K x starts laid j k h) (s j k h);
  }

  -- The starts as the code puts them into a table.
  pub laid_table : (code : Code) (first : List ℕ) → ((i : ℕ) → i < x.n → get_or code.before i 0 ≡ get_or x.offs i 0)
      → ((R : ℕ → ℕ → Option Cut) → Small K → stations K ≡ x.n → event_count K ≡ x.e → Offsets K code → Rows K R x.n 0 starts → Slots K R first) → Begun x first K
  laid_table code first c t = laid-begun first (t (row S₀) laid-small laid.stationed laid.counted (offsets_are x K code laid.stationed (offs_is K x starts laid) c) start-rows)

-- The rounds of a pair, by the bound that holds for every way to it.
pub looser : (e r : ℕ) → r ≤ (e + 1) * (e + 2) → r ≤ (e + 1) * (e + 5)
looser e r h = le_trans h (mul-le-mul {n₁ = e + 1} {m₁ = e + 2} {n₂ = e + 1} {m₂ = e + 5} (omega arith) (omega arith))
