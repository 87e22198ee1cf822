-- The loop over all starts: after i of them their rows stand at the front of the workspace, and their rounds are counted.
use mathlib.Core.Path.{◌≡◌, refl, sym, ap, ap₂, ◌∙◌}
use Prim.Native.Nat.{ℕ, suc, ◌+◌, ◌*◌, ◌≤◌, ◌<◌}
use native.Mathlib.Numerals.{add-one}
use native.Mathlib.Nat.{suc-mul, mul-le-mul}
use native.Mathlib.Omega.{arith}
use mathlib.Core.List.{List, [], ◌∷◌, ◌++◌, map, map-append}
use mathlib.Core.Option.{Option}
use lib.ListN.{length, get_or, take, drop}
use lib.Seq.{take-suc, take_all}
use Rattle.model.specs.Lists.{sum}
use Rattle.model.specs.Cut.{Cut}
use Rattle.model.specs.Computation.{Computation, stations, count, clock, event_count}
use Rattle.model.specs.Structure.{Structure}
use Rattle.model.specs.Basis.{run}
use Rattle.lattice.proofs.Sums.{sum-snoc}
use Rattle.structure.specs.Layout.{decoded, rows_at}
use Rattle.structure.proofs.Places.{rows-add}
use Rattle.structure.proofs.Standing.{rows_same}
use Rattle.slots.specs.Slots.{number}
use Rattle.slots.specs.Pair.{Intersected}
use Rattle.slots.proofs.Starts.{clocks, length-clocks, start-at, intersected}

-- P is what is known of a computation and a pair of its structures; a start is counted with at most `most` rounds.
module _ (n e most : ℕ) (P : Computation → Structure → Structure → Type 0) where
  abbrev reached_by : Structure → Structure → Cut → Option Cut
  reached_by S T c = (run S T (suc e) c).reached

  abbrev rounds_by : Structure → Structure → Cut → ℕ
  rounds_by S T c = (run S T (suc e) c).rounds

  pub record Turned (i : ℕ) (ws : List ℕ) (rounds : ℕ) : Type 0 where
    pub in-range : i ≤ e + 1
    pub few : rounds ≤ i * most
    pub rows : (K : Computation) (S T : Structure) → P K S T → rows_at n i ws ≡ map (reached_by S T) (take i (clocks K))
    pub sums : (K : Computation) (S T : Structure) → P K S T → rounds ≡ sum (rounds_by S T) (take i (clocks K))

  pub turned_none : (ws : List ℕ) → Turned 0 ws 0
  unfolding rows_at sum
  turned_none ws = record { in-range = omega arith; few = omega arith; rows = λ K S T k. refl; sums = λ K S T k. refl }

  module _ (sizes : (K : Computation) (S T : Structure) → P K S T → (stations K ≡ n) × (event_count K ≡ e)) where
    -- The row of one start, and its rounds.
    module _ (i : ℕ) (ws ws₂ : List ℕ) (rounds r : ℕ) (t : Turned i ws rounds) (h : i ≤ e) (front : take (i * n) ws₂ ≡ take (i * n) ws) (small : r ≤ most)
        (one : (K : Computation) (S T : Structure) → P K S T → (j k : ℕ) → k ≤ count K j → i ≡ number K j k
        → (decoded (take n (drop (i * n) ws₂)) ≡ reached_by S T (clock K j k)) × (r ≡ rounds_by S T (clock K j k))) where
      module _ (K : Computation) (S T : Structure) (k : P K S T) where
        there : i < length (clocks K)
        there = omega (arith, length-clocks K, (sizes K S T k).1)

        this : (decoded (take n (drop (i * n) ws₂)) ≡ reached_by S T (get_or (clocks K) i [])) × (r ≡ rounds_by S T (get_or (clocks K) i []))
        this = let s = start-at K i (omega (arith, (sizes K S T k).1)) in rw s.4 (one K S T k s.0 s.1 s.2 s.3)

        last : take (i + 1) (clocks K) ≡ take i (clocks K) ++ (get_or (clocks K) i [] ∷ [])
        last = rw add-one (take-suc (clocks K) i [] there)

        rows_more : rows_at n (i + 1) ws₂ ≡ map (reached_by S T) (take (i + 1) (clocks K))
        unfolding rows_at
        rows_more =
            rows-add n i 1 ws₂
            ∙ ap₂ (λ (x y : List (Option Cut)). x ++ y) (rows_same n i ws₂ ws front ∙ t.rows K S T k) (ap (λ (o : Option Cut). o ∷ []) this.0)
            ∙ sym (map-append (reached_by S T) (take i (clocks K)) (get_or (clocks K) i [] ∷ [])) ∙ ap (map (reached_by S T)) (sym last)

        sums-more : rounds + r ≡ sum (rounds_by S T) (take (i + 1) (clocks K))
        sums-more =
            ap₂ (λ (x y : ℕ). x + y) (t.sums K S T k) this.1
            ∙ sym (sum-snoc (rounds_by S T) (take i (clocks K)) (get_or (clocks K) i [])) ∙ ap (sum (rounds_by S T)) (sym last)

      pub turned_more : Turned (i + 1) ws₂ (rounds + r)
      turned_more = record {
        in-range = omega arith;
        few = omega (arith, t.few, suc-mul i most, ap (λ (x : ℕ). x * most) (add-one i));
        rows = rows_more;
        sums = sums-more;
      }

    pub turned_all : (i : ℕ) (ws : List ℕ) (rounds : ℕ) → i ≡ suc e → Turned i ws rounds → (K : Computation) (S T : Structure) → P K S T → Intersected K S T n ws rounds
    turned_all i ws rounds q t K S T k =
        let l : take (suc e) (clocks K) ≡ clocks K = take_all (suc e) (clocks K) (omega (arith, length-clocks K, (sizes K S T k).1)) in
        intersected K n e (sizes K S T k).0 (sizes K S T k).1 S T ws rounds
        (ap (λ (m : ℕ). rows_at n m ws) (sym q) ∙ t.rows K S T k ∙ ap (λ (m : ℕ). map (reached_by S T) (take m (clocks K))) q ∙ ap (map (reached_by S T)) l)
        (t.sums K S T k ∙ ap (λ (m : ℕ). sum (rounds_by S T) (take m (clocks K))) q ∙ ap (sum (rounds_by S T)) l)

-- The sum stays small.
pub few-rounds : (i e most rounds : ℕ) → i ≤ e → e ≤ 254 → most ≤ e + 5 → rounds ≤ i * most → rounds ≤ 65786
few-rounds i e most rounds h l m f = let b : i * most ≤ 254 * 259 = mul-le-mul {n₁ = i} {m₁ = most} {n₂ = 254} {m₂ = 259} (omega arith) (omega arith) in omega arith
