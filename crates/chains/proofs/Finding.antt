-- What each start looks up: the row of the left structure if the right set is of one station, and else the cut of its first round.
use mathlib.Core.Path.{◌≡◌, refl, sym, ◌∙◌, subst}
use Prim.Native.Nat.{ℕ, zero, suc, ◌+◌, ◌*◌, ◌≤◌, ◌<◌}
use native.Mathlib.Omega.{arith}
use native.Mathlib.Decide.{ℕ_discrete}
use mathlib.Core.Bool.{true, false}
use mathlib.Core.List.{List}
use mathlib.Core.Option.{Option, none, some}
use lib.ListN.{length, get_or, take, drop, replicate}
use lib.Seq.{paste}
use Rattle.model.specs.Cut.{Cut, ◌!◌, ◌⊑◌, join}
use Rattle.model.specs.Computation.{Computation, count, clock, event_count}
use Rattle.model.specs.Structure.{Structure, row, joined}
use Rattle.lattice.specs.OfStation.{own_row}
use Rattle.lattice.specs.Chains.{outcome_of_first_round, entries}
use Rattle.lattice.proofs.Structures.{Least}
use Rattle.lattice.proofs.Cuts.{trans⊑, join-left}
use Rattle.lattice.proofs.Bases.{In, Good}
use Rattle.lattice.proofs.Chains.{right-start, left-start}
use Rattle.structure.specs.declared.Shape.{Shape}
use Rattle.slots.specs.Slots.{number, Small, Says, Slots}
use Rattle.numbering.proofs.Numbers.{number-le, says_none, says_some, join-says}
use Rattle.slots.specs.Pair.{Above}
use Rattle.picking.specs.Formed.{Picks}
use Rattle.picking.specs.Rows.{row_of}
use Rattle.picking.proofs.Reading.{slot_row, row_new, row_old}
use Rattle.chaining.specs.declared.Chain.{Chain}
use Rattle.chaining.specs.Table.{Chained, Given}
use Rattle.lookups.specs.Found.{Found}
use Rattle.chains.specs.Known.{RightKnown, LeftKnown}

-- A row contains its clock.
row-above : (K : Computation) (S : Structure) → Good K S → (j k : ℕ) → k ≤ count K j → Above (clock K j k) (row S j k)
row-above K S g j k h m e = let l : Least (In K S) (λ x. clock K j k ⊑ x) (some m) = rw e at (g.rows-least j k h) in l.1

-- THE RIGHT SET IS OF ONE STATION

module _ (K : Computation) (S T : Structure) (x : Shape) (s from : ℕ) (ws left first : List ℕ) (k : RightKnown K S T x s from ws left first) where
  pub right_given : (picks : List ℕ) → Picks K s T picks → Given K T S s picks left first
  right_given picks p = record { small = k.formed.small; good = k.good_left; of_station = k.of_station; picks_are = p; slots_are = k.slots_left; clocks_are = k.clocks_are }

  pub right-found : (picks : List ℕ) (chain : Chain) → Picks K s T picks → Chained K true s (entries K true s (own_row T s) S (suc (count K s))) 1 chain → Found K S T s left first picks chain
  right-found picks chain p ch = record {
    own = T;
    other = S;
    right = true;
    rows = row S;
    small = k.formed.small;
    of_station = k.of_station;
    picks_are = p;
    chained = ch;
    cuts_are = k.slots_left;
    clocks_are = k.clocks_are;
    above_clock = λ j i h. row-above K S k.good_left j i h;
    starts = λ j i h. right-start K k.formed.small.valid S T k.good_left k.good_right s (own_row T s) k.of_station j i h;
  }

-- THE LEFT SET IS OF ONE STATION

-- What the first round comes to contains its start.
first_above : (K : Computation) (T : Structure) → Good K T → (s j k : ℕ) → k ≤ count K j → (o : Option Cut) → Above (clock K j k) (outcome_of_first_round T s j k o)
unfolding outcome_of_first_round joined
first_above K T g s j k h none m e = let z : ◌≡◌ {A = ℕ} 0 1 = cc in absurd (omega arith)
first_above K T g s j k h (some l) m e = go (row T j k) (row T s (l ! s)) (row-above K T g j k h) e
  where
    go : (o p : Option Cut) → Above (clock K j k) o → joined o p ≡ some m → clock K j k ⊑ m
    go none p a q = let z : ◌≡◌ {A = ℕ} 0 1 = cc in absurd (omega arith)
    go (some t) none a q = let z : ◌≡◌ {A = ℕ} 0 1 = cc in absurd (omega arith)
    go (some t) (some u) a q = let z : join t u ≡ m = cc in subst (λ y. clock K j k ⊑ y) z (trans⊑ (clock K j k) t (join t u) (a t refl) (join-left t u))

module _ (K : Computation) (S T : Structure) (x : Shape) (s : ℕ) (left right first : List ℕ) (k : LeftKnown K S T x s left right first) where
  pub left_given : (picks : List ℕ) → Picks K s S picks → Given K S T s picks right first
  left_given picks p = record { small = k.both.small; good = k.both.good_right; of_station = k.of_station; picks_are = p; slots_are = k.both.slots_right; clocks_are = k.clocks_are }

  pub left-found : (cuts picks : List ℕ) (chain : Chain) → Slots K (λ j i. outcome_of_first_round T s j i (row S j i)) cuts → Picks K s S picks
      → Chained K false s (entries K false s (own_row S s) T (suc (count K s))) 1 chain → Found K S T s cuts first picks chain
  left-found cuts picks chain c p ch = record {
    own = S;
    other = T;
    right = false;
    rows = λ j i. outcome_of_first_round T s j i (row S j i);
    small = k.both.small;
    of_station = k.of_station;
    picks_are = p;
    chained = ch;
    cuts_are = c;
    clocks_are = k.clocks_are;
    above_clock = λ j i h. first_above K T k.both.good_right s j i h (row S j i);
    starts = λ j i h. left-start K k.both.small.valid S T k.both.good_left k.both.good_right s (own_row S s) k.of_station j i h;
  }

-- THE CUTS OF THE FIRST ROUND

module _ (K : Computation) (S T : Structure) (s j k i : ℕ) (left right : List ℕ) (m : Small K) (sl : Slots K (row S) left) (sr : Slots K (row T) right) (h : k ≤ count K j) (e : i ≡ number K j k) where
  pub first-none : (r : List ℕ) → get_or (row_of left i) 0 0 ≡ 255 → get_or r 0 0 ≡ 255 → Says K (outcome_of_first_round T s j k (row S j k)) r
  unfolding outcome_of_first_round
  first-none r f g = let q : row S j k ≡ none = says_none K m (row S j k) (row_of left i) (slot_row K (row S) left j k i sl h e) f in rw q g

  pub first_some : (r : List ℕ) (v : ℕ) → (get_or (row_of left i) 0 0 ≡ 255 → ⊥) → v ≡ get_or (row_of left i) s 0 → r ≡ join (row_of right i) (row_of right v) → Says K (outcome_of_first_round T s j k (row S j k)) r
  unfolding outcome_of_first_round
  first_some r v f q u =
      let w = says_some K m (row S j k) (row_of left i) (slot_row K (row S) left j k i sl h e) f in
      rw (w.1, u) (join-says K m (row T j k) (row T s (w.0 ! s)) (row_of right i) (row_of right v) (slot_row K (row T) right j k i sr h e)
      (slot_row K (row T) right s (w.0 ! s) v sr (w.2.consistent.within s) (q ∙ w.2.cells s)))

-- The rows of the events numbered below i are done.
abbrev pub Done : Computation → (ℕ → ℕ → Option Cut) → List ℕ → ℕ → Type 0
Done K R cuts i = (j k : ℕ) → k ≤ count K j → number K j k < i → Says K (R j k) (row_of cuts (number K j k))

pub done_more : (K : Computation) (R : ℕ → ℕ → Option Cut) (cuts cuts₂ cut : List ℕ) (i : ℕ) → length cuts ≡ 2048 → i < 256 → length cut ≡ 8 → cuts₂ ≡ paste cuts (i * 8) cut 8
    → ((j k : ℕ) → k ≤ count K j → i ≡ number K j k → Says K (R j k) cut) → Done K R cuts i → Done K R cuts₂ (i + 1)
done_more K R cuts cuts₂ cut i l h m e f g j k n q = go (ℕ_discrete (number K j k) i)
  where
    below : (v : ℕ) → v < i + 1 → (v ≡ i → ⊥) → v < i
    below v q z = omega arith

    go : Dec (number K j k ≡ i) → Says K (R j k) (row_of cuts₂ (number K j k))
    go (yes z) = rw (z, e, row_new cuts cut i l h m) (f j k n (sym z))
    go (no z) = rw (e, row_old cuts cut i l h m (number K j k) z) (g j k n (below (number K j k) q z))

pub done_all : (K : Computation) (R : ℕ → ℕ → Option Cut) (cuts : List ℕ) (i : ℕ) → event_count K < i → Done K R cuts i → Slots K R cuts
done_all K R cuts i l g j k h = let e : number K j k * 8 ≡ 8 * number K j k = omega arith in
    subst (λ (y : ℕ). Says K (R j k) (take 8 (drop y cuts))) e (g j k h (omega (arith, number-le K j k h)))

-- Rounds that are all 0.
pub zeros : (n i : ℕ) → ◌≡◌ {A = ℕ} (get_or (replicate n 0) i 0) 0
zeros zero i = refl
zeros (suc n) zero = refl
zeros (suc n) (suc i) = zeros n i
