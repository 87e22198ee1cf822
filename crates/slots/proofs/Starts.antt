-- The starts of a pair, one behind the other: where each event stands among all, and that the rows and rounds of all starts are those of the rule.
use mathlib.Core.Path.{◌≡◌, refl, sym, ap, ap₂, ◌∙◌}
use Prim.Native.Nat.{ℕ, zero, suc, ◌+◌, ◌*◌, ◌-◌, ◌≤◌, ◌<◌}
use native.Mathlib.Omega.{arith}
use native.Mathlib.Decide.{dec_lt}
use mathlib.Core.List.{List, [], ◌∷◌, ◌++◌, map, map-append, map-map}
use mathlib.Core.Option.{Option}
use lib.ListN.{length, get_or, take, drop, length-append, length-map, get_or-append, get_or-map}
use lib.Seq.{take_at, drop_at, get_or-append-add}
use Rattle.model.specs.Lists.{sum, total}
use Rattle.model.specs.Cut.{Cut, empty}
use Rattle.model.specs.Computation.{Computation, Event, no_event, stations, count, clock, full, event_count}
use Rattle.model.specs.Structure.{Structure}
use Rattle.model.specs.Basis.{run, start}
use Rattle.model.specs.Rounds.{rounds_of_pair}
use Rattle.lattice.proofs.Sums.{sum-append}
use Rattle.lattice.proofs.Shape.{same_lengths}
use Rattle.structure.specs.Layout.{decoded, rows_at, stations_at}
use Rattle.structure.proofs.Places.{rows-add, length-rows}
use Rattle.slots.specs.Slots.{number}
use Rattle.slots.specs.Pair.{Intersected}

module _ {A : Type 0} where
  -- The lists of a list, in one.
  unfoldable pub flat : List (List A) → List A
  flat [] = []
  flat (l ∷ ls) = l ++ flat ls

  -- One list in pieces of these lengths.
  unfoldable pub pieces : List ℕ → List A → List (List A)
  pieces [] l = []
  pieces (m ∷ counts) l = take m l ∷ pieces counts (drop m l)

  pub pieces-flat : (ls : List (List A)) → pieces (map length ls) (flat ls) ≡ ls
  unfolding flat pieces
  pieces-flat [] = refl
  pieces-flat (l ∷ ls) = rw (take_at l (flat ls) (length l) refl, drop_at l (flat ls) (length l) refl, pieces-flat ls)

  length-flat : (ls : List (List A)) → length (flat ls) ≡ total (map length ls)
  unfolding flat sum
  length-flat [] = refl
  length-flat (l ∷ ls) = length-append l (flat ls) ∙ ap (λ (x : ℕ). length l + x) (length-flat ls)

  sum-flat : (g : A → ℕ) (ls : List (List A)) → sum g (flat ls) ≡ sum (sum g) ls
  unfolding sum flat
  sum-flat g [] = refl
  sum-flat g (l ∷ ls) = sum-append g l (flat ls) ∙ rw (sum-flat g ls)

module _ {A : Type 0} {B : Type 0} (f : A → B) where
  map-flat : (ls : List (List A)) → flat (map (map f) ls) ≡ map f (flat ls)
  unfolding flat
  map-flat [] = refl
  map-flat (l ∷ ls) = rw (map-flat ls) (sym (map-append f l (flat ls)))

  sum-map : (g : B → ℕ) (l : List A) → sum g (map f l) ≡ sum (λ (v : A). g (f v)) l
  unfolding sum
  sum-map g [] = refl
  sum-map g (x ∷ l) = rw (sum-map g l)

rows-flat : (n : ℕ) (counts w : List ℕ) → rows_at n (total counts) w ≡ flat (stations_at n counts w)
unfolding stations_at sum flat rows_at
rows-flat n [] w = refl
rows-flat n (m ∷ counts) w = rows-add n m (total counts) w ∙ rw (rows-flat n counts (drop (m * n) w))

stations-pieces : (n : ℕ) (counts w : List ℕ) → stations_at n counts w ≡ pieces counts (rows_at n (total counts) w)
unfolding stations_at sum pieces
stations-pieces n [] w = refl
stations-pieces n (m ∷ counts) w =
    let r = rows_at n m w in
    let q = rows_at n (total counts) (drop (m * n) w) in
    rw (rows-add n m (total counts) w, take_at r q m (length-rows n m w), drop_at r q m (length-rows n m w), stations-pieces n counts (drop (m * n) w))

-- Element i of a list of lists, and where it stands there.
located : {A : Type 0} (d : A) (ls : List (List A)) (i : ℕ) → i < total (map length ls)
    → (j k : ℕ) × (k < length (get_or ls j [])) × (i ≡ total (take j (map length ls)) + k) × (get_or (flat ls) i d ≡ get_or (get_or ls j []) k d)
unfolding flat sum
located d [] i h = absurd (omega arith)
located d (l ∷ ls) i h = go (dec_lt i (length l)) (λ m p. located d ls m p)
  where
    go : Dec (i < length l)
        → ((m : ℕ) → m < total (map length ls) → (j k : ℕ) × (k < length (get_or ls j [])) × (m ≡ total (take j (map length ls)) + k) × (get_or (flat ls) m d ≡ get_or (get_or ls j []) k d))
        → (j k : ℕ) × (k < length (get_or (l ∷ ls) j [])) × (i ≡ total (take j (length l ∷ map length ls)) + k) × (get_or (l ++ flat ls) i d ≡ get_or (get_or (l ∷ ls) j []) k d)
    go (yes p) more = (0, i, p, omega arith, get_or-append l (flat ls) d i p)
    go (no p) more =
        let r = more (i - length l) (omega arith) in
        let e : length l + (i - length l) ≡ i = omega arith in
        (suc r.0, r.1, r.2, omega (arith, r.3), ap (λ (x : ℕ). get_or (l ++ flat ls) x d) (sym e) ∙ get_or-append-add l (flat ls) (i - length l) d ∙ r.4)

-- The empty cut and each event's clock.
abbrev pub clocks : Computation → List Cut
clocks K = empty (stations K) ∷ map (λ (v : Event). v.clock) (flat K.events)

-- The start from event i.
pub start-at : (K : Computation) (i : ℕ) → i ≤ event_count K → (j k : ℕ) × (k ≤ count K j) × (i ≡ number K j k) × (get_or (clocks K) i [] ≡ clock K j k)
unfolding number clock
start-at K zero h = (0, 0, omega arith, refl, refl)
start-at K (suc i) h =
    let r = located no_event K.events i (omega arith) in
    (r.0, suc r.1, r.2, omega (arith, r.3), get_or-map (λ (v : Event). v.clock) (flat K.events) i no_event ∙ ap (λ (v : Event). v.clock) r.4)

pub length-clocks : (K : Computation) → length (clocks K) ≡ suc (event_count K)
length-clocks K = ap suc (length-map (flat K.events) (λ (v : Event). v.clock) ∙ length-flat K.events)

-- What all starts come to.
module _ (K : Computation) (n e : ℕ) (stationed : stations K ≡ n) (counted : event_count K ≡ e) where
  module _ (S T : Structure) (w : List ℕ) (r : ℕ)
      (rows : rows_at n (suc e) w ≡ map (λ (c : Cut). (run S T (suc e) c).reached) (clocks K))
      (sums : r ≡ sum (λ (c : Cut). (run S T (suc e) c).rounds) (clocks K)) where
    abbrev reached_from : ℕ → Event → Option Cut
    reached_from m v = (run S T (suc m) v.clock).reached

    abbrev rounds_from : ℕ → Event → ℕ
    rounds_from m v = (run S T (suc m) v.clock).rounds

    all_rows : decoded (take n w) ∷ rows_at n e (drop n w) ≡ (run S T (suc e) (empty n)).reached ∷ map (reached_from e) (flat K.events)
    unfolding rows_at
    all_rows =
        rows ∙ ap₂ (λ (m : ℕ) (l : List (Option Cut)). (run S T (suc e) (empty m)).reached ∷ l) stationed (map-map (λ (c : Cut). (run S T (suc e) c).reached) (λ (v : Event). v.clock) (flat K.events))

    least-is : decoded (take n w) ≡ (start K S T (empty n)).reached
    unfolding start
    least-is =
        let h : decoded (take n w) ≡ (run S T (suc e) (empty n)).reached = cc all_rows in
        h ∙ ap (λ (m : ℕ). (run S T (suc m) (empty n)).reached) (sym counted)

    rows_are : stations_at n (full K) (drop n w) ≡ map (map (λ (v : Event). (start K S T v.clock).reached)) K.events
    unfolding start
    rows_are =
        let t : rows_at n e (drop n w) ≡ map (reached_from e) (flat K.events) = cc all_rows in
        let f : Event → Option Cut = reached_from (event_count K) in
        stations-pieces n (full K) (drop n w)
        ∙ ap (λ (m : ℕ). pieces (full K) (rows_at n m (drop n w))) counted
        ∙ ap (pieces (full K)) (t ∙ ap (λ (m : ℕ). map (reached_from m) (flat K.events)) (sym counted) ∙ sym (map-flat f K.events))
        ∙ ap (λ (l : List ℕ). pieces l (flat (map (map f) K.events))) (sym (same_lengths f K.events))
        ∙ pieces-flat (map (map f) K.events)

    rounds_are : r ≡ rounds_of_pair K S T
    unfolding start rounds_of_pair sum
    rounds_are =
        let g : Cut → ℕ = λ c. (run S T (suc e) c).rounds in
        sums
        ∙ ap (λ (x : ℕ). g (empty (stations K)) + x) (sum-map (λ (v : Event). v.clock) g (flat K.events) ∙ sum-flat (rounds_from e) K.events)
        ∙ ap (λ (m : ℕ). (run S T (suc m) (empty (stations K))).rounds + sum (sum (rounds_from m)) K.events) (sym counted)

    pub intersected : Intersected K S T n w r
    intersected = record { rounds = rounds_are; least = least-is; rows = rows_are }
