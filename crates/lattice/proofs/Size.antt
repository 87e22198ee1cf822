-- The size of a basis: no more structures than the width says, and no more bars in one than the bar count.
use mathlib.Core.Path.{◌≡◌}
use Prim.Native.Nat.{ℕ, ◌+◌, ◌*◌, ◌≤◌, ◌<◌, max}
use native.Mathlib.Omega.{arith}
use native.Mathlib.Nat.{le_trans, mul-le-mul}
use mathlib.Core.Bool.{Bool, true, false, cond, ◌&&◌}
use mathlib.Core.Option.{Option, none, some}
use mathlib.Core.List.{List, [], ◌∷◌, ◌++◌, map}
use lib.ListN.{length, get_or, length-append, length-map}
use lib.Dec.{leb}
use borrow.Author.Tests.{leb-true}
use Rattle.model.specs.Cut.{Cut, empty, inside_any}
use Rattle.model.specs.Computation.{Computation, stations}
use Rattle.model.specs.Rules.{Normal}
use Rattle.model.specs.Rules.Normal.{literal, both, either, possible, impossible}
use Rattle.model.specs.Size.{width, bars, slim, narrow}
use Rattle.model.specs.Structure.{Structure, greatest, keep, build_on, build}
use Rattle.model.specs.Atom.{raise_atom}
use Rattle.model.specs.Basis.{intersect, each, pairs, below, lowered, barred, basis}
use Rattle.lattice.proofs.Tests.{and-true}
use Rattle.lattice.proofs.Lists.{All, all_append, all_map, all_at}
use Rattle.lattice.proofs.Built.{build_all, each_all, pairs_all}

-- STRUCTURES

length-build : (K : Computation) (f : Cut → Option Cut) (bars : List Cut) → length (build K f bars) ≤ 1
unfolding build build_on keep
length-build K f bars = go (f (empty (stations K)))
  where
    kept : (S : Structure) (b : Bool) → length (cond b [] (S ∷ [])) ≤ 1
    kept S true = omega arith
    kept S false = omega arith

    go : (o : Option Cut) → length (build_on K f bars o) ≤ 1
    go none = omega arith
    go (some c) = kept _ (inside_any _ bars)

length-each : (f : Structure → List Structure) (n : ℕ) → ((S : Structure) → length (f S) ≤ n) → (L : List Structure) → length (each f L) ≤ length L * n
unfolding each
length-each f n h [] = omega arith
length-each f n h (S ∷ L) = omega (arith, length-append (f S) (each f L), h S, length-each f n h L)

-- Two structures intersected make at most one.
pub length-intersect : (K : Computation) (S T : Structure) → length (intersect K S T) ≤ 1
unfolding intersect
length-intersect K S T = length-build K _ _

-- One structure paired with each of a list.
pub length-row : (K : Computation) (S : Structure) (R : List Structure) → length (each (intersect K S) R) ≤ length R
length-row K S R = omega (arith, length-each (intersect K S) 1 (length-intersect K S) R)

-- The steps: and, possibly, not possibly.
pub length_pairs : (K : Computation) (L R : List Structure) → length (pairs K L R) ≤ length L * length R
unfolding pairs
length_pairs K L R = length-each (λ S. each (intersect K S) R) (length R) (λ S. length-row K S R) L

pub length-lowered : (K : Computation) (L : List Structure) → length (lowered K L) ≤ length L
unfolding lowered
length-lowered K L = omega (arith, length-each (λ S. build K (below (greatest S)) []) 1 (λ S. length-build K (below (greatest S)) []) L)

pub length-barred : (K : Computation) (L : List Structure) → length (barred K L) ≤ 1
unfolding barred
length-barred K L = length-build K some (map greatest L)

-- A basis has no more structures than the width.
pub basis-width : (K : Computation) (p : Normal) → length (basis K p) ≤ width p
unfolding basis width
basis-width K (literal b a) = length-build K (raise_atom K b a) []
basis-width K (both p q) = le_trans (length_pairs K (basis K p) (basis K q)) (mul-le-mul (basis-width K p) (basis-width K q))
basis-width K (either p q) = omega (arith, length-append (basis K p) (basis K q), basis-width K p, basis-width K q)
basis-width K (possible p) = le_trans (length-lowered K (basis K p)) (basis-width K p)
basis-width K (impossible p) = length-barred K (basis K p)

-- BARS

-- A structure has at most n bars.
abbrev pub Bars : ℕ → Structure → Type 0
Bars n S = length S.bars ≤ n

bars-pairs : (K : Computation) (m n : ℕ) {L R : List Structure} → All (Bars m) L → All (Bars n) R → All (Bars (m + n)) (pairs K L R)
unfolding intersect
bars-pairs K m n = pairs_all K (λ S T p q. build_all K _ (S.bars ++ T.bars) (λ l _. omega (arith, length-append S.bars T.bars)))

bars-lowered : (K : Computation) (n : ℕ) {L : List Structure} → All (Bars n) L → All (Bars 0) (lowered K L)
unfolding lowered
bars-lowered K n = each_all (λ S. build K (below (greatest S)) []) (λ S p. build_all K (below (greatest S)) [] (λ l _. omega arith))

bars_up : (m n : ℕ) → m ≤ n → {L : List Structure} → All (Bars m) L → All (Bars n) L
bars_up m n h = all_map (λ S p. le_trans p h)

-- No structure of a basis has more bars than the bar count.
pub basis-bars : (K : Computation) (p : Normal) → All (Bars (bars p)) (basis K p)
unfolding basis bars barred
basis-bars K (literal b a) = build_all K (raise_atom K b a) [] (λ l _. omega arith)
basis-bars K (both p q) = bars-pairs K (bars p) (bars q) (basis-bars K p) (basis-bars K q)
basis-bars K (either p q) = all_append (bars_up (bars p) (max (bars p) (bars q)) (omega arith) (basis-bars K p)) (bars_up (bars q) (max (bars p) (bars q)) (omega arith) (basis-bars K q))
basis-bars K (possible p) = bars-lowered K (bars p) (basis-bars K p)
basis-bars K (impossible p) = build_all K some (map greatest (basis K p)) (λ l _. rw length-map (basis-width K p))

-- The same for the structure at i.
pub basis-bars-at : (K : Computation) (p : Normal) (d : Structure) (i : ℕ) → i < length (basis K p) → length (get_or (basis K p) i d).bars ≤ bars p
basis-bars-at K p d i h = all_at (basis-bars K p) d i h

-- NARROW

slim_to : (p : Normal) → slim p ≡ true → (width p ≤ 16) × (bars p ≤ 16)
unfolding slim
slim_to p h = let b = (and-true (leb (width p) 16) (leb (bars p) 16)).0 h in (leb-true (width p) 16 b.0, leb-true (bars p) 16 b.1)

both_to : (p q r : Normal) → slim r && narrow p && narrow q ≡ true → (width r ≤ 16) × (bars r ≤ 16) × (narrow p ≡ true) × (narrow q ≡ true)
both_to p q r h =
    let a = (and-true (slim r && narrow p) (narrow q)).0 h in
    let b = (and-true (slim r) (narrow p)).0 a.0 in
    ((slim_to r b.0).0, (slim_to r b.0).1, b.1, a.1)

one_to : (p r : Normal) → slim r && narrow p ≡ true → (width r ≤ 16) × (bars r ≤ 16) × (narrow p ≡ true)
one_to p r h = let a = (and-true (slim r) (narrow p)).0 h in ((slim_to r a.0).0, (slim_to r a.0).1, a.1)

-- What a narrow formula is at its first sign.
pub narrow_both : (p q : Normal) → narrow (both p q) ≡ true → (width p * width q ≤ 16) × (bars p + bars q ≤ 16) × (narrow p ≡ true) × (narrow q ≡ true)
unfolding narrow width bars
narrow_both p q h = both_to p q (both p q) h

pub narrow-either : (p q : Normal) → narrow (either p q) ≡ true → (width p + width q ≤ 16) × (max (bars p) (bars q) ≤ 16) × (narrow p ≡ true) × (narrow q ≡ true)
unfolding narrow width bars
narrow-either p q h = both_to p q (either p q) h

pub narrow-possible : (p : Normal) → narrow (possible p) ≡ true → (width p ≤ 16) × (narrow p ≡ true)
unfolding narrow width bars
narrow-possible p h = let r = one_to p (possible p) h in (r.0, r.2)

-- The operand's width is the bar count.
pub narrow-impossible : (p : Normal) → narrow (impossible p) ≡ true → (width p ≤ 16) × (narrow p ≡ true)
unfolding narrow width bars
narrow-impossible p h = let r = one_to p (impossible p) h in (r.1, r.2)

-- A narrow formula has a width and a bar count of at most 16.
pub narrow_to : (p : Normal) → narrow p ≡ true → (width p ≤ 16) × (bars p ≤ 16)
unfolding narrow width bars
narrow_to (literal b a) h = (omega arith, omega arith)
narrow_to (both p q) h = let r = narrow_both p q h in (r.0, r.1)
narrow_to (either p q) h = let r = narrow-either p q h in (r.0, r.1)
narrow_to (possible p) h = ((narrow-possible p h).0, omega arith)
narrow_to (impossible p) h = (omega arith, (narrow-impossible p h).0)

-- No width is 0.
pub width_pos : (p : Normal) → 1 ≤ width p
unfolding width
width_pos (literal b a) = omega arith
width_pos (both p q) = mul-le-mul (width_pos p) (width_pos q)
width_pos (either p q) = omega (arith, width_pos p)
width_pos (possible p) = width_pos p
width_pos (impossible p) = omega arith
