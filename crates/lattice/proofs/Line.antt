-- The numbers of an answer fit their bytes, and its line fits its output: at most 16 cuts with a count for each station, and the rounds in four bytes.
use mathlib.Core.Path.{◌≡◌, refl}
use Prim.Native.Nat.{ℕ, suc, ◌+◌, ◌*◌, ◌≤◌}
use native.Mathlib.Omega.{arith}
use native.Mathlib.Nat.{le_trans, mul-le-mul}
use mathlib.Core.Bool.{Bool, true, false, cond}
use mathlib.Core.List.{List, [], ◌∷◌, ◌++◌}
use lib.ListN.{length, length-append, length-map}
use Rattle.model.specs.Limits.{limits, line_size}
use Rattle.model.specs.Lists.{Member}
use Rattle.model.specs.Lists.Some.{here, there}
use Rattle.model.specs.Bytes.{hex, check_byte, line}
use Rattle.model.specs.Formula.{Formula}
use Rattle.model.specs.Cut.{Cut, ◌!◌, inside, inside_any}
use Rattle.model.specs.Computation.{Computation, Consistent, stations, count, event_count}
use Rattle.model.specs.Rules.{as_true}
use Rattle.model.specs.Size.{width, narrow}
use Rattle.model.specs.Structure.{greatest}
use Rattle.model.specs.Basis.{basis}
use Rattle.model.specs.Answer.{not_inside, add, tops, precedes, insert, sort, answer, yes_no, in_row, four_bytes, answer_line}
use Rattle.lattice.proofs.Valid.{Valid}
use Rattle.lattice.proofs.Consistency.{count-le}
use Rattle.lattice.proofs.Maximal.{greatests, listed-belongs}
use Rattle.lattice.proofs.Size.{basis-width, narrow_to}

-- HOW MANY CUTS

length-insert : (c : Cut) (l : List Cut) → length (insert c l) ≡ suc (length l)
unfolding insert
length-insert c [] = refl
length-insert c (x ∷ l) = go (precedes c x) (length-insert c l)
  where
    go : (b : Bool) → length (insert c l) ≡ suc (length l) → length (cond b (c ∷ x ∷ l) (x ∷ insert c l)) ≡ suc (suc (length l))
    go true h = refl
    go false h = omega arith

pub length-sort : (l : List Cut) → length (sort l) ≡ length l
unfolding sort
length-sort [] = refl
length-sort (c ∷ l) = omega (arith, length-insert c (sort l), length-sort l)

length-not_inside : (c : Cut) (l : List Cut) → length (not_inside c l) ≤ length l
unfolding not_inside
length-not_inside c [] = omega arith
length-not_inside c (x ∷ l) = go (inside x c) (length-not_inside c l)
  where
    go : (b : Bool) → length (not_inside c l) ≤ length l → length (cond b (not_inside c l) (x ∷ not_inside c l)) ≤ suc (length l)
    go true h = omega arith
    go false h = omega arith

pub length-tops : (l : List Cut) → length (tops l) ≤ length l
unfolding tops add
length-tops [] = omega arith
length-tops (c ∷ l) = go (inside_any c (tops l)) (length-tops l)
  where
    go : (b : Bool) → length (tops l) ≤ length l → length (cond b (tops l) (c ∷ not_inside c (tops l))) ≤ suc (length l)
    go true h = omega arith
    go false h = omega (arith, length-not_inside c (tops l))

-- No more cuts are listed than the width.
pub listed-width : (K : Computation) (f : Formula) → length (answer K f).cuts ≤ width (as_true f)
unfolding answer
listed-width K f = omega (arith, length-sort (tops (greatests K f)), length-tops (greatests K f), length-map (basis K (as_true f)) greatest, basis-width K (as_true f))

-- At most 16.
pub listed-few : (K : Computation) (f : Formula) → narrow (as_true f) ≡ true → length (answer K f).cuts ≤ 16
listed-few K f h = le_trans (listed-width K f) (narrow_to (as_true f) h).0

-- THEIR COUNTS

module _ (K : Computation) (ok : Valid K) (f : Formula) where
  -- A listed cut is consistent.
  pub listed-consistent : (c : Cut) → Member c (answer K f).cuts → Consistent K c
  unfolding answer
  listed-consistent c m = (listed-belongs K ok f c m).0

  -- So it has a count for each station.
  pub listed-size : (c : Cut) → Member c (answer K f).cuts → length c ≡ stations K
  listed-size c m = (listed-consistent c m).size

  -- And none passes the station's events.
  pub listed-within : (c : Cut) → Member c (answer K f).cuts → (j : ℕ) → c ! j ≤ count K j
  listed-within c m = (listed-consistent c m).within

  -- Nor all events.
  pub listed-count : (c : Cut) → Member c (answer K f).cuts → (j : ℕ) → c ! j ≤ event_count K
  listed-count c m j = omega (arith, listed-within c m j, count-le K j)

-- ITS LINE

-- Two digits a byte.
pub length-hex : (f : List ℕ) → length (hex f) ≡ 2 * length f
unfolding hex
length-hex [] = refl
length-hex (b ∷ f) = omega (arith, length-hex f)

-- A line has two digits a byte, those of the check byte, and 0A.
pub length-line : (f : List ℕ) → length (line f) ≡ 2 * length f + 3
unfolding line
length-line f = omega (arith, length-append (hex (f ++ (check_byte f ∷ []))) (0x0A ∷ []), length-hex (f ++ (check_byte f ∷ [])), length-append f (check_byte f ∷ []))

-- Cuts of n counts one after another.
pub length_in_row : (n : ℕ) (l : List Cut) → ((c : Cut) → Member c l → length c ≡ n) → length (in_row l) ≡ length l * n
unfolding in_row
length_in_row n [] h = omega arith
length_in_row n (c ∷ l) h = omega (arith, length-append c (in_row l), h c (here refl), length_in_row n l (λ d m. h d (there m)))

-- Eight bytes and the cuts.
pub length-answer : (K : Computation) → Valid K → (f : Formula) → length (answer_line (answer K f)) ≡ 2 * (length (answer K f).cuts * stations K) + 17
unfolding answer_line four_bytes
length-answer K ok f =
    let a = answer K f in
    let l : length (in_row a.cuts) ≡ length a.cuts * stations K = length_in_row (stations K) a.cuts (listed-size K ok f) in
    omega (
      arith,
      l,
      length-append (in_row a.cuts) (four_bytes a.rounds),
      length-line (0x40 ∷ yes_no a.start ∷ length a.cuts ∷ (in_row a.cuts ++ four_bytes a.rounds)),
    )

-- It fits the output that Answer asks for.
pub answer-fits : (K : Computation) → Valid K → (f : Formula) → narrow (as_true f) ≡ true → stations K ≤ limits.stations → length (answer_line (answer K f)) ≤ line_size
answer-fits K ok f h n =
    let m : length (answer K f).cuts * stations K ≤ 16 * limits.stations = mul-le-mul {n₁ = length (answer K f).cuts} {m₁ = stations K} {n₂ = 16} {m₂ = limits.stations} (listed-few K f h) n in
    omega (arith, m, length-answer K ok f)
