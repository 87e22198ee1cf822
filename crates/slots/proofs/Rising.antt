-- Laws of raising in a table: the loop over eight stations, of which those past n join the least cut again.
use mathlib.Core.Path.{◌≡◌, refl, sym, ap, ◌∙◌, subst}
use Prim.Native.Nat.{ℕ, zero, suc, ◌+◌, ◌*◌, ◌-◌, ◌≤◌}
use native.Mathlib.Omega.{arith}
use native.Mathlib.Numerals.{add-one}
use mathlib.Core.List.{List}
use mathlib.Core.Option.{Option, none, some}
use lib.ListN.{length, get_or, take, drop, replicate, get_or-eq_default}
use Rattle.model.specs.Cut.{Cut, ◌!◌, join}
use Rattle.model.specs.Computation.{Computation}
use Rattle.model.specs.Structure.{Structure, row, joined, raise_by, raise}
use Rattle.model.specs.Basis.{then_right}
use Rattle.cells.proofs.Cuts.{join_zeros}
use Rattle.structure.proofs.Raising.{raise_absorbs}
use Rattle.slots.specs.Slots.{number, Small, Coded, Says, Slots}
use Rattle.numbering.proofs.Numbers.{join-says, says_none, says_some}

-- Stations that are not there add nothing.
raise-more : (S : Structure) (x : Cut) (k : ℕ) → raise_by S x (k + length x) ≡ raise_by S x (length x)
unfolding raise_by row
raise-more S x zero = let e : 0 + length x ≡ length x = omega arith in ap (raise_by S x) e
raise-more S x (suc k) =
    let e : suc k + length x ≡ suc (k + length x) = omega arith in
    let z : x ! (k + length x) ≡ 0 = get_or-eq_default x 0 {n = k + length x} (omega arith) in
    ap (raise_by S x) e ∙ ap (λ (y : ℕ). joined (raise_by S x (k + length x)) (row S (k + length x) y)) z ∙ raise_absorbs S x (k + length x) ∙ raise-more S x k

raise-eight : (S : Structure) (x : Cut) → length x ≤ 8 → raise_by S x 8 ≡ raise S x
unfolding raise
raise-eight S x h = let e : 8 ≡ 8 - length x + length x = omega arith in ap (raise_by S x) e ∙ raise-more S x (8 - length x)

module _ (K : Computation) (S : Structure) (x : Cut) (table cut : List ℕ) (m : Small K) (s : Slots K (row S) table) (h : Coded K x cut) where
  pub rise_start : 8 ≤ length table → (acc : List ℕ) → acc ≡ join (replicate 8 0) (take 8 (drop 0 table)) → Says K (raise_by S x 0) acc
  unfolding raise_by row number
  rise_start l acc e =
      let q : acc ≡ take 8 (drop 0 table) = e ∙ join_zeros 8 8 (drop 0 table) (omega arith) l in
      subst (λ (c : List ℕ). Says K (some S.least) c) (sym q) (s 0 0 (omega arith))

  pub rise_turn : (j : ℕ) (acc next : List ℕ) (at : ℕ) → Says K (raise_by S x j) acc → at ≡ get_or cut j 0 * 8 → next ≡ join acc (take 8 (drop at table)) → Says K (raise_by S x (j + 1)) next
  unfolding raise_by
  rise_turn j acc next at g q e =
      let a : at ≡ 8 * number K j (x ! j) = omega (arith, h.cells j) in
      rw (add-one j, e, a) (join-says K m (raise_by S x j) (row S j (x ! j)) acc (take 8 (drop (8 * number K j (x ! j)) table)) g (s j (x ! j) (h.consistent.within j)))

  pub rise_end : (j : ℕ) (acc : List ℕ) → j ≡ 8 → Says K (raise_by S x j) acc → Says K (raise S x) acc
  rise_end j acc q g = subst (λ (o : Option Cut). Says K o acc) (ap (raise_by S x) q ∙ raise-eight S x (omega (arith, h.consistent.size, m.few_stations))) g

-- None is raised to none, a cut as the loop raises it.
module _ (K : Computation) (S : Structure) (o : Option Cut) where
  pub rise_none : (cut : List ℕ) → Small K → Says K o cut → get_or cut 0 0 ≡ 255 → then_right S o ≡ none
  unfolding then_right
  rise_none cut m h f = rw (says_none K m o cut h f) refl

  pub risen : (table cut : List ℕ) (j : ℕ) (acc : List ℕ) → Small K → Slots K (row S) table → Says K o cut → (get_or cut 0 0 ≡ 255 → ⊥) → j ≡ 8
      → ((x : Cut) → Small K → Slots K (row S) table → Coded K x cut → Says K (raise_by S x j) acc) → Says K (then_right S o) acc
  unfolding then_right
  risen table cut j acc m t h f q k = let v = says_some K m o cut h f in rw v.1 (rise_end K S v.0 table cut m t v.2 j acc q (k v.0 m t v.2))
