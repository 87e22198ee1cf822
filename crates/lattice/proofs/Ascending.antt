-- Rows that ascend: least cuts of a set do, and then the least cut and the last row of each station make the greatest cut.
use mathlib.Core.Path.{◌≡◌, refl, sym, ◌∙◌}
use Prim.Native.Nat.{ℕ, zero, suc, ◌≤◌, ◌<◌}
use native.Mathlib.Omega.{arith}
use native.Mathlib.Decide.{dec_le, dec_lt}
use mathlib.Core.Option.{Option, none, some}
use mathlib.Core.List.{List, []}
use lib.ListN.{get_or, length, get_or-eq_default}
use Rattle.model.specs.Cut.{Cut, ◌⊑◌, join, empty}
use Rattle.model.specs.Computation.{Computation, Consistent, stations, count, full, clock}
use Rattle.model.specs.Structure.{Structure, row, greatest}
use Rattle.lattice.specs.Ascending.{RowsAscend, LastRow}
use Rattle.lattice.proofs.Valid.{Valid}
use Rattle.lattice.proofs.Cuts.{refl⊑, trans⊑, antisym⊑, length-join, join-left, join-right, join-least}
use Rattle.lattice.proofs.Consistency.{full_at}
use Rattle.lattice.proofs.Structures.{Least, join_rows_in, row_below, table, table_represents}
use Rattle.lattice.proofs.Bases.{In, Good}

-- The least cuts of a set that hold the events of a station ascend, as the clocks do.
module _ (K : Computation) (ok : Valid K) (P : Cut → Type 0) (S : Structure) (least : (j k : ℕ) → k ≤ count K j → Least P (λ e. clock K j k ⊑ e) (row S j k)) where
  before : (j k : ℕ) (d : Cut) → k < count K j → Least P (λ e. clock K j (suc k) ⊑ e) (some d) → (o : Option Cut) → row S j k ≡ o → Least P (λ e. clock K j k ⊑ e) o
      → (c : Cut) × (row S j k ≡ some c) × (c ⊑ d)
  before j k d h u none q w = absurd (w d u.0 (trans⊑ (clock K j k) (clock K j (suc k)) d (ok.clocks j k h).before u.1))
  before j k d h u (some c) q w = (c, q, w.2 d u.0 (trans⊑ (clock K j k) (clock K j (suc k)) d (ok.clocks j k h).before u.1))

  pub least_ascend : RowsAscend (full K) S
  least_ascend = record {
    before = λ j k d h e.
        let l : k < count K j = omega (arith, full_at K j) in
        before j k d l (rw e at (least j (suc k) l)) (row S j k) refl (least j k (omega arith));
  }

-- Those of a structure of a basis.
pub good_ascend : (K : Computation) → Valid K → (S : Structure) → Good K S → RowsAscend (full K) S
good_ascend K ok S g = least_ascend K ok (In K S) S g.rows-least

-- Those of all cuts, which are the clocks.
pub all_ascend : (K : Computation) → Valid K → (bars : List Cut) → RowsAscend (full K) (table K some bars (empty (stations K)))
all_ascend K ok bars =
    least_ascend K ok (Consistent K) (table K some bars (empty (stations K)))
    (table_represents K ok (Consistent K) some (λ c p. (p, refl⊑ c, λ e u v. v)) bars (empty (stations K)) refl).rows-least

-- g contains the least cut and the rows of the stations before j, and is contained in the greatest cut.
pub record Gathered (S : Structure) (j : ℕ) (g : Cut) : Type 0 where
  pub inside : g ⊑ greatest S
  pub least_in : S.least ⊑ g
  pub rows_in : (i k : ℕ) (d : Cut) → i < j → row S i k ≡ some d → d ⊑ g

pub gathered_none : (S : Structure) → Gathered S 0 S.least
unfolding row
gathered_none S = record { inside = row_below S 0 0 S.least refl; least_in = refl⊑ S.least; rows_in = λ i k d h. absurd (omega arith) }

-- A row contains those before it.
earlier_in : (counts : List ℕ) (S : Structure) → RowsAscend counts S → (j i : ℕ) (c : Cut) → row S j i ≡ some c
    → (k : ℕ) (d : Cut) → i ≤ k → k ≤ get_or counts j 0 → row S j k ≡ some d → c ⊑ d
earlier_in counts S asc j i c f = go
  where
    same : (k : ℕ) (d : Cut) → i ≡ k → row S j k ≡ some d → c ⊑ d
    same k d p e = let q : c ≡ d = cc in rw q (refl⊑ d)

    go : (k : ℕ) (d : Cut) → i ≤ k → k ≤ get_or counts j 0 → row S j k ≡ some d → c ⊑ d
    go zero d l h e = same zero d (omega arith) e
    go (suc k) d l h e =
        let b = asc.before j k d h e in
        elim (dec_le i k) [ yes m ↦ trans⊑ c b.0 d (go k b.0 m (omega arith) b.1) b.2 | no n ↦ same (suc k) d (omega arith) e ]

pub gathered_more : (counts : List ℕ) (S : Structure) → RowsAscend counts S → (j : ℕ) (g d : Cut) → LastRow S j (get_or counts j 0) d → Gathered S j g → Gathered S (suc j) (join g d)
gathered_more counts S asc j g d last have = record {
  inside = join-least g d (greatest S) have.inside (row_below S j last.event d last.there);
  least_in = trans⊑ S.least g (join g d) have.least_in (join-left g d);
  rows_in = λ i k c h e. rows i k c h e (dec_lt i j);
}
  where
    own : (k : ℕ) (c : Cut) → row S j k ≡ some c → Dec (k ≤ last.event) → c ⊑ d
    own k c e (yes l) = earlier_in counts S asc j k c e last.event d l last.within last.there
    own k c e (no l) = let q : row S j k ≡ none = last.ends k (omega arith) in let z : ◌≡◌ {A = ℕ} 0 1 = cc in absurd (omega arith)

    rows : (i k : ℕ) (c : Cut) → i < suc j → row S i k ≡ some c → Dec (i < j) → c ⊑ join g d
    rows i k c h e (yes l) = trans⊑ c g (join g d) (have.rows_in i k c l e) (join-left g d)
    rows i k c h e (no l) =
        let q : i ≡ j = omega arith in
        trans⊑ c d (join g d) (own k c (rw q at e) (dec_le k last.event)) (join-right g d)

-- After all stations it is the greatest cut, if all cuts have one length.
pub gathered_all : (S : Structure) (m n : ℕ) (g : Cut) → Gathered S m g → length S.rows ≤ m → length g ≡ n → ((j k : ℕ) (d : Cut) → row S j k ≡ some d → length d ≡ n)
    → g ≡ greatest S
unfolding greatest row
gathered_all S m n g have all lg lr =
    antisym⊑ g (greatest S) (lg ∙ sym sized) have.inside
    (join_rows_in {P = λ c. c ⊑ g} (λ c d. join-least c d g) S.rows S.least have.least_in (λ j k d e. here j k d e (dec_lt j m)))
  where
    sized : length (greatest S) ≡ n
    sized = join_rows_in {P = λ c. length c ≡ n} (λ c d p q. omega (arith, length-join c d)) S.rows S.least (lr 0 0 S.least refl) (λ j k. lr j (suc k))

    here : (j k : ℕ) (d : Cut) → get_or (get_or S.rows j []) k none ≡ some d → Dec (j < m) → d ⊑ g
    here j k d e (yes h) = have.rows_in j (suc k) d h e
    here j k d e (no h) =
        let q : get_or S.rows j [] ≡ [] = get_or-eq_default S.rows [] {n = j} (omega arith) in
        let w : get_or {A = Option Cut} [] k none ≡ some d = rw q at e in
        let z : ◌≡◌ {A = ℕ} 0 1 = cc in absurd (omega arith)
