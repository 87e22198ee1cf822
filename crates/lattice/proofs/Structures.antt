-- A structure stands for a set of cuts closed under join.
use mathlib.Core.Path.{◌≡◌, refl, subst}
use mathlib.Core.Logic.{◌↔◌}
use Prim.Native.Nat.{ℕ, zero, suc, ◌≤◌, ◌<◌}
use native.Mathlib.Omega.{arith}
use native.Mathlib.Decide.{dec_le, dec_lt}
use mathlib.Core.Bool.{true}
use mathlib.Core.Option.{Option, none, some}
use mathlib.Core.List.{List, [], ◌∷◌, map}
use lib.ListN.{get_or, length, length-map, get_or-map, get_or-eq_default}
use Rattle.model.specs.Cut.{Cut, ◌!◌, ◌⊑◌, join, empty}
use Rattle.model.specs.Computation.{Computation, Event, Consistent, stations, count, history, clock, no_event}
use Rattle.model.specs.Structure.{Structure, row, joined, raise_by, raise, reaches, in_set, join_row, join_rows, greatest}
use Rattle.lattice.proofs.Valid.{Valid}
use Rattle.lattice.proofs.Tests.{clash}
use Rattle.lattice.proofs.Cuts.{refl⊑, trans⊑, join-at, join-left, join-right, join-least, empty_⊑, inside_⊑, ⊑-inside}
use Rattle.lattice.proofs.Consistency.{same_cut, clock-own, clock-least, empty-consistent, clock-consistent}

-- o is the least cut of P at which Q belongs_any; none if there is no such cut.
abbrev pub Least : (Cut → Type 0) → (Cut → Type 0) → Option Cut → Type 0
Least P Q none = (e : Cut) → P e → Q e → ⊥
Least P Q (some d) = P d × Q d × ((e : Cut) → P e → Q e → d ⊑ e)

-- The same of sets with the same cuts.
pub least_iff : {P P' Q Q' : Cut → Type 0} → ((e : Cut) → P e ↔ P' e) → ((e : Cut) → P e → Q e ↔ Q' e) → (o : Option Cut) → Least P Q o → Least P' Q' o
least_iff p q none h = λ e u v. h e ((p e).1 u) ((q e ((p e).1 u)).1 v)
least_iff p q (some d) h = ((p d).0 h.0, (q d h.0).0 h.1, λ e u v. h.2 e ((p e).1 u) ((q e ((p e).1 u)).1 v))

-- A set of consistent cuts, closed under join.
pub record Regular (K : Computation) (P : Cut → Type 0) : Type 0 where
  pub consistent : (c : Cut) → P c → Consistent K c
  pub join_in : (c d : Cut) → P c → P d → P (join c d)

-- What is least for two demands, joined, is least for both.
pub least-join : {P Q₁ Q₂ Q : Cut → Type 0} → ((c d : Cut) → P c → P d → P (join c d)) → ((e : Cut) → P e → Q e → Q₁ e × Q₂ e)
    → ((c d : Cut) → Q₁ c → Q₂ d → Q (join c d)) → (o₁ o₂ : Option Cut) → Least P Q₁ o₁ → Least P Q₂ o₂ → Least P Q (joined o₁ o₂)
unfolding joined
least-join pj split both none o₂ h k = λ e u v. h e u (split e u v).0
least-join pj split both (some c) none h k = λ e u v. k e u (split e u v).1
least-join pj split both (some c) (some d) h k =
    (pj c d h.0 k.0, both c d h.1 k.1, λ e u v. join-least c d e (h.2 e u (split e u v).0) (k.2 e u (split e u v).1))

-- Is c in the set? By the least cut that contains it.
pub reaches_iff : (K : Computation) {P : Cut → Type 0} → Regular K P → (c : Cut) → Consistent K c → (o : Option Cut) → Least P (λ e. c ⊑ e) o → (reaches o c ≡ true) ↔ P c
unfolding reaches
reaches_iff K reg c p none h = (λ e. clash e refl, λ u. absurd (h c u (refl⊑ c)))
reaches_iff K {P = P} reg c p (some d) h = (
  λ e. subst P (same_cut K d c (reg.consistent d h.0) p (inside_⊑ d c e) h.1) h.0,
  λ u. ⊑-inside d c (h.2 c u (refl⊑ c)),
)

-- The join of rows.
join_row_base : (l : List (Option Cut)) (g : Cut) → g ⊑ join_row l g
unfolding join_row
join_row_base [] g = refl⊑ g
join_row_base (none ∷ l) g = join_row_base l g
join_row_base (some d ∷ l) g = trans⊑ g (join_row l g) (join d (join_row l g)) (join_row_base l g) (join-right d (join_row l g))

join_row-above : (l : List (Option Cut)) (g : Cut) (k : ℕ) (d : Cut) → get_or l k none ≡ some d → d ⊑ join_row l g
unfolding join_row
join_row-above [] g k d e = let z : ◌≡◌ {A = ℕ} 0 1 = cc in absurd (omega arith)
join_row-above (none ∷ l) g zero d e = let z : ◌≡◌ {A = ℕ} 0 1 = cc in absurd (omega arith)
join_row-above (none ∷ l) g (suc k) d e = join_row-above l g k d e
join_row-above (some x ∷ l) g zero d e = let z : x ≡ d = cc in rw (← z) (join-left x (join_row l g))
join_row-above (some x ∷ l) g (suc k) d e = trans⊑ d (join_row l g) (join x (join_row l g)) (join_row-above l g k d e) (join-right x (join_row l g))

join_row_in : {P : Cut → Type 0} → ((c d : Cut) → P c → P d → P (join c d)) → (l : List (Option Cut)) (g : Cut) → P g
    → ((k : ℕ) (d : Cut) → get_or l k none ≡ some d → P d) → P (join_row l g)
unfolding join_row
join_row_in pj [] g u h = u
join_row_in pj (none ∷ l) g u h = join_row_in pj l g u (λ k. h (suc k))
join_row_in pj (some d ∷ l) g u h = pj d (join_row l g) (h zero d refl) (join_row_in pj l g u (λ k. h (suc k)))

join_rows_base : (ls : List (List (Option Cut))) (g : Cut) → g ⊑ join_rows ls g
unfolding join_rows
join_rows_base [] g = refl⊑ g
join_rows_base (l ∷ ls) g = trans⊑ g (join_rows ls g) (join_row l (join_rows ls g)) (join_rows_base ls g) (join_row_base l (join_rows ls g))

join_rows-above : (ls : List (List (Option Cut))) (g : Cut) (j k : ℕ) (d : Cut) → get_or (get_or ls j []) k none ≡ some d → d ⊑ join_rows ls g
unfolding join_rows
join_rows-above [] g j k d e = let z : ◌≡◌ {A = ℕ} 0 1 = cc in absurd (omega arith)
join_rows-above (l ∷ ls) g zero k d e = join_row-above l (join_rows ls g) k d e
join_rows-above (l ∷ ls) g (suc j) k d e = trans⊑ d (join_rows ls g) (join_row l (join_rows ls g)) (join_rows-above ls g j k d e) (join_row_base l (join_rows ls g))

pub join_rows_in : {P : Cut → Type 0} → ((c d : Cut) → P c → P d → P (join c d)) → (ls : List (List (Option Cut))) (g : Cut) → P g
    → ((j k : ℕ) (d : Cut) → get_or (get_or ls j []) k none ≡ some d → P d) → P (join_rows ls g)
unfolding join_rows
join_rows_in pj [] g u h = u
join_rows_in pj (l ∷ ls) g u h = join_row_in pj l (join_rows ls g) (join_rows_in pj ls g u (λ j. h (suc j))) (h zero)

-- A row that is there is contained in the greatest cut.
pub row_below : (S : Structure) (j k : ℕ) (d : Cut) → row S j k ≡ some d → d ⊑ greatest S
unfolding greatest row
row_below S j zero d e = let z : S.least ≡ d = cc in rw (← z) (join_rows_base S.rows S.least)
row_below S j (suc k) d e = join_rows-above S.rows S.least j k d e

-- An entry of a mapped list.
pub get_or-map-lt : {A B : Type 0} (f : A → B) (l : List A) (k : ℕ) (a : A) (b : B) → k < length l → get_or (map f l) k b ≡ f (get_or l k a)
get_or-map-lt f [] k a b h = absurd (omega arith)
get_or-map-lt f (x ∷ l) zero a b h = refl
get_or-map-lt f (x ∷ l) (suc k) a b h = get_or-map-lt f l k a b (omega arith)

-- The structure S stands for the set P: its rows are the least cuts of P that hold an event, at 0 the least cut of P.
pub record Represents (K : Computation) (S : Structure) (P : Cut → Type 0) : Type 0 where
  pub rows-least : (j k : ℕ) → k ≤ count K j → Least P (λ e. clock K j k ⊑ e) (row S j k)
  pub rows_end : (j k : ℕ) → count K j ≤ k → row S j (suc k) ≡ none
  pub bottom : (e : Cut) → P e → S.least ⊑ e
  pub bottom_in : P S.least

module _ (K : Computation) (ok : Valid K) {P : Cut → Type 0} (reg : Regular K P) (S : Structure) (rep : Represents K S P) where
  raise_by-least : (c : Cut) → Consistent K c → (m : ℕ) → Least P (λ e. (j : ℕ) → j < m → c ! j ≤ e ! j) (raise_by S c m)
  unfolding raise_by
  raise_by-least c p zero = (rep.bottom_in, λ j h. absurd (omega arith), λ e u v. rep.bottom e u)
  raise_by-least c p (suc m) = least-join reg.join_in split both (raise_by S c m) (row S m (c ! m)) (raise_by-least c p m) (rep.rows-least m (c ! m) (p.within m))
    where
      split : (e : Cut) → P e → ((j : ℕ) → j < suc m → c ! j ≤ e ! j) → ((j : ℕ) → j < m → c ! j ≤ e ! j) × (clock K m (c ! m) ⊑ e)
      split e u v = (λ j h. v j (omega arith), clock-least K ok m (c ! m) e (reg.consistent e u) (v m (omega arith)))

      pick : (a b : Cut) (j : ℕ) → ((i : ℕ) → i < m → c ! i ≤ a ! i) → clock K m (c ! m) ⊑ b → j < suc m → Dec (j < m) → c ! j ≤ join a b ! j
      pick a b j u v h (yes q) = omega (arith, u j q, join-at a b j)
      pick a b j u v h (no q) = let e : j ≡ m = omega arith in
          rw e (omega (arith, v m, clock-own K ok m (c ! m) (p.within m), join-at a b m))

      both : (a b : Cut) → ((j : ℕ) → j < m → c ! j ≤ a ! j) → clock K m (c ! m) ⊑ b → (j : ℕ) → j < suc m → c ! j ≤ join a b ! j
      both a b u v j h = pick a b j u v h (dec_lt j m)

  -- raise finds the least cut of the set that contains c.
  pub raise-least : (c : Cut) → Consistent K c → Least P (λ e. c ⊑ e) (raise S c)
  unfolding raise
  raise-least c p = least_iff (λ e. (λ u. u, λ u. u)) (λ e u. (λ v j. at e v j (dec_lt j (length c)), λ v j h. v j)) (raise_by S c (length c)) (raise_by-least c p (length c))
    where
      at : (e : Cut) → ((j : ℕ) → j < length c → c ! j ≤ e ! j) → (j : ℕ) → Dec (j < length c) → c ! j ≤ e ! j
      at e v j (yes h) = v j h
      at e v j (no h) = omega (arith, get_or-eq_default c 0 {n = j} (omega arith))

  -- The test says which consistent cuts are in the set.
  pub in_set_iff : (c : Cut) → Consistent K c → (in_set S c ≡ true) ↔ P c
  unfolding in_set
  in_set_iff c p = reaches_iff K reg c p (raise S c) (raise-least c p)

  -- A row that is there is a cut of the set.
  pub row_in : (j k : ℕ) (d : Cut) → row S j k ≡ some d → P d
  unfolding row
  row_in j zero d e = let z : S.least ≡ d = cc in subst P z rep.bottom_in
  row_in j (suc k) d e = pick (dec_le (suc k) (count K j))
    where
      pick : Dec (suc k ≤ count K j) → P d
      pick (yes h) = (rw e at (rep.rows-least j (suc k) h)).0
      pick (no h) = let q : row S j (suc k) ≡ none = rep.rows_end j k (omega arith) in
          let z : ◌≡◌ {A = ℕ} 0 1 = cc in absurd (omega arith)

  -- The greatest cut is one of the set.
  pub greatest_in : P (greatest S)
  unfolding greatest row
  greatest_in = join_rows_in reg.join_in S.rows S.least rep.bottom_in (λ j k. row_in j (suc k))

  -- And it contains all others.
  pub greatest-above : (e : Cut) → P e → e ⊑ greatest S
  greatest-above e u j = pick (row S j (e ! j)) (rep.rows-least j (e ! j) ((reg.consistent e u).within j)) refl
    where
      pick : (o : Option Cut) → Least P (λ d. clock K j (e ! j) ⊑ d) o → row S j (e ! j) ≡ o → e ! j ≤ greatest S ! j
      pick none h q = absurd (h e u ((reg.consistent e u).closed j))
      pick (some d) h q = omega (arith, h.1 j, row_below S j (e ! j) d q j, clock-own K ok j (e ! j) ((reg.consistent e u).within j))

-- The structure whose rows are f at each event's clock.
abbrev pub table : Computation → (Cut → Option Cut) → List Cut → Cut → Structure
table K f bars l = record { least = l; rows = map (map (λ (e : Event). f e.clock)) K.events; bars = bars }

module _ (K : Computation) (ok : Valid K) (P : Cut → Type 0) (f : Cut → Option Cut)
    (fl : (c : Cut) → Consistent K c → Least P (λ e. c ⊑ e) (f c)) (bars : List Cut) (l : Cut) (fe : f (empty (stations K)) ≡ some l) where
  least-empty : Least P (λ e. empty (stations K) ⊑ e) (some l)
  least-empty = rw fe at (fl (empty (stations K)) (empty-consistent K ok))

  rows-at : (j : ℕ) → get_or (table K f bars l).rows j [] ≡ map (λ (e : Event). f e.clock) (history K j)
  rows-at j = get_or-map (map (λ (e : Event). f e.clock)) K.events j []

  row_at : (j k : ℕ) → k < count K j → row (table K f bars l) j (suc k) ≡ f (clock K j (suc k))
  unfolding row clock
  row_at j k h = rw (rows-at j) (get_or-map-lt (λ (e : Event). f e.clock) (history K j) k no_event none h)

  row-past : (j k : ℕ) → count K j ≤ k → row (table K f bars l) j (suc k) ≡ none
  unfolding row
  row-past j k h = rw (rows-at j) (get_or-eq_default (map (λ (e : Event). f e.clock) (history K j)) none {n = k} (rw length-map h))

  row-least : (j k : ℕ) → k ≤ count K j → Least P (λ e. clock K j k ⊑ e) (row (table K f bars l) j k)
  unfolding row clock
  row-least j zero h = least-empty
  row-least j (suc k) h = rw (row_at j k h) (fl (clock K j (suc k)) (clock-consistent K ok j (suc k) h))

  -- It stands for the set in which f finds least cuts.
  pub table_represents : Represents K (table K f bars l) P
  table_represents = record { rows-least = row-least; rows_end = row-past; bottom = λ e u. least-empty.2 e u (empty_⊑ (stations K) e); bottom_in = least-empty.0 }
