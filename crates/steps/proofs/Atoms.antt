-- The rows that a table leads to are those of an atom's raising function, for an atom that looks for an event of its station by a test;
-- and with rows that are those of a raising function the structure stands that is built of it.
use mathlib.Core.Path.{◌≡◌, refl, sym, ap, ap₂, subst, ◌∙◌}
use mathlib.Core.Logic.{◌⊎◌, inl, inr, ⊎_elim}
use Prim.Native.Nat.{ℕ, zero, suc, ◌+◌, ◌-◌, ◌*◌, ◌≤◌, ◌<◌, max}
use native.Mathlib.Omega.{arith}
use mathlib.Core.List.{List, []}
use mathlib.Core.Bool.{Bool, true, false, cond}
use mathlib.Core.Option.{Option, none, some}
use lib.Dec.{leb}
use lib.ListN.{length, get_or, drop, get_or-replicate}
use lib.Seq.{get_or-take, get_or-drop}
use borrow.Author.Tests.{eq-eqb, ne_eqb, leb-true, leb-false}
use Rattle.model.specs.Cut.{Cut, ◌!◌, join}
use Rattle.model.specs.Computation.{Computation, full, count, clock}
use Rattle.model.specs.Atom.{next, up_to, raise_to}
use Rattle.model.specs.Structure.{build}
use Rattle.structure.specs.Layout.{decoded, coded, event_row, standing}
use Rattle.structure.specs.declared.Shape.{Shape}
use Rattle.structure.specs.Laid.{Laid}
use Rattle.steps.specs.Rows.{row_at, absent, entry, joined_row, atom_row, Tabled, Leads}
use Rattle.lattice.proofs.Consistency.{join-consistent, clock-consistent}
use Rattle.structure.proofs.Rows.{decoded-none, decoded-some}
use Rattle.structure.proofs.Starts.{events-few, count-is, own-fit, clock-is}
use Rattle.steps.proofs.Built.{start-consistent, build-empty, build-there, keep_free, no_bars}

-- THE FIRST COUNT THAT PASSES

next_same : (p q : ℕ → Bool) (m k : ℕ) → ((j : ℕ) → k ≤ j → j < k + m → p j ≡ q j) → next p m k ≡ next q m k
unfolding next
next_same p q zero k h = refl
next_same p q (suc m) k h =
    ap₂ (λ (b : Bool) (o : Option ℕ). cond b (some k) o) (h k (omega arith) (omega arith)) (next_same p q m (suc k) (λ j a b. h j (omega arith) (omega arith)))

-- Where it is, if it is.
abbrev Place : (ℕ → Bool) → ℕ → ℕ → Type 0
Place p m k = (next p m k ≡ none) ⊎ ((j : ℕ) × (k ≤ j) × (j < k + m) × (next p m k ≡ some j))

next_place : (p : ℕ → Bool) (m k : ℕ) → Place p m k
unfolding next
next_place p zero k = inl refl
next_place p (suc m) k = go (p k) (next_place p m (suc k))
  where
    go : (b : Bool) → Place p m (suc k)
        → (cond b (some k) (next p m (suc k)) ≡ none) ⊎ ((j : ℕ) × (k ≤ j) × (j < k + suc m) × (cond b (some k) (next p m (suc k)) ≡ some j))
    go true r = inr (k, omega arith, omega arith, refl)
    go false (inl e) = inl e
    go false (inr (j, a, b, e)) = inr (j, omega arith, omega arith, e)

entry_place : (p : ℕ → Bool) (m k : ℕ)
    → ((entry p m k ≡ 255) × (next p (suc m - k) k ≡ none)) ⊎ ((j : ℕ) × (j ≤ m) × (entry p m k ≡ j) × (next p (suc m - k) k ≡ some j))
unfolding entry coded
entry_place p m k = go (next_place p (suc m - k) k)
  where
    go : Place p (suc m - k) k → ((coded (next p (suc m - k) k) ≡ 255) × (next p (suc m - k) k ≡ none)) ⊎ ((j : ℕ) × (j ≤ m) × (coded (next p (suc m - k) k) ≡ j) × (next p (suc m - k) k ≡ some j))
    go (inl e) = inl (ap coded e, e)
    go (inr (j, a, b, e)) = inr (j, omega arith, ap coded e, e)

entry-within : (p : ℕ → Bool) (m k j : ℕ) → next p (suc m - k) k ≡ some j → j ≤ m
entry-within p m k j e = go (entry_place p m k)
  where
    go : ((entry p m k ≡ 255) × (next p (suc m - k) k ≡ none)) ⊎ ((i : ℕ) × (i ≤ m) × (entry p m k ≡ i) × (next p (suc m - k) k ≡ some i)) → j ≤ m
    go (inl (f, g)) = let z : ◌≡◌ {A = ℕ} 0 1 = cc in absurd (omega arith)
    go (inr (i, f, g, r)) = let z : i ≡ j = cc in omega arith

-- COUNTS

pub not-both : (x y : ℕ) → (x ≡ 255 → ⊥) → (y ≡ 255 → ⊥) → max x y ≡ 255 → ⊥
not-both x y f g h = go (leb x y) refl
  where
    go : (b : Bool) → leb x y ≡ b → ⊥
    go true q = let a = leb-true x y q in g (omega arith)
    go false q = let a = leb-false x y q in f (omega arith)

module _ (K : Computation) (shape : Shape) (starts : List ℕ) (laid : Laid K shape starts) (s : ℕ) (h : s < shape.n) where
  -- The row of a start whose table names event k of s, or none, is that start joined with the event's clock.
  pub row_leads : (i : ℕ) → i ≤ shape.e → (o : Option ℕ) → ((k : ℕ) → o ≡ some k → k ≤ count K s) → (t : ℕ) → t ≡ coded o
      → decoded (joined_row shape.n (get_or shape.offs s 0) starts i t) ≡ up_to K s (row_at shape.n i starts) o
  unfolding coded joined_row up_to
  row_leads i a none f t e = rw (eq-eqb t 255 e) (decoded-none (absent shape.n) (get_or-replicate shape.n 0 255 0 shape.some_station))
  row_leads i a (some k) f t e =
      let c : Cut = row_at shape.n i starts in
      let l : k ≤ count K s = f k refl in
      let d : row_at shape.n (event_row (get_or shape.offs s 0) k) starts ≡ clock K s k = clock-is K shape starts laid s h k l in
      let g = join-consistent K laid.valid c (clock K s k) (start-consistent K shape starts laid i a) (clock-consistent K laid.valid s k l) in
      rw (e, ne_eqb k 255 (λ m. omega (arith, events-few K shape starts laid s)), d) (decoded-some (join c (clock K s k)) (λ m. omega (arith, g.within 0, events-few K shape starts laid 0)))

  -- A test p of the station's events, and q the same of what stands in the tables.
  module _ (p q : ℕ → Bool) (same : (j : ℕ) → j ≤ get_or shape.counts s 0 → p j ≡ q j) (table : List ℕ)
      (tab : (k : ℕ) → k < 256 → get_or table k 0 ≡ entry q (get_or shape.counts s 0) k) where
    pub tabled : Tabled shape.n shape.e s (get_or shape.offs s 0) table (length starts)
    tabled = record {
      station = h;
      few_stations = shape.few_stations;
      few_events = shape.few_events;
      before = omega (arith, own-fit K shape starts laid s h);
      starts_fit = laid.starts_fit;
      reach = λ k a f. ⊎_elim (λ r. absurd (f (tab k a ∙ r.0))) (λ r. omega (arith, tab k a, r.1, r.2, own-fit K shape starts laid s h)) (entry_place q (get_or shape.counts s 0) k);
    }

    -- How many events of the station start i has.
    start-has : (i : ℕ) → row_at shape.n i starts ! s ≡ get_or starts (i * shape.n + s) 0
    start-has i = get_or-take shape.n (drop (i * shape.n) starts) s 0 h ∙ get_or-drop (i * shape.n) starts s 0

    raise-is : (i : ℕ) → raise_to K s p (row_at shape.n i starts)
        ≡ up_to K s (row_at shape.n i starts) (next q (suc (get_or shape.counts s 0) - get_or starts (i * shape.n + s) 0) (get_or starts (i * shape.n + s) 0))
    unfolding raise_to
    raise-is i =
        ap₂ (λ (y z : ℕ). up_to K s (row_at shape.n i starts) (next p (suc z - y) y)) (start-has i) (sym (count-is K shape starts laid s h))
        ∙ ap (up_to K s (row_at shape.n i starts))
        (next_same p q (suc (get_or shape.counts s 0) - get_or starts (i * shape.n + s) 0) (get_or starts (i * shape.n + s) 0) (λ j u v. same j (omega arith)))

    pub leads : Leads shape.n shape.e s (get_or shape.offs s 0) table starts (raise_to K s p)
    unfolding atom_row entry
    leads i a =
        let x : ℕ = get_or starts (i * shape.n + s) 0 in
        let byte : x < 256 = omega (arith, (start-consistent K shape starts laid i a).within s, start-has i, events-few K shape starts laid s) in
        row_leads i a (next q (suc (get_or shape.counts s 0) - x) x) (λ k e. omega (arith, entry-within q (get_or shape.counts s 0) x k e, count-is K shape starts laid s h)) (get_or table x 0) (tab x byte)
        ∙ sym (raise-is i)

-- THE STRUCTURE

module _ (K : Computation) (shape : Shape) (starts : List ℕ) (laid : Laid K shape starts) (s off : ℕ) (table : List ℕ)
    (f : Cut → Option Cut) (lead : Leads shape.n shape.e s off table starts f) (w bs : List ℕ) (rows : (i : ℕ) → i ≤ shape.e → row_at shape.n i w ≡ atom_row shape.n s off table starts i) where
  pub atom_dropped : get_or w 0 0 ≡ 255 → standing shape.n (full K) 0 w bs ≡ build K f []
  unfolding standing
  atom_dropped z = sym (build-empty K shape starts laid f w (λ i a. ap decoded (rows i a) ∙ lead i a) [] z)

  pub atom_kept : (get_or w 0 0 ≡ 255 → ⊥) → get_or bs 0 0 ≡ 255 → standing shape.n (full K) 1 w bs ≡ build K f []
  unfolding standing
  atom_kept z y =
      rw (no_bars shape.n bs y)
      (sym (build-there K shape starts laid f w (λ i a. ap decoded (rows i a) ∙ lead i a) [] z ∙ keep_free _ _))

-- What is so of the sizes of a shape is so of the same sizes by themselves.
pub at_sizes : (P : ℕ → ℕ → Type 0) (x : Shape) (n e : ℕ) → x.n ≡ n → x.e ≡ e → P x.n x.e → P n e
at_sizes P x n e en ee p = subst (λ d. P n d) ee (subst (λ m. P m x.e) en p)
