-- Laws of the loop over the events: after those from the last down to k + 1 the table has their entries.
use mathlib.Core.Path.{◌≡◌, refl, sym, ap, ◌∙◌}
use Prim.Native.Nat.{ℕ, suc, ◌*◌, ◌-◌, ◌≤◌, ◌<◌}
use native.Mathlib.Omega.{arith}
use native.Mathlib.Decide.{ℕ_discrete}
use mathlib.Core.Bool.{Bool, true, false, cond}
use mathlib.Core.List.{List}
use mathlib.Core.Option.{Option, none, some}
use lib.ListN.{length, get_or, set, replicate}
use lib.Seq.{paste, get_or-set_same, get_or-set_other}
use borrow.Author.Tests.{eq-eqb, ne_eqb}
use Rattle.model.specs.Cut.{Cut}
use Rattle.model.specs.Computation.{Computation, count}
use Rattle.model.specs.Structure.{Structure}
use Rattle.lattice.specs.OfStation.{own_row}
use Rattle.lattice.specs.Chains.{Entry, entry_at, entries}
use Rattle.lattice.specs.Chains.Entry.{lost}
use Rattle.slots.specs.Slots.{number, Small}
use Rattle.numbering.proofs.Numbers.{number-le, number_same}
use Rattle.picking.specs.Rows.{row_of}
use Rattle.picking.proofs.Reading.{row_new, row_old}
use Rattle.chaining.specs.declared.Chain.{Chain}
use Rattle.chaining.specs.Table.{above_of, under_of, rounds_of, Tells, Stands, Chained, Low, Wrote}

-- WRITING

-- An entry put at place v.
pub wrote : (chain chain₂ : Chain) (v : ℕ) (a u : List ℕ) (r : ℕ) → length chain.above ≡ 2048 → length chain.under ≡ 2048 → length chain.rounds ≡ 256 → v < 256 → length a ≡ 8 → length u ≡ 8
    → chain₂.above ≡ paste chain.above (v * 8) a 8 → chain₂.under ≡ paste chain.under (v * 8) u 8 → chain₂.rounds ≡ set chain.rounds v r → Wrote v a u r chain chain₂
wrote chain chain₂ v a u r la lu lr h l m ea eu er = record {
  above_is = ap (λ (t : List ℕ). row_of t v) ea ∙ row_new chain.above a v la h l;
  under_is = ap (λ (t : List ℕ). row_of t v) eu ∙ row_new chain.under u v lu h m;
  rounds_is = ap (λ (t : List ℕ). get_or t v 0) er ∙ get_or-set_same chain.rounds v r 0 (omega arith);
  others = λ i f. (
    ap (λ (t : List ℕ). row_of t i) ea ∙ row_old chain.above a v la h l i f,
    ap (λ (t : List ℕ). row_of t i) eu ∙ row_old chain.under u v lu h m i f,
    ap (λ (t : List ℕ). get_or t i 0) er ∙ get_or-set_other chain.rounds v i r 0 f,
  );
}

-- THE TABLE

number-nil : (K : Computation) (s : ℕ) → 0 ≡ number K s 0
unfolding number
number-nil K s = refl

module _ (v : ℕ) (above under : List ℕ) (r : ℕ) (chain chain₂ : Chain) (w : Wrote v above under r chain chain₂) where
  stands_kept : (K : Computation) (p : ℕ) (o : Option Entry) → (p ≡ v → ⊥) → Stands K chain p o → Stands K chain₂ p o
  stands_kept K p none f h = let q = w.others p f in (h.0, rw (q.0, q.1, q.2) h.1)
  stands_kept K p (some e) f h = let q = w.others p f in (h.0, rw (q.0, q.1, q.2) h.1)

  stands-new : (K : Computation) (e : Entry) → (v ≡ 0 → ⊥) → Tells K (some e) above under r → Stands K chain₂ v (some e)
  stands-new K e f h = (f, rw (w.above_is, w.under_is, w.rounds_is) h)

  pub low-more : (m n : ℕ) → Low m chain → r ≤ n → m ≤ n → Low n chain₂
  low-more m n h l g i = go (ℕ_discrete i v)
    where
      go : Dec (i ≡ v) → rounds_of chain₂ i ≤ n
      go (yes e) = rw e (omega (arith, w.rounds_is))
      go (no e) = omega (arith, (w.others i e).2, h i)

  -- One event more.
  chained_more : (K : Computation) (b : Bool) (s k : ℕ) (E E₂ : ℕ → Entry) → Small K → 0 < k → k ≤ count K s → v ≡ number K s k → Chained K b s E (suc k) chain
      → Tells K (some (E₂ k)) above under r → ((i : ℕ) → k < i → E₂ i ≡ E i) → Chained K b s E₂ k chain₂
  chained_more K b s k E E₂ m z l e c t same = record {
    rests = stands_kept K 0 none (λ q. some_number (sym q)) c.rests;
    finds_none = stands_kept K 255 (some (lost (cond b 1 2))) (λ q. omega (arith, e, q, number-le K s k l, m.few_events)) c.finds_none;
    events = λ i h g. by i h g (ℕ_discrete i k);
  }
    where
      some_number : v ≡ 0 → ⊥
      some_number q = above_zero (number_same K s k 0 (sym e ∙ q ∙ number-nil K s))
        where
          above_zero : k ≡ 0 → ⊥
          above_zero f = omega arith

      by : (i : ℕ) → k ≤ i → i ≤ count K s → Dec (i ≡ k) → Stands K chain₂ (number K s i) (some (E₂ i))
      by i h g (yes q) = rw (q, ← e) (stands-new K (E₂ k) some_number t)
      by i h g (no q) = rw (same i (omega arith)) (stands_kept K (number K s i) (some (E i)) (λ y. q (number_same K s i k (y ∙ e))) (c.events i (omega arith) g))

-- Entries of an event that is there and of those before.
module _ (K : Computation) (b : Bool) (s : ℕ) (f : Cut → Option ℕ) (B : Structure) (n k : ℕ) where
  entries-new : k ≡ count K s - n → entries K b s f B (suc n) k ≡ entry_at K b s f B (entries K b s f B n) k
  unfolding entries
  entries-new e = rw (eq-eqb k (count K s - n) e) refl

  entries_old : (k ≡ count K s - n → ⊥) → entries K b s f B (suc n) k ≡ entries K b s f B n k
  unfolding entries
  entries_old h = rw (ne_eqb k (count K s - n) h) refl

-- The events above k are done.
abbrev pub Filled : Computation → Structure → Structure → Bool → ℕ → ℕ → Chain → Type 0
Filled K A B b s k chain = Chained K b s (entries K b s (own_row A s) B (count K s - k)) (suc k) chain

module _ (K : Computation) (A B : Structure) (b : Bool) (s : ℕ) where
  pub filled_more : (k v : ℕ) (above under : List ℕ) (r : ℕ) (chain chain₂ : Chain) → Wrote v above under r chain chain₂ → Small K → 0 < k → k ≤ count K s → v ≡ number K s k → Filled K A B b s k chain
      → Tells K (some (entry_at K b s (own_row A s) B (entries K b s (own_row A s) B (count K s - k)) k)) above under r → Filled K A B b s (k - 1) chain₂
  filled_more k v above under r chain chain₂ w m z l e c t =
      let n : suc (k - 1) ≡ k = omega arith in
      let g : count K s - (k - 1) ≡ suc (count K s - k) = omega arith in
      rw (n, g) (chained_more v above under r chain chain₂ w K b s k (entries K b s (own_row A s) B (count K s - k)) (entries K b s (own_row A s) B (suc (count K s - k))) m z l e c
      (rw (entries-new K b s (own_row A s) B (count K s - k) k (omega arith)) t) (λ i h. entries_old K b s (own_row A s) B (count K s - k) i (λ q. omega arith)))

  pub filled_all : (k : ℕ) (chain : Chain) → k ≡ 0 → Filled K A B b s k chain → Chained K b s (entries K b s (own_row A s) B (suc (count K s))) 1 chain
  filled_all k chain e c = record {
    rests = c.rests;
    finds_none = c.finds_none;
    events = λ i h g.
        let n : count K s - k ≡ count K s = omega arith in
        let q : entries K b s (own_row A s) B (suc (count K s)) i ≡ entries K b s (own_row A s) B (count K s) i = entries_old K b s (own_row A s) B (count K s) i (λ q. omega arith) in
        rw (q, ← n) (c.events i (omega arith) g);
  }

  -- None is done, of tables with nothing to look up at place 0 and the entry for no event found.
  pub filled_none : (k r : ℕ) (chain chain₂ : Chain) → above_of chain 0 ≡ replicate 8 0 → under_of chain 0 ≡ replicate 8 0 → Low 0 chain
      → Wrote 255 (replicate 8 255) (replicate 8 255) r chain chain₂ → r ≡ cond b 0 1 → k ≡ count K s → Filled K A B b s k chain₂
  filled_none k r chain chain₂ za zu zr w er q = record {
    rests = stands_kept 255 (replicate 8 255) (replicate 8 255) r chain chain₂ w K 0 none (λ y. omega arith) (refl, (za, zu, omega (arith, zr 0)));
    finds_none = stands-new 255 (replicate 8 255) (replicate 8 255) r chain chain₂ w K (lost (cond b 1 2)) (λ y. omega arith) (refl, refl, ap suc er ∙ go b);
    events = λ i h g. absurd (omega arith);
  }
    where
      go : (b : Bool) → suc (cond b 0 1) ≡ cond b 1 2
      go true = refl
      go false = refl
