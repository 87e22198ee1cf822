-- Laws of numbers of events and of cuts in eight cells: they are joined cell by cell as the cuts are, and known by their cells.
use mathlib.Core.Path.{◌≡◌, refl, sym, ap, ◌∙◌}
use Prim.Native.Nat.{ℕ, zero, suc, ◌≤◌, ◌<◌, max}
use native.Mathlib.Omega.{arith}
use mathlib.Core.List.{List}
use mathlib.Core.Option.{Option, none, some}
use lib.ListN.{length, get_or, get_or-eq_default}
use lib.Seq.{ext_get_or}
use Rattle.model.specs.Lists.{sum}
use Rattle.model.specs.Cut.{Cut, ◌!◌, join}
use Rattle.model.specs.Computation.{Computation, Consistent, stations, count, full, event_count}
use Rattle.model.specs.Structure.{joined}
use Rattle.lattice.proofs.Sums.{total-take}
use Rattle.lattice.proofs.Cuts.{join-at}
use Rattle.lattice.proofs.Consistency.{full_at, join-consistent}
use Rattle.numbering.specs.Rows.{number, Small, Coded, Says}

module _ (K : Computation) (j : ℕ) where
  number-max : (a b : ℕ) → number K j (max a b) ≡ max (number K j a) (number K j b)
  unfolding number
  number-max zero b = let e : max 0 b ≡ b = omega arith in let f : max 0 (number K j b) ≡ number K j b = omega arith in ap (number K j) e ∙ sym f
  number-max (suc a) zero = let e : max (suc a) 0 ≡ suc a = omega arith in let f : max (number K j (suc a)) 0 ≡ number K j (suc a) = omega arith in ap (number K j) e ∙ sym f
  number-max (suc a) (suc b) = let e : max (suc a) (suc b) ≡ suc (max a b) = omega arith in rw e (omega arith)

  pub number_same : (a b : ℕ) → number K j a ≡ number K j b → a ≡ b
  unfolding number
  number_same zero zero e = refl
  number_same zero (suc b) e = absurd (omega arith)
  number_same (suc a) zero e = absurd (omega arith)
  number_same (suc a) (suc b) e = omega arith

  pub number-zero : (k : ℕ) → k ≡ 0 → number K j k ≡ 0
  unfolding number
  number-zero zero e = refl
  number-zero (suc k) e = absurd (omega arith)

  pub number-le : (k : ℕ) → k ≤ count K j → number K j k ≤ event_count K
  unfolding number
  number-le zero h = omega arith
  number-le (suc k) h = omega (arith, total-take (full K) j, full_at K j)

-- Of the first station the count is its own number.
pub number-first : (K : Computation) (k : ℕ) → number K 0 k ≡ k
unfolding number sum
number-first K zero = refl
number-first K (suc k) = omega arith

-- No cut counts past the stations.
pub past-zero : (K : Computation) (x : Cut) → Consistent K x → (j : ℕ) → stations K ≤ j → x ! j ≡ 0
past-zero K x p j h = get_or-eq_default x 0 {n = j} (omega (arith, p.size))

module _ (K : Computation) (m : Small K) where
  -- What the first cell tells.
  pub first_some : (x : Cut) (c : List ℕ) → Coded K x c → get_or c 0 0 < 255
  first_some x c h = omega (arith, h.cells 0, number-le K 0 (x ! 0) (h.consistent.within 0), m.few_events)

  pub first_small : (o : Option Cut) (c : List ℕ) → Says K o c → get_or c 0 0 < 256
  first_small none c h = omega (arith, h)
  first_small (some x) c h = omega (arith, first_some x c h)

  pub says_none : (o : Option Cut) (c : List ℕ) → Says K o c → get_or c 0 0 ≡ 255 → o ≡ none
  says_none none c h e = refl
  says_none (some x) c h e = absurd (omega (arith, first_some x c h))

  pub says_some : (o : Option Cut) (c : List ℕ) → Says K o c → (get_or c 0 0 ≡ 255 → ⊥) → (x : Cut) × (o ≡ some x) × Coded K x c
  says_some none c h f = absurd (f h)
  says_some (some x) c h f = (x, refl, h)

  -- Cells joined say the join.
  pub join-says : (o p : Option Cut) (a b : List ℕ) → Says K o a → Says K p b → Says K (joined o p) (join a b)
  unfolding joined
  join-says none p a b h k = omega (arith, h, first_small p b k, join-at a b 0)
  join-says (some x) none a b h k = omega (arith, k, first_some x a h, join-at a b 0)
  join-says (some x) (some y) a b h k = record {
    consistent = join-consistent K m.valid x y h.consistent k.consistent;
    cells = λ j.
        let e : join x y ! j ≡ max (x ! j) (y ! j) = join-at x y j in
        let f : join a b ! j ≡ max (a ! j) (b ! j) = join-at a b j in
        rw e (omega (arith, h.cells j, k.cells j, number-max K j (x ! j) (y ! j)));
  }

  -- Equal cells are equal cuts.
  pub coded_same : (x y : Cut) (c : List ℕ) → Coded K x c → Coded K y c → x ≡ y
  coded_same x y c h k = ext_get_or 0 x y (h.consistent.size ∙ sym k.consistent.size) (λ j _. number_same K j (x ! j) (y ! j) (sym (h.cells j) ∙ k.cells j))

  pub cells_same : (x : Cut) (c d : List ℕ) → Coded K x c → Coded K x d → length c ≡ 8 → length d ≡ 8 → c ≡ d
  cells_same x c d h k l m = ext_get_or 0 c d (l ∙ sym m) (λ j _. h.cells j ∙ sym (k.cells j))
