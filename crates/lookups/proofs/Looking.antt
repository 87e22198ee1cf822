-- Laws of one start by cases of what it looks up: what its eight cells say, and how many rounds it takes.
use mathlib.Core.Path.{◌≡◌, refl, sym, ap, subst}
use Prim.Native.Nat.{ℕ, ◌+◌, ◌<◌}
use native.Mathlib.Omega.{arith}
use mathlib.Core.Bool.{Bool, true, false, cond}
use mathlib.Core.List.{List}
use mathlib.Core.Option.{Option, none, some}
use lib.Dec.{eqb}
use lib.ListN.{length, get_or}
use Rattle.model.specs.Cut.{Cut, ◌!◌, ◌⊑◌, inside, join}
use Rattle.model.specs.Computation.{Computation}
use Rattle.model.specs.Structure.{Structure}
use Rattle.model.specs.Basis.{Outcome}
use Rattle.lattice.specs.Chains.{Entry, outcome_of, found}
use Rattle.lattice.specs.Chains.Entry.{lost, moved}
use Rattle.lattice.proofs.Tests.{clash, false_iff}
use Rattle.lattice.proofs.Cuts.{refl⊑, inside_⊑, ⊑-inside, join-at}
use Rattle.lattice.proofs.Consistency.{same_cut}
use Rattle.lattice.proofs.Shortcuts.{came}
use Rattle.slots.specs.Slots.{Small, Coded, Says}
use Rattle.numbering.proofs.Numbers.{first_some, coded_same, cells_same}
use Rattle.chaining.specs.declared.Chain.{Chain}
use Rattle.chaining.specs.Table.{rounds_of, sought, Stands, Reaches, Comes}

-- Two cuts, the larger one first, are the same where it is contained in the other.
same_inside : (K : Computation) → Small K → (x y : Cut) (c d : List ℕ) (same : Bool) → Coded K x c → Coded K y d → length c ≡ 8 → length d ≡ 8 → y ⊑ x
    → (same ≡ true → c ≡ d) → (c ≡ d → same ≡ true) → same ≡ inside x y
same_inside K m x y c d true h k l n g f t =
    let e : x ≡ y = coded_same K m x y d (subst (Coded K x) (f refl) h) k in
    sym (rw e (⊑-inside y y (refl⊑ y)))
same_inside K m x y c d false h k l n g f t =
    sym ((false_iff (inside x y)).1 (λ e.
    let q : x ≡ y = same_cut K x y h.consistent k.consistent (inside_⊑ x y e) g in
    clash (t (cells_same K m y c d (subst (λ z. Coded K z c) q h) k l n)) refl))

-- The outcome of a start from c with first cut x that looks this up.
unfoldable pub outcome_by : Cut → Cut → Option Entry → Outcome
outcome_by c x none = came (some x) (1 + cond (inside x c) 0 1)
outcome_by c x (some e) = outcome_of x e

pub found-is : (K : Computation) (b : Bool) (s : ℕ) (f : Cut → Option ℕ) (B : Structure) (E : ℕ → Entry) (c x : Cut) (o : Option ℕ) → found K b s f B E c x o ≡ outcome_by c x (sought b E (x ! s) o)
unfolding found outcome_by sought outcome_of
found-is K b s f B E c x none = refl
found-is K b s f B E c x (some k) = go (eqb k (x ! s))
  where
    go : (t : Bool) → cond t (came (some x) (1 + cond (inside x c) 0 1)) (outcome_of x (E k)) ≡ outcome_by c x (cond t none (some (E k)))
    go true = refl
    go false = refl

-- What the cells of a cut x say where it looks this up, and how its rounds are counted.
module _ (K : Computation) (m : Small K) (c x : Cut) (chain : Chain) (cut : List ℕ) (p : ℕ) where
  pub reached-by : (o : Option Entry) → Reaches K x o cut → Says K (outcome_by c x o).reached cut
  unfolding outcome_by outcome_of
  reached-by none a = a
  reached-by (some (lost k)) a = ap (λ (y : List ℕ). get_or y 0 0) a
  reached-by (some (moved d w k)) a = a

  pub lost_by : (o : Option Entry) → Stands K chain p o → Reaches K x o cut → get_or cut 0 0 ≡ 255 → rounds_of chain p + 1 ≡ (outcome_by c x o).rounds
  unfolding outcome_by outcome_of
  lost_by none g a e = absurd (omega (arith, first_some K m x cut a))
  lost_by (some (lost k)) g a e = omega (arith, g.1.2)
  lost_by (some (moved d w k)) g a e = absurd (omega (arith, first_some K m (join x d) cut a))

  pub raised_by : (last : List ℕ) (same : Bool) → c ⊑ x → length cut ≡ 8 → length last ≡ 8 → (same ≡ true → cut ≡ last) × (cut ≡ last → same ≡ true)
      → (o : Option Entry) → Stands K chain p o → Reaches K x o cut → Comes K c x o last → get_or cut 0 0 < 255 → rounds_of chain p + 1 + cond same 0 1 ≡ (outcome_by c x o).rounds
  unfolding outcome_by outcome_of
  raised_by last same h l n t none g a u f = rw (g.1.2, same_inside K m x c cut last same a u l n h t.0 t.1) (omega arith)
  raised_by last same h l n t (some (lost k)) g a u f = absurd (omega (arith, ap (λ (y : List ℕ). get_or y 0 0) a))
  raised_by last same h l n t (some (moved d w k)) g a u f =
      rw (same_inside K m (join x d) (join x w) cut last same a u l n (λ j. omega (arith, g.1.2 j, join-at x d j, join-at x w j)) t.0 t.1)
      (ap (λ (y : ℕ). y + cond (inside (join x d) (join x w)) 0 1) (omega (arith, g.1.3)))
