-- The basis of an atom, as true or as false: what build makes of its raising function.
use mathlib.Core.Path.{◌≡◌, refl, sym, ◌∙◌}
use mathlib.Core.Logic.{◌↔◌}
use Prim.Native.Nat.{ℕ}
use mathlib.Core.Bool.{Bool, true, false}
use mathlib.Core.Option.{Option}
use mathlib.Core.List.{[]}
use Rattle.model.specs.declared.Aspect.{Aspect}
use Rattle.model.specs.Cut.{Cut, ◌!◌, ◌⊑◌, inside_any}
use Rattle.model.specs.Computation.{Computation, Consistent, report}
use Rattle.model.specs.Atom.{Atom, seen, atom_is_true, atom_is_false, askable, raise_to, passes, raise_atom}
use Rattle.model.specs.Atom.Atom.{in_range, clear}
use Rattle.model.specs.Structure.{build}
use Rattle.lattice.proofs.Valid.{Valid}
use Rattle.lattice.proofs.Tests.{clash}
use Rattle.lattice.proofs.Structures.{Least, Regular}
use Rattle.lattice.proofs.Bases.{IsBasis, basis_iff, build-basis}
use Rattle.lattice.proofs.Sets.{Passes, passes_regular, passes-least}
use Rattle.lattice.proofs.Messages.{Clear, clear_iff, clear_regular, clear-least}

-- Is the atom true at the cut, as true; is it false there, as false?
abbrev pub is_as : Computation → Bool → Atom → Cut → Bool
is_as K true a c = atom_is_true K a c
is_as K false a c = atom_is_false K a c

-- A range is, where what it looks at passes.
passes_same : (K : Computation) (b : Bool) (a : Aspect) (s lo hi : ℕ) (c : Cut) → passes b a lo hi (seen a (report K s (c ! s))) ≡ is_as K b (in_range a s lo hi) c
unfolding passes atom_is_true atom_is_false
passes_same K true a s lo hi c = refl
passes_same K false a s lo hi c = refl

module _ (K : Computation) (ok : Valid K) where
  -- What build makes of a function that finds the least cuts of a set, with no bars.
  plain_basis : (P X : Cut → Type 0) → Regular K P → (f : Cut → Option Cut) → ((c : Cut) → Consistent K c → Least P (λ e. c ⊑ e) (f c))
      → ((c : Cut) → Consistent K c → P c ↔ X c) → IsBasis K (build K f []) X
  unfolding inside_any
  plain_basis P X reg f least same = basis_iff (λ c q. (λ u. (same c q).0 u.0, λ u. ((same c q).1 u, refl))) (build-basis K ok reg f least [])

  -- Of an atom that looks at the count of one station.
  counted-basis : (s : ℕ) (p : ℕ → Bool) (X : Cut → Type 0) → ((c : Cut) → Consistent K c → Passes K ok s p c ↔ X c) → IsBasis K (build K (raise_to K s p) []) X
  counted-basis s p X = plain_basis (Passes K ok s p) X (passes_regular K ok s p) (raise_to K s p) (passes-least K ok s p)

  -- An atom that cannot be worked out under its sign is given no cuts.
  pub literal-basis : (b : Bool) (a : Atom) → IsBasis K (build K (raise_atom K b a) []) (λ c. (askable b a ≡ true) × (is_as K b a c ≡ true))
  unfolding raise_atom askable
  literal-basis b (in_range a s lo hi) =
      counted-basis s (λ k. passes b a lo hi (seen a (report K s k))) _ (λ c q. (λ u. (refl, sym (passes_same K b a s lo hi c) ∙ u.1), λ u. (q, passes_same K b a s lo hi c ∙ u.1)))
  literal-basis true (clear i j) =
      plain_basis (Clear K ok i j K.messages) _ (clear_regular K ok i j K.messages) _ (clear-least K ok i j) (λ c q. (λ u. (refl, (clear_iff K ok i j c).1 u.1), λ u. (q, (clear_iff K ok i j c).0 u.1)))
  literal-basis false (clear i j) =
      plain_basis (λ c. Consistent K c × ⊥) _ (record { consistent = λ c u. u.0; join_in = λ c d u v. absurd u.1 }) _ (λ c q e u v. u.1) (λ c q. (λ u. absurd u.1, λ u. clash u.0 refl))
