-- Where no value is FFFF each formula is true or false at each cut, and it is true exactly where it was before silent stations were
-- told apart: the definition of then stands here, for this statement.
use mathlib.Core.Path.{◌≡◌, refl}
use mathlib.Core.Logic.Iff
use mathlib.Core.Logic.{◌↔◌, ◌⊎◌, inl, inr, ⊎_map, ⊎_swap}
use Prim.Native.Nat.{ℕ}
use mathlib.Core.Bool.{Bool, true, false, not as negated}
use borrow.Author.Tests.{ne_eqb}
use Rattle.model.specs.declared.Aspect.{Aspect}
use Rattle.model.specs.declared.Aspect.TheVariants.{Value, Panel}
use Rattle.model.specs.Cut.{Cut, ◌!◌}
use Rattle.model.specs.Computation.{Computation, report}
use Rattle.model.specs.Atom.{Atom, seen, is_silent, within, on_way, no_message, atom_is_true, atom_is_false}
use Rattle.model.specs.Atom.Atom.{in_range, clear}
use Rattle.model.specs.Formula.{Formula}
use Rattle.model.specs.Formula.Formula.{atom, not, and, or, possibly, always}
use Rattle.model.specs.Truth.{True, False, Possibly}
use Rattle.model.proofs.Truth.{never_both}
use Rattle.lattice.proofs.Tests.{yes_or_no, not-true}
use Rattle.lattice.proofs.Ranges.{found_inside, found_outside}
use Rattle.lattice.proofs.Search.{possibly-or-not}
use Rattle.lattice.proofs.Theorem.{either_iff, possibly_iff}

-- No station's value is FFFF, neither the first nor that of an event.
abbrev pub NoneSilent : Computation → Type 0
NoneSilent K = (s k : ℕ) → (report K s k).value ≡ 0xFFFF → ⊥

-- BEFORE

-- Was the atom true at the cut? If not, it was false there.
unfoldable pub was_true : Computation → Atom → Cut → Bool
was_true K (in_range a s lo hi) c = within lo hi (seen a (report K s (c ! s)))
was_true K (clear i j) c = no_message (on_way i j c) K.messages

-- The formula was true at the cut c.
abbrev pub WasTrue : Computation → Formula → Cut → Type 0
WasTrue K (atom a) c = was_true K a c ≡ true
WasTrue K (not f) c = WasTrue K f c → ⊥
WasTrue K (and f g) c = WasTrue K f c × WasTrue K g c
WasTrue K (or f g) c = WasTrue K f c ⊎ WasTrue K g c
WasTrue K (possibly f) c = Possibly K (WasTrue K f) c
WasTrue K (always f) c = Possibly K (λ d. WasTrue K f d → ⊥) c → ⊥

module _ (K : Computation) (spoken : NoneSilent K) where
  pub heard : (a : Aspect) (s k : ℕ) → is_silent a (seen a (report K s k)) ≡ false
  unfolding seen
  heard Value s k = ne_eqb (report K s k).value 0xFFFF (spoken s k)
  heard Panel s k = refl

  same_true : (a : Atom) (c : Cut) → atom_is_true K a c ≡ was_true K a c
  unfolding atom_is_true was_true
  same_true (in_range a s lo hi) c = found_inside a lo hi (seen a (report K s (c ! s))) (heard a s (c ! s))
  same_true (clear i j) c = refl

  same_false : (a : Atom) (c : Cut) → atom_is_false K a c ≡ negated (was_true K a c)
  unfolding atom_is_true atom_is_false was_true
  same_false (in_range a s lo hi) c = found_outside a lo hi (seen a (report K s (c ! s))) (heard a s (c ! s))
  same_false (clear i j) c = refl

  -- TRUE OR FALSE

  atom-or-false : (a : Atom) (c : Cut) → (atom_is_true K a c ≡ true) ⊎ (atom_is_false K a c ≡ true)
  atom-or-false a c = rw (same_true a c, same_false a c) (⊎_map (λ p. p) (not-true (was_true K a c)).1 (yes_or_no (was_true K a c)))

  is_true : (f : Formula) (c : Cut) → True K f c ⊎ False K f c → Dec (True K f c)
  is_true f c (inl t) = yes t
  is_true f c (inr u) = no (λ t. never_both K f c t u)

  is_false : (f : Formula) (c : Cut) → True K f c ⊎ False K f c → Dec (False K f c)
  is_false f c (inl t) = no (λ u. never_both K f c t u)
  is_false f c (inr u) = yes u

  pub true-or-false : (f : Formula) (c : Cut) → True K f c ⊎ False K f c
  true-or-false (atom a) c = atom-or-false a c
  true-or-false (not f) c = ⊎_swap (true-or-false f c)
  true-or-false (and f g) c = elim (true-or-false f c) [
    | inl t ↦ elim (true-or-false g c) [ inl v ↦ inl (t, v) | inr v ↦ inr (inr v) ]
    | inr u ↦ inr (inl u)
  ]
  true-or-false (or f g) c = elim (true-or-false f c) [
    | inl t ↦ inl (inl t)
    | inr u ↦ elim (true-or-false g c) [ inl v ↦ inl (inr v) | inr v ↦ inr (u, v) ]
  ]
  true-or-false (possibly f) c = elim (possibly-or-not K (True K f) (λ d. is_true f d (true-or-false f d)) c) [ yes t ↦ inl t | no u ↦ inr u ]
  true-or-false (always f) c = elim (possibly-or-not K (False K f) (λ d. is_false f d (true-or-false f d)) c) [ yes u ↦ inr u | no t ↦ inl t ]

  -- TRUE AS BEFORE

  false_from : (f : Formula) (c : Cut) → True K f c ↔ WasTrue K f c → False K f c ↔ (WasTrue K f c → ⊥)
  false_from f c h = (
    λ u t. never_both K f c (h.1 t) u,
    λ n. elim (true-or-false f c) [ inl t ↦ absurd (n (h.0 t)) | inr u ↦ u ],
  )

  pub true_as_before : (f : Formula) (c : Cut) → True K f c ↔ WasTrue K f c
  true_as_before (atom a) c = rw (same_true a c) Iff.rfl
  true_as_before (not f) c = false_from f c (true_as_before f c)
  true_as_before (and f g) c = Iff.and (true_as_before f c) (true_as_before g c)
  true_as_before (or f g) c = either_iff (true_as_before f c) (true_as_before g c)
  true_as_before (possibly f) c = possibly_iff K (True K f) (WasTrue K f) (true_as_before f) c
  true_as_before (always f) c = Iff.not (possibly_iff K (False K f) (λ d. WasTrue K f d → ⊥) (λ d. false_from f d (true_as_before f d)) c)

  pub false_as_before : (f : Formula) (c : Cut) → False K f c ↔ (WasTrue K f c → ⊥)
  false_as_before f c = false_from f c (true_as_before f c)
