-- The cuts of a list that are contained in no other.
use mathlib.Core.Path.{◌≡◌, refl, sym, ◌∙◌, subst}
use mathlib.Core.Logic.{◌⊎◌, inl, inr}
use mathlib.Core.Bool.{Bool, true, false, cond}
use mathlib.Core.List.{List, [], ◌∷◌}
use Rattle.model.specs.Lists.{Some, Member}
use Rattle.model.specs.Lists.Some.{here, there}
use Rattle.model.specs.Cut.{Cut, ◌⊑◌, inside, inside_any}
use Rattle.model.specs.Answer.{not_inside, add, tops}
use Rattle.lattice.proofs.Tests.{clash}
use Rattle.lattice.proofs.Lists.{find, found, nothing}
use Rattle.lattice.proofs.Cuts.{refl⊑, trans⊑, inside_⊑, ⊑-inside, inside_any-some, some-inside_any}

-- None of the list contains another, and so each stands there once.
abbrev pub Apart : List Cut → Type 0
Apart [] = Unit {0}
Apart (c ∷ l) = ((d : Cut) → Member d l → (c ⊑ d → ⊥) × (d ⊑ c → ⊥)) × Apart l

-- Of those one is contained in the other only if they are the same.
pub apart_same : (l : List Cut) → Apart l → (c d : Cut) → Member c l → Member d l → c ⊑ d → c ≡ d
apart_same [] a c d x4 _ h = elim x4 [ ]
apart_same (x ∷ l) a c d (here p) (here q) h = p ∙ sym q
apart_same (x ∷ l) a c d (here p) (there q) h = absurd ((a.0 d q).0 (subst (λ z. z ⊑ d) p h))
apart_same (x ∷ l) a c d (there p) (here q) h = absurd ((a.0 c p).1 (subst (λ z. c ⊑ z) q h))
apart_same (x ∷ l) a c d (there p) (there q) h = apart_same l a.1 c d p q h

pub not_inside-sub : (c : Cut) (l : List Cut) (d : Cut) → Member d (not_inside c l) → Member d l
unfolding not_inside
not_inside-sub c [] d h = elim h [ ]
not_inside-sub c (x ∷ l) d h = go (inside x c) h (not_inside-sub c l d)
  where
    go : (b : Bool) → Member d (cond b (not_inside c l) (x ∷ not_inside c l)) → (Member d (not_inside c l) → Member d l) → Member d (x ∷ l)
    go true h r = there (r h)
    go false (here p) r = here p
    go false (there h) r = there (r h)

not_inside_free : (c : Cut) (l : List Cut) (d : Cut) → Member d (not_inside c l) → d ⊑ c → ⊥
unfolding not_inside
not_inside_free c [] d h = elim h [ ]
not_inside_free c (x ∷ l) d h = go (inside x c) refl h (not_inside_free c l d)
  where
    go : (b : Bool) → inside x c ≡ b → Member d (cond b (not_inside c l) (x ∷ not_inside c l)) → (Member d (not_inside c l) → d ⊑ c → ⊥) → d ⊑ c → ⊥
    go true e h r = r h
    go false e (here p) r = λ q. clash (⊑-inside x c (subst (λ z. z ⊑ c) p q)) e
    go false e (there h) r = r h

not_inside_keeps : (c : Cut) (l : List Cut) (d : Cut) → Member d l → (d ⊑ c) ⊎ Member d (not_inside c l)
unfolding not_inside
not_inside_keeps c [] d x' = elim x' [ ]
not_inside_keeps c (x ∷ l) d (here p) = go (inside x c) refl
  where
    go : (b : Bool) → inside x c ≡ b → (d ⊑ c) ⊎ Member d (cond b (not_inside c l) (x ∷ not_inside c l))
    go true e = inl (subst (λ z. z ⊑ c) (sym p) (inside_⊑ x c e))
    go false e = inr (here p)
not_inside_keeps c (x ∷ l) d (there h) = go (inside x c) (not_inside_keeps c l d h)
  where
    go : (b : Bool) → (d ⊑ c) ⊎ Member d (not_inside c l) → (d ⊑ c) ⊎ Member d (cond b (not_inside c l) (x ∷ not_inside c l))
    go b (inl u) = inl u
    go true (inr v) = inr v
    go false (inr v) = inr (there v)

not_inside_apart : (c : Cut) (l : List Cut) → Apart l → Apart (not_inside c l)
unfolding not_inside
not_inside_apart c [] a = tt
not_inside_apart c (x ∷ l) a = go (inside x c) (not_inside_apart c l a.1)
  where
    go : (b : Bool) → Apart (not_inside c l) → Apart (cond b (not_inside c l) (x ∷ not_inside c l))
    go true r = r
    go false r = (λ d m. a.0 d (not_inside-sub c l d m), r)

-- What tops lists: cuts of the list, apart, and one above each.
pub record Tops (l t : List Cut) : Type 0 where
  pub sub : (d : Cut) → Member d t → Member d l
  pub cover : (d : Cut) → Member d l → Some (λ e. d ⊑ e) t
  pub apart : Apart t

-- tops does.
pub tops_ok : (l : List Cut) → Tops l (tops l)
unfolding tops add
tops_ok [] = record { sub = λ d m. m; cover = λ d m. nothing m; apart = tt }
tops_ok (c ∷ l) = go (inside_any c (tops l)) refl (tops_ok l)
  where
    go : (b : Bool) → inside_any c (tops l) ≡ b → Tops l (tops l) → Tops (c ∷ l) (cond b (tops l) (c ∷ not_inside c (tops l)))
    go true e r = record { sub = λ d m. there (r.sub d m); cover = above; apart = r.apart }
      where
        above : (d : Cut) → Member d (c ∷ l) → Some (λ x. d ⊑ x) (tops l)
        above d (here p) = subst (λ z. Some (λ x. z ⊑ x) (tops l)) (sym p) (inside_any-some c (tops l) e)
        above d (there m) = r.cover d m
    go false e r = record { sub = below; cover = above; apart = (λ d m. (λ h. clash (some-inside_any c (tops l) (found d (not_inside-sub c (tops l) d m) h)) e, not_inside_free c (tops l) d m), not_inside_apart c (tops l) r.apart) }
      where
        below : (d : Cut) → Member d (c ∷ not_inside c (tops l)) → Member d (c ∷ l)
        below d (here p) = here p
        below d (there m) = there (r.sub d (not_inside-sub c (tops l) d m))

        above : (d : Cut) → Member d (c ∷ l) → Some (λ x. d ⊑ x) (c ∷ not_inside c (tops l))
        above d (here p) = here (subst (λ z. d ⊑ z) p (refl⊑ d))
        above d (there m) = let f = find (r.cover d m) in elim (not_inside_keeps c (tops l) f.0 f.1) [ inl u ↦ here (trans⊑ d f.0 c f.2 u) | inr v ↦ there (found f.0 v f.2) ]
