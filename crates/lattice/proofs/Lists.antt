-- Some and all of a list.
use mathlib.Core.Path.{◌≡◌, refl, subst}
use mathlib.Core.Logic.{◌⊎◌, inl, inr}
use Prim.Native.Nat.{ℕ, zero, suc, ◌<◌}
use native.Mathlib.Omega.{arith}
use mathlib.Core.List.{List, [], ◌∷◌, ◌++◌, map}
use mathlib.Core.Option.{some}
use lib.ListN.{length, get_or, get_elem?, drop}
use Rattle.model.specs.Lists.{Some, Member}
use Rattle.model.specs.Lists.Some.{here, there}

-- All of the list have the property G.
pub data All {A : Type 0} (G : A → Type 0) : List A → Type 0 where
  done : All G []
  also : {x : A} {l : List A} → G x → All G l → All G (x ∷ l)

-- Nothing is in the empty list.
pub nothing : {A : Type 0} {G : A → Type 0} {B : Type 0} → Some G [] → B
nothing = elim [ ]

-- Two lists, one after the other.
pub some-split : {A : Type 0} {G : A → Type 0} (l r : List A) → Some G (l ++ r) → Some G l ⊎ Some G r
some-split [] r h = inr h
some-split (x ∷ l) r (here p) = inl (here p)
some-split (x ∷ l) r (there h) = elim (some-split l r h) [ inl u ↦ inl (there u) | inr v ↦ inr v ]

pub some_left : {A : Type 0} {G : A → Type 0} {l : List A} (r : List A) → Some G l → Some G (l ++ r)
some_left r (here p) = here p
some_left r (there h) = there (some_left r h)

pub some_right : {A : Type 0} {G : A → Type 0} (l : List A) {r : List A} → Some G r → Some G (l ++ r)
some_right [] h = h
some_right (x ∷ l) h = there (some_right l h)

-- What follows for one that is of a kind H follows for some of a list whose all are.
pub some_all : {A : Type 0} {G G' H : A → Type 0} → ((x : A) → H x → G x → G' x) → {l : List A} → All H l → Some G l → Some G' l
some_all f done x3 = elim x3 [ ]
some_all f (also {x = x} a b) (here p) = here (f x a p)
some_all f (also a b) (there q) = there (some_all f b q)

pub some-map : {A : Type 0} {G G' : A → Type 0} → ((x : A) → G x → G' x) → {l : List A} → Some G l → Some G' l
some-map f (here {x = x} p) = here (f x p)
some-map f (there q) = there (some-map f q)

-- A list with f at each.
pub to_map : {A B : Type 0} {G : B → Type 0} (f : A → B) {l : List A} → Some (λ x. G (f x)) l → Some G (map f l)
to_map f (here p) = here p
to_map f (there q) = there (to_map f q)

pub from_map : {A B : Type 0} {G : B → Type 0} (f : A → B) (l : List A) → Some G (map f l) → Some (λ x. G (f x)) l
from_map f [] x' = elim x' [ ]
from_map f (x ∷ l) (here p) = here p
from_map f (x ∷ l) (there q) = there (from_map f l q)

-- One of the list has it.
pub some_one : {A B : Type 0} {G H : A → Type 0} → ((x : A) → H x → G x → B) → {l : List A} → All H l → Some G l → B
some_one f done x3 = elim x3 [ ]
some_one f (also {x = x} a b) (here p) = f x a p
some_one f (also a b) (there q) = some_one f b q

-- Two lists, one after the other.
pub all_append : {A : Type 0} {G : A → Type 0} {l r : List A} → All G l → All G r → All G (l ++ r)
all_append done b = b
all_append (also a l) b = also a (all_append l b)

pub all_left : {A : Type 0} {G : A → Type 0} (l r : List A) → All G (l ++ r) → All G l
all_left [] r a = done
all_left (x ∷ l) r (also p a) = also p (all_left l r a)

pub all_head : {A : Type 0} {G : A → Type 0} {x : A} {l : List A} → All G (x ∷ l) → G x
all_head (also p a) = p

pub all_tail : {A : Type 0} {G : A → Type 0} {x : A} {l : List A} → All G (x ∷ l) → All G l
all_tail (also p a) = a

pub all_map : {A : Type 0} {G G' : A → Type 0} → ((x : A) → G x → G' x) → {l : List A} → All G l → All G' l
all_map f done = done
all_map f (also {x = x} p a) = also (f x p) (all_map f a)

-- Two properties of all.
pub all_both : {A : Type 0} {G H : A → Type 0} {l : List A} → All G l → All H l → All (λ x. G x × H x) l
all_both done done = done
all_both (also p a) (also q b) = also (p, q) (all_both a b)

pub all_to_map : {A B : Type 0} {G : B → Type 0} (f : A → B) {l : List A} → All (λ x. G (f x)) l → All G (map f l)
all_to_map f done = done
all_to_map f (also p a) = also p (all_to_map f a)

-- A member with a property, from some with it.
pub find : {A : Type 0} {G : A → Type 0} {l : List A} → Some G l → (d : A) × Member d l × G d
find (here {x = x} p) = (x, here refl, p)
find (there h) = let r = find h in (r.0, there r.1, r.2)

-- And back.
pub found : {A : Type 0} {G : A → Type 0} {l : List A} (d : A) → Member d l → G d → Some G l
found {G = G} d m g = some-map (λ x e. subst G e g) m

-- All of the list have what each member has.
pub all_members : {A : Type 0} {G : A → Type 0} (l : List A) → ((x : A) → Member x l → G x) → All G l
all_members [] h = done
all_members (x ∷ l) h = also (h x (here refl)) (all_members l (λ y m. h y (there m)))

-- The one at i.
pub all_at : {A : Type 0} {G : A → Type 0} {l : List A} → All G l → (d : A) (i : ℕ) → i < length l → G (get_or l i d)
all_at done d i h = absurd (omega arith)
all_at (also p a) d zero h = p
all_at (also p a) d (suc i) h = all_at a d i (omega arith)

-- The one that stands at a place.
pub all_elem : {A : Type 0} {G : A → Type 0} (l : List A) → All G l → (i : ℕ) (x : A) → get_elem? l i ≡ some x → G x
all_elem [] a i x e = let z : ◌≡◌ {A = ℕ} 0 1 = cc in absurd (omega arith)
all_elem {G = G} (y ∷ l) (also p a) zero x e = let q : y ≡ x = cc in subst G q p
all_elem (y ∷ l) (also p a) (suc i) x e = all_elem l a i x e

-- And back.
pub all_elems : {A : Type 0} {G : A → Type 0} (l : List A) → ((i : ℕ) (x : A) → get_elem? l i ≡ some x → G x) → All G l
all_elems [] f = done
all_elems (x ∷ l) f = also (f 0 x refl) (all_elems l (λ i. f (suc i)))

-- There is one at each place within the list, and those behind it.
pub elem_there : {A : Type 0} (l : List A) (i : ℕ) → i < length l → (x : A) × (get_elem? l i ≡ some x) × (drop i l ≡ x ∷ drop (suc i) l)
elem_there [] i h = absurd (omega arith)
elem_there (x ∷ l) zero h = (x, refl, refl)
elem_there (x ∷ l) (suc i) h = elem_there l i (omega arith)

-- What stands at a place stands within the list.
pub some_below : {A : Type 0} (l : List A) (i : ℕ) (x : A) → get_elem? l i ≡ some x → i < length l
some_below [] i x e = let z : ◌≡◌ {A = ℕ} 0 1 = cc in absurd (omega arith)
some_below (y ∷ l) zero x e = omega arith
some_below (y ∷ l) (suc i) x e = omega (arith, some_below l i x e)
