-- Laws of a round's answer: what it says is what the short way does next.
use mathlib.Core.Path.{◌≡◌, refl, sym, ap, subst, ◌∙◌}
use Prim.Native.Nat.{ℕ, ◌≤◌}
use mathlib.Core.Bool.{Bool, true, false, not}
use mathlib.Core.List.{List}
use mathlib.Core.Option.{Option, none, some}
use lib.ListN.{length}
use Rattle.model.specs.Cut.{Cut, ◌⊑◌, inside}
use Rattle.model.specs.Computation.{Computation, Consistent, count, clock}
use Rattle.model.specs.Structure.{Structure, row, raise}
use Rattle.model.specs.Basis.{Outcome, then_right}
use Rattle.lattice.proofs.Tests.{clash, false_iff}
use Rattle.lattice.proofs.Cuts.{refl⊑, trans⊑, inside_⊑, ⊑-inside}
use Rattle.lattice.proofs.Consistency.{same_cut}
use Rattle.lattice.proofs.Bases.{In, Good}
use Rattle.lattice.proofs.Shortcuts.{raise-row, raised, came, settle, after_right, after_left, unless_same, next_left}
use Rattle.slots.specs.Slots.{Small, Coded, Says}
use Rattle.numbering.proofs.Numbers.{coded_same, cells_same}
use Rattle.round.specs.Said.{reading, Came, Answers}
use Rattle.slots.specs.Pair.{Above, Both}
use Rattle.round.specs.declared.Round.{Round}
use Rattle.std.specs.Prelude as std
use Rattle.std.specs.Prelude.{Some, None}

-- A test that holds just for equal lists.
abbrev pub Tells : Bool → List ℕ → List ℕ → Type 0
Tells b c d = (b ≡ true → c ≡ d) × (c ≡ d → b ≡ true)

-- An answer says what equals what it says.
pub answers_same : (K : Computation) (T : Structure) (F G : (Cut → Outcome) → Outcome) (r : std.Option Round) → ((go : Cut → Outcome) → F go ≡ G go) → Answers K T G r → Answers K T F r
answers_same K T F G (Some r) e a = record { cut = a.cut; coded = a.coded; member = a.member; says = λ go. e go ∙ a.says go }
answers_same K T F G None e a = λ go. e go ∙ a go

-- A CUT RAISED BY BOTH HALVES

-- From x by m to y, each consistent and contained in the next.
module _ (K : Computation) (x m y : Cut) (p : Consistent K x) (q : Consistent K m) (r : Consistent K y) (xm : x ⊑ m) (my : m ⊑ y) (go : Cut → Outcome) where
  contained_is : (a b : Cut) → Consistent K a → Consistent K b → a ⊑ b → inside b a ≡ true → b ≡ a
  contained_is a b u v h e = same_cut K b a v u (inside_⊑ b a e) h

  xy : x ⊑ y
  xy = trans⊑ x m y xm my

  is-inside : (a b : Cut) → b ≡ a → inside b a ≡ true
  is-inside a b e = rw e (⊑-inside a a (refl⊑ a))

  not-inside : (a b : Cut) → Consistent K a → Consistent K b → a ⊑ b → (b ≡ a → ⊥) → inside b a ≡ false
  not-inside a b u v h f = (false_iff (inside b a)).1 (λ e. f (contained_is a b u v h e))

  told : (still settled : Bool) → (still ≡ true → y ≡ x) → (y ≡ x → still ≡ true) → (settled ≡ true → y ≡ m) → (y ≡ m → settled ≡ true)
      → after_right go x m (some y) ≡ reading go (not still) settled y
  unfolding after_right settle reading
  told true true a b c d = rw (is-inside m y (c refl), is-inside x y (a refl)) refl
  told false true a b c d = rw (is-inside m y (c refl), not-inside x y p r xy (λ e. clash (b e) refl)) refl
  told false false a b c d = rw (not-inside m y q r my (λ e. clash (d e) refl)) refl
  told true false a b c d =
      let e : y ≡ x = a refl in
      let f : m ≡ x = same_cut K m x q p (subst (λ z. m ⊑ z) e my) xm in
      clash (d (e ∙ sym f)) refl

-- THE RIGHT HALF

module _ (K : Computation) (T : Structure) (x : Cut) (o : Option Cut) where
  pub half_lost : then_right T o ≡ none → (go : Cut → Outcome) → after_left go T x o ≡ came none 1
  unfolding then_right after_left after_right
  half_lost e go = by o e
    where
      by : (o : Option Cut) → then_right T o ≡ none → after_left go T x o ≡ came none 1
      by none e = refl
      by (some m) e = rw e refl

  pub half_came : (cut middle last : List ℕ) → Small K → Good K T → Coded K x cut → Says K o middle → Above x o → (y : Cut) → then_right T o ≡ some y → Coded K y last → length last ≡ 8 → length cut ≡ 8
      → length middle ≡ 8 → (still settled : Bool) → Tells still last cut → Tells settled last middle
      → Came K T (λ go. after_left go T x o) (record { changed = not still; settled = settled; cut = last })
  unfolding then_right after_left
  half_came cut middle last s g h w a y e d l8 c8 m8 still settled t u = by o w a e
    where
      by : (o : Option Cut) → Says K o middle → Above x o → then_right T o ≡ some y → Came K T (λ go. after_left go T x o) (record { changed = not still; settled = settled; cut = last })
      by none w a e = cc
      by (some m) w a e =
          let k = raised K T g m y w.consistent e in
          record {
            cut = y;
            coded = d;
            member = k.0;
            says = λ go. ap (after_right go x m) e
                ∙ told K x m y h.consistent w.consistent d.consistent (a m refl) k.1 go still settled
                (λ z. coded_same K s y x last d (subst (λ c. Coded K x c) (sym (t.0 z)) h)) (λ z. t.1 (cells_same K s x last cut (subst (λ b. Coded K b last) z d) h l8 c8))
                (λ z. coded_same K s y m last d (subst (λ c. Coded K m c) (sym (u.0 z)) w)) (λ z. u.1 (cells_same K s m last middle (subst (λ b. Coded K b last) z d) w l8 m8));
          }

-- A LATER ROUND

module _ (K : Computation) (S T : Structure) (x : Cut) (left right cut : List ℕ) (b : Both K S T left right) (h : Coded K x cut) (v : In K T x) where
  pub left-above : Above x (raise S x)
  left-above m e = (raised K S b.good_left x m h.consistent e).1

  pub next_lost : raise S x ≡ none → (go : Cut → Outcome) → next_left go T x (raise S x) ≡ came none 1
  unfolding next_left after_right
  next_lost e go = rw e refl

  module _ (m : Cut) (e : raise S x ≡ some m) (middle : List ℕ) (w : Coded K m middle) where
    pub next_same : middle ≡ cut → Came K T (λ go. next_left go T x (raise S x)) (record { changed = false; settled = true; cut = middle })
    unfolding next_left unless_same reading
    next_same q =
        let p : m ≡ x = coded_same K b.small m x cut (subst (λ c. Coded K m c) q w) h in
        record { cut = x; coded = rw q h; member = v; says = λ go. rw (e, p, ⊑-inside x x (refl⊑ x)) refl }

    pub next_half : (middle ≡ cut → ⊥) → length middle ≡ 8 → length cut ≡ 8 → (go : Cut → Outcome) → next_left go T x (raise S x) ≡ after_left go T x (raise S x)
    unfolding next_left unless_same after_left
    next_half f m8 c8 go =
        let q : inside m x ≡ false =
        (false_iff (inside m x)).1 (λ i. f (cells_same K b.small x middle cut (subst (λ z. Coded K z middle) (same_cut K m x w.consistent h.consistent (inside_⊑ m x i) (left-above m e)) w) h m8 c8)) in
        rw (e, q) refl

-- THE FIRST ROUND

-- The row of an event is what its clock is raised to.
pub row-says : (K : Computation) (S T : Structure) (left right : List ℕ) → Both K S T left right → (j k : ℕ) → k ≤ count K j → (middle : List ℕ) → Says K (row S j k) middle → Says K (raise S (clock K j k)) middle
row-says K S T left right b j k h middle u = subst (λ o. Says K o middle) (sym (raise-row K S b.good_left b.small.valid j k h)) u
