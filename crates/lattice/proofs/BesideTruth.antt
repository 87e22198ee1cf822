-- A formula of the first's stations is true beside the second exactly where it is true in the first, whatever the second part; the same
-- of false. So the maximal cuts are those of the first, with all events of the second.
use mathlib.Core.Path.{◌≡◌, refl, sym, ap, ap₂, subst, ◌∙◌}
use mathlib.Core.Logic.Iff
use mathlib.Core.Logic.{◌↔◌}
use Prim.Native.Nat.{ℕ, ◌+◌, ◌<◌}
use native.Mathlib.Omega.{arith}
use mathlib.Core.Bool.{Bool, true, false, not as negated, ◌&&◌}
use mathlib.Core.List.{List, [], ◌∷◌, ◌++◌, map}
use lib.ListN.{length, take, drop, take-append-drop, replicate-append-replicate}
use lib.Seq.{take_at, drop_at}
use lib.Dec.{ltb}
use borrow.Author.Tests.{ltb-true, ne_eqb}
use Rattle.model.specs.Lists.{between}
use Rattle.model.specs.Cut.{Cut, ◌!◌, ◌⊑◌, empty}
use Rattle.model.specs.Computation.{Message, Computation, Consistent, stations, full, report}
use Rattle.model.specs.Beside.{numbered_on, beside}
use Rattle.model.specs.Atom.{Atom, sound_atom, seen, test, is_inside, is_outside, sent_by, on_way, no_message, atom_is_true, atom_is_false}
use Rattle.model.specs.Atom.Atom.{in_range, clear}
use Rattle.model.specs.Formula.{Formula, sound}
use Rattle.model.specs.Formula.Formula.{atom, not, and, or, possibly, always}
use Rattle.model.specs.Truth.{True, False, Possibly}
use Rattle.model.specs.Promise.{Maximal}
use Rattle.lattice.proofs.Valid.{Valid}
use Rattle.lattice.proofs.Tests.{and-true}
use Rattle.lattice.proofs.Cuts.{refl⊑}
use Rattle.lattice.proofs.Consistency.{⊑-full, empty-consistent, full-consistent, same_cut}
use Rattle.lattice.proofs.Theorem.{either_iff}
use Rattle.lattice.proofs.Beside.{left_at, contained_parts, stations-beside, report-first, both-consistent, parts-consistent, consistent-parts}

-- MESSAGES

none-append : (p : Message → Bool) (l m : List Message) → no_message p (l ++ m) ≡ no_message p l && no_message p m
unfolding no_message
none-append p [] m = refl
none-append p (x ∷ l) m = by (negated (p x)) (none-append p l m)
  where
    by : (b : Bool) → no_message p (l ++ m) ≡ no_message p l && no_message p m → b && no_message p (l ++ m) ≡ (b && no_message p l) && no_message p m
    by true h = h
    by false h = refl

none_same : (p q : Message → Bool) → ((x : Message) → p x ≡ q x) → (l : List Message) → no_message p l ≡ no_message q l
unfolding no_message
none_same p q h [] = refl
none_same p q h (x ∷ l) = rw (h x, none_same p q h l)

-- Those of the second are from stations behind those of the first.
none-second : (n i j : ℕ) (c : Cut) → i < n → (l : List Message) → no_message (on_way i j c) (map (numbered_on n) l) ≡ true
unfolding no_message on_way sent_by
none-second n i j c h [] = refl
none-second n i j c h (x ∷ l) = rw (ne_eqb (n + x.sender) i (λ e. omega arith), none-second n i j c h l) refl

and_right : (b : Bool) → b && true ≡ b
and_right true = refl
and_right false = refl

module _ (K L : Computation) (ok : Valid K) where
  -- ATOMS

  module _ (c d : Cut) (e : length c ≡ stations K) where
    clear_first : (i j : ℕ) → i < stations K → j < stations K → no_message (on_way i j (c ++ d)) (beside K L).messages ≡ no_message (on_way i j c) K.messages
    unfolding beside on_way sent_by
    clear_first i j h g =
        none-append (on_way i j (c ++ d)) K.messages (map (numbered_on (stations K)) L.messages)
        ∙ ap₂ ◌&&◌ (none_same (on_way i j (c ++ d)) (on_way i j c) (λ x. one x) K.messages) (none-second (stations K) i j (c ++ d) h L.messages)
        ∙ and_right (no_message (on_way i j c) K.messages)
      where
        one : (x : Message) → on_way i j (c ++ d) x ≡ on_way i j c x
        one x = ap₂ (λ (a b : ℕ). sent_by i j a x && negated (between 1 b x.received)) (left_at c d i (omega arith)) (left_at c d j (omega arith))

    seen_first : (s : ℕ) → s < stations K → report (beside K L) s ((c ++ d) ! s) ≡ report K s (c ! s)
    seen_first s h = ap (report (beside K L) s) (left_at c d s (omega arith)) ∙ report-first K L ok.sizes s (c ! s) h

    atom-true : (a : Atom) → sound_atom (stations K) a ≡ true → atom_is_true (beside K L) a (c ++ d) ≡ atom_is_true K a c
    unfolding sound_atom atom_is_true
    atom-true (in_range a s lo hi) h = ap (λ r. is_inside (test a lo hi (seen a r))) (seen_first s (ltb-true s (stations K) h))
    atom-true (clear i j) h =
        let t = (and-true (ltb i (stations K)) (ltb j (stations K))).0 h in
        clear_first i j (ltb-true i (stations K) t.0) (ltb-true j (stations K) t.1)

    atom-false : (a : Atom) → sound_atom (stations K) a ≡ true → atom_is_false (beside K L) a (c ++ d) ≡ atom_is_false K a c
    unfolding sound_atom atom_is_false
    atom-false (in_range a s lo hi) h = ap (λ r. is_outside (test a lo hi (seen a r))) (seen_first s (ltb-true s (stations K) h))
    atom-false (clear i j) h = ap negated (atom-true (clear i j) h)

  -- FORMULAS

  -- What is possible goes by the parts.
  possibly-parts : (P Q : Cut → Type 0) → ((c d : Cut) → Consistent K c → Consistent L d → P (c ++ d) ↔ Q c) → (c d : Cut) → Consistent K c → Consistent L d → Possibly (beside K L) P (c ++ d) ↔ Possibly K Q c
  possibly-parts P Q h c d p q = (to, from)
    where
      n : ℕ
      n = stations K

      to : Possibly (beside K L) P (c ++ d) → Possibly K Q c
      to (e, r, g, t) =
          let s = (consistent-parts K L ok e).0 r in
          let whole = sym (take-append-drop n e) in
          let inside = (contained_parts c (take n e) d (drop n e) (p.size ∙ sym s.0.size)).0 (subst (λ v. c ++ d ⊑ v) whole g) in
          (take n e, s.0, inside.0, (h (take n e) (drop n e) s.0 s.1).0 (subst P whole t))

      from : Possibly K Q c → Possibly (beside K L) P (c ++ d)
      from (e, r, g, t) = (e ++ d, both-consistent K L ok e d r q, (contained_parts c e d d (p.size ∙ sym r.size)).1 (g, refl⊑ d), (h e d r q).1 t)

  same : (f : Formula) → sound (stations K) f ≡ true → (c d : Cut) → Consistent K c → Consistent L d → (True (beside K L) f (c ++ d) ↔ True K f c) × (False (beside K L) f (c ++ d) ↔ False K f c)
  unfolding sound
  same (atom a) h c d p q = (rw (atom-true c d p.size a h) (λ t. t, λ t. t), rw (atom-false c d p.size a h) (λ t. t, λ t. t))
  same (not f) h c d p q = let s = same f h c d p q in (s.1, s.0)
  same (and f g) h c d p q =
      let t = (and-true (sound (stations K) f) (sound (stations K) g)).0 h in
      let s = same f t.0 c d p q in
      let u = same g t.1 c d p q in
      (Iff.and s.0 u.0, either_iff s.1 u.1)
  same (or f g) h c d p q =
      let t = (and-true (sound (stations K) f) (sound (stations K) g)).0 h in
      let s = same f t.0 c d p q in
      let u = same g t.1 c d p q in
      (either_iff s.0 u.0, Iff.and s.1 u.1)
  same (possibly f) h c d p q =
      let s = possibly-parts (True (beside K L) f) (True K f) (λ c d p q. (same f h c d p q).0) c d p q in
      (s, Iff.not s)
  same (always f) h c d p q =
      let s = possibly-parts (False (beside K L) f) (False K f) (λ c d p q. (same f h c d p q).1) c d p q in
      (Iff.not s, s)

  module _ (f : Formula) (named : sound (stations K) f ≡ true) where
    pub true-beside : (c d : Cut) → Consistent K c → Consistent L d → True (beside K L) f (c ++ d) ↔ True K f c
    true-beside c d p q = (same f named c d p q).0

    pub false-beside : (c d : Cut) → Consistent K c → Consistent L d → False (beside K L) f (c ++ d) ↔ False K f c
    false-beside c d p q = (same f named c d p q).1

  -- MAXIMAL CUTS

  module _ (ok' : Valid L) (f : Formula) (named : sound (stations K) f ≡ true) where
    -- The start is the same.
    pub start-beside : True (beside K L) f (empty (stations (beside K L))) ↔ True K f (empty (stations K))
    start-beside = rw (stations-beside K L, ← replicate-append-replicate {A = ℕ} (stations K) (stations L) 0) (true-beside f named (empty (stations K)) (empty (stations L)) (empty-consistent K ok) (empty-consistent L ok'))

    -- A maximal cut of the first, with all events of the second.
    pub maximal-beside : (c : Cut) → Maximal K f c → Maximal (beside K L) f (c ++ full L)
    maximal-beside c x = record {
      consistent = both-consistent K L ok c (full L) x.consistent (full-consistent L ok');
      is_true = (true-beside f named c (full L) x.consistent (full-consistent L ok')).1 x.is_true;
      alone = alone;
    }
      where
        alone : (e : Cut) → Consistent (beside K L) e → True (beside K L) f e → c ++ full L ⊑ e → e ≡ c ++ full L
        alone e p t h =
            let n = stations K in
            let s = (consistent-parts K L ok e).0 p in
            let whole = sym (take-append-drop n e) in
            let inside = (contained_parts c (take n e) (full L) (drop n e) (x.consistent.size ∙ sym s.0.size)).0 (subst (λ v. c ++ full L ⊑ v) whole h) in
            let t' = (true-beside f named (take n e) (drop n e) s.0 s.1).0 (subst (λ v. True (beside K L) f v) whole t) in
            whole ∙ ap₂ ◌++◌ (x.alone (take n e) s.0 t' inside.0) (same_cut L (drop n e) (full L) s.1 (full-consistent L ok') (⊑-full L (drop n e) s.1) inside.1)

    -- Each is such a one.
    pub maximal-first : (c d : Cut) → length c ≡ stations K → Maximal (beside K L) f (c ++ d) → Maximal K f c × (d ≡ full L)
    maximal-first c d e x = (record { consistent = s.0; is_true = t; alone = alone }, last)
      where
        s : Consistent K c × Consistent L d
        s = parts-consistent K L ok c d e x.consistent

        t : True K f c
        t = (true-beside f named c d s.0 s.1).0 x.is_true

        alone : (v : Cut) → Consistent K v → True K f v → c ⊑ v → v ≡ c
        alone v p u h =
            let r = x.alone (v ++ d) (both-consistent K L ok v d p s.1) ((true-beside f named v d p s.1).1 u) ((contained_parts c v d d (e ∙ sym p.size)).1 (h, refl⊑ d)) in
            sym (take_at v d (stations K) p.size) ∙ ap (take (stations K)) r ∙ take_at c d (stations K) e

        last : d ≡ full L
        last =
            let l = full-consistent L ok' in
            let r = x.alone (c ++ full L) (both-consistent K L ok c (full L) s.0 l) ((true-beside f named c (full L) s.0 l).1 t) ((contained_parts c c d (full L) refl).1 (refl⊑ c, ⊑-full L d s.1)) in
            sym (drop_at c d (stations K) e) ∙ ap (drop (stations K)) (sym r) ∙ drop_at c (full L) (stations K) e

    pub maximal-parts : (c : Cut) → Maximal (beside K L) f c ↔ (Maximal K f (take (stations K) c) × (drop (stations K) c ≡ full L))
    maximal-parts c = (
      λ x. maximal-first (take n c) (drop n c) ((consistent-parts K L ok c).0 x.consistent).0.size (subst (Maximal (beside K L) f) (sym (take-append-drop n c)) x),
      λ (x, e). subst (Maximal (beside K L) f) (ap (λ (d : Cut). take n c ++ d) (sym e) ∙ take-append-drop n c) (maximal-beside (take n c) x),
    )
      where
        n : ℕ
        n = stations K
