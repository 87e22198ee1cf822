-- The answer beside a second computation: the cuts listed in the first, each with all events of the second, and the same start.
use mathlib.Core.Path.{◌≡◌, refl, sym, ap, ap₂, subst, ◌∙◌}
use mathlib.Core.Logic.{◌↔◌}
use Prim.Native.Nat.{ℕ}
use native.Mathlib.Omega.{arith}
use mathlib.Core.Bool.{Bool, true, false}
use mathlib.Core.List.{List, [], ◌∷◌, ◌++◌, map}
use lib.ListN.{length, take, take-append-drop}
use Rattle.model.specs.Lists.{Member}
use Rattle.model.specs.Lists.Some.{here, there}
use Rattle.model.specs.Cut.{Cut, empty}
use Rattle.model.specs.Computation.{Computation, stations, full}
use Rattle.model.specs.Beside.{beside}
use Rattle.model.specs.Formula.{Formula, sound}
use Rattle.model.specs.Rules.{as_true, workable}
use Rattle.model.specs.Rounds.{rounds}
use Rattle.model.specs.Answer.{precedes, answer}
use Rattle.model.specs.Truth.{True}
use Rattle.model.specs.Promise.{Maximal, Ascending, Answered}
use Rattle.lattice.proofs.Valid.{Valid}
use Rattle.lattice.proofs.Tests.{clash, same_test}
use Rattle.lattice.proofs.Lists.{nothing, find, found, to_map, from_map}
use Rattle.lattice.proofs.Consistency.{empty-consistent}
use Rattle.lattice.proofs.Order.{precedes_trans, precedes_self}
use Rattle.lattice.proofs.Theorem.{tested}
use Rattle.lattice.proofs.Maximal.{maximal, listed_iff, listed_ascending}
use Rattle.lattice.proofs.Beside.{beside-valid}
use Rattle.lattice.proofs.BesideTruth.{start-beside, maximal-beside, maximal-parts}

-- ASCENDING LISTS

-- Two that have the same cuts are the same.
pub ascending_same : (l m : List Cut) → Ascending l → Ascending m → ((c : Cut) → Member c l ↔ Member c m) → l ≡ m
ascending_same [] [] a b h = refl
ascending_same [] (y ∷ m) a b h = nothing ((h y).1 (here refl))
ascending_same (x ∷ l) [] a b h = nothing ((h x).0 (here refl))
ascending_same (x ∷ l) (y ∷ m) a b h = ap₂ (λ (c : Cut) (k : List Cut). c ∷ k) first (ascending_same l m a.1 b.1 (λ c. (rest c, back c)))
  where
    meets : Member x (y ∷ m) → Member y (x ∷ l) → x ≡ y
    meets (here e) q = e
    meets (there p) (here e) = sym e
    meets (there p) (there q) = clash (precedes_trans x y x (a.0 y q) (b.0 x p)) (precedes_self x)

    first : x ≡ y
    first = meets ((h x).0 (here refl)) ((h y).1 (here refl))

    rest : (c : Cut) → Member c l → Member c m
    rest c p = go ((h c).0 (there p))
      where
        go : Member c (y ∷ m) → Member c m
        go (here e) = clash (a.0 c p) (subst (λ z. precedes x z ≡ false) (first ∙ sym e) (precedes_self x))
        go (there q) = q

    back : (c : Cut) → Member c m → Member c l
    back c p = go ((h c).1 (there p))
      where
        go : Member c (x ∷ l) → Member c l
        go (here e) = clash (b.0 c p) (subst (λ z. precedes y z ≡ false) (sym first ∙ sym e) (precedes_self y))
        go (there q) = q

-- The same counts behind each leave the order.
precedes-before : (c d e : Cut) → length c ≡ length d → precedes (c ++ e) (d ++ e) ≡ precedes c d
unfolding precedes
precedes-before [] [] e h = precedes_self e
precedes-before [] (y ∷ d) e h = absurd (omega arith)
precedes-before (x ∷ c) [] e h = absurd (omega arith)
precedes-before (x ∷ c) (y ∷ d) e h = rw (precedes-before c d e (omega arith)) refl

ascending_before : (n : ℕ) (e : Cut) (l : List Cut) → ((c : Cut) → Member c l → length c ≡ n) → Ascending l → Ascending (map (λ c. c ++ e) l)
ascending_before n e [] s a = tt
ascending_before n e (x ∷ l) s a = (one, ascending_before n e l (λ c p. s c (there p)) a.1)
  where
    one : (d : Cut) → Member d (map (λ c. c ++ e) l) → precedes (x ++ e) d ≡ true
    one d p =
        let r = find (from_map (λ c. c ++ e) l p) in
        ap (precedes (x ++ e)) r.2 ∙ precedes-before x r.0 e (s x (here refl) ∙ sym (s r.0 (there r.1))) ∙ a.0 r.0 r.1

-- THE ANSWER

module _ (K L : Computation) (ok : Valid K) (ok' : Valid L) (f : Formula) (named : sound (stations K) f ≡ true) where
  -- What an answer lists, of the first alone (l) and beside the second (m).
  pub lists-beside :
      (l m : List Cut)
      → ((c : Cut) → Member c l ↔ Maximal K f c)
      → ((c : Cut) → Member c m ↔ Maximal (beside K L) f c)
      → Ascending l
      → Ascending m
      → m ≡ map (λ c. c ++ full L) l
  lists-beside l m h g a b = ascending_same m (map (λ c. c ++ full L) l) b (ascending_before (stations K) (full L) l (λ c p. ((h c).0 p).consistent.size) a) (λ c. (to c, from c))
    where
      n : ℕ
      n = stations K

      to : (c : Cut) → Member c m → Member c (map (λ c. c ++ full L) l)
      to c p =
          let x = (maximal-parts K L ok ok' f named c).0 ((g c).0 p) in
          to_map (λ c. c ++ full L) (found (take n c) ((h (take n c)).1 x.0) (sym (take-append-drop n c) ∙ ap (λ (d : Cut). take n c ++ d) x.1))

      from : (c : Cut) → Member c (map (λ c. c ++ full L) l) → Member c m
      from c p =
          let r = find (from_map (λ c. c ++ full L) l p) in
          (g c).1 (subst (Maximal (beside K L) f) (sym r.2) (maximal-beside K L ok ok' f named r.0 ((h r.0).0 r.1)))

  pub starts-beside : (a b : Bool) → (a ≡ true) ↔ True K f (empty (stations K)) → (b ≡ true) ↔ True (beside K L) f (empty (stations (beside K L))) → b ≡ a
  starts-beside a b h g = let s = start-beside K L ok ok' f named in same_test b a (λ e. h.1 (s.0 (g.0 e))) (λ e. g.1 (s.1 (h.0 e)))

  -- Of the lines: each cut of the first's answer with all events of the second behind it, and the same start.
  pub answered-beside : {one two : List ℕ} (a : Answered K f one) (b : Answered (beside K L) f two) → (b.start ≡ a.start) × (b.cuts ≡ map (λ c. c ++ full L) a.cuts)
  answered-beside a b = (starts-beside a.start b.start a.first b.first, lists-beside a.cuts b.cuts a.listed b.listed a.ordered b.ordered)

  -- Of the answer that is defined.
  pub answer-beside : workable (as_true f) ≡ true → answer (beside K L) f ≡ record { start = (answer K f).start; cuts = map (λ c. c ++ full L) (answer K f).cuts; rounds = rounds (beside K L) (as_true f) }
  unfolding answer
  answer-beside w =
      let both = beside-valid K L ok ok' in
      ap₂ (λ (s : Bool) (l : List Cut). record { start = s; cuts = l; rounds = rounds (beside K L) (as_true f) })
      (starts-beside _ _ (tested K ok f w (empty (stations K)) (empty-consistent K ok)) (tested (beside K L) both f w (empty (stations (beside K L))) (empty-consistent (beside K L) both)))
      (lists-beside (maximal K f) (maximal (beside K L) f) (listed_iff K ok f w) (listed_iff (beside K L) both f w) (listed_ascending K f) (listed_ascending (beside K L) f))
