-- One pair: the set is the intersection, the bars are those of both; it is kept if the set is not empty and its greatest cut is contained in no bar.
use mathlib.Core.Path.{◌≡◌, refl, sym, ap, subst, ◌∙◌}
use mir.Val.{bool_byte}
use Prim.Native.Nat.{ℕ, ◌+◌, ◌*◌, ◌≤◌, ◌<◌}
use native.Mathlib.Omega.{arith}
use native.Mathlib.Nat.{not-suc-le-zero}
use mathlib.Core.List.{List, [], ◌∷◌}
use mathlib.Core.Bool.{Bool, true, false, cond, not}
use mathlib.Core.Option.{some}
use lib.ListN.{get_or, take, drop}
use lib.Seq.{get_or-take, get_or-drop}
use Rattle.model.specs.Cut.{empty, inside_any}
use Rattle.model.specs.Computation.{Computation, stations, full}
use Rattle.model.specs.Structure.{Structure, greatest, keep, build, build_on}
use Rattle.model.specs.Basis.{start, intersect}
use Rattle.model.specs.Rounds.{rounds_of_pair}
use Rattle.lattice.specs.Ascending.{RowsAscend}
use Rattle.lattice.proofs.Intersection.{reached_ascend}
use Rattle.structure.specs.declared.Shape.{Shape}
use Rattle.structure.specs.Layout.{decoded, structure_at, placed, standing, bars_at}
use Rattle.structure.proofs.Rows.{decoded-none, decoded-some}
use Rattle.bars.specs.Post.{BarsJoined}
use Rattle.pair.specs.declared.Pair.{Pair}
use Rattle.pair.specs.Post.{structure_of, standing_from, Put, OnePair, IntersectedAt}

-- The set stands in w₁, the bars in b₁.
module _ {x : Shape} {p : Pair} {left first w w₁ b b₁ : List ℕ} {rounds : ℕ} (inter : IntersectedAt x p left first w w₁ rounds)
    (bars : BarsJoined x.n (p.left * (16 * x.n)) (p.right * (16 * x.n)) (p.to * (16 * x.n)) b b₁) where
  abbrev place : ℕ
  place = p.to * ((x.e + 1) * x.n)

  abbrev S : Computation → Structure
  S K = structure_of x.n x.e K w b p.left

  abbrev T : Computation → Structure
  T K = structure_of x.n x.e K w b p.right

  abbrev new : Computation → Structure
  new K = structure_of x.n x.e K w₁ b₁ p.to

  abbrev Known : Computation → Type 0
  Known K = OnePair x p left first w b K

  abbrev PutOne : ℕ → Type 0
  PutOne k = Put x.n x.e p.to k Known w w₁ b b₁ (λ K. intersect K (S K) (T K)) (λ K. rounds_of_pair K (S K) (T K)) rounds

  first-is : get_or (take x.n (drop place w₁)) 0 0 ≡ get_or w₁ place 0
  first-is = get_or-take x.n (drop place w₁) 0 0 x.some_station ∙ get_or-drop place w₁ 0 0 ∙ ap (λ (y : ℕ). get_or w₁ y 0) (let q : place + 0 ≡ place = omega arith in q)

  module _ (K : Computation) (h : Known K) where
    least-is : (start K (S K) (T K) (empty (stations K))).reached ≡ decoded (take x.n (drop place w₁))
    least-is = ap (λ (y : ℕ). (start K (S K) (T K) (empty y)).reached) h.begun.stationed ∙ sym (inter.is b K h).least

    one_none : get_or w₁ place 0 ≡ 255 → intersect K (S K) (T K) ≡ []
    unfolding intersect build build_on
    one_none f = rw (least-is, decoded-none (take x.n (drop place w₁)) (first-is ∙ f))

    module _ (f : get_or w₁ place 0 ≡ 255 → ⊥) where
      least-some : (start K (S K) (T K) (empty (stations K))).reached ≡ some (take x.n (drop place w₁))
      least-some = least-is ∙ decoded-some (take x.n (drop place w₁)) (λ g. f (sym first-is ∙ g))

      one-some : intersect K (S K) (T K) ≡ keep (new K)
      unfolding intersect build build_on
      one-some = rw (least-some, bars.bars, (inter.is b K h).rows)

      -- Its rows ascend, so the test is the one that it asks for.
      ascends : RowsAscend (full K) (new K)
      ascends =
          rw (inter.is b K h).rows
          (reached_ascend K (S K) (T K) h.good_left h.good_right h.begun.small.valid (bars_at x.n 16 (drop (p.to * (16 * x.n)) b₁)) (take x.n (drop place w₁)) least-some)

  module _ (k : ℕ) (stands : (K : Computation) → Known K → standing_from x.n x.e K w₁ b₁ p.to k ≡ intersect K (S K) (T K))
      (there : 0 < k → get_or w₁ place 0 ≡ 255 → ⊥) (few : k ≤ 1) where
    put_one : PutOne k
    put_one = record {
      stands = stands;
      summed = λ K h. (inter.is b K h).rounds;
      cells_kept = inter.front;
      bars_kept = bars.front;
      least = λ t h f. there (omega arith) (ap (λ (y : ℕ). get_or w₁ (y * ((x.e + 1) * x.n)) 0) (let q : p.to ≡ p.to + t = omega arith in q) ∙ f);
    }

  pub one-empty : get_or w₁ place 0 ≡ 255 → PutOne 0
  unfolding standing
  one-empty f = put_one 0 (λ K h. sym (one_none K h f)) (λ h. absurd (not-suc-le-zero h)) (omega arith)

  module _ (f : get_or w₁ place 0 ≡ 255 → ⊥) (t : Bool)
      (test : (d : List ℕ) → RowsAscend (take x.n x.counts) (placed x.n x.counts w₁ place d) → t ≡ inside_any (greatest (placed x.n x.counts w₁ place d)) (bars_at x.n 16 (drop (p.to * (16 * x.n)) b₁))) where
    keep-is : (K : Computation) → Known K → intersect K (S K) (T K) ≡ cond t [] (new K ∷ [])
    unfolding keep
    keep-is K h =
        let d = drop (p.to * (16 * x.n)) b₁ in
        let said = subst (λ (l : List ℕ). RowsAscend l (structure_at x.n l (drop place w₁) d) → t ≡ inside_any (greatest (structure_at x.n l (drop place w₁) d)) (bars_at x.n 16 d)) h.begun.counts_are (test d) in
        one-some K h f ∙ ap (λ (y : Bool). cond y [] (new K ∷ [])) (sym (said (ascends K h f)))

    pub one-tested : (k : ℕ) → k ≡ bool_byte (not t) → PutOne k
    unfolding standing
    one-tested k e = go t refl
      where
        is : (u : Bool) → t ≡ u → (K : Computation) → Known K → cond u [] (new K ∷ []) ≡ intersect K (S K) (T K)
        is u g K h = sym (keep-is K h ∙ ap (λ (c : Bool). cond c [] (new K ∷ [])) g)

        go : (u : Bool) → t ≡ u → PutOne k
        go true g = rw (e, g) (put_one 0 (is true g) (λ h. absurd (not-suc-le-zero h)) (omega arith))
        go false g = rw (e, g) (put_one 1 (is false g) (λ h. f) (omega arith))
