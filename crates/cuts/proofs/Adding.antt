-- Laws of adding a cut to cuts that stand one after another: containment in one, those that go, the place of the new one.
use mathlib.Core.Path.{◌≡◌, refl, sym, ap, ap₂, ◌∙◌}
use Prim.Native.Nat.{ℕ, ◌+◌, ◌*◌, ◌-◌, ◌≤◌, ◌<◌}
use native.Mathlib.Nat.{add-mul, mul-le-mul_right}
use native.Mathlib.Omega.{arith}
use mathlib.Core.Bool.{Bool, true, false, not, cond}
use mathlib.Core.List.{List, [], ◌∷◌, ◌++◌}
use lib.ListN.{length, take, drop, length-drop}
use lib.Seq.{drop-drop, append_snoc, paste}
use borrow.Author.Tests.{not-true, not-false}
use Rattle.model.specs.Cut.{Cut, inside, inside_any}
use Rattle.model.specs.Answer.{not_inside, precedes, insert}
use Rattle.structure.specs.Layout.{cuts_at}
use Rattle.cells.proofs.Parts.{paste_behind}
use Rattle.structure.proofs.Listed.{cuts-more}
use Rattle.cuts.proofs.Cuts.{cuts_all, cuts_from, cuts-none, cuts-put}

not_inside-snoc : (c d : Cut) (l : List Cut) → not_inside c (l ++ (d ∷ [])) ≡ cond (inside d c) (not_inside c l) (not_inside c l ++ (d ∷ []))
unfolding not_inside
not_inside-snoc c d [] = refl
not_inside-snoc c d (x ∷ l) = go (inside x c) (inside d c) (not_inside-snoc c d l)
  where
    go : (a b : Bool) → not_inside c (l ++ (d ∷ [])) ≡ cond b (not_inside c l) (not_inside c l ++ (d ∷ []))
        → cond a (not_inside c (l ++ (d ∷ []))) (x ∷ not_inside c (l ++ (d ∷ []))) ≡ cond b (cond a (not_inside c l) (x ∷ not_inside c l)) (cond a (not_inside c l) (x ∷ not_inside c l) ++ (d ∷ []))
    go true b i = i
    go false true i = ap (λ (t : List Cut). x ∷ t) i
    go false false i = ap (λ (t : List Cut). x ∷ t) i

-- Containment in one of the cuts from the i-th on.
module _ (c : Cut) (l : List ℕ) (n i k : ℕ) {b : Bool} where
  pub one_found : i < k → b ≡ inside c (take n (drop (i * n) l)) → b ≡ true → inside_any c (cuts_at n (k - i) (drop (i * n) l)) ≡ true
  unfolding inside_any
  one_found h e t = rw (cuts_from n i k l h, ← e, t)

  pub one_later : i < k → b ≡ inside c (take n (drop (i * n) l)) → b ≡ false
      → inside_any c (cuts_at n (k - i) (drop (i * n) l)) ≡ inside_any c (cuts_at n (k - (i + 1)) (drop ((i + 1) * n) l))
  unfolding inside_any
  one_later h e f = rw (cuts_from n i k l h, ← e, f)

pub one_none : (c : Cut) (l : List ℕ) (n i k : ℕ) → k ≤ i → inside_any c (cuts_at n (k - i) (drop (i * n) l)) ≡ false
unfolding inside_any
one_none c l n i k h = rw (cuts-none n i k (drop (i * n) l) h)

-- The place of a cut among the cuts from the i-th on.
pub place-first : (c : Cut) (l : List ℕ) (n k : ℕ) → insert c (cuts_at n k l) ≡ cuts_at n 0 l ++ insert c (cuts_at n (k - 0) (drop (0 * n) l))
unfolding cuts_at
place-first c l n k = ap (insert c) (cuts_all n k l)

module _ (c : Cut) (l : List ℕ) (n i k : ℕ) {b : Bool} where
  pub place_here : i < k → b ≡ precedes c (take n (drop (i * n) l)) → b ≡ true
      → cuts_at n i l ++ insert c (cuts_at n (k - i) (drop (i * n) l)) ≡ cuts_at n i l ++ (c ∷ cuts_at n (k - i) (drop (i * n) l))
  unfolding insert
  place_here h e t = rw (cuts_from n i k l h, ← e, t)

  pub place-later : i < k → b ≡ precedes c (take n (drop (i * n) l)) → b ≡ false
      → cuts_at n i l ++ insert c (cuts_at n (k - i) (drop (i * n) l)) ≡ cuts_at n (i + 1) l ++ insert c (cuts_at n (k - (i + 1)) (drop ((i + 1) * n) l))
  unfolding insert
  place-later h e f =
      rw (cuts_from n i k l h, ← e, f, cuts-more n i l)
      (sym (append_snoc (cuts_at n i l) (take n (drop (i * n) l)) (insert c (cuts_at n (k - (i + 1)) (drop ((i + 1) * n) l)))))

pub place_last : (c : Cut) (l : List ℕ) (n i k : ℕ) → k ≤ i
    → cuts_at n i l ++ insert c (cuts_at n (k - i) (drop (i * n) l)) ≡ cuts_at n i l ++ (c ∷ cuts_at n (k - i) (drop (i * n) l))
unfolding insert
place_last c l n i k h = rw (cuts-none n i k (drop (i * n) l) h)

-- The i-th of the cuts is contained in c and goes, or stays behind those that stay.
module _
    (c : Cut)
    (w v : List ℕ)
    (n i left : ℕ)
    (rest : drop (i * n) v ≡ drop (i * n) w)
    (so_far : cuts_at n left v ≡ not_inside c (cuts_at n i w))
  where
    next-rest : drop ((i + 1) * n) v ≡ drop ((i + 1) * n) w
    next-rest =
        let e : (i + 1) * n ≡ i * n + n = omega (arith, add-mul i 1 n) in
        rw (e, ← drop-drop n (i * n) v, ← drop-drop n (i * n) w, rest)

    next : not_inside c (cuts_at n (i + 1) w) ≡ cond (inside (take n (drop (i * n) v)) c) (cuts_at n left v) (cuts_at n left v ++ (take n (drop (i * n) v) ∷ []))
    next = rw (cuts-more n i w, not_inside-snoc c (take n (drop (i * n) w)) (cuts_at n i w), rest, so_far)

    pub goes : (u : List ℕ) (m : ℕ) {b : Bool} → u ≡ v → m ≡ left → b ≡ inside (take n (drop (i * n) v)) c → not b ≡ false
        → (drop ((i + 1) * n) u ≡ drop ((i + 1) * n) w) × (cuts_at n m u ≡ not_inside c (cuts_at n (i + 1) w))
    goes u m {b} p q e t = (ap (drop ((i + 1) * n)) p ∙ next-rest, rw (p, q, next, ← e, not-false b t))

    pub stays : (u : List ℕ) (m : ℕ) {b : Bool} → left ≤ i → i * n + n ≤ length v → u ≡ paste v (left * n) (drop (i * n) v) n → m ≡ left + 1
        → b ≡ inside (take n (drop (i * n) v)) c → not b ≡ true
        → (drop ((i + 1) * n) u ≡ drop ((i + 1) * n) w) × (cuts_at n m u ≡ not_inside c (cuts_at n (i + 1) w))
    stays u m {b} h l p q e t =
        let s = drop (i * n) v in
        let k : left * n ≤ i * n = mul-le-mul_right n h in
        let f : n ≤ length s = rw length-drop (omega arith) in (
          ap (drop ((i + 1) * n)) p ∙ paste_behind v (left * n) s n (omega arith) f ((i + 1) * n) (omega (arith, add-mul i 1 n)) ∙ next-rest,
          ap₂ (λ (j : ℕ) (t : List ℕ). cuts_at n j t) q p ∙ cuts-put v s n left (omega arith) f ∙ sym (next ∙ rw (← e, not-true b t)),
        )
