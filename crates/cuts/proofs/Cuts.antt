-- Laws of cuts that stand one after another.
use mathlib.Core.Path.{◌≡◌, sym, ap, ap₂, ◌∙◌}
use Prim.Native.Nat.{ℕ, suc, ◌+◌, ◌*◌, ◌-◌, ◌≤◌, ◌<◌}
use native.Mathlib.Nat.{le_trans, add-mul, add-sub_of_le}
use native.Mathlib.Omega.{arith}
use mathlib.Core.List.{List, [], ◌∷◌, ◌++◌}
use lib.ListN.{length, take, drop, length-drop}
use lib.Seq.{drop-drop, take-take, paste}
use Rattle.std.proofs.lemmas.List.Edits.{length-paste}
use Rattle.model.specs.Cut.{Cut}
use Rattle.structure.specs.Layout.{cuts_at}
use Rattle.cells.proofs.Parts.{paste_front, paste_part, paste_behind}
use Rattle.structure.proofs.Places.{next_fits}
use Rattle.structure.proofs.Listed.{cuts-add, cuts-more, cuts_same}

-- From the i-th on.
pub cuts_from : (n i k : ℕ) (l : List ℕ) → i < k → cuts_at n (k - i) (drop (i * n) l) ≡ take n (drop (i * n) l) ∷ cuts_at n (k - (i + 1)) (drop ((i + 1) * n) l)
unfolding cuts_at
cuts_from n i k l h =
    let e : k - i ≡ suc (k - (i + 1)) = omega arith in
    let d : i * n + n ≡ (i + 1) * n = omega (arith, add-mul i 1 n) in
    rw (e, drop-drop n (i * n) l, d)

-- From the first on.
pub cuts_all : (n k : ℕ) (l : List ℕ) → cuts_at n k l ≡ cuts_at n (k - 0) (drop (0 * n) l)
cuts_all n k l = rw (native.Mathlib.Nat.zero-mul n, native.Mathlib.Nat.sub-zero k)

-- None is left behind the last.
pub cuts-none : (n i k : ℕ) (l : List ℕ) → k ≤ i → cuts_at n (k - i) l ≡ []
unfolding cuts_at
cuts-none n i k l h = let e : k - i ≡ 0 = omega arith in rw e

-- The i-th of k cuts is within them.
pub within : (n i k : ℕ) {m : ℕ} → i < k → k * n ≤ m → i * n + n ≤ m
within n i k h l = le_trans (next_fits i k n h) l

-- A cut is put behind k cuts.
pub cuts-put : (w s : List ℕ) (n k : ℕ) → k * n ≤ length w → n ≤ length s → cuts_at n (k + 1) (paste w (k * n) s n) ≡ cuts_at n k w ++ (take n s ∷ [])
cuts-put w s n k h l =
    cuts-more n k (paste w (k * n) s n)
    ∙ ap₂ (λ (a : List Cut) (c : Cut). a ++ (c ∷ [])) (cuts_same n k (paste w (k * n) s n) w (paste_front w (k * n) s n h l)) (paste_part w (k * n) s n h l)

-- A cut is put in at the p-th of k cuts, those from there on having moved up.
module _ (w s : List ℕ) (n p k : ℕ) (h : p ≤ k) (room : (k + 1) * n ≤ length w) (size : n ≤ length s) where
  abbrev up : List ℕ
  up = paste w (p * n + n) (drop (p * n) w) ((k - p) * n)

  ends : (k + 1) * n ≡ p * n + n + (k - p) * n
  ends = omega (arith, ap (λ (i : ℕ). i * n) (add-sub_of_le h), add-mul p (k - p) n, add-mul k 1 n)

  rest : (k - p) * n ≤ length (drop (p * n) w)
  rest = simp length-drop (omega (arith, ends))

  front : take (p * n) up ≡ take (p * n) w
  front =
      sym (take-take (p * n) (p * n + n) up (omega arith)) ∙ ap (take (p * n)) (paste_front w (p * n + n) (drop (p * n) w) ((k - p) * n) (omega (arith, ends)) rest)
      ∙ take-take (p * n) (p * n + n) w (omega arith)

  moved : cuts_at n (k - p) (drop (p * n + n) up) ≡ cuts_at n (k - p) (drop (p * n) w)
  moved = cuts_same n (k - p) (drop (p * n + n) up) (drop (p * n) w) (paste_part w (p * n + n) (drop (p * n) w) ((k - p) * n) (omega (arith, ends)) rest)

  pub cuts-insert : cuts_at n (k + 1) (paste up (p * n) s n) ≡ cuts_at n p w ++ (take n s ∷ cuts_at n (k - p) (drop (p * n) w))
  unfolding cuts_at
  cuts-insert =
      let u = paste up (p * n) s n in
      let e : k + 1 ≡ p + suc (k - p) = omega arith in
      let g : p * n ≤ length up = omega (arith, ends, length-paste w (p * n + n) (drop (p * n) w) ((k - p) * n) (omega (arith, ends)) rest) in
      ap (λ (i : ℕ). cuts_at n i u) e ∙ cuts-add n p (suc (k - p)) u
      ∙ ap₂ (λ (a b : List Cut). a ++ b)
      (cuts_same n p u w (paste_front up (p * n) s n g size ∙ front))
      (ap₂ (λ (c : Cut) (l : List Cut). c ∷ l)
      (paste_part up (p * n) s n g size)
      (ap (cuts_at n (k - p)) (drop-drop n (p * n) u ∙ paste_behind up (p * n) s n g size (p * n + n) (omega arith)) ∙ moved))
