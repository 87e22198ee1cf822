-- Laws of cuts that stand one after another.
use mathlib.Core.Path.{◌≡◌, refl, ap}
use Prim.Native.Nat.{ℕ, zero, suc, ◌+◌, ◌*◌}
use native.Mathlib.Nat.{zero-add, suc-add, zero-mul, suc-mul}
use native.Mathlib.Omega.{arith}
use mathlib.Core.List.{List, [], ◌∷◌, ◌++◌}
use lib.ListN.{length, take, drop}
use lib.Seq.{drop-drop}
use Rattle.structure.specs.Layout.{cuts_at}
use Rattle.cells.proofs.Parts.{front_same, part_same}

module _ (n : ℕ) where
  pub length-cuts : (k : ℕ) (l : List ℕ) → length (cuts_at n k l) ≡ k
  unfolding cuts_at
  length-cuts zero l = refl
  length-cuts (suc k) l = ap suc (length-cuts k (drop n l))

  -- The first cuts, then the others.
  pub cuts-add : (j k : ℕ) (l : List ℕ) → cuts_at n (j + k) l ≡ cuts_at n j l ++ cuts_at n k (drop (j * n) l)
  unfolding cuts_at
  cuts-add zero k l = rw (zero-add k, zero-mul n)
  cuts-add (suc j) k l =
      let d : n + j * n ≡ suc j * n = omega (arith, suc-mul j n) in
      rw (suc-add j k, cuts-add j k (drop n l), drop-drop (j * n) n l, d)

  -- One cut more at the end.
  pub cuts-more : (k : ℕ) (l : List ℕ) → cuts_at n (k + 1) l ≡ cuts_at n k l ++ (take n (drop (k * n) l) ∷ [])
  unfolding cuts_at
  cuts-more k l = cuts-add k 1 l

  -- What stands behind the cuts says nothing.
  pub cuts_same : (k : ℕ) (a b : List ℕ) → take (k * n) a ≡ take (k * n) b → cuts_at n k a ≡ cuts_at n k b
  unfolding cuts_at
  cuts_same zero a b e = refl
  cuts_same (suc k) a b e =
      let s : suc k * n ≡ n + k * n = omega (arith, suc-mul k n) in
      rw (front_same (suc k * n) a b e n (omega arith), cuts_same k (drop n a) (drop n b) (part_same (suc k * n) a b e n (k * n) (omega arith)))
