-- What is read back after bytes were put into a list: where they were put, and elsewhere. Assumes nothing.
use mathlib.Core.Path.{◌≡◌, sym, ap, ◌∙◌}
use mathlib.Core.Logic.{◌⊎◌, ⊎_elim}
use mathlib.Core.List.{List, ◌++◌, append_assoc}
use Prim.Native.Nat.{ℕ, ◌+◌, ◌-◌, ◌<◌, ◌≤◌}
use native.Mathlib.Omega.{arith}
use lib.ListN.{length, take, drop, get_or, length-drop, get_or-append}
use lib.Seq.{take_at, drop_at, length-take-le, get_or-take, get_or-drop, get_or-append-add, ext_get_or}
use Rattle.cells.specs.Put.{put_of}
use Rattle.cells.proofs.Puts.{front_length, length-put}

-- what is put leaves the bytes before it and the bytes after it
module _ (d s : List ℕ) (at : ℕ) (fits : at + length s ≤ length d) where
  get_before : (m : ℕ) → m < at → get_or (put_of d at s) m 0 ≡ get_or d m 0
  unfolding put_of
  get_before m h =
      let l : length (take at d) ≡ at = length-take-le at d (omega arith) in
      get_or-append (take at d ++ s) (drop (at + length s) d) 0 m (omega (arith, front_length d s at (omega arith)))
      ∙ get_or-append (take at d) s 0 m (omega arith) ∙ get_or-take at d m 0 h

  get_after : (m : ℕ) → at + length s ≤ m → get_or (put_of d at s) m 0 ≡ get_or d m 0
  unfolding put_of
  get_after m h =
      let f : length (take at d ++ s) ≡ at + length s = front_length d s at (omega arith) in
      let e : length (take at d ++ s) + (m - (at + length s)) ≡ m = omega arith in
      let g : get_or (take at d ++ s ++ drop (at + length s) d) (length (take at d ++ s) + (m - (at + length s))) 0 ≡ get_or (drop (at + length s) d) (m - (at + length s)) 0
      = get_or-append-add (take at d ++ s) (drop (at + length s) d) (m - (at + length s)) 0 in
      let k : at + length s + (m - (at + length s)) ≡ m = omega arith in
      rw e at g ∙ get_or-drop (at + length s) d (m - (at + length s)) 0 ∙ ap (λ (x : ℕ). get_or d x 0) k

  -- what is read back where it was put, and elsewhere
  pub part_same : (n : ℕ) → length s ≡ n → take n (drop at (put_of d at s)) ≡ s
  unfolding put_of
  part_same n long =
      let l : length (take at d) ≡ at = length-take-le at d (omega arith) in
      rw (append_assoc (take at d) s (drop (at + length s) d), drop_at (take at d) (s ++ drop (at + length s) d) at l) (take_at s (drop (at + length s) d) n long)

  pub part_other : (a n : ℕ) → a + n ≤ length d → (a + n ≤ at) ⊎ (at + length s ≤ a) → take n (drop a (put_of d at s)) ≡ take n (drop a d)
  part_other a n h o =
      let x : length (take n (drop a (put_of d at s))) ≡ n = length-take-le n (drop a (put_of d at s)) (simp length-drop (omega (arith, length-put d s at fits))) in
      let y : length (take n (drop a d)) ≡ n = length-take-le n (drop a d) (simp length-drop (omega arith)) in
      ext_get_or 0 _ _ (x ∙ sym y) (λ m b.
      get_or-take n _ m 0 (omega arith) ∙ get_or-drop a _ m 0
      ∙ ⊎_elim (λ z. get_before (a + m) (omega arith)) (λ z. get_after (a + m) (omega arith)) o
      ∙ sym (get_or-take n (drop a d) m 0 (omega arith) ∙ get_or-drop a d m 0))
