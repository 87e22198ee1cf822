-- Parts of lists: what lists that agree at their front have in common, and a list into which a part of another was written.
use mathlib.Core.Path.{◌≡◌, sym, ap, ◌∙◌}
use mathlib.Core.Logic.{◌⊎◌, inl, inr}
use Prim.Native.Nat.{ℕ, zero, suc, ◌+◌, ◌-◌, ◌*◌, ◌≤◌, ◌<◌}
use native.Mathlib.Nat.{zero-add, add-zero, suc-add}
use native.Mathlib.Numerals.{add-one}
use native.Mathlib.Omega.{arith}
use mathlib.Core.List.{List, [], ◌∷◌, ◌++◌, append-nil}
use lib.ListN.{length, get_or, take, drop, set, length-drop}
use borrow.Rule.Slice.PartMut.{put_mid, Post-is}
use lib.Seq.{take-nil, take_all, take-take, take_at, drop_at, drop-drop, drop-length, get_or-take, get_or-drop, length-take-le, paste, paste-suc, take-paste, drop-paste}
use Rattle.model.specs.Frames.{word}

pub drop-take : (a b : ℕ) (l : List ℕ) → drop a (take (a + b) l) ≡ take b (drop a l)
drop-take zero b l = rw zero-add
drop-take (suc a) b [] = rw suc-add (sym (take-nil b))
drop-take (suc a) b (x ∷ l) = rw suc-add (drop-take a b l)

-- A part that goes to the end is what is left.
pub drop-whole : (k : ℕ) (q : List ℕ) → take (length q - k) (drop k q) ≡ drop k q
drop-whole k q = take_all (length q - k) (drop k q) (omega (arith, length-drop k q))

-- The number of two bytes at a place.
pub word_at : (q : List ℕ) (at : ℕ) → word (drop at q) ≡ 256 * get_or q at 0 + get_or q (at + 1) 0
unfolding word
word_at q at = rw (get_or-drop at q 0 0, get_or-drop at q 1 0, add-zero at)

-- Two lists that agree on their first c cells.
module _ (c : ℕ) (w v : List ℕ) (e : take c w ≡ take c v) where
  pub front_same : (a : ℕ) → a ≤ c → take a w ≡ take a v
  front_same a h = sym (take-take a c w h) ∙ ap (take a) e ∙ take-take a c v h

  pub part_same : (a b : ℕ) → a + b ≤ c → take b (drop a w) ≡ take b (drop a v)
  part_same a b h = sym (drop-take a b w) ∙ ap (drop a) (front_same (a + b) h) ∙ drop-take a b v

  pub cell_same : (a : ℕ) → a < c → get_or w a 0 ≡ get_or v a 0
  cell_same a h = sym (get_or-take c w a 0 h) ∙ ap (λ (l : List ℕ). get_or l a 0) e ∙ get_or-take c v a 0 h

-- WRITING

-- What was written into the part from k on.
pub put_end : (k : ℕ) (w p : List ℕ) → k ≤ length w → put_mid k (length w - k) w p ≡ take k w ++ p
put_end k w p h = rw (Post-is k (length w) w h, drop-length w, append-nil p)

-- A turn of a loop that writes the list s at `at`: the value v is element j of s.
pub paste_more : (d : List ℕ) (at : ℕ) (s : List ℕ) (j v : ℕ) → at + j < length d → j < length s → get_or s j 0 ≡ v
    → set (paste d at s j) (at + j) v ≡ paste d at s (j + 1)
paste_more d at s j v h l e = rw (← e, add-one) (paste-suc d at s j 0 h l)

-- The end of such a loop.
pub paste_done : (d : List ℕ) (at : ℕ) (s : List ℕ) (i m : ℕ) (w : List ℕ) → i ≡ m → w ≡ paste d at s i → w ≡ paste d at s m
paste_done d at s i m w e h = rw (← e) h

-- Of what is written only the first n elements count.
pub paste_take : (d : List ℕ) (at : ℕ) (s : List ℕ) (n : ℕ) → paste d at s n ≡ paste d at (take n s) n
paste_take d at s n = ap (λ (x : List ℕ). take at d ++ x ++ drop (at + n) d) (sym (take-take n n s (omega arith)))

module _ (d : List ℕ) (at : ℕ) (s : List ℕ) (n : ℕ) (hd : at ≤ length d) (hs : n ≤ length s) where
  long : length (take at d) ≡ at
  long = length-take-le at d hd

  pub paste_front : take at (paste d at s n) ≡ take at d
  paste_front =
      sym (take-take at (at + n) (paste d at s n) (omega arith)) ∙ ap (take at) (take-paste d at s n hd hs) ∙ take_at (take at d) (take n s) at long

  pub paste_part : take n (drop at (paste d at s n)) ≡ take n s
  paste_part = sym (drop-take at n (paste d at s n)) ∙ ap (drop at) (take-paste d at s n hd hs) ∙ drop_at (take at d) (take n s) at long

  pub paste_behind : (k : ℕ) → at + n ≤ k → drop k (paste d at s n) ≡ drop k d
  paste_behind k h =
      let e : at + n + (k - (at + n)) ≡ k = omega arith in
      rw (← e, ← drop-drop (k - (at + n)) (at + n) (paste d at s n), ← drop-drop (k - (at + n)) (at + n) d, drop-paste d at s n hd hs)

  -- What is not written is as before.
  pub paste_other : (j : ℕ) → (j < at) ⊎ (at + n ≤ j) → get_or (paste d at s n) j 0 ≡ get_or d j 0
  paste_other j (inl h) = cell_same at (paste d at s n) d paste_front j h
  paste_other j (inr h) =
      let e : j + 0 ≡ j = omega arith in
      rw (← e, ← get_or-drop j (paste d at s n) 0 0, ← get_or-drop j d 0 0, paste_behind j h)
