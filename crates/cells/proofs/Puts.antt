-- A list put into another from a place on, and what is put after what was put.
use mathlib.Core.Path.{◌≡◌, sym, ap, ap₂, ◌∙◌}
use mathlib.Core.List.{List, [], ◌∷◌, ◌++◌, append_assoc, append-nil}
use Prim.Native.Nat.{ℕ, ◌+◌, ◌<◌, ◌≤◌}
use native.Mathlib.Omega.{arith}
use native.Mathlib.Nat.{add-zero, zero-add, add_assoc}
use native.Mathlib.Numerals.{add-one}
use lib.ListN.{length, take, drop, set, length-append, length-drop, length-set, take-append-drop}
use lib.Seq.{length-take-le, take_all, take_at, take-suc-set, drop_at, drop-set-lt, drop-append-add, drop-drop, paste}
use Rattle.cells.specs.Put.{put_of}

pub front_length : (d s : List ℕ) (at : ℕ) → at ≤ length d → length (take at d ++ s) ≡ at + length s
front_length d s at h = simp length-append (omega (arith, length-take-le at d h))

pub length-put : (d s : List ℕ) (at : ℕ) → at + length s ≤ length d → length (put_of d at s) ≡ length d
unfolding put_of
length-put d s at h = simp (length-append, length-drop) (omega (arith, length-take-le at d (omega arith)))

-- The front of what was put, with it and before it.
pub take_put : (d s : List ℕ) (at : ℕ) → at ≤ length d → take (at + length s) (put_of d at s) ≡ take at d ++ s
unfolding put_of
take_put d s at h = take_at (take at d ++ s) _ (at + length s) (front_length d s at h)

pub drop-put : (d s : List ℕ) (at : ℕ) → at ≤ length d → drop (at + length s) (put_of d at s) ≡ drop (at + length s) d
unfolding put_of
drop-put d s at h = drop_at (take at d ++ s) (drop (at + length s) d) (at + length s) (front_length d s at h)

-- Put at the very front.
pub put_front : (d s : List ℕ) → put_of d 0 s ≡ s ++ drop (length s) d
unfolding put_of
put_front d s = rw zero-add

pub put-nil : (d : List ℕ) (at : ℕ) → put_of d at [] ≡ d
unfolding put_of
put-nil d at = rw (append-nil (take at d), add-zero at) (take-append-drop at d)

-- One element, then the others.
pub put-cons : (d s : List ℕ) (at x : ℕ) → at < length d → put_of (set d at x) (at + 1) s ≡ put_of d at (x ∷ s)
unfolding put_of
put-cons d s at x h =
    let n : at + 1 + length s ≡ at + length (x ∷ s) = omega arith in
    ap₂ (λ (a b : List ℕ). a ++ b)
    (ap (λ (t : List ℕ). t ++ s) (ap (λ (m : ℕ). take m (set d at x)) (add-one at) ∙ take-suc-set d at x h) ∙ append_assoc (take at d) (x ∷ []) s)
    (drop-set-lt (at + 1 + length s) d at x (omega arith) ∙ ap (λ (m : ℕ). drop m d) n)

pub put_one : (d : List ℕ) (at x : ℕ) → at < length d → set d at x ≡ put_of d at (x ∷ [])
put_one d at x h = sym (put-nil (set d at x) (at + 1)) ∙ put-cons d [] at x h

pub put_two : (d : List ℕ) (at x y : ℕ) → at + 1 < length d → set (set d at x) (at + 1) y ≡ put_of d at (x ∷ y ∷ [])
put_two d at x y h = put_one (set d at x) (at + 1) y (rw (length-set d at x) h) ∙ put-cons d (y ∷ []) at x (omega arith)

-- One list, then another behind it.
pub put-put : (d s t : List ℕ) (at : ℕ) → at ≤ length d → put_of (put_of d at s) (at + length s) t ≡ put_of d at (s ++ t)
unfolding put_of
put-put d s t at h =
    let p : length (take at d ++ s) ≡ at + length s = front_length d s at h in
    ap₂ (λ (a b : List ℕ). a ++ b)
    (ap (λ (u : List ℕ). u ++ t) (take_put d s at h) ∙ append_assoc (take at d) s t)
    (rw (← p) (drop-append-add (take at d ++ s) (drop (length (take at d ++ s)) d) (length t)) ∙ drop-drop (length t) (at + length s) d
    ∙ ap (λ (n : ℕ). drop n d) (add_assoc at (length s) (length t) ∙ ap (λ (n : ℕ). at + n) (sym (length-append s t))))

-- All of a list is copied.
pub put_copied : (d s : List ℕ) (at k : ℕ) → length s ≡ k → paste d at s k ≡ put_of d at s
unfolding put_of
put_copied d s at k e = rw (← e, take_all (length s) s (omega arith))
