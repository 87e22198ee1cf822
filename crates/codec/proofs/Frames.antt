-- Frame lists. Splitting needs no more fuel than there are bytes, so it obeys two step laws; it undoes `list_of`, and `list_of` undoes it.
use mathlib.Core.Path.{◌≡◌, refl, ap, ap₂, ◌∙◌}
use mathlib.Core.Bool.{Bool, true, false}
use mathlib.Core.List.{List, [], ◌∷◌, ◌++◌}
use mathlib.Core.Option.{Option, none, some}
use Prim.Native.Nat.{ℕ, zero, suc, ◌<◌, ◌≤◌, min}
use native.Mathlib.Omega.{arith}
use lib.ListN.{length, take, drop, length-append, length-drop, take-append-drop}
use lib.Seq.{length-take-le, take_at, drop_at}
use Rattle.model.specs.Lists.{between}
use Rattle.model.specs.Frames.{list_of, before, entry, split, frames_in, frames_of}
use Rattle.codec.proofs.Bytes.{Bytes, bytes_tail, bytes_left, bytes-right}
use Rattle.codec.proofs.Cases.{none-some, between-true, between_in, Each, e-none, e-more}

-- A frame has 1 to 99 bytes, its check byte not counted.
abbrev pub Sized : List ℕ → Type 0
Sized f = (1 ≤ length f) × (length f ≤ 99)

-- FUEL

-- What is made of a length byte depends only on what is made of the bytes after it.
entry_same :
    (go on : List ℕ → Option (List (List ℕ))) (k : ℕ) (l : List ℕ) (b : Bool)
    → ((p : List ℕ) → length p ≤ length l → go p ≡ on p)
    → entry go k l b ≡ entry on k l b
unfolding entry
entry_same go on k l true e = rw (e (drop k l) (simp length-drop (omega arith)))
entry_same go on k l false e = refl

-- Any two amounts of fuel that suffice give the same.
fuel : (m k : ℕ) (l : List ℕ) → length l < m → length l < k → frames_in m l ≡ frames_in k l
unfolding frames_in split
fuel zero k l h g = absurd (omega arith)
fuel (suc m) zero l h g = absurd (omega arith)
fuel (suc m) (suc k) [] h g = refl
fuel (suc m) (suc k) (n ∷ l) h g = entry_same (frames_in m) (frames_in k) n l (between 1 (min 99 (length l)) n) (λ p s. fuel m k p (omega arith) (omega arith))

-- Fuel does not matter.
pub frames-in : (m : ℕ) (l : List ℕ) → length l < m → frames_in m l ≡ frames_of l
unfolding frames_of
frames-in m l h = fuel m (suc (length l)) l h (omega arith)

-- An empty list has no frames; else the first length byte decides.
pub frames-none : frames_of [] ≡ some []
unfolding frames_of frames_in split
frames-none = refl

pub frames-entry : (k : ℕ) (l : List ℕ) → frames_of (k ∷ l) ≡ entry frames_of k l (between 1 (min 99 (length l)) k)
unfolding frames_of frames_in split
frames-entry k l = entry_same (frames_in (suc (length l))) frames_of k l (between 1 (min 99 (length l)) k) (λ p s. frames-in (suc (length l)) p (omega arith))

-- THE LIST OF SOME FRAMES SPLITS INTO THEM

pub frames-list : (fs : List (List ℕ)) → Each Sized fs → frames_of (list_of fs) ≡ some fs
unfolding list_of entry before
frames-list [] h = frames-none
frames-list (f ∷ fs) (e-more h r) =
    let b : between 1 (min 99 (length (f ++ list_of fs))) (length f) ≡ true = between_in 1 (min 99 (length (f ++ list_of fs))) (length f) h.0 (simp length-append (omega arith)) in
    frames-entry (length f) (f ++ list_of fs)
    ∙ rw (b, take_at f (list_of fs) (length f) refl, drop_at f (list_of fs) (length f) refl, frames-list fs r)

-- A LIST IS THE LIST OF THE FRAMES IT SPLITS INTO

before-some : (f : List ℕ) (o : Option (List (List ℕ))) (fs : List (List ℕ)) → before f o ≡ some fs → (gs : List (List ℕ)) × (o ≡ some gs) × (fs ≡ f ∷ gs)
unfolding before
before-some f none fs e = none-some e
before-some f (some gs) fs e = (gs, refl, cc)

-- The frames that go makes of a list are those that the list is made of.
abbrev Splits : (List ℕ → Option (List (List ℕ))) → Type 0
Splits go = (l : List ℕ) (fs : List (List ℕ)) → go l ≡ some fs → (list_of fs ≡ l) × Each Sized fs

by_entry :
    (go : List ℕ → Option (List (List ℕ))) (splits : Splits go) (k : ℕ) (l : List ℕ) (fs : List (List ℕ)) (b : Bool)
    → between 1 (min 99 (length l)) k ≡ b
    → entry go k l b ≡ some fs
    → (list_of fs ≡ k ∷ l) × Each Sized fs
unfolding entry list_of
by_entry go splits k l fs true t e =
    let h = between-true 1 (min 99 (length l)) k t in
    let x = before-some (take k l) (go (drop k l)) fs e in
    let ih = splits (drop k l) x.0 x.1 in
    let n : length (take k l) ≡ k = length-take-le k l (omega arith) in
    let z : Sized (take k l) = (omega arith, omega arith) in (
      ap list_of x.2 ∙ ap₂ (λ (i : ℕ) (r : List ℕ). i ∷ (take k l ++ r)) n ih.0 ∙ ap (λ (r : List ℕ). k ∷ r) (take-append-drop k l),
      rw x.2 (e-more z ih.1),
    )
by_entry go splits k l fs false t e = none-some e

splits_in : (m : ℕ) → Splits (frames_in m)
unfolding frames_in split list_of
splits_in zero l fs e = none-some e
splits_in (suc m) [] fs e = let n : fs ≡ [] = cc in rw n (refl, e-none)
splits_in (suc m) (k ∷ l) fs e = by_entry (frames_in m) (splits_in m) k l fs (between 1 (min 99 (length l)) k) refl e

pub list-frames : (l : List ℕ) (fs : List (List ℕ)) → frames_of l ≡ some fs → (list_of fs ≡ l) × Each Sized fs
unfolding frames_of
list-frames l fs e = splits_in (suc (length l)) l fs e

-- BYTES

bytes-frames : (fs : List (List ℕ)) → Bytes (list_of fs) → Each Bytes fs
unfolding list_of
bytes-frames [] h = e-none
bytes-frames (f ∷ fs) h =
    let t = bytes_tail (length f) (f ++ list_of fs) h in
    e-more (bytes_left f (list_of fs) t) (bytes-frames fs (bytes-right f (list_of fs) t))

-- The frames of a list of bytes are bytes.
pub frames-bytes : (l : List ℕ) (fs : List (List ℕ)) → Bytes l → frames_of l ≡ some fs → Each Bytes fs
frames-bytes l fs h e = bytes-frames fs (rw (list-frames l fs e).0 h)
