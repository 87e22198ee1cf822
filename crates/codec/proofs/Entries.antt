-- Laws of a frame list read from a place on: the entry that stands there, and the end. Assumes nothing.
use mathlib.Core.Path.{◌≡◌, refl, sym, ap, ◌∙◌}
use mathlib.Core.Bool.{Bool, true, false, and-false}
use mathlib.Core.List.{List, [], ◌∷◌, ◌++◌}
use mathlib.Core.Option.{Option, none, some}
use Prim.Native.Nat.{ℕ, suc, ◌+◌, ◌-◌, ◌<◌, ◌≤◌, min}
use native.Mathlib.Omega.{arith}
use native.Mathlib.Numerals.{add-one}
use lib.Dec.{leb}
use borrow.Author.Tests.{lt-leb}
use lib.ListN.{length, take, drop, get_or, length-drop, drop_of_length-le}
use lib.Seq.{drop-cons, drop-drop, take-add, length-take-le}
use Rattle.model.specs.Lists.{between}
use Rattle.model.specs.Frames.{before, entry, frames_of}
use Rattle.codec.proofs.Cases.{between-true, between_in}
use Rattle.codec.proofs.Frames.{frames-none, frames-entry}
use Rattle.codec.specs.Entries.{formed, frames, Formed, entries}

formed-before : (f : List ℕ) (o : Option (List (List ℕ))) → formed (before f o) ≡ formed o
unfolding before
formed-before f none = refl
formed-before f (some fs) = refl

frames-before : (f : List ℕ) (o : Option (List (List ℕ))) → formed o ≡ true → frames (before f o) ≡ f ∷ frames o
unfolding before
frames-before f none e = let z : ◌≡◌ {A = ℕ} 0 1 = cc in absurd (omega arith)
frames-before f (some fs) e = refl

-- an entry of k bytes stands at `at`
pub record Entry (list : List ℕ) (at k : ℕ) : Type 0 where
  pub low : 1 ≤ k
  pub high : k ≤ 99
  pub room : at + 1 + k ≤ length list
  pub rest_formed : Formed (drop (at + 1 + k) list)
  pub is : entries (drop at list) ≡ take k (drop (at + 1) list) ∷ entries (drop (at + 1 + k) list)

module _ (list : List ℕ) (at k : ℕ) (h : at < length list) (is : k ≡ get_or list at 0) where
  ahead : drop at list ≡ k ∷ drop (at + 1) list
  ahead = rw (add-one, is) (drop-cons list at 0 h)

  front : frames_of (drop at list) ≡ entry frames_of k (drop (at + 1) list) (between 1 (min 99 (length (drop (at + 1) list))) k)
  front = ap frames_of ahead ∙ frames-entry k (drop (at + 1) list)

  passed : between 1 (min 99 (length (drop (at + 1) list))) k ≡ true → frames_of (drop at list) ≡ before (take k (drop (at + 1) list)) (frames_of (drop (at + 1 + k) list))
  unfolding entry
  passed e = front ∙ rw (e, drop-drop k (at + 1) list)

  failed : between 1 (min 99 (length (drop (at + 1) list))) k ≡ false → formed (frames_of (drop at list)) ≡ false
  unfolding entry
  failed e = ap formed front ∙ rw e

  -- a length of 0 or over 99 or past the end
  pub too_low : k < 1 → formed (frames_of (drop at list)) ≡ false
  unfolding between
  too_low l = failed (rw (lt-leb 1 k l))

  pub too_high : 99 < k → formed (frames_of (drop at list)) ≡ false
  unfolding between
  too_high l = failed (rw (lt-leb k (min 99 (length (drop (at + 1) list))) (omega arith)) (and-false (leb 1 k)))

  pub past_end : length list - at ≤ k → formed (frames_of (drop at list)) ≡ false
  unfolding between
  past_end l = failed (rw (lt-leb k (min 99 (length (drop (at + 1) list))) (omega (arith, length-drop (at + 1) list))) (and-false (leb 1 k)))

  pub in_form : 1 ≤ k → k ≤ 99 → k < length list - at → formed (frames_of (drop at list)) ≡ formed (frames_of (drop (at + 1 + k) list))
  in_form a b l =
      ap formed (passed (between_in 1 (min 99 (length (drop (at + 1) list))) k a (omega (arith, length-drop (at + 1) list))))
      ∙ formed-before (take k (drop (at + 1) list)) (frames_of (drop (at + 1 + k) list))

  pub entry_at : Formed (drop at list) → Entry list at k
  entry_at f = case (between 1 (min 99 (length (drop (at + 1) list))) k) refl where
    case : (b : Bool) → between 1 (min 99 (length (drop (at + 1) list))) k ≡ b → Entry list at k
    case true q =
        let c : (1 ≤ k) × (k ≤ min 99 (length (drop (at + 1) list))) = between-true 1 (min 99 (length (drop (at + 1) list))) k q in
        let r : Formed (drop (at + 1 + k) list) = sym (ap formed (passed q) ∙ formed-before (take k (drop (at + 1) list)) (frames_of (drop (at + 1 + k) list))) ∙ f in
        record {
          low = c.0;
          high = omega (arith, c.1);
          room = omega (arith, c.0, c.1, length-drop (at + 1) list);
          rest_formed = r;
          is = ap frames (passed q) ∙ frames-before (take k (drop (at + 1) list)) (frames_of (drop (at + 1 + k) list)) r;
        }
    case false q =
        let z : false ≡ true = sym (failed q) ∙ f in
        let o : ◌≡◌ {A = ℕ} 0 1 = cc in
        absurd (omega arith)

  -- what the list has up to the entry's end
  pub taken : at + 1 + k ≤ length list → take (at + 1 + k) list ≡ take at list ++ (length (take k (drop (at + 1) list)) ∷ take k (drop (at + 1) list))
  taken l =
      let m : at + 1 + k ≡ at + suc k = omega arith in
      let n : length (take k (drop (at + 1) list)) ≡ k = length-take-le k (drop (at + 1) list) (omega (arith, length-drop (at + 1) list)) in
      rw (n, m) (take-add at (suc k) list ∙ ap (λ (x : List ℕ). take at list ++ take (suc k) x) ahead)

-- no entry is left
pub entries_end : (list : List ℕ) (at : ℕ) → length list ≤ at → frames_of (drop at list) ≡ some []
entries_end list at h = ap frames_of (drop_of_length-le list h) ∙ frames-none

-- The frame as a part of the list.
pub part : (list : List ℕ) (at k : ℕ) → take (at + 1 + k - (at + 1)) (drop (at + 1) list) ≡ take k (drop (at + 1) list)
part list at k = let e : at + 1 + k - (at + 1) ≡ k = omega arith in rw e
