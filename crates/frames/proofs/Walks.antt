-- A walk along a frame list: what stands at a place is the length of a frame, the frame, and the list of those after it.
use mathlib.Core.Path.{◌≡◌, refl, ap, ◌∙◌}
use mathlib.Core.List.{List, [], ◌∷◌, ◌++◌}
use Prim.Native.Nat.{ℕ, suc, ◌+◌, ◌-◌, ◌≤◌, ◌<◌}
use native.Mathlib.Omega.{arith}
use native.Mathlib.Numerals.{add-one}
use lib.ListN.{length, take, drop, get_or, length-append}
use lib.Seq.{take_all, take_at, drop_at, drop-cons}
use Rattle.model.specs.Frames.{list_of}
use Rattle.frames.specs.Asks.{Indexed, Asks}

-- The frame f at the front of a list, and what follows it.
pub record Here (rest f next : List ℕ) : Type 0 where
  pub size : get_or rest 0 0 ≡ length f
  pub fits : length f + 1 ≤ length rest
  pub part : take (length f) (drop 1 rest) ≡ f
  pub after : drop (length f + 1) rest ≡ next

here : (rest f next : List ℕ) → rest ≡ length f ∷ (f ++ next) → Here rest f next
here rest f next e = record {
  size = ap (λ (l : List ℕ). get_or l 0 0) e;
  fits = omega (arith, ap length e, length-append f next);
  part = ap (λ (l : List ℕ). take (length f) (drop 1 l)) e ∙ take_at f next (length f) refl;
  after = rw add-one (ap (drop (suc (length f))) e ∙ drop_at f next (length f) refl);
}

entry : (fs : List (List ℕ)) (i : ℕ) → i < length fs → list_of (drop i fs) ≡ length (get_or fs i []) ∷ (get_or fs i [] ++ list_of (drop (i + 1) fs))
unfolding list_of
entry fs i h = rw (add-one, drop-cons fs i [] h)

-- What is left of the list behind its first i frames.
pub record Passed (list : List ℕ) (index : ℕ) (rest : List ℕ) (i : ℕ) : Type 0 where
  pub is : (x : Indexed list index) → rest ≡ list_of (drop i x.frames)

pub passed_none : (list : List ℕ) (index : ℕ) → Passed list index list 0
passed_none list index = record { is = λ x. x.is }

module _ {list rest : List ℕ} {index i : ℕ} (p : Passed list index rest i) where
  pub reached : (x : Indexed list index) → i ≤ index → Here rest (get_or x.frames i []) (list_of (drop (i + 1) x.frames))
  reached x h = here rest (get_or x.frames i []) (list_of (drop (i + 1) x.frames)) (p.is x ∙ entry x.frames i (omega (arith, x.there)))

  pub passed-more : i < index → (k : ℕ) → k ≡ get_or rest 0 0 → Passed list index (drop (k + 1) rest) (i + 1)
  passed-more h k e = record { is = λ x. let g = reached x (omega arith) in ap (λ (m : ℕ). drop (m + 1) rest) (e ∙ g.size) ∙ g.after }

  pub passed_all : i ≡ index → (k : ℕ) → k ≡ get_or rest 0 0 → (x : Indexed list index) → take k (drop 1 rest) ≡ get_or x.frames index []
  passed_all h k e x =
      let r = reached x (omega arith) in
      ap (λ (m : ℕ). take m (drop 1 rest)) (e ∙ r.size) ∙ r.part ∙ ap (λ (m : ℕ). get_or x.frames m []) h

-- A QUESTION

-- The frame at the index of a question.
pub asked-frame : {list : List ℕ} {k index : ℕ} {q : List ℕ} → Asks list k index q
    → {frame : List ℕ} → ((x : Indexed (take k list) index) → frame ≡ get_or x.frames index []) → frame ≡ 0x30 ∷ q
asked-frame a h = h (record { frames = a.frames; is = a.listed; there = a.there }) ∙ a.is

-- All but its kind.
pub frame_tail : (frame q : List ℕ) → frame ≡ 0x30 ∷ q → take (length frame - 1) (drop 1 frame) ≡ q
frame_tail frame q e =
    let size : length frame ≡ suc (length q) = ap length e in
    ap (take (length frame - 1)) (ap (drop 1) e) ∙ take_all (length frame - 1) q (omega arith)
