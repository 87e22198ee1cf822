-- Slots of the event table: they lie apart, and report and clock follow from their bytes. Assumes nothing.
use mathlib.Core.Path.{◌≡◌, refl, sym, ap, ◌∙◌}
use mathlib.Core.Logic.{◌⊎◌, inl, inr}
use mathlib.Core.List.{List, ◌++◌}
use Prim.Native.Nat.{ℕ, ◌+◌, ◌≤◌}
use native.Mathlib.Omega.{arith}
use lib.Dec.{ltb}
use mathlib.Core.Bool.{Bool, true, false}
use borrow.Author.Tests.{ltb-true, ltb-false}
use lib.ListN.{length, take, drop}
use lib.Seq.{get_or-take, get_or-drop, drop-drop, take-take}
use Rattle.model.specs.Limits.{limits, stored_report, slot_size}
use Rattle.model.specs.Frames.{word}
use Rattle.model.specs.Reading.{report_of}
use Rattle.cells.specs.Put.{put_of}
use Rattle.cells.proofs.Puts.{put-put}
use Rattle.cells.proofs.Parts.{drop-take}
use Rattle.table.specs.Table.{slots_before, slot, report_bytes}

-- two slots are one, or lie apart
pub apart : (j k i l : ℕ) → k ≤ limits.events → l ≤ limits.events → ((j ≡ i) × (k ≡ l) → ⊥) → (slot j k + slot_size ≤ slot i l) ⊎ (slot i l + slot_size ≤ slot j k)
apart j k i l a b n = first (ltb (slots_before j k) (slots_before i l)) refl where
  second : (x : Bool) → ltb (slots_before i l) (slots_before j k) ≡ x → slots_before i l ≤ slots_before j k → (slot j k + slot_size ≤ slot i l) ⊎ (slot i l + slot_size ≤ slot j k)
  second true q h = inr (omega (arith, ltb-true (slots_before i l) (slots_before j k) q))
  second false q h =
      let e : slots_before j k ≡ slots_before i l = omega (arith, ltb-false (slots_before i l) (slots_before j k) q) in
      absurd (n (omega arith, omega arith))

  first : (x : Bool) → ltb (slots_before j k) (slots_before i l) ≡ x → (slot j k + slot_size ≤ slot i l) ⊎ (slot i l + slot_size ≤ slot j k)
  first true q = inl (omega (arith, ltb-true (slots_before j k) (slots_before i l) q))
  first false q = second (ltb (slots_before i l) (slots_before j k)) refl (ltb-false (slots_before j k) (slots_before i l) q)

-- WHAT STANDS IN A SLOT

-- The report of the bytes at the front, with its panel.
report-take : (m : ℕ) (l : List ℕ) → report_of true (take (stored_report + m) l) ≡ report_of true l
unfolding report_of word
report-take m l =
    let w : stored_report + m ≡ 2 + (2 + m) = omega arith in
    let d : drop 2 (take (stored_report + m) l) ≡ take (2 + m) (drop 2 l) = ap (λ (i : ℕ). drop 2 (take i l)) w ∙ drop-take 2 (2 + m) l in
    rw (d, get_or-take (4 + m) l 0 0 (omega arith), get_or-take (4 + m) l 1 0 (omega arith), get_or-take (2 + m) (drop 2 l) 0 0 (omega arith), get_or-take (2 + m) (drop 2 l) 1 0 (omega arith)) refl

-- The bytes at a, for a clock of m stations, are s.
module _ (m a : ℕ) (t s : List ℕ) (e : take (stored_report + m) (drop a t) ≡ s) where
  pub report-at : report_of true (drop a t) ≡ report_of true s
  report-at = sym (report-take m (drop a t)) ∙ ap (report_of true) e

  pub clock-at : (n : ℕ) → n ≤ m → take n (drop (a + stored_report) t) ≡ take n (drop stored_report s)
  clock-at n h =
      ap (take n) (sym (drop-drop stored_report a t)) ∙ sym (take-take n m (drop stored_report (drop a t)) h)
      ∙ ap (take n) (sym (drop-take stored_report m (drop a t)) ∙ ap (drop stored_report) e)

-- Where the bytes of a slot stay, its report and its clock do.
module _ (a : ℕ) (t t' : List ℕ) (e : take slot_size (drop a t') ≡ take slot_size (drop a t)) where
  pub same_report : report_of true (drop a t') ≡ report_of true (drop a t)
  same_report = report-at limits.stations a t' (take slot_size (drop a t)) e ∙ report-take limits.stations (drop a t)

  pub same_clock : (n : ℕ) → n ≤ limits.stations → take n (drop (a + stored_report) t') ≡ take n (drop (a + stored_report) t)
  same_clock n h =
      clock-at limits.stations a t' (take slot_size (drop a t)) e n h
      ∙ sym (clock-at limits.stations a t (take slot_size (drop a t)) refl n h)

-- A report is put, and a clock behind it.
pub slot-put : (d x y r b v : List ℕ) (a : ℕ) → a ≤ length d → length b ≡ stored_report → r ≡ b → x ≡ put_of d a r → y ≡ put_of x (a + stored_report) v → y ≡ put_of d a (b ++ v)
slot-put d x y r b v a h l e p q = rw (q, p, e, ← l) (put-put d b v a h)

-- What was put is the report that it was made of, and the clock.
pub report_back : (p : Bool) (f v : List ℕ) → report_of true (report_bytes p f ++ v) ≡ report_of p f
unfolding report_of word
report_back true f v = rw (get_or-drop 2 f 0 0, get_or-drop 2 f 1 0) refl
report_back false f v = refl

pub clock_back : (p : Bool) (f v : List ℕ) → drop stored_report (report_bytes p f ++ v) ≡ v
clock_back true f v = refl
clock_back false f v = refl

pub length-report : (p : Bool) (f : List ℕ) → length (report_bytes p f) ≡ stored_report
length-report true f = refl
length-report false f = refl
