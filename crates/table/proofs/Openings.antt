-- Laws of the first slots: one more stands once its bytes are put at its place. Assumes nothing.
use mathlib.Core.Path.{◌≡◌, refl, ◌∙◌}
use mathlib.Core.Bool.{Bool, true, false}
use mathlib.Core.List.{List}
use Prim.Native.Nat.{ℕ, ◌+◌, ◌<◌, ◌≤◌}
use native.Mathlib.Omega.{arith}
use lib.Dec.{eqb}
use borrow.Author.Tests.{eqb-true, eqb-false}
use lib.ListN.{length, take, drop}
use Rattle.model.specs.Limits.{limits, slot_size, store_size}
use Rattle.cells.specs.Put.{put_of}
use Rattle.table.specs.Table.{slot}
use Rattle.table.specs.Opening.{opening, Open}
use Rattle.table.proofs.Parts.{part_same, part_other}
use Rattle.table.proofs.Slots.{apart}

length-opening : (p : Bool) (f : List ℕ) (j : ℕ) → length (opening p f j) ≡ slot_size
length-opening true f j = refl
length-opening false f j = refl

pub open_none : {p : Bool} {f t : List ℕ} → Open p f 0 t
open_none = record { at = λ j h. absurd (omega arith) }

pub open_more : {p : Bool} {f t : List ℕ} {j : ℕ} (t' : List ℕ) → j < limits.stations → length t ≡ store_size → Open p f j t → t' ≡ put_of t (slot j 0) (opening p f j) → Open p f (j + 1) t'
open_more {p} {f} {t} {j} t' l long o e = record { at = λ i h. rw e (case i h (eqb i j) refl) } where
  sized : length (opening p f j) ≡ slot_size
  sized = length-opening p f j

  case : (i : ℕ) → i < j + 1 → (b : Bool) → eqb i j ≡ b → take slot_size (drop (slot i 0) (put_of t (slot j 0) (opening p f j))) ≡ opening p f i
  case i h true q = let z : i ≡ j = eqb-true i j q in rw z (part_same t (opening p f j) (slot j 0) (omega (arith, sized)) slot_size sized)
  case i h false q =
      part_other t (opening p f j) (slot j 0) (omega (arith, sized)) (slot i 0) slot_size (omega arith) (rw sized (apart i 0 j 0 (omega arith) (omega arith) (λ z. eqb-false i j q z.0)))
      ∙ o.at i (omega (arith, eqb-false i j q))

pub open_all : {p : Bool} {f t : List ℕ} {j n : ℕ} → j ≤ n → n ≤ j → Open p f j t → Open p f n t
open_all a b o = record { at = λ i h. o.at i (omega arith) }
