-- Laws of reading and writing a row of a table.
use mathlib.Core.Path.{◌≡◌, ap, ◌∙◌, subst}
use Prim.Native.Nat.{ℕ, ◌+◌, ◌*◌, ◌≤◌, ◌<◌}
use native.Mathlib.Omega.{arith}
use native.Mathlib.Decide.{dec_lt}
use mathlib.Core.List.{List}
use mathlib.Core.Option.{Option}
use Rattle.std.proofs.lemmas.Grind.{common_steps}
use lib.ListN.{length, get_or, take, drop, length-drop}
use lib.Seq.{paste, get_or-take, get_or-drop, take_all, length-take-le}
use Rattle.model.specs.Cut.{Cut}
use Rattle.model.specs.Computation.{Computation, count}
use Rattle.cells.proofs.Parts.{part_same, paste_front, paste_part, paste_behind}
use Rattle.slots.specs.Slots.{number, Says, Slots}
use Rattle.picking.specs.Rows.{row_of}

pub row_cell : (table : List ℕ) (i p : ℕ) → p < 8 → get_or (row_of table i) p 0 ≡ get_or table (i * 8 + p) 0
row_cell table i p h = get_or-take 8 (drop (i * 8) table) p 0 h ∙ get_or-drop (i * 8) table p 0

pub row_first : (table : List ℕ) (i : ℕ) → get_or (row_of table i) 0 0 ≡ get_or table (i * 8) 0
row_first table i = let e : i * 8 + 0 ≡ i * 8 = omega arith in row_cell table i 0 (omega arith) ∙ ap (λ (y : ℕ). get_or table y 0) e

-- The row of an event.
pub slot_row : (K : Computation) (R : ℕ → ℕ → Option Cut) (table : List ℕ) (j k i : ℕ) → Slots K R table → k ≤ count K j → i ≡ number K j k → Says K (R j k) (row_of table i)
slot_row K R table j k i t h e = let p : 8 * number K j k ≡ i * 8 = omega arith in subst (λ (y : ℕ). Says K (R j k) (take 8 (drop y table))) p (t j k h)

pub row-length : (table : List ℕ) (i : ℕ) → length table ≡ 2048 → i < 256 → length (row_of table i) ≡ 8
row-length table i l h = length-take-le 8 (drop (i * 8) table) (omega (arith, length-drop (i * 8) table))

-- A row copied to eight cells.
pub row_copied : (table l l₂ : List ℕ) (i : ℕ) → length l ≡ 8 → l₂ ≡ paste l 0 (drop (i * 8) table) 8 → l₂ ≡ row_of table i
row_copied table l l₂ i h e = grind (arith, common_steps, e)

-- A row written.
module _ (table a : List ℕ) (v : ℕ) (l : length table ≡ 2048) (h : v < 256) (m : length a ≡ 8) where
  abbrev put : List ℕ
  put = paste table (v * 8) a 8

  pub row_new : row_of put v ≡ a
  row_new = paste_part table (v * 8) a 8 (omega arith) (omega arith) ∙ take_all 8 a (omega arith)

  pub row-front : take (v * 8) put ≡ take (v * 8) table
  row-front = paste_front table (v * 8) a 8 (omega arith) (omega arith)

  pub row_old : (i : ℕ) → (i ≡ v → ⊥) → row_of put i ≡ row_of table i
  row_old i f = go (dec_lt i v)
    where
      far : (i v : ℕ) → (i ≡ v → ⊥) → (i < v → ⊥) → v * 8 + 8 ≤ i * 8
      far i v f g = omega arith

      go : Dec (i < v) → row_of put i ≡ row_of table i
      go (yes q) = part_same (v * 8) put table row-front (i * 8) 8 (omega arith)
      go (no q) = ap (take 8) (paste_behind table (v * 8) a 8 (omega arith) (omega arith) (i * 8) (far i v f q))
