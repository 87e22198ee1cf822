-- Clocks one after another in a workspace are there as rows, and those of all stations as the rows of a structure. Assumes nothing.
use mathlib.Core.Path.{◌≡◌, refl}
use mathlib.Core.List.{List, [], ◌∷◌, ◌++◌, map, append_assoc}
use mathlib.Core.Option.{some}
use Prim.Native.Nat.{ℕ, suc, ◌*◌, ◌≤◌, ◌<◌}
use native.Mathlib.Omega.{arith}
use native.Mathlib.Nat.{suc-mul}
use lib.ListN.{length, get_or, length-append}
use lib.Seq.{take_at, drop_at}
use borrow.Author.Tests.{ne_eqb}
use Rattle.model.specs.Limits.{limits}
use Rattle.model.specs.Cut.{Cut}
use Rattle.model.specs.Computation.{Event, no_event}
use Rattle.structure.specs.Layout.{decoded, rows_at, stations_at}
use Rattle.layout.proofs.Turns.{spread}

-- A clock of n entries of which the first is no 255.
pub record Row (n : ℕ) (v : Cut) : Type 0 where
  pub long : length v ≡ n
  pub there : get_or v 0 0 ≤ limits.events

abbrev pub Rows : ℕ → List Event → Type 0
Rows n l = (k : ℕ) → k < length l → Row n (get_or l k no_event).clock

abbrev pub clocks : List Event → List ℕ
clocks l = spread (λ (v : Event). v.clock) l

module _ (n : ℕ) where
  row-there : (v : Cut) → Row n v → decoded v ≡ some v
  unfolding decoded
  row-there v r = rw (ne_eqb (get_or v 0 0) 255 (λ e. omega (arith, r.there)))

  clocks-long : (l : List Event) → Rows n l → length (clocks l) ≡ length l * n
  unfolding spread
  clocks-long [] h = omega arith
  clocks-long (v ∷ l) h = rw (length-append v.clock (clocks l), suc-mul (length l) n, (h 0 (omega arith)).long, clocks-long l (λ k b. h (suc k) (omega arith))) (omega arith)

  rows_are : (l : List Event) (rest : List ℕ) → Rows n l → rows_at n (length l) (clocks l ++ rest) ≡ map (λ (v : Event). some v.clock) l
  unfolding spread rows_at
  rows_are [] rest h = refl
  rows_are (v ∷ l) rest h =
      let r : Row n v.clock = h 0 (omega arith) in
      rw (append_assoc v.clock (clocks l) rest, take_at v.clock (clocks l ++ rest) n r.long, drop_at v.clock (clocks l ++ rest) n r.long, row-there v.clock r, rows_are l rest (λ k b. h (suc k) (omega arith)))

  pub stations_are : (ls : List (List Event)) (rest : List ℕ) → ((j : ℕ) → j < length ls → Rows n (get_or ls j [])) → stations_at n (map length ls) (spread clocks ls ++ rest) ≡ map (map (λ (v : Event). some v.clock)) ls
  unfolding spread stations_at
  stations_are [] rest h = refl
  stations_are (l ∷ ls) rest h =
      let r : Rows n l = h 0 (omega arith) in
      rw (append_assoc (clocks l) (spread clocks ls) rest, rows_are l (spread clocks ls ++ rest) r, drop_at (clocks l) (spread clocks ls ++ rest) (length l * n) (clocks-long l r), stations_are ls rest (λ j b. h (suc j) (omega arith)))
