-- What the ways to the intersection of a pair are given: both sets in tables, or one of them by its station.
use mathlib.Core.Path.{◌≡◌, sym, ap, subst, ◌∙◌}
use Prim.Native.Nat.{ℕ, ◌+◌, ◌-◌, ◌*◌, ◌≤◌, ◌<◌}
use native.Mathlib.Omega.{arith}
use mathlib.Core.List.{List, ◌++◌}
use mathlib.Core.Option.{Option}
use Rattle.std.specs.Prelude.{Some}
use lib.ListN.{length, get_or, take, drop, length-drop}
use lib.Seq.{take_at, drop_at, length-take-le}
use borrow.Rule.Slice.PartMut.{put_mid}
use Rattle.model.specs.Cut.{Cut}
use Rattle.model.specs.Computation.{Computation, stations, event_count}
use Rattle.model.specs.Structure.{Structure, row}
use Rattle.cells.proofs.Parts.{put_end}
use Rattle.structure.specs.declared.Shape.{Shape}
use Rattle.structure.proofs.Places.{one_more, next_fits}
use Rattle.slots.specs.Slots.{Code, Small, Slots, Rows, Offsets}
use Rattle.slots.specs.Pair.{Both, Intersected}
use Rattle.rounds.specs.Pair.{Known}
use Rattle.picking.specs.Formed.{Formed}
use Rattle.chains.specs.Known.{RightKnown, LeftKnown}
use Rattle.pair.specs.declared.Pair.{Pair}
use Rattle.pair.specs.Post.{structure_of, Placed, OnePair, IntersectedAt}
use Rattle.pair.proofs.Tables.{structure_rows, offsets_are}

module _ {x : Shape} {p : Pair} {w : List ℕ} (r : Placed x p w) where
  abbrev size : ℕ
  size = (x.e + 1) * x.n

  abbrev at : ℕ
  at = p.to * size

  -- The right structure lies before the new one, which lies within the workspace.
  pub right-before : p.right * size + size ≤ at
  right-before = next_fits p.right p.to size r.right

  pub new-fits : at + size ≤ length w
  new-fits = omega (arith, one_more p.to size, r.cells_fit)

  pub part_fits : size ≤ length (take (length w - at) (drop at w))
  part_fits = omega (arith, length-take-le (length w - at) (drop at w) (omega (arith, length-drop at w)), new-fits)

  -- What was written from the place of the new structure on.
  pub from_there : {left first part : List ℕ} {rounds : ℕ}
      → ((b : List ℕ) (K : Computation) → OnePair x p left first w b K → Intersected K (structure_of x.n x.e K w b p.left) (structure_of x.n x.e K w b p.right) x.n part rounds)
      → rounds ≤ (x.e + 1) * (x.e + 5) → IntersectedAt x p left first w (put_mid at (length w - at) w part) rounds
  from_there {part = part} {rounds = rounds} f h =
      let whole : put_mid at (length w - at) w part ≡ take at w ++ part = put_end at w part (omega (arith, new-fits)) in
      let long : length (take at w) ≡ at = length-take-le at w (omega (arith, new-fits)) in
      record {
        is = λ b K g.
            subst (λ (l : List ℕ). Intersected K (structure_of x.n x.e K w b p.left) (structure_of x.n x.e K w b p.right) x.n l rounds)
            (sym (ap (drop at) whole ∙ drop_at (take at w) part at long)) (f b K g);
        small = h;
        front = ap (take at) whole ∙ take_at (take at w) part at long;
      }

module _ {x : Shape} {p : Pair} {left first w b : List ℕ} {K : Computation} (h : OnePair x p left first w b K) where
  abbrev S : Structure
  S = structure_of x.n x.e K w b p.left

  abbrev T : Structure
  T = structure_of x.n x.e K w b p.right

  formed : Formed K x
  formed = record { small = h.begun.small; stationed = h.begun.stationed; counted = h.begun.counted; counts_are = h.begun.counts_are }

  right-rows : Rows K (row T) x.n (p.right * ((x.e + 1) * x.n)) w
  right-rows = structure_rows K h.begun.small x.n x.e h.begun.stationed w b p.right h.good_right

  pub right-known : {s : ℕ} → p.rightmark ≡ Some s → RightKnown K S T x s (p.right * ((x.e + 1) * x.n)) w left first
  right-known {s = s} e = record {
    formed = formed;
    good_left = h.good_left;
    good_right = h.good_right;
    slots_left = h.slots_left;
    rows_right = right-rows;
    clocks_are = h.begun.clocks_are;
    of_station = h.mark_right s e;
  }

  -- The right structure put into a table.
  module _ (code : Code) (right : List ℕ) (c : (i : ℕ) → i < x.n → get_or code.before i 0 ≡ get_or x.offs i 0)
      (t : (R : ℕ → ℕ → Option Cut) → Small K → stations K ≡ x.n → event_count K ≡ x.e → Offsets K code → Rows K R x.n (p.right * ((x.e + 1) * x.n)) w → Slots K R right) where
    offsets : Offsets K code
    offsets = offsets_are x K code h.begun.stationed h.begun.offs_are c

    both : Both K S T left right
    both = record {
      small = h.begun.small;
      good_left = h.good_left;
      good_right = h.good_right;
      slots_left = h.slots_left;
      slots_right = t (row T) h.begun.small h.begun.stationed h.begun.counted offsets right-rows;
    }

    pub left-known : {s : ℕ} → p.leftmark ≡ Some s → LeftKnown K S T x s left right first
    left-known {s = s} e = record { formed = formed; both = both; clocks_are = h.begun.clocks_are; of_station = h.mark_left s e }

    pub both-known : Known K S T x.n x.e left right first code
    both-known = record { both = both; clocks_are = h.begun.clocks_are; offsets = offsets; stationed = h.begun.stationed; counted = h.begun.counted }
