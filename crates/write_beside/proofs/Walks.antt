-- A walk over a frame list: the lines of the part's frames before a place are written, those from there on are left. Assumes nothing.
use mathlib.Core.Path.{◌≡◌, refl, sym, ap, subst, ◌∙◌}
use mathlib.Core.Logic.{◌≢◌}
use mathlib.Core.List.{List, [], ◌∷◌, ◌++◌, map, append_assoc, append-nil}
use mathlib.Core.Option.{Option}
use Prim.Native.Nat.{ℕ, suc, ◌+◌, ◌≤◌}
use native.Mathlib.Omega.{arith}
use lib.ListN.{length, take, drop, get_or, length-append}
use lib.Seq.{length-take-le}
use Rattle.model.specs.Bytes.{line}
use Rattle.model.specs.Frames.{log_of}
use Rattle.model.specs.Merge.{of_kind}
use Rattle.lattice.proofs.Lists.{All}
use Rattle.lattice.proofs.Lists.All.{also}
use Rattle.codec.proofs.MergeParts.{kind-here, kind-past}
use Rattle.cells.specs.Put.{put_of}
use Rattle.cells.proofs.Puts.{length-put, put-nil, put-put}
use Rattle.codec.specs.Entries.{frames, Formed, entries}
use Rattle.codec.proofs.Entries.{Entry, entry_at, entries_end}
use Rattle.write_beside.specs.declared.Side.{Side}
use Rattle.write_beside.specs.declared.Part.{Part}
use Rattle.write_beside.specs.Moved.{kind, moved, part_of, Fits}

-- The frames of the part before `rest` are written from `at` to `end`.
pub record Walked (part : Part) (side : Side) (list out₀ : List ℕ) (at : ℕ) (out rest : List ℕ) (end : ℕ) : Type 0 where
  pub rest_formed : Formed rest
  pub rest-fits : All (Fits part side) (of_kind (kind part) (entries rest))
  pub written : List ℕ
  pub whole : part_of part side list ≡ written ++ part_of part side rest
  pub is : out ≡ put_of out₀ at written
  pub ends : end ≡ at + length written
  pub room : at + length (part_of part side list) ≤ length out₀

pub walked_none : (part : Part) (side : Side) (list out : List ℕ) (at : ℕ) → Formed list → All (Fits part side) (of_kind (kind part) (entries list)) → at + length (part_of part side list) ≤ length out
    → Walked part side list out at out list at
walked_none part side list out at f h r = record { rest_formed = f; rest-fits = h; written = []; whole = refl; is = sym (put-nil out at); ends = omega arith; room = r }

module _ {part : Part} {side : Side} {list out₀ out rest : List ℕ} {at end : ℕ} (w : Walked part side list out₀ at out rest end) where
  within : at + length w.written + length (part_of part side rest) ≤ length out₀
  within = omega (arith, w.room, ap length w.whole, length-append w.written (part_of part side rest))

  pub walked_length : length out ≡ length out₀
  walked_length = ap length w.is ∙ length-put out₀ w.written at (omega (arith, within))

  pub walked_all : length rest ≡ 0 → (end ≡ at + length (part_of part side list)) × (out ≡ put_of out₀ at (part_of part side list))
  unfolding log_of of_kind
  walked_all h =
      let z : part_of part side list ≡ w.written = w.whole ∙ ap (λ (o : Option (List (List ℕ))). w.written ++ log_of (map (moved part side) (of_kind (kind part) (frames o)))) (entries_end rest 0 (omega arith)) ∙ append-nil w.written in
      (w.ends ∙ ap (λ (l : List ℕ). at + length l) (sym z), w.is ∙ ap (put_of out₀ at) (sym z))

-- The walk stands at a frame f of k bytes; the list goes on with `after`.
pub record Meets (part : Part) (side : Side) (list out₀ : List ℕ) (at : ℕ) (out rest : List ℕ) (end k : ℕ) (behind : List ℕ) : Type 0 where
  pub walked : Walked part side list out₀ at out rest end
  pub splits : rest ≡ k ∷ behind

module _ {part : Part} {side : Side} {list out₀ out rest behind : List ℕ} {at end k : ℕ} (m : Meets part side list out₀ at out rest end k behind) where
  entry-here : Entry rest 0 k
  entry-here = entry_at rest 0 k (omega (arith, ap length m.splits)) (sym (ap (λ (l : List ℕ). get_or l 0 0) m.splits)) m.walked.rest_formed

  pub low : 1 ≤ k
  low = entry-here.low

  pub room : k ≤ length behind
  room = omega (arith, entry-here.room, ap length m.splits)

  later : drop (0 + 1 + k) rest ≡ drop k behind
  later =
      let e : 0 + 1 + k ≡ suc k = omega arith in
      rw (e, m.splits)

  after-formed : Formed (drop k behind)
  after-formed = rw later at entry-here.rest_formed

  met : entries rest ≡ take k behind ∷ entries (drop k behind)
  met = entry-here.is ∙ rw (later, m.splits)

  -- It is one of the part, or not.
  module _ (own : get_or (take k behind) 0 0 ≡ kind part) where
    found : of_kind (kind part) (entries rest) ≡ drop 1 (take k behind) ∷ of_kind (kind part) (entries (drop k behind))
    found = ap (of_kind (kind part)) met ∙ kind-here (kind part) (take k behind) (entries (drop k behind)) (omega (arith, length-take-le k behind room, low)) own

    both : All (Fits part side) (drop 1 (take k behind) ∷ of_kind (kind part) (entries (drop k behind)))
    both = subst (All (Fits part side)) found m.walked.rest-fits

    pub fits-here : Fits part side (drop 1 (take k behind))
    fits-here = by both
      where
        by : {x : List ℕ} {l : List (List ℕ)} → All (Fits part side) (x ∷ l) → Fits part side x
        by (also p q) = p

    fits-later : All (Fits part side) (of_kind (kind part) (entries (drop k behind)))
    fits-later = by both
      where
        by : {x : List ℕ} {l : List (List ℕ)} → All (Fits part side) (x ∷ l) → All (Fits part side) l
        by (also p q) = q

    lines : part_of part side rest ≡ line (moved part side (drop 1 (take k behind))) ++ part_of part side (drop k behind)
    unfolding log_of
    lines = ap (λ (l : List (List ℕ)). log_of (map (moved part side) l)) found

    pub room-here : end + length (line (moved part side (drop 1 (take k behind)))) ≤ length out
    room-here = omega (arith, walked_length m.walked, within m.walked, m.walked.ends, ap length lines, length-append (line (moved part side (drop 1 (take k behind)))) (part_of part side (drop k behind)))

    pub walked_more : (out' : List ℕ) (end' : ℕ) → end' ≡ end + length (line (moved part side (drop 1 (take k behind)))) → out' ≡ put_of out end (line (moved part side (drop 1 (take k behind)))) → Walked part side list out₀ at out' (drop k behind) end'
    walked_more out' end' a b =
        let l = line (moved part side (drop 1 (take k behind))) in
        record {
          rest_formed = after-formed;
          rest-fits = fits-later;
          written = m.walked.written ++ l;
          whole = m.walked.whole ∙ ap (λ (x : List ℕ). m.walked.written ++ x) lines ∙ sym (append_assoc m.walked.written l (part_of part side (drop k behind)));
          is = b ∙ rw (m.walked.is, m.walked.ends) (put-put out₀ m.walked.written l at (omega (arith, within m.walked)));
          ends = a ∙ omega (arith, m.walked.ends, length-append m.walked.written l);
          room = m.walked.room;
        }

  module _ (other : get_or (take k behind) 0 0 ≢ kind part) where
    passed : of_kind (kind part) (entries rest) ≡ of_kind (kind part) (entries (drop k behind))
    passed = ap (of_kind (kind part)) met ∙ kind-past (kind part) (take k behind) (entries (drop k behind)) (omega (arith, length-take-le k behind room, low)) other

    pub walked_past : Walked part side list out₀ at out (drop k behind) end
    walked_past = record {
      rest_formed = after-formed;
      rest-fits = subst (All (Fits part side)) passed m.walked.rest-fits;
      written = m.walked.written;
      whole = m.walked.whole ∙ ap (λ (l : List (List ℕ)). m.walked.written ++ log_of (map (moved part side) l)) passed;
      is = m.walked.is;
      ends = m.walked.ends;
      room = m.walked.room;
    }
