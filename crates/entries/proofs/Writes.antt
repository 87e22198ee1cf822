-- Laws of Write: the frames of a list tried one after another, and their lines put one after another. Assumes nothing.
use mathlib.Core.Path.{◌≡◌, refl, sym, ap, ◌∙◌}
use mathlib.Core.Bool.{true, false}
use mathlib.Core.List.{List, [], ◌∷◌, ◌++◌, map, append_assoc, append-nil}
use mathlib.Core.Option.{Option, none, some}
use Prim.Native.Nat.{ℕ, ◌+◌, ◌*◌, ◌<◌, ◌≤◌}
use native.Mathlib.Omega.{arith}
use borrow.Author.Tests.{le-leb, lt-leb}
use lib.ListN.{length, take, drop, get_or, length-append, length-drop}
use lib.Seq.{length-take-le}
use Rattle.model.specs.declared.Limits.{Limits}
use Rattle.model.specs.Bytes.{frame, line}
use Rattle.model.specs.Frames.{frames_of, log_of}
use Rattle.model.specs.Reading.{nothing, refused, read_items, read_frames, read_list}
use Rattle.model.specs.Reply.{number}
use Rattle.model.specs.declared.Fault.{Fault}
use Rattle.cells.specs.Put.{put_of}
use Rattle.cells.proofs.Puts.{length-put, put-nil, put-put}
use Rattle.codec.specs.Limits.{Suitable}
use Rattle.codec.proofs.Lines.{length-line}
use Rattle.codec.proofs.Sizes.{sizes}
use Rattle.load.specs.declared.Position.{Position}
use Rattle.frame.specs.declared.State.{State}
use Rattle.frame.specs.State.{Admitted, Faulty}
use Rattle.load.specs.Loading.{first, Sofar}
use Rattle.codec.specs.Entries.{formed, frames, Formed, entries}
use Rattle.entries.specs.Entries.{Partly, Allowed}
use Rattle.load.proofs.Loads.{sofar_of, sofar-more, sofar-ends, sofar-first, bounded-fresh, end_empty, end_all}
use Rattle.codec.proofs.Entries.{Entry, entry_at, taken, entries_end}

-- READING A LIST

pub list-long : (m : Limits) (list : List ℕ) → m.list < length list → read_list m list ≡ refused 14 0
unfolding read_list
list-long m list h = rw (lt-leb (length list) m.list h)

list_read : (m : Limits) (list : List ℕ) → length list ≤ m.list → read_list m list ≡ read_frames m (frames_of list)
unfolding read_list
list_read m list h = rw (le-leb (length list) m.list h)

pub list_unformed : (m : Limits) (list : List ℕ) → length list ≤ m.list → formed (frames_of list) ≡ false → read_list m list ≡ refused 14 0
unfolding read_frames
list_unformed m list h e = list_read m list h ∙ case (frames_of list) e where
  case : (o : Option (List (List ℕ))) → formed o ≡ false → read_frames m o ≡ refused 14 0
  case none e = refl
  case (some fs) e = let z : ◌≡◌ {A = ℕ} 0 1 = cc in absurd (omega arith)

pub list-formed : (m : Limits) (list : List ℕ) → length list ≤ m.list → Formed list → read_list m list ≡ read_items m 1 nothing (map frame (entries list))
unfolding read_frames
list-formed m list h e = list_read m list h ∙ case (frames_of list) e where
  case : (o : Option (List (List ℕ))) → formed o ≡ true → read_frames m o ≡ read_items m 1 nothing (map frame (frames o))
  case none e = let z : ◌≡◌ {A = ℕ} 0 1 = cc in absurd (omega arith)
  case (some fs) e = refl

-- ONE ENTRY

module _ {m : Limits} {list t : List ℕ} {p : Position} (w : Partly m list p t) (h : p.length < length list) (k : ℕ) (is : k ≡ get_or list p.length 0) where
  pub here : Entry list p.length k
  here = entry_at list p.length k h is w.rest_formed

  left : Sofar m (read_list m list) (frame (take k (drop (p.length + 1) list)) ∷ map frame (entries (drop (p.length + 1 + k) list))) p list t
  left = sofar_of (ap (map frame) here.is) w.sofar

  module _ {f : List ℕ} (same : f ≡ take k (drop (p.length + 1) list)) (t' : List ℕ) where
    pub entered_next : {s : State} → Admitted m p.state f t s t' → Partly m list (record { at = p.length + 1 + k; line = p.line + 1; length = p.length + 1 + k; state = s }) t'
    entered_next d = record {
      bounded = d.bounded;
      inside = here.room;
      low = omega (arith, w.low, here.low);
      rest_formed = here.rest_formed;
      sofar = sofar-more t' (rw same at d) (p.length + 1 + k) (p.length + 1 + k) list (taken list p.length k h is here.room) left;
    }

    pub entered_ends : {x : Fault} → Faulty m p.state f t x t' → read_list m list ≡ refused (number x) p.line
    entered_ends d = sofar-ends t' (rw same at d) left

-- ALL ENTRIES
pub partly_first : {m : Limits} (list t : List ℕ) → length list ≤ m.list → Formed list → Partly m list first t
partly_first {m} list t h e = record { bounded = bounded-fresh; inside = omega arith; low = omega arith; rest_formed = e; sofar = sofar-first list t (list-formed m list h e) }

module _ {m : Limits} {list t : List ℕ} {p : Position} (w : Partly m list p t) (h : length list ≤ p.length) where
  none_left : Sofar m (read_list m list) [] p list t
  none_left = sofar_of (ap (λ (o : Option (List (List ℕ))). map frame (frames o)) (entries_end list p.length h)) w.sofar

  pub tried_empty : p.state.stations ≡ 0 → read_list m list ≡ refused 4 1
  tried_empty e = end_empty none_left e

  pub tried_all : (p.state.stations ≡ 0 → ⊥) → Allowed m list
  tried_all e = record { reading = none_left.reading; is = end_all none_left e }

-- LINES

-- the lines before `rest` stand in out up to `end`
pub record Lined (list out₀ out rest : List ℕ) (end : ℕ) : Type 0 where
  pub rest_formed : Formed rest
  pub written : List ℕ
  pub whole : log_of (entries list) ≡ written ++ log_of (entries rest)
  pub is : out ≡ put_of out₀ 0 written
  pub ends : end ≡ length written
  pub fits : length (log_of (entries list)) ≤ length out₀

pub lined_none : (list out : List ℕ) → Formed list → length (log_of (entries list)) ≤ length out → Lined list out out list 0
lined_none list out e h = record { rest_formed = e; written = []; whole = refl; is = sym (put-nil out 0); ends = refl; fits = h }

module _ {list out₀ out rest : List ℕ} {end : ℕ} (w : Lined list out₀ out rest end) where
  within : length w.written ≤ length out₀
  within = omega (arith, w.fits, ap length w.whole, length-append w.written (log_of (entries rest)))

  pub lined_length : length out ≡ length out₀
  lined_length = ap length w.is ∙ length-put out₀ w.written 0 (omega (arith, within))

  module _ (h : 0 < length rest) (k : ℕ) (is : k ≡ get_or rest 0 0) where
    pub entry : Entry rest 0 k
    entry = entry_at rest 0 k h is w.rest_formed

    more-lines : log_of (entries rest) ≡ line (take k (drop 1 rest)) ++ log_of (entries (drop (1 + k) rest))
    unfolding log_of
    more-lines = ap log_of entry.is

    size : length (take k (drop 1 rest)) ≡ k
    size = length-take-le k (drop 1 rest) (omega (arith, length-drop 1 rest, entry.room))

    pub room : end + 2 * k + 3 ≤ length out
    room = omega (
      arith,
      lined_length,
      w.ends,
      w.fits,
      ap length w.whole,
      length-append w.written (log_of (entries rest)),
      ap length more-lines,
      length-append (line (take k (drop 1 rest))) (log_of (entries (drop (1 + k) rest))),
      length-line (take k (drop 1 rest)),
      size,
    )

    pub lined_more : Lined list out₀ (put_of out end (line (take k (drop 1 rest)))) (drop (1 + k) rest) (end + length (line (take k (drop 1 rest))))
    lined_more =
        let f = take k (drop 1 rest) in
        let z : end ≡ 0 + length w.written = omega (arith, w.ends) in
        record {
          rest_formed = entry.rest_formed;
          written = w.written ++ line f;
          whole = w.whole ∙ ap (λ (x : List ℕ). w.written ++ x) more-lines ∙ sym (append_assoc w.written (line f) (log_of (entries (drop (1 + k) rest))));
          is = rw (w.is, z) (put-put out₀ w.written (line f) 0 (omega arith));
          ends = omega (arith, w.ends, length-append w.written (line f));
          fits = w.fits;
        }

  pub lined_all : length rest ≡ 0 → (end ≡ length (log_of (entries list))) × (out ≡ put_of out₀ 0 (log_of (entries list)))
  unfolding log_of
  lined_all h =
      let z : log_of (entries list) ≡ w.written =
      w.whole ∙ ap (λ (o : Option (List (List ℕ))). w.written ++ log_of (frames o)) (entries_end rest 0 (omega arith)) ∙ append-nil w.written in
      (w.ends ∙ ap length (sym z), w.is ∙ ap (put_of out₀ 0) (sym z))

-- THE SIZE
module _ {m : Limits} (fit : Suitable m) {list : List ℕ} (h : length list ≤ m.list) (e : Formed list) (a : Allowed m list) where
  pub allowed_frames : (a.reading.frames ≡ entries list) × (length (log_of (entries list)) ≤ m.bytes)
  allowed_frames =
      let s = sizes fit a.reading (entries list) (sym (list-formed m list h e) ∙ a.is) in
      (s.0, s.2)
