-- The bytes of a moved event, put one list after the other at the front of an array; those of a message and of a question. Assumes nothing.
use mathlib.Core.Path.{◌≡◌, refl, ap, ◌∙◌}
use mathlib.Core.List.{List, [], ◌∷◌, ◌++◌, append_assoc}
use Prim.Native.Nat.{ℕ, ◌+◌, ◌-◌, ◌≤◌, ◌<◌}
use native.Mathlib.Omega.{arith}
use lib.ListN.{length, take, drop, set, get_or, length-append, length-drop, length-replicate}
use lib.Seq.{get_or-drop, drop-cons, drop-drop}
use Rattle.model.specs.Bytes.{line}
use Rattle.model.specs.Cut.{empty}
use Rattle.model.specs.Reading.{report_size}
use Rattle.model.specs.Merge.{report_bytes, event_bytes, message_bytes}
use Rattle.cells.specs.Put.{put_of}
use Rattle.cells.proofs.Puts.{put_two, put-put}
use Rattle.codec.proofs.MergeBytes.{length-report, length-event}
use Rattle.write_beside.specs.declared.Side.{Side}
use Rattle.write_beside.specs.declared.Part.{Part}
use Rattle.write_beside.specs.declared.Part.TheVariants.{Events, Messages, Questions}
use Rattle.write_beside.specs.Moved.{event_size, Covered, kind, moved, Fits}
use Rattle.write_beside.proofs.Lines.{put_taken}

-- AT THE FRONT

-- x is d with the k bytes of s at its front.
record Begins (d s x : List ℕ) (k : ℕ) : Type 0 where
  pub is : x ≡ put_of d 0 s
  pub ends : k ≡ length s

-- One list more behind them.
begins_more : {d s x : List ℕ} {k : ℕ} → Begins d s x k → (t y : List ℕ) (e : ℕ) → y ≡ put_of x k t → e ≡ k + length t → Begins d (s ++ t) y e
begins_more {d} {s} {x} {k} b t y e u l =
    let z : k ≡ 0 + length s = omega (arith, b.ends) in
    record {
      is = u ∙ rw (b.is, z) (put-put d s t 0 (omega arith));
      ends = omega (arith, l, b.ends, length-append s t);
    }

begins_all : {d s x : List ℕ} {k : ℕ} → Begins d s x k → take k x ≡ s
begins_all {d} {s} {x} {k} b = ap (take k) b.is ∙ put_taken d s k b.ends

-- EVENTS

module _ (s : Side) (frame : List ℕ) (h : Fits Events s (drop 1 frame)) where
  -- the clock
  abbrev own : List ℕ
  own = drop (2 + report_size s.panelled) frame

  pub event-long : 2 + report_size s.panelled ≤ length frame
  event-long = omega (arith, h.0, length-drop 1 frame)

  pub event-station : s.before + get_or frame 1 0 < 256
  event-station = omega (arith, h.1, get_or-drop 1 frame 0 0)

  -- kind, station, report, zeros, clock, zeros
  event-is : (((((0x20 ∷ (s.before + get_or frame 1 0) ∷ []) ++ report_bytes s.panelled s.carried (drop 2 frame)) ++ empty s.before) ++ own) ++ empty s.behind) ≡ moved Events s (drop 1 frame)
  unfolding event_bytes
  event-is =
      let e : 1 + (1 + report_size s.panelled) ≡ 2 + report_size s.panelled = omega arith in
      rw (get_or-drop 1 frame 0 0, drop-drop 1 1 frame, drop-drop (1 + report_size s.panelled) 1 frame, e) (simp append_assoc)

  module _ (c : Covered s) where
    -- room for all of it
    pub event-room : 2 + report_size s.carried + s.before + length own + s.behind ≤ event_size
    event-room =
        let n = length frame - (2 + report_size s.panelled) in
        let l : length (drop 1 frame) ≡ 1 + report_size s.panelled + n = omega (arith, event-long, length-drop 1 frame) in
        omega (arith, h.2, length-event s.panelled s.carried c s.before s.behind n (drop 1 frame) l, length-drop (2 + report_size s.panelled) frame)

    pub clock-room : (m : ℕ) → m ≡ report_size s.panelled → 2 + report_size s.carried + s.before + length (drop (2 + m) frame) + s.behind ≤ event_size
    clock-room m e = rw e event-room

    -- what the calls leave behind, in their order
    pub event-moved : (d x₁ x₂ x₃ x₄ : List ℕ) (k₁ k₂ k₃ k₄ m : ℕ) → m ≡ report_size s.panelled → length d ≡ event_size
        → x₁ ≡ put_of (set (set d 0 0x20) 1 (s.before + get_or frame 1 0)) 2 (report_bytes s.panelled s.carried (drop 2 frame)) → k₁ ≡ 2 + report_size s.carried
        → x₂ ≡ put_of x₁ k₁ (empty s.before) → k₂ ≡ k₁ + s.before
        → x₃ ≡ put_of x₂ k₂ (drop (2 + m) frame) → k₃ ≡ k₂ + length (drop (2 + m) frame)
        → x₄ ≡ put_of x₃ k₃ (empty s.behind) → k₄ ≡ k₃ + s.behind
        → (k₄ ≡ length (moved Events s (drop 1 frame))) × (take k₄ x₄ ≡ moved Events s (drop 1 frame))
    event-moved d x₁ x₂ x₃ x₄ k₁ k₂ k₃ k₄ m e size u₁ e₁ u₂ e₂ u₃ e₃ u₄ e₄ =
        let l = length-report s.panelled s.carried c (drop 2 frame) (omega (arith, length-drop 2 frame, event-long)) in
        let b₀ : Begins d (0x20 ∷ (s.before + get_or frame 1 0) ∷ []) (set (set d 0 0x20) 1 (s.before + get_or frame 1 0)) 2 =
        record { is = put_two d 0 0x20 (s.before + get_or frame 1 0) (omega (arith, size)); ends = refl } in
        let b₁ = begins_more b₀ (report_bytes s.panelled s.carried (drop 2 frame)) x₁ k₁ u₁ (omega (arith, e₁, l)) in
        let b₂ = begins_more b₁ (empty s.before) x₂ k₂ u₂ (omega (arith, e₂, length-replicate {A = ℕ} s.before 0)) in
        let b₃ = begins_more b₂ own x₃ k₃ (rw e at u₃) (rw e at e₃) in
        let b₄ = begins_more b₃ (empty s.behind) x₄ k₄ u₄ (omega (arith, e₄, length-replicate {A = ℕ} s.behind 0)) in
        (b₄.ends ∙ ap length event-is, begins_all b₄ ∙ event-is)

-- MESSAGES

module _ (s : Side) (frame : List ℕ) where
  pub message_is : 0x25 ∷ (s.before + get_or frame 1 0) ∷ get_or frame 2 0 ∷ (s.before + get_or frame 3 0) ∷ get_or frame 4 0 ∷ [] ≡ moved Messages s (drop 1 frame)
  unfolding message_bytes
  message_is = rw (get_or-drop 1 frame 0 0, get_or-drop 1 frame 1 0, get_or-drop 1 frame 2 0, get_or-drop 1 frame 3 0) refl

  module _ (h : Fits Messages s (drop 1 frame)) where
    pub message_long : 4 < length frame
    message_long = omega (arith, h.0, length-drop 1 frame)

    pub message_sender : s.before + get_or frame 1 0 < 256
    message_sender = omega (arith, h.1, get_or-drop 1 frame 0 0)

    pub message_receiver : s.before + get_or frame 3 0 < 256
    message_receiver = omega (arith, h.2, get_or-drop 1 frame 2 0)

-- QUESTIONS

pub question-is : (s : Side) (frame : List ℕ) (p : Part) → p ≡ Questions → 1 ≤ length frame → get_or frame 0 0 ≡ kind p → frame ≡ moved p s (drop 1 frame)
question-is s frame p e l k = rw e (drop-cons frame 0 0 (omega arith) ∙ ap (λ (x : ℕ). x ∷ drop 1 frame) (rw e at k))

-- A PART BY ITS NAME

module _ (p q : Part) (e : p ≡ q) (s : Side) (f : List ℕ) where
  pub moved_as : moved q s f ≡ moved p s f
  moved_as = rw e refl

  pub part_as : Fits p s f → (at n : ℕ) → at + length (line (moved p s f)) ≤ n → Fits q s f × (at + length (line (moved q s f)) ≤ n)
  part_as h at n l = (rw e at h, rw (← moved_as) at l)
