-- The header, then part by part: what is written is always a front of the whole, and the whole is the merged log. Assumes nothing.
use mathlib.Core.Path.{◌≡◌, refl, sym, ap, ◌∙◌}
use Prim.Native.Nat.{ℕ, ◌+◌, ◌≤◌}
use native.Mathlib.Omega.{arith}
use mathlib.Core.List.{List, [], ◌++◌, append-nil}
use lib.ListN.{length, get_or, length-append}
use Rattle.model.specs.Bytes.{line}
use Rattle.model.specs.Reading.{Reading}
use Rattle.model.specs.Operations.{merged_log}
use Rattle.write_beside.specs.declared.Side.{Side}
use Rattle.write_beside.specs.declared.Part.TheVariants.{Events, Messages, Questions}
use Rattle.write_beside.specs.Moved.{part_of, header_of}
use Rattle.cells.specs.Put.{put_of}
use Rattle.op_merge.specs.Opened.{Opened, first_side, second_side, Fitting}
use Rattle.op_merge.proofs.Sides.{opened-formed, opened_indexed, front-is, parts, parts_read, first-covered, second-covered, first-events, second-events, first-messages, second-messages, questions-fit, both_headers, parts-short}
use Rattle.op_merge.proofs.Writes.{Wrote, wrote_first, wrote_room, wrote_more, wrote_all}
use Rattle.op_merge.proofs.put_frames.Goals as goal
use Rattle.op_merge.proofs.put_frames.Goals.{After-frame_at-2}

pub frame_at-requires : goal.frame_at-requires
frame_at-requires c = opened_indexed c.requires.fitting.opens

pub frame_at-requires-2 : goal.frame_at-requires-2
frame_at-requires-2 c = opened_indexed c.requires.fitting.opens_second

-- WHAT IS WRITTEN, named where the header is

abbrev one : After-frame_at-2 → Side
one c = record { panelled = c.args.s.panelled; carried = c.carried-carried.result; before = 0; behind = c.args.t.stations }

abbrev two : After-frame_at-2 → Side
two c = record { panelled = c.args.t.panelled; carried = c.carried-carried.result; before = c.args.s.stations; behind = 0 }

abbrev list : After-frame_at-2 → List ℕ
list c = c.args.list.now

abbrev more : After-frame_at-2 → List ℕ
more c = c.args.more.now

abbrev out₀ : After-frame_at-2 → List ℕ
out₀ c = c.args.out.now

abbrev front : After-frame_at-2 → List ℕ
front c = c.frame_at.result.now

abbrev other : After-frame_at-2 → List ℕ
other c = c.frame_at-2.result.now

-- The parts in their order, all that is written, what is written before each part, and what is left from it on.
abbrev header : After-frame_at-2 → List ℕ
header c = line (header_of (one c) (front c) (two c) (other c))

abbrev events : After-frame_at-2 → List ℕ
events c = part_of Events (one c) (list c)

abbrev events' : After-frame_at-2 → List ℕ
events' c = part_of Events (two c) (more c)

abbrev messages : After-frame_at-2 → List ℕ
messages c = part_of Messages (one c) (list c)

abbrev messages' : After-frame_at-2 → List ℕ
messages' c = part_of Messages (two c) (more c)

abbrev questions : After-frame_at-2 → List ℕ
questions c = part_of Questions (one c) (list c)

abbrev whole : After-frame_at-2 → List ℕ
whole c = parts (one c) (front c) (list c) (two c) (other c) (more c)

abbrev done₁ : After-frame_at-2 → List ℕ
done₁ c = header c

abbrev done₂ : After-frame_at-2 → List ℕ
done₂ c = done₁ c ++ events c

abbrev done₃ : After-frame_at-2 → List ℕ
done₃ c = done₂ c ++ events' c

abbrev done₄ : After-frame_at-2 → List ℕ
done₄ c = done₃ c ++ messages c

abbrev done₅ : After-frame_at-2 → List ℕ
done₅ c = done₄ c ++ messages' c

abbrev left₅ : After-frame_at-2 → List ℕ
left₅ c = questions c

abbrev left₄ : After-frame_at-2 → List ℕ
left₄ c = messages' c ++ left₅ c

abbrev left₃ : After-frame_at-2 → List ℕ
left₃ c = messages c ++ left₄ c

abbrev left₂ : After-frame_at-2 → List ℕ
left₂ c = events' c ++ left₃ c

abbrev left₁ : After-frame_at-2 → List ℕ
left₁ c = events c ++ left₂ c

abbrev Stage : After-frame_at-2 → (After-frame_at-2 → List ℕ) → (After-frame_at-2 → List ℕ) → List ℕ → ℕ → Type 0
Stage c w rest out end = Wrote (whole c) (w c) (rest c) (out₀ c) out end

-- WHAT IS KNOWN THERE

abbrev fit : (c : After-frame_at-2) → Fitting c.args.s (list c) c.args.t (more c)
fit c = c.requires.fitting

is_one : (c : After-frame_at-2) → one c ≡ first_side c.args.s c.args.t
is_one c = rw c.carried-carried.ensures refl

is-two : (c : After-frame_at-2) → two c ≡ second_side c.args.s c.args.t
is-two c = rw c.carried-carried.ensures refl

is_front : (c : After-frame_at-2) → front c ≡ get_or (fit c).first.frames 0 []
is_front c = front-is (fit c).opens (front c) c.frame_at.ensures

is-other : (c : After-frame_at-2) → other c ≡ get_or (fit c).second.frames 0 []
is-other c = front-is (fit c).opens_second (other c) c.frame_at-2.ensures

room : (c : After-frame_at-2) → length (whole c) ≤ length (out₀ c)
room c = omega (arith, parts-short (fit c) (one c) (two c) (is_one c) (is-two c) (front c) (other c) (is_front c) (is-other c), c.requires.bytes_in_bounds)

-- The whole is the merged log of whatever was read.
is-merged : (c : After-frame_at-2) (r u : Reading) → Opened r c.args.s (list c) → Opened u c.args.t (more c) → whole c ≡ merged_log r u
is-merged c r u a z = parts_read a z (one c) (two c) (is_one c) (is-two c) (front c) (other c) (front-is a (front c) c.frame_at.ensures) (front-is z (other c) c.frame_at-2.ensures)

-- PART BY PART

module _ (h : After-frame_at-2) {out : List ℕ} {end : ℕ} where
  wrote₁ : out ≡ put_of (out₀ h) 0 (header h) → end ≡ length (header h) → Stage h done₁ left₁ out end
  wrote₁ u e = wrote_first (header h) (left₁ h) (out₀ h) out end (room h) u e

  module _ {out' : List ℕ} {end' : ℕ} where
    wrote₂ : Stage h done₁ left₁ out end → out' ≡ put_of out end (events h) → end' ≡ end + length (events h) → Stage h done₂ left₂ out' end'
    wrote₂ w u e = wrote_more w (events h) (left₂ h) refl out' end' u e

    wrote₃ : Stage h done₂ left₂ out end → out' ≡ put_of out end (events' h) → end' ≡ end + length (events' h) → Stage h done₃ left₃ out' end'
    wrote₃ w u e = wrote_more w (events' h) (left₃ h) refl out' end' u e

    wrote₄ : Stage h done₃ left₃ out end → out' ≡ put_of out end (messages h) → end' ≡ end + length (messages h) → Stage h done₄ left₄ out' end'
    wrote₄ w u e = wrote_more w (messages h) (left₄ h) refl out' end' u e

    wrote₅ : Stage h done₄ left₄ out end → out' ≡ put_of out end (messages' h) → end' ≡ end + length (messages' h) → Stage h done₅ left₅ out' end'
    wrote₅ w u e = wrote_more w (messages' h) (left₅ h) refl out' end' u e

    wrote-end : Stage h done₅ left₅ out end → out' ≡ put_of out end (questions h) → end' ≡ end + length (questions h) → Stage h (λ k. done₅ k ++ questions k) (λ k. []) out' end'
    wrote-end w u e = wrote_more w (questions h) [] (sym (append-nil (questions h))) out' end' u e

pub put_header-header-requires : goal.put_header-header-requires
put_header-header-requires c =
    let h = (goal.at.put_header-header-requires c).After-frame_at-2 in
    record { headers = both_headers (fit h) (one h) (two h) (is_one h) (is-two h) (front h) (other h) (is_front h) (is-other h); second_in_bounds = omega (arith, room h, length-append (header h) (left₁ h)) }

pub put_part-first-requires : goal.put_part-first-requires
put_part-first-requires c =
    let h = (goal.at.put_part-first-requires c).After-frame_at-2 in
    let w₁ = wrote₁ h c.put_header-header.ensures.out_after c.put_header-header.ensures.value in
    record { covered = (first-covered (fit h) (one h) (two h) (is_one h) (is-two h), opened-formed (fit h).opens); all = first-events (fit h) (one h) (two h) (is_one h) (is-two h); list_in_bounds = wrote_room w₁ (events h) (left₂ h) refl }

pub put_part-events-requires : goal.put_part-events-requires
put_part-events-requires c =
    let h = (goal.at.put_part-events-requires c).After-frame_at-2 in
    let w₁ = wrote₁ h c.put_header-header.ensures.out_after c.put_header-header.ensures.value in
    let w₂ = wrote₂ h w₁ c.put_part-first.ensures.out_after c.put_part-first.ensures.value in
    record { covered = (second-covered (fit h) (one h) (two h) (is_one h) (is-two h), opened-formed (fit h).opens_second); all = second-events (fit h) (one h) (two h) (is_one h) (is-two h); list_in_bounds = wrote_room w₂ (events' h) (left₃ h) refl }

pub put_part-sent-requires : goal.put_part-sent-requires
put_part-sent-requires c =
    let h = (goal.at.put_part-sent-requires c).After-frame_at-2 in
    let w₁ = wrote₁ h c.put_header-header.ensures.out_after c.put_header-header.ensures.value in
    let w₂ = wrote₂ h w₁ c.put_part-first.ensures.out_after c.put_part-first.ensures.value in
    let w₃ = wrote₃ h w₂ c.put_part-events.ensures.out_after c.put_part-events.ensures.value in
    record { covered = (first-covered (fit h) (one h) (two h) (is_one h) (is-two h), opened-formed (fit h).opens); all = first-messages (fit h) (one h) (two h) (is_one h) (is-two h); list_in_bounds = wrote_room w₃ (messages h) (left₄ h) refl }

pub put_part-messages-requires : goal.put_part-messages-requires
put_part-messages-requires c =
    let h = (goal.at.put_part-messages-requires c).After-frame_at-2 in
    let w₁ = wrote₁ h c.put_header-header.ensures.out_after c.put_header-header.ensures.value in
    let w₂ = wrote₂ h w₁ c.put_part-first.ensures.out_after c.put_part-first.ensures.value in
    let w₃ = wrote₃ h w₂ c.put_part-events.ensures.out_after c.put_part-events.ensures.value in
    let w₄ = wrote₄ h w₃ c.put_part-sent.ensures.out_after c.put_part-sent.ensures.value in
    record { covered = (second-covered (fit h) (one h) (two h) (is_one h) (is-two h), opened-formed (fit h).opens_second); all = second-messages (fit h) (one h) (two h) (is_one h) (is-two h); list_in_bounds = wrote_room w₄ (messages' h) (left₅ h) refl }

pub put_part-requires : goal.put_part-requires
put_part-requires c =
    let h = (goal.at.put_part-requires c).After-frame_at-2 in
    let w₁ = wrote₁ h c.put_header-header.ensures.out_after c.put_header-header.ensures.value in
    let w₂ = wrote₂ h w₁ c.put_part-first.ensures.out_after c.put_part-first.ensures.value in
    let w₃ = wrote₃ h w₂ c.put_part-events.ensures.out_after c.put_part-events.ensures.value in
    let w₄ = wrote₄ h w₃ c.put_part-sent.ensures.out_after c.put_part-sent.ensures.value in
    let w₅ = wrote₅ h w₄ c.put_part-messages.ensures.out_after c.put_part-messages.ensures.value in
    record { covered = (first-covered (fit h) (one h) (two h) (is_one h) (is-two h), opened-formed (fit h).opens); all = questions-fit (one h) _; list_in_bounds = wrote_room w₅ (questions h) [] (sym (append-nil (questions h))) }

pub returns : goal.returns
returns c =
    let h = (goal.at.returns c).After-frame_at-2 in
    let w₁ = wrote₁ h c.put_header-header.ensures.out_after c.put_header-header.ensures.value in
    let w₂ = wrote₂ h w₁ c.put_part-first.ensures.out_after c.put_part-first.ensures.value in
    let w₃ = wrote₃ h w₂ c.put_part-events.ensures.out_after c.put_part-events.ensures.value in
    let w₄ = wrote₄ h w₃ c.put_part-sent.ensures.out_after c.put_part-sent.ensures.value in
    let w₅ = wrote₅ h w₄ c.put_part-messages.ensures.out_after c.put_part-messages.ensures.value in
    let w = wrote_all (wrote-end h w₅ c.put_part.ensures.out_after c.put_part.ensures.value) in
    λ r u a z.
    let m = is-merged h r u a z in
    (w.0 ∙ ap length m, w.1 ∙ ap (put_of (out₀ h) 0) m)
