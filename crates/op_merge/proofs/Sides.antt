-- The frames of two accepted logs, each beside the other: they are what `write_beside` asks for, and its parts are the merged log's. Assumes nothing.
use mathlib.Core.Path.{◌≡◌, refl, sym, ap, ap₂, ◌∙◌}
use Prim.Native.Nat.{ℕ, ◌+◌, ◌*◌, ◌≤◌}
use native.Mathlib.Omega.{arith}
use mathlib.Core.Bool.{Bool, true}
use mathlib.Core.List.{List, [], ◌∷◌, ◌++◌}
use mathlib.Core.Option.{some}
use lib.ListN.{length, get_or, length-drop}
use Rattle.model.specs.Limits.{limits}
use Rattle.model.specs.Bytes.{line}
use Rattle.model.specs.Frames.{frames_of}
use Rattle.model.specs.Computation.{stations}
use Rattle.model.specs.Reading.{Reading, report_size, message_of}
use Rattle.model.specs.Merge.{of_kind}
use Rattle.model.specs.Operations.{merged_log}
use Rattle.lattice.proofs.Lists.{All, all_map}
use Rattle.lattice.proofs.Lists.All.{done, also}
use Rattle.lattice.proofs.Reports.{report-size, report_in, size-carried}
use Rattle.lattice.proofs.MessageRule.{message_ok_iff}
use Rattle.codec.proofs.Suited.{suitable}
use Rattle.codec.proofs.Frames.{frames-list}
use Rattle.codec.proofs.Readings.{log-accepted, log_are_frames}
use Rattle.codec.proofs.MergeBytes.{length-event}
use Rattle.codec.proofs.MergeSides.{Placed, Named, Filed}
use Rattle.codec.proofs.Merge.{covers_first, covers_second, Mergeable}
use Rattle.codec.proofs.MergeLog.{logs_mergeable, merge_short}
use Rattle.codec.proofs.MergeParts.{merged-parts}
use Rattle.frame.specs.declared.State.{State}
use Rattle.codec.specs.Entries.{formed, frames, Formed, entries}
use Rattle.frames.specs.Asks.{Indexed}
use Rattle.write_beside.specs.declared.Side.{Side}
use Rattle.write_beside.specs.declared.Part.TheVariants.{Events, Messages, Questions}
use Rattle.write_beside.specs.Moved.{Covered, part_of, Fits, header_of, Headers}
use Rattle.op_merge.specs.Opened.{Opened, first_side, second_side, Fitting}

-- ONE LOG

module _ {r : Reading} {s : State} {list : List ℕ} (o : Opened r s list) where
  list-frames : frames_of list ≡ some r.frames
  list-frames = ap frames_of o.listed ∙ frames-list r.frames (all_map (λ f x. x.sized) (log_are_frames limits o.log r o.is))

  pub opened-formed : Formed list
  opened-formed = ap formed list-frames

  pub opened-entries : entries list ≡ r.frames
  opened-entries = ap frames list-frames

  pub opened_indexed : Indexed list 0
  opened_indexed =
      let a = log-accepted limits o.log r o.is in
      record { frames = r.frames; is = o.listed; there = omega (arith, a.lawful.counted a.begun) }

  -- The frame at the front, as it is found.
  pub front-is : (f : List ℕ) → ((x : Indexed list 0) → f ≡ get_or x.frames 0 []) → f ≡ get_or r.frames 0 []
  unfolding opened_indexed
  front-is f h = h opened_indexed

-- What a part of its frames has to be.
module _ {r : Reading} (filed : Filed limits r) (side : Side) (p : side.panelled ≡ r.panelled) (few : side.before + stations r.computation + side.behind ≤ limits.stations) where
  event-fits : Covered side → (f : List ℕ) → Placed r.panelled (stations r.computation) f → Fits Events side f
  event-fits c f h =
      let l : length f ≡ 1 + report_size side.panelled + stations r.computation = h.0 ∙ ap (λ (b : Bool). 1 + report_size b + stations r.computation) (sym p) in
      (omega (arith, l), omega (arith, h.1), omega (arith, length-event side.panelled side.carried c side.before side.behind (stations r.computation) f l, report-size side.carried, size-carried true refl))

  pub events-fit : Covered side → {fs : List (List ℕ)} → fs ≡ r.frames → All (Fits Events side) (of_kind 0x20 fs)
  events-fit c e = rw e (all_map (event-fits c) filed.placed)

  message_fits : (f : List ℕ) → Named r.computation f → Fits Messages side f
  message_fits f h =
      let m = (message_ok_iff r.computation (message_of f)).0 h.1 in
      (h.0, omega (arith, m.sender-there), omega (arith, m.receiver-there))

  pub messages-fit : {fs : List (List ℕ)} → fs ≡ r.frames → All (Fits Messages side) (of_kind 0x25 fs)
  messages-fit e = rw e (all_map message_fits filed.posted.sound)

pub questions-fit : (side : Side) (l : List (List ℕ)) → All (Fits Questions side) l
questions-fit side [] = done
questions-fit side (f ∷ l) = also tt (questions-fit side l)

-- BOTH LOGS

-- The first frame of a log is its header, with the reports of its stations.
header_long : {r : Reading} {s : State} {list : List ℕ} → Opened r s list → Filed limits r → 1 ≤ stations r.computation → 2 + s.stations * report_size s.panelled ≤ length (get_or r.frames 0 [])
header_long {r} {s} o filed h =
    let z = ap₂ (λ (n : ℕ) (p : Bool). n * report_size p) o.stations o.panelled in
    omega (arith, z, filed.size h, length-drop 2 (get_or r.frames 0 []), report_in r.panelled 0 (stations r.computation) h, report-size r.panelled)

-- The lines of the two logs: the header of both from the headers f and g, and the parts.
abbrev pub parts : Side → List ℕ → List ℕ → Side → List ℕ → List ℕ → List ℕ
parts one f list two g more =
    line (header_of one f two g)
    ++ (part_of Events one list
    ++ (part_of Events two more
    ++ (part_of Messages one list
    ++ (part_of Messages two more
    ++ part_of Questions one list))))

pub parts_are : {x y : Reading} {s t : State} {list more : List ℕ} → Opened x s list → Opened y t more
    → parts (first_side s t) (get_or x.frames 0 []) list (second_side s t) (get_or y.frames 0 []) more ≡ merged_log x y
parts_are {x} {y} a b = rw (opened-entries a, opened-entries b, a.panelled, b.panelled, a.stations, b.stations) (sym (merged-parts x y))

pub parts_read : {x y : Reading} {s t : State} {list more : List ℕ} → Opened x s list → Opened y t more → (one two : Side) → one ≡ first_side s t → two ≡ second_side s t
    → (f g : List ℕ) → f ≡ get_or x.frames 0 [] → g ≡ get_or y.frames 0 [] → parts one f list two g more ≡ merged_log x y
parts_read a b one two d e f g h i = rw (d, e, h, i) (parts_are a b)

module _ {s t : State} {list more : List ℕ} (fit : Fitting s list t more) where
  ok : Mergeable limits fit.first fit.second
  ok = logs_mergeable suitable fit.opens.log fit.opens_second.log fit.first fit.second fit.opens.is fit.opens_second.is fit.few_stations fit.few_others

  together : s.stations + t.stations ≤ limits.stations
  together = omega (arith, ok.few_stations, fit.opens.stations, fit.opens_second.stations)

  few-first : (first_side s t).before + stations fit.first.computation + (first_side s t).behind ≤ limits.stations
  few-first = omega (arith, together, fit.opens.stations)

  few-second : (second_side s t).before + stations fit.second.computation + (second_side s t).behind ≤ limits.stations
  few-second = omega (arith, together, fit.opens_second.stations)

  -- They are what is asked for.
  module _ (one two : Side) (is-first : one ≡ first_side s t) (is-second : two ≡ second_side s t) where
    pub first-covered : Covered one
    first-covered = rw is-first (covers_first s.panelled t.panelled)

    pub second-covered : Covered two
    second-covered = rw is-second (covers_second s.panelled t.panelled)

    pub first-events : All (Fits Events one) (of_kind 0x20 (entries list))
    first-events = rw is-first (events-fit ok.first (first_side s t) fit.opens.panelled few-first (covers_first s.panelled t.panelled) (opened-entries fit.opens))

    pub second-events : All (Fits Events two) (of_kind 0x20 (entries more))
    second-events = rw is-second (events-fit ok.second (second_side s t) fit.opens_second.panelled few-second (covers_second s.panelled t.panelled) (opened-entries fit.opens_second))

    pub first-messages : All (Fits Messages one) (of_kind 0x25 (entries list))
    first-messages = rw is-first (messages-fit ok.first (first_side s t) fit.opens.panelled few-first (opened-entries fit.opens))

    pub second-messages : All (Fits Messages two) (of_kind 0x25 (entries more))
    second-messages = rw is-second (messages-fit ok.second (second_side s t) fit.opens_second.panelled few-second (opened-entries fit.opens_second))

    module _ (f g : List ℕ) (is-header : f ≡ get_or fit.first.frames 0 []) (is-other : g ≡ get_or fit.second.frames 0 []) where
      pub both_headers : Headers one f two g
      both_headers = rw (is-first, is-second, is-header, is-other) (record {
        first = covers_first s.panelled t.panelled;
        second = covers_second s.panelled t.panelled;
        first_long = header_long fit.opens ok.first ok.first-begun;
        second_long = header_long fit.opens_second ok.second ok.second-begun;
        few = together;
      })

      pub parts-short : length (parts one f list two g more) ≤ limits.bytes
      parts-short = rw (is-first, is-second, is-header, is-other, parts_are fit.opens fit.opens_second)
          (merge_short suitable fit.opens.log fit.opens_second.log fit.first fit.second fit.opens.is fit.opens_second.is fit.few_stations fit.few_others)
