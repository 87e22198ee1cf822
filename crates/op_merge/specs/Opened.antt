-- What Merge has of a log that was accepted: its state and its frame list.
use Rattle.std.specs.Prelude.{◌≡◌, ◌≤◌, ℕ, false, ◌||◌, List, length}
use Rattle.model.specs.Limits.{limits}
use Rattle.model.specs.Frames.{list_of}
use Rattle.model.specs.Computation.{stations, event_count}
use Rattle.model.specs.Reading.{Reading, Result, accepted, read_log}
use Rattle.model.specs.Reply.{Reply}
use Rattle.model.specs.Operations.{too_wide_together, too_many_together, merge_effect}
use Rattle.frame.specs.declared.State.{State}
use Rattle.write_beside.specs.declared.Side.{Side}

-- r was read of an accepted log; the state has its numbers, the list its frames.
pub record Opened (r : Reading) (s : State) (list : List ℕ) : Type 0 where
  pub log : List ℕ
  pub is : read_log limits log ≡ accepted r
  pub listed : list ≡ list_of r.frames
  pub panelled : s.panelled ≡ r.panelled
  pub stations : s.stations ≡ stations r.computation
  pub events : s.events ≡ event_count r.computation
  pub messages : s.messages ≡ length r.computation.messages

-- The numbers of a state keep the limits.
abbrev pub Within : State → Type 0
Within s = (s.stations ≤ limits.stations) × (s.events ≤ limits.events) × (s.messages ≤ limits.messages)

-- The first log and the second, each beside the other.
abbrev pub first_side : State → State → Side
first_side s t = record { panelled = s.panelled; carried = s.panelled || t.panelled; before = 0; behind = t.stations }

abbrev pub second_side : State → State → Side
second_side s t = record { panelled = t.panelled; carried = s.panelled || t.panelled; before = s.stations; behind = 0 }

-- Two logs were, and they are not too much together.
pub record Fitting (s : State) (list : List ℕ) (t : State) (more : List ℕ) : Type 0 where
  pub first : Reading
  pub second : Reading
  pub opens : Opened first s list
  pub opens_second : Opened second t more
  pub few_stations : too_wide_together limits first second ≡ false
  pub few_others : too_many_together limits first second ≡ false

-- Reply and output are those of a merge, x and y being what reading the two logs comes to.
abbrev pub Merging : Result → Result → List ℕ → Reply → List ℕ → Type 0
Merging x y out reply out' = (reply ≡ (merge_effect limits x y out).reply) × (out' ≡ (merge_effect limits x y out).output)
