-- Limits that the theorems can be had for, and limits beside each other.
use Rattle.std.specs.Prelude.{◌+◌, ◌*◌, ◌≤◌}
use Rattle.model.specs.declared.Limits.{Limits}

-- Counts fit their bytes, 255 being none; the list and the log of what is accepted are accepted again.
pub record Suitable (m : Limits) : Type 0 where
  pub stations : m.stations ≤ 8
  pub events : m.events ≤ 254
  pub messages : m.messages ≤ 64
  pub questions : m.questions ≤ 16
  pub list : 35 + 15 * m.events + 6 * m.messages + 94 * m.questions ≤ m.list
  pub bytes : 71 + 31 * m.events + 13 * m.messages + 189 * m.questions ≤ m.bytes

-- No limit of m is above that of m'.
pub record NoLarger (m m' : Limits) : Type 0 where
  pub stations : m.stations ≤ m'.stations
  pub events : m.events ≤ m'.events
  pub messages : m.messages ≤ m'.messages
  pub questions : m.questions ≤ m'.questions
  pub bytes : m.bytes ≤ m'.bytes
  pub list : m.list ≤ m'.list
