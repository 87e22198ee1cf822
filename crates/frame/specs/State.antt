-- The state of reading in code, and what trying a frame comes to.
use Rattle.std.specs.Prelude.{◌≡◌, ℕ, ◌+◌, ◌≤◌, Bool, false, ◌&&◌, ltb, eqb, List, [], ◌∷◌, ◌++◌, length, get_or, set, Result, MatchResult}
use Rattle.model.specs.declared.Limits.{Limits}
use Rattle.model.specs.Limits.{limits}
use Rattle.model.specs.Cut.{empty}
use Rattle.model.specs.Computation.{stations, event_count}
use Rattle.model.specs.Reading.{Reading, admit, go, fault}
use Rattle.model.specs.Reply.{number}
use Rattle.model.specs.declared.Fault.{Fault}
use Rattle.table.specs.Table.{Stored, Posted}
use Rattle.frame.specs.declared.State.{State}

-- Nothing has been read.
abbrev pub fresh : State
fresh = record { panelled = false; stations = 0; events = 0; messages = 0; questions = 0; counts = empty limits.stations }

-- The state after a header of n stations, after an event of station j, after a message, after a question.
abbrev pub after_header : State → Bool → ℕ → State
after_header s p n = record { panelled = p; stations = n; events = 0; messages = 0; questions = s.questions; counts = empty limits.stations }

abbrev pub after_event : State → ℕ → State
after_event s j = record { panelled = s.panelled; stations = s.stations; events = s.events + 1; messages = s.messages; questions = s.questions; counts = set s.counts j (get_or s.counts j 0 + 1) }

abbrev pub after_message : State → State
after_message s = record { panelled = s.panelled; stations = s.stations; events = s.events; messages = s.messages + 1; questions = s.questions; counts = s.counts }

abbrev pub after_question : State → State
after_question s = record { panelled = s.panelled; stations = s.stations; events = s.events; messages = s.messages; questions = s.questions + 1; counts = s.counts }

-- Events and messages may come: after the header, and before any question.
abbrev pub is_open : State → Bool
is_open s = ltb 0 s.stations && eqb s.questions 0

-- Where the first question stands among the frames: behind the header, the events and the messages.
abbrev pub first_question : State → ℕ
first_question s = s.events + s.messages + 1

-- The numbers of a state keep the limits m, and no station has more events than there are.
pub record Bounded (m : Limits) (s : State) : Type 0 where
  pub few_stations : s.stations ≤ m.stations
  pub few_events : s.events ≤ m.events
  pub few_messages : s.messages ≤ m.messages
  pub few_questions : s.questions ≤ m.questions
  pub eight : length s.counts ≡ limits.stations
  pub each : (j : ℕ) → get_or s.counts j 0 ≤ s.events

-- The state and the store t represent what has been read.
pub record Represents (r : Reading) (s : State) (t : List ℕ) : Type 0 where
  pub panelled : s.panelled ≡ r.panelled
  pub stored : Stored r.computation s.stations s.counts t
  pub posted : Posted r.computation t
  pub sizes : length r.computation.events ≡ stations r.computation
  pub events : s.events ≡ event_count r.computation
  pub messages : s.messages ≡ length r.computation.messages
  pub questions : s.questions ≡ length r.questions

-- The frame f is admitted after r, and s and t represent what has then been read.
pub record Goes (m : Limits) (r : Reading) (f : List ℕ) (s : State) (t : List ℕ) : Type 0 where
  pub after : Reading
  pub step : admit m r f ≡ go after
  pub frames : after.frames ≡ r.frames ++ (f ∷ [])
  pub holds : Represents after s t

-- The frame f was admitted on state s and store t: s' and t' are those after it.
pub record Admitted (m : Limits) (s : State) (f t : List ℕ) (s' : State) (t' : List ℕ) : Type 0 where
  pub bounded : Bounded m s'
  pub goes : (r : Reading) → Represents r s t → Goes m r f s' t'

-- It was not, by the fault x; the store is as it was.
pub record Faulty (m : Limits) (s : State) (f t : List ℕ) (x : Fault) (t' : List ℕ) : Type 0 where
  pub is : (r : Reading) → Represents r s t → admit m r f ≡ fault (number x)
  pub kept : t' ≡ t

-- Under the limits m the frame f was tried on state s and store t: a is the answer, t' the store afterwards.
abbrev pub Admits : Limits → State → List ℕ → List ℕ → Result State Fault → List ℕ → Type 0
Admits m s f t a t' = MatchResult a (λ s'. Admitted m s f t s' t') (λ x. Faulty m s f t x t')
