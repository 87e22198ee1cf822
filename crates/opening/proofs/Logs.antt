-- What a loaded log gives: its computation can be laid out, and each question of it can be found, is sound, fits and can be worked out.
use mathlib.Core.Path.{◌≡◌, refl, sym, ◌∙◌}
use mathlib.Core.Bool.{true}
use mathlib.Core.List.{List, [], ◌∷◌}
use mathlib.Core.Option.{none, some}
use Prim.Native.Nat.{ℕ, zero, suc, ◌+◌, ◌≤◌, ◌<◌}
use native.Mathlib.Omega.{arith}
use lib.ListN.{length, get_or, get_elem?}
use Rattle.model.specs.declared.Limits.{Limits}
use Rattle.model.specs.Formula.{Formula, prefix, sound}
use Rattle.model.specs.Rules.{as_true, workable}
use Rattle.model.specs.Size.{fits}
use Rattle.model.specs.Cut.{Cut}
use Rattle.model.specs.Computation.{stations, event_count, is_consistent}
use Rattle.model.specs.Promise.{Asked}
use Rattle.lattice.proofs.Consistency.{consistent_iff}
use Rattle.lattice.proofs.Lists.{all_at, elem_there, some_below}
use Rattle.codec.proofs.Bytes.{Bytes, bytes_tail}
use Rattle.codec.proofs.Formulas.{prefix-formula}
use Rattle.codec.proofs.Lawful.{Lawful}
use Rattle.codec.proofs.QuestionFrames.{question_frames, question-spelt}
use Rattle.codec.proofs.Readings.{log_are_frames}
use Rattle.frame.specs.declared.State.{State}
use Rattle.frame.specs.State.{first_question}
use Rattle.load.specs.Loading.{Accepts}
use Rattle.load.proofs.Questions.{good, question-frame}
use Rattle.layout.specs.StoredValid.{StoredValid}
use Rattle.frames.specs.Asks.{Asks}

-- There is a question at each number below their count, and none from there on.

pub question-there : (l : List Formula) (q : ℕ) → q < length l → (f : Formula) × (get_elem? l q ≡ some f)
question-there l q h = let e = elem_there l q h in (e.0, e.1)

pub no_question : (l : List Formula) (q : ℕ) → length l ≤ q → get_elem? l q ≡ none
no_question [] q h = refl
no_question (f ∷ l) zero h = absurd (omega arith)
no_question (f ∷ l) (suc q) h = no_question l q (omega arith)

module _ {m : Limits} {log : List ℕ} {s : State} {k : ℕ} {list t : List ℕ} (a : Accepts m log s k list t) where
  law : Lawful m a.reading
  law = (good a).lawful

  pub question-count : s.questions ≡ length a.reading.questions
  question-count = a.holds.questions

  -- THE COMPUTATION

  pub few-at : event_count a.reading.computation ≤ m.events
  few-at = law.few_events

  pub loaded : StoredValid a.reading.computation s.stations s.messages s.counts t
  loaded = record { stored = a.holds.stored; posted = a.holds.posted; messages = sym a.holds.messages; valid = law.valid }

  -- A consistent cut has a count for each station.
  pub cut-size : (c : Cut) → is_consistent a.reading.computation c ≡ true → length c ≡ s.stations
  cut-size c e = ((consistent_iff a.reading.computation c).0 e).size ∙ a.holds.stored.size

  -- A QUESTION

  -- Its bytes.
  abbrev pub bytes_at : ℕ → List ℕ
  bytes_at q = get_or (question_frames a.reading.frames) q []

  asks : (q : ℕ) → q < s.questions → Asks list k (first_question s + q) (bytes_at q)
  asks q h = let x = question-frame a q h in record { frames = a.reading.frames; listed = a.listed; there = x.0; is = x.1 }

  -- As the code counts it.
  pub asks_at : (first : ℕ) → first ≡ first_question s → (q : ℕ) → q < s.questions → Asks list k (first + q) (bytes_at q)
  asks_at first e q h = rw e (asks q h)

  bytes_are : (q : ℕ) → q < s.questions → Bytes (bytes_at q)
  unfolding asks
  bytes_are q h =
      let x = asks q h in
      let framed = (all_at (log_are_frames m log a.reading a.is) [] (first_question s + q) x.there).bytes in
      bytes_tail 0x30 (bytes_at q) (rw x.is at framed)

  module _ (q : ℕ) (f : Formula) (is : get_elem? a.reading.questions q ≡ some f) where
    pub below : q < s.questions
    below = omega (arith, question-count, some_below a.reading.questions q f is)

    pub spelt-at : bytes_at q ≡ prefix f
    spelt-at = sym (prefix-formula (bytes_at q) f (bytes_are q below) (question-spelt law.framed q ∙ is)).0

    pub is-asked : Asked m log q a.reading.computation f
    is-asked = record { panelled = a.reading.panelled; frames = a.reading.frames; questions = a.reading.questions; reads = a.is; is = is }

    pub good-at : (sound (stations a.reading.computation) f ≡ true) × (fits f ≡ true) × (workable (as_true f) ≡ true)
    good-at = law.good q f is
