-- What a computation comes to by one more event: one history is longer by it, and all that was there stands where it stood.
use mathlib.Core.Path.{◌≡◌, refl, ap, ◌∙◌}
use mathlib.Core.Logic.{◌≢◌, ◌⊎◌, inl, inr}
use Prim.Native.Nat.{ℕ, zero, suc, ◌≤◌, ◌<◌}
use native.Mathlib.Decide.{ℕ_discrete, dec_le}
use native.Mathlib.Numerals.{add-one}
use native.Mathlib.Omega.{arith}
use mathlib.Core.List.{List, [], ◌∷◌, ◌++◌, map}
use lib.ListN.{length, get_or, set, length-append, length-set, length-map, get_or-append, get_or-eq_default}
use lib.Seq.{get_or-set_same, get_or-set_other, get_or-append_seam}
use Rattle.model.specs.Lists.{sum, total}
use Rattle.model.specs.Computation.{Report, Event, Computation, stations, history, count, event_count, no_report, no_event, clock, report}
use Rattle.model.specs.Reading.{opened, extended}

-- ANY COMPUTATION

-- Past a station's last event the clock is given as empty.
pub clock-none : (K : Computation) (j k : ℕ) → count K j < k → clock K j k ≡ []
unfolding clock
clock-none K j zero h = absurd (omega arith)
clock-none K j (suc k) h = ap (λ (e : Event). e.clock) (get_or-eq_default (history K j) no_event (omega arith))

-- And the report as none.
pub report-none : (K : Computation) (j k : ℕ) → count K j < k → report K j k ≡ no_report
unfolding report
report-none K j zero h = absurd (omega arith)
report-none K j (suc k) h = ap (λ (e : Event). e.report) (get_or-eq_default (history K j) no_event (omega arith))

-- AFTER THE HEADER

module _ (reports : List Report) where
  pub stations-opened : stations (opened reports) ≡ length reports
  unfolding opened
  stations-opened = refl

  pub length-opened : length (opened reports).events ≡ length reports
  unfolding opened
  length-opened = length-map reports (λ (x : Report). [])

  pub count-opened : (j : ℕ) → count (opened reports) j ≡ 0
  unfolding opened
  count-opened j = none reports j
    where
      none : (l : List Report) (j : ℕ) → length (get_or (map {B = List Event} (λ (x : Report). []) l) j []) ≡ 0
      none [] j = refl
      none (v ∷ l) zero = refl
      none (v ∷ l) (suc j) = none l j

  pub report-opened : (j : ℕ) → report (opened reports) j 0 ≡ get_or reports j no_report
  unfolding opened report
  report-opened j = refl

  pub event_count-opened : event_count (opened reports) ≡ 0
  unfolding opened sum
  event_count-opened = none reports
    where
      none : (l : List Report) → total (map length (map {B = List Event} (λ (x : Report). []) l)) ≡ 0
      none [] = refl
      none (v ∷ l) = omega (arith, none l)

-- ONE MORE EVENT

-- One history longer by one.
total-longer : (l : List (List Event)) (s : ℕ) (e : Event) → s < length l → total (map length (set l s (get_or l s [] ++ (e ∷ [])))) ≡ suc (total (map length l))
unfolding sum
total-longer [] s e h = absurd (omega arith)
total-longer (x ∷ l) zero e h = omega (arith, length-append x (e ∷ []))
total-longer (x ∷ l) (suc s) e h = omega (arith, total-longer l s e (omega arith))

module _ (K : Computation) (s : ℕ) (e : Event) where
  pub stations-extended : stations (extended K s e) ≡ stations K
  unfolding extended
  stations-extended = refl

  pub length-extended : length (extended K s e).events ≡ length K.events
  unfolding extended
  length-extended = length-set K.events s (history K s ++ (e ∷ []))

  pub history-other : (j : ℕ) → j ≢ s → history (extended K s e) j ≡ history K j
  unfolding extended
  history-other j d = get_or-set_other K.events s j (history K s ++ (e ∷ [])) [] d

  pub count-other : (j : ℕ) → j ≢ s → count (extended K s e) j ≡ count K j
  count-other j d = ap length (history-other j d)

module _ (K : Computation) (s : ℕ) (e : Event) (there : s < length K.events) where
  pub event_count-extended : event_count (extended K s e) ≡ suc (event_count K)
  unfolding extended
  event_count-extended = total-longer K.events s e there

  pub history_same : history (extended K s e) s ≡ history K s ++ (e ∷ [])
  unfolding extended
  history_same = get_or-set_same K.events s (history K s ++ (e ∷ [])) [] there

  pub count_same : count (extended K s e) s ≡ suc (count K s)
  count_same = ap length history_same ∙ length-append (history K s) (e ∷ []) ∙ add-one (count K s)

  -- No count falls.
  pub count_grows : (j : ℕ) → count K j ≤ count (extended K s e) j
  count_grows j =
      elim (ℕ_discrete j s) [
        | yes p ↦ rw p (omega (arith, count_same))
        | no d ↦ omega (arith, count-other K s e j d)
      ]

  -- An event is an old one or the new one.
  pub old_or-new : (j k : ℕ) → k ≤ count (extended K s e) j → (k ≤ count K j) ⊎ ((j ≡ s) × (k ≡ suc (count K s)))
  old_or-new j k h =
      elim (dec_le k (count K j)) [
        | yes l ↦ inl l
        | no l ↦ elim (ℕ_discrete j s) [
          | yes p ↦ inr (p, is p l)
          | no d ↦ inl (omega (arith, count-other K s e j d))
        ]
      ]
    where
      is : j ≡ s → (k ≤ count K j → ⊥) → k ≡ suc (count K s)
      is p l = omega (arith, count_same, ap (count K) p, ap (count (extended K s e)) p)

  event_old : (j k : ℕ) → k < count K j → get_or (history (extended K s e) j) k no_event ≡ get_or (history K j) k no_event
  event_old j k h =
      elim (ℕ_discrete j s) [
        | yes p ↦ rw (p, history_same) (get_or-append (history K s) (e ∷ []) no_event k (rw p at h))
        | no d ↦ rw (history-other K s e j d)
      ]

  event-new : get_or (history (extended K s e) s) (count K s) no_event ≡ e
  event-new = rw history_same (get_or-append_seam (history K s) e [] no_event)

  pub clock_old : (j k : ℕ) → k ≤ count K j → clock (extended K s e) j k ≡ clock K j k
  unfolding clock extended
  clock_old j zero h = refl
  clock_old j (suc k) h = ap (λ (x : Event). x.clock) (event_old j k h)

  pub clock-new : clock (extended K s e) s (suc (count K s)) ≡ e.clock
  unfolding clock
  clock-new = ap (λ (x : Event). x.clock) event-new

  pub report_old : (j k : ℕ) → k ≤ count K j → report (extended K s e) j k ≡ report K j k
  unfolding report extended
  report_old j zero h = refl
  report_old j (suc k) h = ap (λ (x : Event). x.report) (event_old j k h)

  pub report-new : report (extended K s e) s (suc (count K s)) ≡ e.report
  unfolding report
  report-new = ap (λ (x : Event). x.report) event-new

-- EVERY REPORT

-- What holds of each report of the header, and of none, holds of every report then; and after one more event, if it holds of the event's.
module _ (P : Report → Type 0) (of_none : P no_report) where
  pub opened-each : (reports : List Report) → ((j : ℕ) → P (get_or reports j no_report)) → (j k : ℕ) → P (report (opened reports) j k)
  opened-each reports h j zero = rw (report-opened reports j) (h j)
  opened-each reports h j (suc k) = rw (report-none (opened reports) j (suc k) (omega (arith, count-opened reports j))) of_none

  pub extended-each : (K : Computation) (s : ℕ) (e : Event) → s < length K.events → ((j k : ℕ) → P (report K j k)) → P e.report → (j k : ℕ) → P (report (extended K s e) j k)
  extended-each K s e there old new j k =
      elim (dec_le k (count (extended K s e) j)) [
        | yes l ↦ elim (old_or-new K s e there j k l) [
          | inl b ↦ rw (report_old K s e there j k b) (old j k)
          | inr p ↦ rw (p.0, p.1, report-new K s e there) new
        ]
        | no l ↦ rw (report-none (extended K s e) j k (omega arith)) of_none
      ]
