-- The events of one of two logs, read beside the other: each that was let in there is let in here.
use mathlib.Core.Path.{◌≡◌, refl, sym, ap, ap₂, subst, ◌∙◌}
use mathlib.Core.Logic.{◌≢◌}
use Prim.Native.Nat.{ℕ, ◌+◌, ◌≤◌, ◌<◌}
use native.Mathlib.Omega.{arith}
use mathlib.Core.Bool.{Bool, true, false, cond}
use mathlib.Core.List.{List, [], ◌∷◌, ◌++◌, map, append-nil, append_assoc, map-append}
use lib.ListN.{length, get_or, drop, length-drop}
use lib.Dec.{ltb, eqb}
use borrow.Author.Tests.{lt-ltb, eq-eqb, ne_eqb}
use Rattle.model.specs.declared.Limits.{Limits}
use Rattle.model.specs.Formula.{Formula}
use Rattle.model.specs.Cut.{Cut, empty}
use Rattle.model.specs.Computation.{Event, Computation, with_messages, stations, event_count, clock_ok}
use Rattle.model.specs.Reading.{Reading, nothing, begun, report_size, reports_of, header_kind, opened, station_of, event_of, event_form, extended, unasked, unsent, with_header, with_event, message_of, informed, with_message, with_question}
use Rattle.model.specs.Beside.{padded, beside}
use Rattle.model.specs.Merge.{of_kind, event_bytes, event_frames}
use Rattle.lattice.proofs.Tests as tests
use Rattle.lattice.proofs.Histories.{event_count-extended}
use Rattle.lattice.proofs.Reports.{header-kind}
use Rattle.lattice.proofs.Beside.{stations-beside, event_count-beside}
use Rattle.lattice.proofs.BesideSteps.{extended-first, extended_second, clock_ok_first, clock_ok_second}
use Rattle.codec.proofs.Snoc.{empty-list}
use Rattle.codec.proofs.Accepted.{Admission, a_header, a_event, a_message, a_question, begun-true, begun-false, unsent-true, event-true}
use Rattle.codec.proofs.Lawful.{Lawful}
use Rattle.codec.proofs.Run.{Run, run_none, run_more, run-append}
use Rattle.codec.proofs.MergeBytes.{Covers, length-event, station_again, event_again}

-- What has been read so far.
abbrev pub state : Bool → Computation → List Formula → List (List ℕ) → Reading
state w K qs fs = record { panelled = w; computation = K; questions = qs; frames = fs }

-- FRAMES OF A KIND

pub kind-append : (k : ℕ) (fs gs : List (List ℕ)) → of_kind k (fs ++ gs) ≡ of_kind k fs ++ of_kind k gs
unfolding of_kind
kind-append k [] gs = refl
kind-append k ([] ∷ fs) gs = kind-append k fs gs
kind-append k ((x ∷ f) ∷ fs) gs = by (eqb x k) (kind-append k fs gs)
  where
    by : (t : Bool) → of_kind k (fs ++ gs) ≡ of_kind k fs ++ of_kind k gs → cond t (f ∷ of_kind k (fs ++ gs)) (of_kind k (fs ++ gs)) ≡ cond t (f ∷ of_kind k fs) (of_kind k fs) ++ of_kind k gs
    by true h = ap (λ (l : List (List ℕ)). f ∷ l) h
    by false h = h

pub kind_same : (k : ℕ) (fs : List (List ℕ)) (f : List ℕ) → of_kind k (fs ++ ((k ∷ f) ∷ [])) ≡ of_kind k fs ++ (f ∷ [])
unfolding of_kind
kind_same k fs f = kind-append k fs ((k ∷ f) ∷ []) ∙ ap (λ (b : Bool). of_kind k fs ++ cond b (f ∷ []) []) (eq-eqb k k refl)

pub kind-other : (k x : ℕ) → x ≢ k → (fs : List (List ℕ)) (f : List ℕ) → of_kind k (fs ++ ((x ∷ f) ∷ [])) ≡ of_kind k fs
unfolding of_kind
kind-other k x d fs f = kind-append k fs ((x ∷ f) ∷ []) ∙ ap (λ (b : Bool). of_kind k fs ++ cond b (f ∷ []) []) (ne_eqb x k d) ∙ append-nil (of_kind k fs)

pub no_frames : (k : ℕ) {fs : List (List ℕ)} → fs ≡ [] → of_kind k fs ≡ []
unfolding of_kind
no_frames k e = rw e refl

-- ONE SIDE

-- Without its messages.
abbrev pub bare : Computation → Computation
bare K = with_messages K []

pub bare-is : (K : Computation) → K.messages ≡ [] → bare K ≡ K
bare-is K e = ap (with_messages K) (sym e)

-- What stands beside a computation of n stations, a before it and b behind it.
pub record Side (C : Computation → Computation) (n a b : ℕ) : Type 0 where
  pub wide : (K : Computation) → stations K ≡ n → stations (C K) ≡ a + (n + b)
  pub other : ℕ
  pub events : (K : Computation) → event_count (C K) ≡ event_count K + other
  pub longer : (K : Computation) → length K.events ≡ stations K → stations K ≡ n → (s : ℕ) (e : Event) → s < n → extended (C K) (a + s) (padded a b e) ≡ C (extended K s e)
  pub clocks : (K : Computation) → length K.events ≡ stations K → stations K ≡ n → (s : ℕ) (v : Cut) → s < n → length v ≡ n → clock_ok K s v ≡ true → clock_ok (C K) (a + s) (empty a ++ (v ++ empty b)) ≡ true
  pub quiet : (K : Computation) → K.messages ≡ [] → (C K).messages ≡ []

pub first-side : (L : Computation) → L.messages ≡ [] → (n : ℕ) → Side (λ K. beside K L) n 0 (stations L)
unfolding beside
first-side L e n = record {
  wide = λ K h. omega (arith, stations-beside K L);
  other = event_count L;
  events = λ K. event_count-beside K L;
  longer = λ K z h s x l. let o : 0 + s ≡ s = omega arith in rw o (extended-first K L z s x (omega arith));
  clocks = λ K z h s v l u ok. let o : 0 + s ≡ s = omega arith in rw o (clock_ok_first K L z s v (omega arith) (u ∙ sym h) ok);
  quiet = λ K h. rw (h, e) refl;
}

pub second-side : (K : Computation) → K.messages ≡ [] → length K.events ≡ stations K → (n : ℕ) → Side (λ L. beside K L) n (stations K) 0
unfolding beside
second-side K e z n = record {
  wide = λ L h. omega (arith, stations-beside K L);
  other = event_count K;
  events = λ L. omega (arith, event_count-beside K L);
  longer = λ L y h s x l. extended_second K L z s x;
  clocks = λ L y h s v l u ok. rw (append-nil v) (clock_ok_second K L z s v (u ∙ sym h) ok);
  quiet = λ L h. rw (h, e) refl;
}

-- AN EVENT

module _ (m : Limits) (p w : Bool) (c : Covers p w) (C : Computation → Computation) (K : Computation) (a b : ℕ) (side : Side C (stations K) a b) (sizes : length K.events ≡ stations K) (f : List ℕ) where
  event-step :
      0 < stations K
      → K.messages ≡ []
      → event_count (C K) < m.events
      → event_form p (stations K) f ≡ true
      → clock_ok K (station_of f) (event_of p f).clock ≡ true
      → (gs : List (List ℕ))
      → Admission m (state w (C K) [] gs) (0x20 ∷ event_bytes p w a b f) (state w (C (extended K (station_of f) (event_of p f))) [] (gs ++ ((0x20 ∷ event_bytes p w a b f) ∷ [])))
  unfolding begun unasked unsent event_form
  event-step some silent room form ok gs = subst (λ (X : Computation). Admission m (state w (C K) [] gs) (0x20 ∷ g) (state w X [] (gs ++ ((0x20 ∷ g) ∷ [])))) is (
      a_event (lt-ltb 0 (stations (C K)) (omega (arith, wide))) (eq-eqb 0 0 refl) (eq-eqb (length (C K).messages) 0 (ap length (side.quiet K silent))) (lt-ltb (event_count (C K)) m.events room) formed clocked)
    where
      n : ℕ
      n = stations K

      g : List ℕ
      g = event_bytes p w a b f

      t : (length f ≡ 1 + report_size p + n) × (station_of f < n)
      t = event-true p n f form

      wide : stations (C K) ≡ a + (n + b)
      wide = side.wide K refl

      there : station_of g ≡ a + station_of f
      there = station_again p w c a b n f t.0

      again : event_of w g ≡ padded a b (event_of p f)
      again = event_again p w c a b n f t.0

      formed : event_form w (stations (C K)) g ≡ true
      formed = (tests.and-true (eqb (length g) (1 + report_size w + stations (C K))) (ltb (station_of g) (stations (C K)))).1 (
        eq-eqb (length g) (1 + report_size w + stations (C K)) (omega (arith, length-event p w c a b n f t.0, wide)),
        lt-ltb (station_of g) (stations (C K)) (omega (arith, wide, there, t.1)),
      )

      clocked : clock_ok (C K) (station_of g) (event_of w g).clock ≡ true
      clocked = ap₂ (λ (s : ℕ) (e : Event). clock_ok (C K) s e.clock) there again ∙ side.clocks K sizes refl (station_of f) (event_of p f).clock t.1 (omega (arith, length-drop (1 + report_size p) f, t.0)) ok

      is : extended (C K) (station_of g) (event_of w g) ≡ C (extended K (station_of f) (event_of p f))
      is = ap₂ (extended (C K)) there again ∙ side.longer K sizes refl (station_of f) (event_of p f) t.1

-- ALL EVENTS

-- The events of what has been read are let in beside the other side, with reports that carry a panel if w says so.
abbrev pub Joins : Limits → Reading → Type 0
Joins m r =
    (w : Bool) → Covers r.panelled w
    → (C : Computation → Computation) (a b : ℕ) → Side C (stations r.computation) a b
    → event_count (C r.computation) ≤ m.events
    → (gs : List (List ℕ))
    → Run m (state w (C (opened r.computation.initial)) [] gs) (event_frames w a b r) (state w (C (bare r.computation)) [] (gs ++ event_frames w a b r))

-- None are.
joins_none : {m : Limits} (w : Bool) (K : Computation) (gs es : List (List ℕ)) → es ≡ [] → Run m (state w K [] gs) es (state w K [] (gs ++ es))
joins_none {m} w K gs es e = subst (λ (l : List (List ℕ)). Run m (state w K [] gs) l (state w K [] (gs ++ l))) (sym e) (subst (λ (l : List (List ℕ)). Run m (state w K [] gs) [] (state w K [] l)) (sym (append-nil gs)) run_none)

-- One more is.
joins_more : {m : Limits} (w : Bool) (R : Reading) (K K' : Computation) (gs es es' : List (List ℕ)) (f : List ℕ) → es' ≡ es ++ (f ∷ []) → Run m R es (state w K [] (gs ++ es))
    → Admission m (state w K [] (gs ++ es)) f (state w K' [] ((gs ++ es) ++ (f ∷ []))) → Run m R es' (state w K' [] (gs ++ es'))
joins_more {m} w R K K' gs es es' f e p a =
    subst (λ (l : List (List ℕ)). Run m R l (state w K' [] (gs ++ l))) (sym e)
    (subst (λ (l : List (List ℕ)). Run m R (es ++ (f ∷ [])) (state w K' [] l)) (append_assoc gs es (f ∷ [])) (run-append p (run_more a run_none)))

-- They stay.
joins_same : {m : Limits} (w : Bool) (R : Reading) (K : Computation) (gs es es' : List (List ℕ)) → es' ≡ es → Run m R es (state w K [] (gs ++ es)) → Run m R es' (state w K [] (gs ++ es'))
joins_same {m} w R K gs es es' e p = subst (λ (l : List (List ℕ)). Run m R l (state w K [] (gs ++ l))) (sym e) p

pub joins_nothing : (m : Limits) → Joins m nothing
unfolding opened of_kind
joins_nothing m w c C a b side room gs = joins_none w _ gs _ refl

module _ (m : Limits) (r : Reading) (law : Lawful m r) (f : List ℕ) where
  joins_header : (p : Bool) → begun r ≡ false → Joins m (with_header p r f)
  unfolding opened
  joins_header p first w c C a b side room gs =
      let none : of_kind 0x20 (r.frames ++ ((header_kind p ∷ f) ∷ [])) ≡ [] = kind-other 0x20 (header_kind p) (header-kind 0x20 (omega arith) (omega arith) p) r.frames f ∙ no_frames 0x20 (ap (λ (x : Reading). x.frames) (law.blank (begun-false r first))) in
      joins_none w (C (opened (reports_of p (get_or f 0 0) (drop 1 f)))) gs _ (ap (map (λ g. 0x20 ∷ event_bytes p w a b g)) none)

  event-more : (w : Bool) (a b : ℕ) → event_frames w a b (with_event r f) ≡ event_frames w a b r ++ ((0x20 ∷ event_bytes r.panelled w a b f) ∷ [])
  event-more w a b =
      ap (map (λ g. 0x20 ∷ event_bytes r.panelled w a b g)) (kind_same 0x20 r.frames f)
      ∙ map-append (λ g. 0x20 ∷ event_bytes r.panelled w a b g) (of_kind 0x20 r.frames) (f ∷ [])

  joins_event : Joins m r → begun r ≡ true → unsent r ≡ true → event_form r.panelled (stations r.computation) f ≡ true → clock_ok r.computation (station_of f) (event_of r.panelled f).clock ≡ true → Joins m (with_event r f)
  unfolding extended
  joins_event h some silent form ok w c C a b side room gs =
      let K = r.computation in
      let K' = extended K (station_of f) (event_of r.panelled f) in
      let quiet = empty-list K.messages (unsent-true r silent) in
      let there : station_of f < length K.events = omega (arith, law.valid.sizes, (event-true r.panelled (stations K) f form).1) in
      let less : event_count (C K) < m.events = omega (arith, side.events K, side.events K', event_count-extended K (station_of f) (event_of r.panelled f) there) in
      let old = h w c C a b side (omega arith) gs in
      let old' = subst (λ (X : Computation). Run m (state w (C (opened K.initial)) [] gs) (event_frames w a b r) (state w (C X) [] (gs ++ event_frames w a b r))) (bare-is K quiet) old in
      let step = event-step m r.panelled w c C K a b side law.valid.sizes f (begun-true r some) quiet less form ok (gs ++ event_frames w a b r) in
      subst (λ (X : Computation). Run m (state w (C (opened K.initial)) [] gs) (event_frames w a b (with_event r f)) (state w (C X) [] (gs ++ event_frames w a b (with_event r f)))) (sym (bare-is K' quiet))
      (joins_more w (state w (C (opened K.initial)) [] gs) (C K) (C K') gs (event_frames w a b r) _ _ (event-more w a b) old' step)

  joins_message : Joins m r → Joins m (with_message r f)
  unfolding informed
  joins_message h w c C a b side room gs =
      let K = r.computation in
      let less : event_count (C K) ≤ m.events = omega (arith, side.events K, side.events (informed K (message_of f))) in
      joins_same w (state w (C (opened K.initial)) [] gs) (C (bare K)) gs (event_frames w a b r) _ (ap (map (λ g. 0x20 ∷ event_bytes r.panelled w a b g)) (kind-other 0x20 0x25 (omega arith) r.frames f)) (h w c C a b side less gs)

  joins_question : (φ : Formula) → Joins m r → Joins m (with_question r f φ)
  joins_question φ h w c C a b side room gs =
      let K = r.computation in
      joins_same w (state w (C (opened K.initial)) [] gs) (C (bare K)) gs (event_frames w a b r) _ (ap (map (λ g. 0x20 ∷ event_bytes r.panelled w a b g)) (kind-other 0x20 0x30 (omega arith) r.frames f)) (h w c C a b side room gs)

pub joins_kept : {m : Limits} {r s : Reading} {f : List ℕ} → Lawful m r → Joins m r → Admission m r f s → Joins m s
joins_kept {m} {r} law h (a_header {p = p} {f = f} first form) = joins_header m r law f p first
joins_kept {m} {r} law h (a_event {f = f} some u silent l form ok) = joins_event m r law f h some silent form ok
joins_kept {m} {r} law h (a_message {f = f} b u n t c) = joins_message m r law f h
joins_kept {m} {r} law h (a_question {f = f} {φ = φ} b n p t c w) = joins_question m r law f φ h
