-- The merged log: Read accepts it, and what is read of it is the two computations side by side, with the questions of the first.
use mathlib.Core.Path.{◌≡◌, refl, sym, ap, ap₂, subst, ◌∙◌}
use Prim.Native.Nat.{ℕ, suc, ◌+◌, ◌*◌, ◌≤◌, ◌<◌}
use native.Mathlib.Omega.{arith}
use mathlib.Core.Bool.{Bool, true, false, ◌&&◌, ◌||◌}
use mathlib.Core.List.{List, [], ◌∷◌, ◌++◌, map, append-nil, append_assoc}
use mathlib.Core.Option.{some}
use lib.ListN.{length, get_elem?, length-append, length-map}
use lib.Seq.{drop_at}
use lib.Dec.{leb, ltb, eqb}
use borrow.Author.Tests.{lt-ltb, ltb-true, le-leb, eq-eqb}
use Rattle.model.specs.declared.Limits.{Limits}
use Rattle.model.specs.Lists.{between}
use Rattle.model.specs.Bytes.{frame}
use Rattle.model.specs.Formula.{Formula, formula_of, sound}
use Rattle.model.specs.Formula.Formula.{atom, not, and, or, possibly, always}
use Rattle.model.specs.Atom.{sound_atom}
use Rattle.model.specs.Atom.Atom.{in_range, clear}
use Rattle.model.specs.Rules.{as_true, workable}
use Rattle.model.specs.Size.{fits}
use Rattle.model.specs.Computation.{Message, Computation, with_messages, stations, event_count, message_ok}
use Rattle.model.specs.Reading.{Reading, nothing, begun, report_size, reports_of, header_form, opened, unasked, message_of, informed, accepted, read_items}
use Rattle.model.specs.Beside.{numbered_on, beside}
use Rattle.model.specs.Merge.{of_kind, message_bytes, carries, header_bytes, header_frame, event_frames, message_frames, merged_frames}
use Rattle.lattice.proofs.Tests as tests
use Rattle.lattice.proofs.Lists.{All, all_map}
use Rattle.lattice.proofs.Lists.All.{also}
use Rattle.lattice.proofs.Histories.{event_count-opened}
use Rattle.lattice.proofs.Beside.{stations-beside, event_count-beside}
use Rattle.lattice.proofs.BesideSteps.{opened-beside, message_ok_first, message_ok_second}
use Rattle.codec.proofs.Cases.{between_in}
use Rattle.codec.proofs.QuestionFrames.{question_frames, question_frames_spell}
use Rattle.codec.proofs.Accepted.{Admission, a_header, a_message, a_question, accepted-frames}
use Rattle.codec.proofs.MergeBytes.{Covers, length-reports, reports_again, reports-more}
use Rattle.codec.proofs.Run.{Run, run_none, run_more, run-append, run_read}
use Rattle.codec.proofs.MergeRun.{state, bare, first-side, second-side}
use Rattle.codec.proofs.MergeSides.{message_any, headed, Filed}

-- MESSAGES

module _ (m : Limits) (w : Bool) (B : Computation) (a : ℕ) (some_stations : 0 < stations B) where
  message_step : (f : List ℕ) → message_ok B (numbered_on a (message_of f)) ≡ true → (ms : List Message) → length ms < m.messages → (gs : List (List ℕ))
      → Admission m (state w (with_messages B ms) [] gs) (0x25 ∷ message_bytes a f) (state w (with_messages B (ms ++ (numbered_on a (message_of f) ∷ []))) [] (gs ++ ((0x25 ∷ message_bytes a f) ∷ [])))
  unfolding begun unasked informed message_bytes
  message_step f p ms room gs = a_message (lt-ltb 0 (stations B) some_stations) (eq-eqb 0 0 refl) (lt-ltb (length ms) m.messages room) (eq-eqb 4 4 refl) (message_any B ms (numbered_on a (message_of f)) ∙ p)

  messages-run :
      (l : List (List ℕ))
      → All (λ f. message_ok B (numbered_on a (message_of f)) ≡ true) l
      → (ms : List Message)
      → length ms + length l ≤ m.messages
      → (gs : List (List ℕ))
      → Run m (state w (with_messages B ms) [] gs) (map (λ f. 0x25 ∷ message_bytes a f) l) (state w (with_messages B (ms ++ map (λ f. numbered_on a (message_of f)) l)) [] (gs ++ map (λ f. 0x25 ∷ message_bytes a f) l))
  messages-run [] h ms room gs = subst (λ (R : Reading). Run m (state w (with_messages B ms) [] gs) [] R) (ap₂ (λ (l : List Message) (fs : List (List ℕ)). state w (with_messages B l) [] fs) (sym (append-nil ms)) (sym (append-nil gs))) run_none
  messages-run (f ∷ l) (also p h) ms room gs =
      let x = numbered_on a (message_of f) in
      let g : List ℕ = 0x25 ∷ message_bytes a f in
      let rest = messages-run l h (ms ++ (x ∷ [])) (omega (arith, length-append ms (x ∷ []))) (gs ++ (g ∷ [])) in
      run_more (message_step f p ms (omega arith) gs) (subst (λ (R : Reading). Run m (state w (with_messages B (ms ++ (x ∷ []))) [] (gs ++ (g ∷ []))) (map (λ f. 0x25 ∷ message_bytes a f) l) R)
      (ap₂ (λ (k : List Message) (fs : List (List ℕ)). state w (with_messages B k) [] fs) (append_assoc ms (x ∷ []) (map (λ f. numbered_on a (message_of f)) l)) (append_assoc gs (g ∷ []) (map (λ f. 0x25 ∷ message_bytes a f) l))) rest)

-- QUESTIONS

-- A station that is there is there beside others.
pub sound_more : (n k : ℕ) (f : Formula) → sound n f ≡ true → sound (n + k) f ≡ true
unfolding sound sound_atom
sound_more n k (atom (in_range a s lo hi)) h = lt-ltb s (n + k) (omega (arith, ltb-true s n h))
sound_more n k (atom (clear i j)) h =
    let t = (tests.and-true (ltb i n) (ltb j n)).0 h in
    (tests.and-true (ltb i (n + k)) (ltb j (n + k))).1 (lt-ltb i (n + k) (omega (arith, ltb-true i n t.0)), lt-ltb j (n + k) (omega (arith, ltb-true j n t.1)))
sound_more n k (not f) h = sound_more n k f h
sound_more n k (and f g) h = let t = (tests.and-true (sound n f) (sound n g)).0 h in (tests.and-true (sound (n + k) f) (sound (n + k) g)).1 (sound_more n k f t.0, sound_more n k g t.1)
sound_more n k (or f g) h = let t = (tests.and-true (sound n f) (sound n g)).0 h in (tests.and-true (sound (n + k) f) (sound (n + k) g)).1 (sound_more n k f t.0, sound_more n k g t.1)
sound_more n k (possibly f) h = sound_more n k f h
sound_more n k (always f) h = sound_more n k f h

kind-questions : (fs : List (List ℕ)) → of_kind 0x30 fs ≡ question_frames fs
unfolding of_kind question_frames
kind-questions [] = refl
kind-questions ([] ∷ fs) = kind-questions fs
kind-questions ((x ∷ f) ∷ fs) = rw (kind-questions fs) refl

abbrev Good : ℕ → Formula → Type 0
Good n φ = (sound n φ ≡ true) × (fits φ ≡ true) × (workable (as_true φ) ≡ true)

module _ (m : Limits) (w : Bool) (B : Computation) (some_stations : 0 < stations B) where
  question-step : (f : List ℕ) (φ : Formula) → formula_of f ≡ some φ → Good (stations B) φ → (asks : List Formula) → length asks < m.questions → (gs : List (List ℕ))
      → Admission m (state w B asks gs) (0x30 ∷ f) (state w B (asks ++ (φ ∷ [])) (gs ++ ((0x30 ∷ f) ∷ [])))
  unfolding begun
  question-step f φ e (s, z, v) asks room gs = a_question (lt-ltb 0 (stations B) some_stations) (lt-ltb (length asks) m.questions room) e s z v

  questions-run :
      (l : List (List ℕ)) (qs : List Formula)
      → map formula_of l ≡ map some qs
      → ((i : ℕ) (φ : Formula) → get_elem? qs i ≡ some φ → Good (stations B) φ)
      → (asks : List Formula)
      → length asks + length qs ≤ m.questions
      → (gs : List (List ℕ))
      → Run m (state w B asks gs) (map (λ f. 0x30 ∷ f) l) (state w B (asks ++ qs) (gs ++ map (λ f. 0x30 ∷ f) l))
  questions-run [] [] e h asks room gs = subst (λ (R : Reading). Run m (state w B asks gs) [] R) (ap₂ (λ (q : List Formula) (fs : List (List ℕ)). state w B q fs) (sym (append-nil asks)) (sym (append-nil gs))) run_none
  questions-run [] (φ ∷ qs) e h asks room gs = let z : ◌≡◌ {A = ℕ} 0 1 = cc in absurd (omega arith)
  questions-run (f ∷ l) [] e h asks room gs = let z : ◌≡◌ {A = ℕ} 0 1 = cc in absurd (omega arith)
  questions-run (f ∷ l) (φ ∷ qs) e h asks room gs =
      let g : List ℕ = 0x30 ∷ f in
      let here : formula_of f ≡ some φ = cc in
      let there : map formula_of l ≡ map some qs = cc in
      let rest = questions-run l qs there (λ i. h (suc i)) (asks ++ (φ ∷ [])) (omega (arith, length-append asks (φ ∷ []))) (gs ++ (g ∷ [])) in
      run_more (question-step f φ here (h 0 φ refl) asks (omega arith) gs) (subst (λ (R : Reading). Run m (state w B (asks ++ (φ ∷ [])) (gs ++ (g ∷ []))) (map (λ f. 0x30 ∷ f) l) R)
      (ap₂ (λ (q : List Formula) (fs : List (List ℕ)). state w B q fs) (append_assoc asks (φ ∷ []) qs) (append_assoc gs (g ∷ []) (map (λ f. 0x30 ∷ f) l))) rest)

-- THE HEADER

-- Reports of either side are covered, if those of the result carry a panel where one side's do.
pub covers_first : (p q : Bool) → Covers p (p || q)
unfolding report_size
covers_first true q = omega arith
covers_first false true = omega arith
covers_first false false = omega arith

pub covers_second : (p q : Bool) → Covers q (p || q)
unfolding report_size
covers_second true true = omega arith
covers_second true false = omega arith
covers_second false true = omega arith
covers_second false false = omega arith

sizes_together : (w : Bool) (n k : ℕ) → (n + k) * report_size w ≡ n * report_size w + k * report_size w
unfolding report_size
sizes_together true n k = omega arith
sizes_together false n k = omega arith

-- The header's reports of a side, and how many bytes they have.
module _ {m : Limits} {r : Reading} (filed : Filed m r) (some_stations : 1 ≤ stations r.computation) (w : Bool) (c : Covers r.panelled w) where
  fills : stations r.computation * report_size r.panelled ≤ length (headed r)
  fills = omega (arith, filed.size some_stations)

  header_length : length (header_bytes w r) ≡ stations r.computation * report_size w
  header_length = length-reports r.panelled w c (stations r.computation) (headed r) fills

  header_reports : (g : List ℕ) → reports_of w (stations r.computation) (header_bytes w r ++ g) ≡ r.computation.initial
  header_reports g = reports_again r.panelled w c (stations r.computation) (headed r) g fills ∙ sym (filed.reports some_stations)

-- What the two logs are for a merge: filed, with stations, and not too much together.
pub record Mergeable (m : Limits) (r s : Reading) : Type 0 where
  pub first : Filed m r
  pub second : Filed m s
  pub first-begun : 1 ≤ stations r.computation
  pub second-begun : 1 ≤ stations s.computation
  pub few_stations : stations r.computation + stations s.computation ≤ m.stations
  pub few_events : event_count r.computation + event_count s.computation ≤ m.events
  pub few_messages : length r.computation.messages + length s.computation.messages ≤ m.messages

-- Numbered on behind none, a message stays.
numbered-zero : (x : Message) → numbered_on 0 x ≡ x
numbered-zero x = ap₂ (λ (a b : ℕ). record { sender = a; sent = x.sent; receiver = b; received = x.received }) (omega arith) (omega arith)

first-messages : (l : List (List ℕ)) → map (λ f. numbered_on 0 (message_of f)) l ≡ map message_of l
first-messages [] = refl
first-messages (f ∷ l) = ap₂ (λ (x : Message) (k : List Message). x ∷ k) (numbered-zero (message_of f)) (first-messages l)

second-messages : (n : ℕ) (l : List (List ℕ)) → map (λ f. numbered_on n (message_of f)) l ≡ map (numbered_on n) (map message_of l)
second-messages n [] = refl
second-messages n (f ∷ l) = ap (λ (k : List Message). numbered_on n (message_of f) ∷ k) (second-messages n l)

module _ {m : Limits} (r s : Reading) (ok : Mergeable m r s) where
  first_covers : Covers r.panelled (carries r s)
  first_covers = covers_first r.panelled s.panelled

  second_covers : Covers s.panelled (carries r s)
  second_covers = covers_second r.panelled s.panelled

  both-length : length (header_bytes (carries r s) r ++ header_bytes (carries r s) s) ≡ (stations r.computation + stations s.computation) * report_size (carries r s)
  both-length = omega (arith, length-append (header_bytes (carries r s) r) (header_bytes (carries r s) s), header_length ok.first ok.first-begun (carries r s) first_covers, header_length ok.second ok.second-begun (carries r s) second_covers, sizes_together (carries r s) (stations r.computation) (stations s.computation))

  both-reports : reports_of (carries r s) (stations r.computation + stations s.computation) (header_bytes (carries r s) r ++ header_bytes (carries r s) s) ≡ r.computation.initial ++ s.computation.initial
  both-reports =
      let w = carries r s in
      let hr = header_bytes w r in
      let hs = header_bytes w s in
      reports-more w (stations r.computation) (stations s.computation) (hr ++ hs)
      ∙ ap₂ ◌++◌ (header_reports ok.first ok.first-begun w first_covers hs) (
      ap (reports_of w (stations s.computation)) (drop_at hr hs (stations r.computation * report_size w) (header_length ok.first ok.first-begun w first_covers) ∙ sym (append-nil hs))
      ∙ header_reports ok.second ok.second-begun w second_covers [])

  header_admitted : Admission m nothing (header_frame r s) (state (carries r s) (beside (opened r.computation.initial) (opened s.computation.initial)) [] (header_frame r s ∷ []))
  unfolding begun header_form
  header_admitted =
      let w = carries r s in
      let n = stations r.computation + stations s.computation in
      let hb : List ℕ = header_bytes w r ++ header_bytes w s in
      let form : header_form m w (n ∷ hb) ≡ true = (tests.and-true (leb 1 (suc (length hb)) && between 1 m.stations n) (eqb (suc (length hb)) (1 + n * report_size w))).1 (
        (tests.and-true (leb 1 (suc (length hb))) (between 1 m.stations n)).1 (le-leb 1 (suc (length hb)) (omega arith), between_in 1 m.stations n (omega (arith, ok.first-begun)) ok.few_stations),
        eq-eqb (suc (length hb)) (1 + n * report_size w) (omega (arith, both-length)),
      ) in
      subst (λ (X : Computation). Admission m nothing (header_frame r s) (state w X [] (header_frame r s ∷ []))) (ap opened both-reports ∙ opened-beside r.computation.initial s.computation.initial) (a_header {p = w} {f = n ∷ hb} refl form)

  -- ALL FRAMES

  -- Both, without their messages.
  abbrev quiet : Computation
  quiet = beside (bare r.computation) (bare s.computation)

  quiet_is : with_messages quiet [] ≡ quiet
  unfolding beside
  quiet_is = refl

  wide : 0 < stations quiet
  wide = omega (arith, stations-beside (bare r.computation) (bare s.computation), ok.first-begun)

  first_ok : All (λ f. message_ok quiet (numbered_on 0 (message_of f)) ≡ true) (of_kind 0x25 r.frames)
  first_ok = all_map (λ f h. ap (message_ok quiet) (numbered-zero (message_of f)) ∙ message_ok_first (bare r.computation) (bare s.computation) ok.first.lawful.valid.sizes (message_of f) (message_any r.computation [] (message_of f) ∙ h.1)) ok.first.posted.sound

  second_ok : All (λ f. message_ok quiet (numbered_on (stations r.computation) (message_of f)) ≡ true) (of_kind 0x25 s.frames)
  second_ok = all_map (λ f h. message_ok_second (bare r.computation) (bare s.computation) ok.first.lawful.valid.sizes (message_of f) (message_any s.computation [] (message_of f) ∙ h.1)) ok.second.posted.sound

  all_messages : with_messages quiet (map (λ f. numbered_on 0 (message_of f)) (of_kind 0x25 r.frames) ++ map (λ f. numbered_on (stations r.computation) (message_of f)) (of_kind 0x25 s.frames)) ≡ beside r.computation s.computation
  unfolding beside
  all_messages = ap₂ (λ (a b : List Message). with_messages quiet (a ++ b))
      (first-messages (of_kind 0x25 r.frames) ∙ sym ok.first.posted.are)
      (second-messages (stations r.computation) (of_kind 0x25 s.frames) ∙ ap (map (numbered_on (stations r.computation))) (sym ok.second.posted.are))

  good : (i : ℕ) (φ : Formula) → get_elem? r.questions i ≡ some φ → Good (stations (beside r.computation s.computation)) φ
  good i φ e = let h = ok.first.lawful.good i φ e in
      (rw (stations-beside r.computation s.computation) (sound_more (stations r.computation) (stations s.computation) φ h.0), h.1, h.2)

  -- The events of both are let in behind the header.
  events-run : (gs : List (List ℕ)) × Run m (state (carries r s) (beside (opened r.computation.initial) (opened s.computation.initial)) [] (header_frame r s ∷ []))
      (event_frames (carries r s) 0 (stations s.computation) r ++ event_frames (carries r s) (stations r.computation) 0 s) (state (carries r s) quiet [] gs)
  unfolding opened
  events-run =
      let w = carries r s in
      let K = r.computation in
      let L = s.computation in
      let e = ok.first.joins w first_covers (λ X. beside X (opened L.initial)) 0 (stations L) (first-side (opened L.initial) refl (stations K)) (omega (arith, event_count-beside K (opened L.initial), event_count-opened L.initial, ok.few_events)) (header_frame r s ∷ []) in
      let f = ok.second.joins w second_covers (λ X. beside (bare K) X) (stations K) 0 (second-side (bare K) refl ok.first.lawful.valid.sizes (stations L)) (omega (arith, event_count-beside (bare K) L, ok.few_events)) _ in
      (_, run-append e f)

  -- Behind them the messages of both.
  messages-both : (gs : List (List ℕ)) → (hs : List (List ℕ)) × Run m (state (carries r s) quiet [] gs) (message_frames 0 r ++ message_frames (stations r.computation) s) (state (carries r s) (beside r.computation s.computation) [] hs)
  messages-both gs =
      let w = carries r s in
      let lr = of_kind 0x25 r.frames in
      let ls = of_kind 0x25 s.frames in
      let a = ap length ok.first.posted.are ∙ length-map lr message_of in
      let b = ap length ok.second.posted.are ∙ length-map ls message_of in
      let M = map (λ f. numbered_on 0 (message_of f)) lr in
      let p = messages-run m w quiet 0 wide lr first_ok [] (omega (arith, ok.few_messages, a)) gs in
      let q = messages-run m w quiet (stations r.computation) wide ls second_ok M (omega (arith, ok.few_messages, a, b, length-map lr (λ f. numbered_on 0 (message_of f)))) (gs ++ message_frames 0 r) in
      let q' = subst (λ (X : Computation). Run m (state w (with_messages quiet M) [] (gs ++ message_frames 0 r)) (message_frames (stations r.computation) s) (state w X [] ((gs ++ message_frames 0 r) ++ message_frames (stations r.computation) s))) all_messages q in
      let hs = (gs ++ message_frames 0 r) ++ message_frames (stations r.computation) s in
      (hs, subst (λ (X : Computation). Run m (state w X [] gs) (message_frames 0 r ++ message_frames (stations r.computation) s) (state w (beside r.computation s.computation) [] hs)) quiet_is (run-append p q'))

  -- And the questions of the first.
  questions-first : (gs : List (List ℕ)) → (hs : List (List ℕ)) × Run m (state (carries r s) (beside r.computation s.computation) [] gs) (map (λ f. 0x30 ∷ f) (of_kind 0x30 r.frames)) (state (carries r s) (beside r.computation s.computation) r.questions hs)
  questions-first gs =
      let B = beside r.computation s.computation in (
        gs ++ map (λ f. 0x30 ∷ f) (of_kind 0x30 r.frames),
        questions-run m (carries r s) B (omega (arith, stations-beside r.computation s.computation, ok.first-begun)) (of_kind 0x30 r.frames) r.questions
            (ap (map formula_of) (kind-questions r.frames) ∙ question_frames_spell ok.first.lawful.framed) good [] (omega (arith, ok.first.lawful.few_questions)) gs,
      )

  -- What is read of the merged log's frames.
  abbrev pub merged : Reading
  merged = state (carries r s) (beside r.computation s.computation) r.questions (merged_frames r s)

  pub all_run : (hs : List (List ℕ)) × Run m nothing (merged_frames r s) (state (carries r s) (beside r.computation s.computation) r.questions hs)
  unfolding merged_frames
  all_run =
      let w = carries r s in
      let e = events-run in
      let p = messages-both e.0 in
      let q = questions-first p.0 in
      let E = event_frames w 0 (stations s.computation) r in
      let F = event_frames w (stations r.computation) 0 s in
      let M = message_frames 0 r in
      let N = message_frames (stations r.computation) s in
      let Q = map (λ (f : List ℕ). 0x30 ∷ f) (of_kind 0x30 r.frames) in (
        q.0,
        run_more header_admitted (subst (λ (l : List (List ℕ)). Run m (state w (beside (opened r.computation.initial) (opened s.computation.initial)) [] (header_frame r s ∷ [])) l (state w (beside r.computation s.computation) r.questions q.0))
            (append_assoc E F ((M ++ N) ++ Q) ∙ ap (λ (l : List (List ℕ)). E ++ (F ++ l)) (append_assoc M N Q)) (run-append e.1 (run-append p.1 q.1))),
      )

  pub merged_read : read_items m 1 nothing (map frame (merged_frames r s)) ≡ accepted merged
  unfolding begun
  merged_read =
      let x = all_run in
      let h = run_read 1 x.1 (lt-ltb 0 (stations (beside r.computation s.computation)) (omega (arith, stations-beside r.computation s.computation, ok.first-begun))) in
      h ∙ ap (λ (fs : List (List ℕ)). accepted (state (carries r s) (beside r.computation s.computation) r.questions fs)) (accepted-frames m _ (merged_frames r s) h)
