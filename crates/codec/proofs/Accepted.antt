-- What was read: each frame let in by its kind's rule, and a property that every frame keeps holds of all that was read.
use mathlib.Core.Path.{◌≡◌, refl, sym, ap, ◌∙◌}
use mathlib.Core.Bool.{Bool, true, false, ◌&&◌}
use mathlib.Core.Bool as bool
use mathlib.Core.List.{List, [], ◌∷◌, ◌++◌, map, append_assoc, append-nil, map-append}
use mathlib.Core.Option.{Option, none, some}
use Prim.Native.Nat.{ℕ, suc, ◌+◌, ◌*◌, ◌<◌, ◌≤◌}
use native.Mathlib.Omega.{arith}
use lib.Dec.{leb, ltb, eqb}
use lib.ListN.{length, get_or, drop}
use borrow.Author.Tests.{ltb-true, ltb-false, eqb-true, not-true}
use Rattle.model.specs.declared.Limits.{Limits}
use Rattle.model.specs.Lists.{between}
use Rattle.model.specs.Bytes.{lines_of, Item, frame, bad, items}
use Rattle.model.specs.Frames.{frames_of}
use Rattle.model.specs.Formula.{Formula, formula_of, sound}
use Rattle.model.specs.Computation.{stations, event_count, clock_ok, message_ok}
use Rattle.model.specs.Rules.{as_true, workable}
use Rattle.model.specs.Size.{fits}
use Rattle.model.specs.Reading.{Reading, nothing, begun, Step, go, fault, check, report_size, reports_of, header_kind, header_form, with_header, admit_header, station_of, event_of, event_form, with_event, unasked, unsent, admit_event, message_of, with_message, admit_message, with_question, asked, admit_question, admit, Result, refused, accepted, finish, proceed, read_items, read_log, read_frames, read_list}
use Rattle.lattice.proofs.Reports.{length-reports}
use Rattle.codec.proofs.Cases.{cases, and-true, between-true}

-- ONE FRAME

-- A frame that is let in, with the tests that it passed, and what has been read after it.
pub data Admission (m : Limits) (r : Reading) : List ℕ → Reading → Type 0 where
  a_header : {p : Bool} {f : List ℕ} → begun r ≡ false → header_form m p f ≡ true → Admission m r (header_kind p ∷ f) (with_header p r f)
  a_event :
      {f : List ℕ}
      → begun r ≡ true
      → unasked r ≡ true
      → unsent r ≡ true
      → ltb (event_count r.computation) m.events ≡ true
      → event_form r.panelled (stations r.computation) f ≡ true
      → clock_ok r.computation (station_of f) (event_of r.panelled f).clock ≡ true
      → Admission m r (0x20 ∷ f) (with_event r f)
  a_message :
      {f : List ℕ}
      → begun r ≡ true
      → unasked r ≡ true
      → ltb (length r.computation.messages) m.messages ≡ true
      → eqb (length f) 4 ≡ true
      → message_ok r.computation (message_of f) ≡ true
      → Admission m r (0x25 ∷ f) (with_message r f)
  a_question :
      {f : List ℕ} {φ : Formula}
      → begun r ≡ true
      → ltb (length r.questions) m.questions ≡ true
      → formula_of f ≡ some φ
      → sound (stations r.computation) φ ≡ true
      → fits φ ≡ true
      → workable (as_true φ) ≡ true
      → Admission m r (0x30 ∷ f) (with_question r f φ)

fault-go : {B : Type 0} {k : ℕ} {r : Reading} → fault k ≡ go r → B
fault-go e = let z : ◌≡◌ {A = ℕ} 0 1 = cc in absurd (omega arith)

check-go : (k : ℕ) (b : Bool) (s : Step) (r : Reading) → check k b s ≡ go r → (b ≡ true) × (s ≡ go r)
unfolding check
check-go k true s r e = (refl, e)
check-go k false s r e = fault-go e

module _ (m : Limits) (r s : Reading) (f : List ℕ) where
  by_header : (p : Bool) → admit_header m p r f ≡ go s → Admission m r (header_kind p ∷ f) s
  unfolding admit_header
  by_header p e =
      let a = check-go 4 (bool.not (begun r)) _ s e in
      let b = check-go 5 (header_form m p f) _ s a.1 in
      let n : with_header p r f ≡ s = cc b.1 in
      rw (← n) (a_header (not-true (begun r) a.0) b.0)

  by_event : admit_event m r f ≡ go s → Admission m r (0x20 ∷ f) s
  unfolding admit_event
  by_event e =
      let a = check-go 4 (begun r && unasked r && unsent r && ltb (event_count r.computation) m.events) _ s e in
      let t = and-true (begun r && unasked r && unsent r) (ltb (event_count r.computation) m.events) a.0 in
      let v = and-true (begun r && unasked r) (unsent r) t.0 in
      let u = and-true (begun r) (unasked r) v.0 in
      let b = check-go 6 (event_form r.panelled (stations r.computation) f) _ s a.1 in
      let c = check-go 7 (clock_ok r.computation (station_of f) (event_of r.panelled f).clock) _ s b.1 in
      let n : with_event r f ≡ s = cc c.1 in
      rw (← n) (a_event u.0 u.1 v.1 t.1 b.0 c.0)

  by_message : admit_message m r f ≡ go s → Admission m r (0x25 ∷ f) s
  unfolding admit_message
  by_message e =
      let a = check-go 4 (begun r && unasked r && ltb (length r.computation.messages) m.messages) _ s e in
      let t = and-true (begun r && unasked r) (ltb (length r.computation.messages) m.messages) a.0 in
      let u = and-true (begun r) (unasked r) t.0 in
      let b = check-go 15 (eqb (length f) 4 && message_ok r.computation (message_of f)) _ s a.1 in
      let v = and-true (eqb (length f) 4) (message_ok r.computation (message_of f)) b.0 in
      let n : with_message r f ≡ s = cc b.1 in
      rw (← n) (a_message u.0 u.1 t.1 v.0 v.1)

  by_asked : (o : Option Formula) → formula_of f ≡ o → begun r ≡ true → ltb (length r.questions) m.questions ≡ true → asked r f o ≡ go s → Admission m r (0x30 ∷ f) s
  unfolding asked
  by_asked none p h g e = fault-go e
  by_asked (some φ) p h g e =
      let a = check-go 8 (sound (stations r.computation) φ) _ s e in
      let b = check-go 9 (fits φ) _ s a.1 in
      let c = check-go 16 (workable (as_true φ)) _ s b.1 in
      let n : with_question r f φ ≡ s = cc c.1 in
      rw (← n) (a_question h g p a.0 b.0 c.0)

  by_question : admit_question m r f ≡ go s → Admission m r (0x30 ∷ f) s
  unfolding admit_question
  by_question e =
      let a = check-go 4 (begun r && ltb (length r.questions) m.questions) _ s e in
      let t = and-true (begun r) (ltb (length r.questions) m.questions) a.0 in
      by_asked (formula_of f) refl t.0 t.1 a.1

-- The kind decides which rule a frame passed.
pub admitted : (m : Limits) (r s : Reading) (f : List ℕ) → admit m r f ≡ go s → Admission m r f s
unfolding admit header_kind
admitted m r s [] e = fault-go e
admitted m r s (k ∷ f) e =
    cases (eqb k 0x10) e (λ t e. rw (eqb-true k 0x10 t) (by_header m r s f false e)) (λ t e.
    cases (eqb k 0x11) e (λ t e. rw (eqb-true k 0x11 t) (by_header m r s f true e)) (λ t e.
    cases (eqb k 0x20) e (λ t e. rw (eqb-true k 0x20 t) (by_event m r s f e)) (λ t e.
    cases (eqb k 0x25) e (λ t e. rw (eqb-true k 0x25 t) (by_message m r s f e)) (λ t e.
    cases (eqb k 0x30) e (λ t e. rw (eqb-true k 0x30 t) (by_question m r s f e)) (λ t e.
    fault-go e)))))

-- A frame that passed the tests of its kind is let in.
pub admission_go : {m : Limits} {r s : Reading} {f : List ℕ} → Admission m r f s → admit m r f ≡ go s
unfolding admit header_kind admit_header admit_event admit_message admit_question asked check
admission_go (a_header {p = true} a b) = rw (a, b)
admission_go (a_header {p = false} a b) = rw (a, b)
admission_go (a_event a b c d e f) = rw (a, b, c, d, e, f)
admission_go (a_message a b c d e) = rw (a, b, c, d, e)
admission_go (a_question a b c d e f) = rw (a, b, c, d, e, f)

-- WHAT THE TESTS SAY

pub begun-true : (r : Reading) → begun r ≡ true → 0 < stations r.computation
unfolding begun
begun-true r h = ltb-true 0 (stations r.computation) h

pub begun-false : (r : Reading) → begun r ≡ false → stations r.computation ≡ 0
unfolding begun
begun-false r h = omega (arith, ltb-false 0 (stations r.computation) h)

pub unasked-true : (r : Reading) → unasked r ≡ true → length r.questions ≡ 0
unfolding unasked
unasked-true r h = eqb-true (length r.questions) 0 h

pub unsent-true : (r : Reading) → unsent r ≡ true → length r.computation.messages ≡ 0
unfolding unsent
unsent-true r h = eqb-true (length r.computation.messages) 0 h

-- A header without its kind: the number of stations is within its limit, and each brings a report.
pub record Header (m : Limits) (p : Bool) (f : List ℕ) : Type 0 where
  pub low : 1 ≤ get_or f 0 0
  pub high : get_or f 0 0 ≤ m.stations
  pub size : length f ≡ 1 + get_or f 0 0 * report_size p
  pub reports : length (reports_of p (get_or f 0 0) (drop 1 f)) ≡ get_or f 0 0

pub header_true : (m : Limits) (p : Bool) (f : List ℕ) → header_form m p f ≡ true → Header m p f
unfolding header_form
header_true m p f h =
    let t = and-true (leb 1 (length f) && between 1 m.stations (get_or f 0 0)) (eqb (length f) (1 + get_or f 0 0 * report_size p)) h in
    let n = between-true 1 m.stations (get_or f 0 0) (and-true (leb 1 (length f)) (between 1 m.stations (get_or f 0 0)) t.0).1 in
    record { low = n.0; high = n.1; size = eqb-true (length f) (1 + get_or f 0 0 * report_size p) t.1; reports = length-reports p (get_or f 0 0) (drop 1 f) }

-- An event without its kind.
pub event-true : (p : Bool) (n : ℕ) (f : List ℕ) → event_form p n f ≡ true → (length f ≡ 1 + report_size p + n) × (station_of f < n)
unfolding event_form
event-true p n f h =
    let t = and-true (eqb (length f) (1 + report_size p + n)) (ltb (station_of f) n) h in
    (eqb-true (length f) (1 + report_size p + n) t.0, ltb-true (station_of f) n t.1)

-- ALL FRAMES

pub refused-accepted : {B : Type 0} {k n : ℕ} {r : Reading} → refused k n ≡ accepted r → B
refused-accepted e = let z : ◌≡◌ {A = ℕ} 0 1 = cc in absurd (omega arith)

pub proceed-accepted : (on : Reading → Result) (n : ℕ) (t : Step) (s : Reading) → proceed on n t ≡ accepted s → (u : Reading) × (t ≡ go u) × (on u ≡ accepted s)
unfolding proceed
proceed-accepted on n (go u) s e = (u, refl, e)
proceed-accepted on n (fault k) s e = refused-accepted e

pub finish-accepted : (r s : Reading) → finish r ≡ accepted s → (r ≡ s) × (begun s ≡ true)
unfolding finish
finish-accepted r s e = cases (begun r) e (λ b e. let n : r ≡ s = cc in (n, sym (ap begun n) ∙ b)) (λ b e. refused-accepted e)

-- What holds before the first frame, and is kept by each frame that is let in, holds of all that was read.
pub read_items_invariant :
    (m : Limits) (P : Reading → Type 0)
    → ((r s : Reading) (f : List ℕ) → P r → Admission m r f s → P s)
    → (n : ℕ) (r s : Reading) (l : List Item)
    → P r
    → read_items m n r l ≡ accepted s
    → P s
unfolding read_items
read_items_invariant m P keeps n r s [] p e = rw (finish-accepted r s e).0 at p
read_items_invariant m P keeps n r s (bad k ∷ l) p e = refused-accepted e
read_items_invariant m P keeps n r s (frame f ∷ l) p e =
    let x = proceed-accepted _ n (admit m r f) s e in
    read_items_invariant m P keeps (suc n) x.0 s l (keeps r x.0 f p (admitted m r x.0 f x.1)) x.2

-- What is accepted has a header.
pub accepted-begun : (m : Limits) (n : ℕ) (r s : Reading) (l : List Item) → read_items m n r l ≡ accepted s → begun s ≡ true
unfolding read_items
accepted-begun m n r s [] e = (finish-accepted r s e).1
accepted-begun m n r s (bad k ∷ l) e = refused-accepted e
accepted-begun m n r s (frame f ∷ l) e =
    let x = proceed-accepted _ n (admit m r f) s e in
    accepted-begun m (suc n) x.0 s l x.2

pub admitted_frames : {m : Limits} {r s : Reading} {f : List ℕ} → Admission m r f s → s.frames ≡ r.frames ++ (f ∷ [])
admitted_frames (a_header h g) = refl
admitted_frames (a_event h g s k t u) = refl
admitted_frames (a_message h g k t u) = refl
admitted_frames (a_question h g k t u w) = refl

-- What is kept are the frames that were read, and every line brought one.
pub accepted-items : (m : Limits) (n : ℕ) (r s : Reading) (l : List Item) → read_items m n r l ≡ accepted s → map frame s.frames ≡ map frame r.frames ++ l
unfolding read_items
accepted-items m n r s [] e = rw ((finish-accepted r s e).0, append-nil (map frame s.frames))
accepted-items m n r s (bad k ∷ l) e = refused-accepted e
accepted-items m n r s (frame f ∷ l) e =
    let x = proceed-accepted _ n (admit m r f) s e in
    let a = admitted_frames (admitted m r x.0 f x.1) in
    accepted-items m (suc n) x.0 s l x.2
    ∙ rw (a, map-append frame r.frames (f ∷ []), append_assoc (map frame r.frames) (frame f ∷ []) l)

map_same : (fs gs : List (List ℕ)) → map frame fs ≡ map frame gs → fs ≡ gs
map_same [] [] e = refl
map_same [] (g ∷ gs) e = let z : ◌≡◌ {A = ℕ} 0 1 = cc in absurd (omega arith)
map_same (f ∷ fs) [] e = let z : ◌≡◌ {A = ℕ} 0 1 = cc in absurd (omega arith)
map_same (f ∷ fs) (g ∷ gs) e =
    let h : map frame fs ≡ map frame gs = cc in
    let t = map_same fs gs h in
    cc

-- The frames that were read are kept as they are.
pub accepted-frames : (m : Limits) (r : Reading) (fs : List (List ℕ)) → read_items m 1 nothing (map frame fs) ≡ accepted r → r.frames ≡ fs
accepted-frames m r fs e = map_same r.frames fs (accepted-items m 1 nothing r (map frame fs) e)

-- A LOG AND A FRAME LIST

-- What an accepted log's lines bring is accepted.
pub accepted-log : (m : Limits) (log : List ℕ) (r : Reading) → read_log m log ≡ accepted r → read_items m 1 nothing (items (lines_of log)) ≡ accepted r
unfolding read_log
accepted-log m log r e = cases (leb (length log) m.bytes) e (λ t e. e) (λ t e. refused-accepted e)

by_frames : (m : Limits) (o : Option (List (List ℕ))) (r : Reading) → read_frames m o ≡ accepted r → (o ≡ some r.frames) × (read_items m 1 nothing (map frame r.frames) ≡ accepted r)
unfolding read_frames
by_frames m none r e = refused-accepted e
by_frames m (some fs) r e =
    let n = accepted-frames m r fs e in
    (ap some (sym n), ap (λ (gs : List (List ℕ)). read_items m 1 nothing (map frame gs)) n ∙ e)

-- An accepted list splits into the frames that were read, and these are accepted.
pub accepted-list : (m : Limits) (l : List ℕ) (r : Reading) → read_list m l ≡ accepted r → (frames_of l ≡ some r.frames) × (read_items m 1 nothing (map frame r.frames) ≡ accepted r)
unfolding read_list
accepted-list m l r e = cases (leb (length l) m.list) e (λ t e. by_frames m (frames_of l) r e) (λ t e. refused-accepted e)
