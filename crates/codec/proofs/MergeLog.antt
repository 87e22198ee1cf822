-- The merged log in bytes: each of its frames has a line, and Read accepts it.
use mathlib.Core.Path.{◌≡◌, refl, sym, ap, subst, ◌∙◌}
use Prim.Native.Nat.{ℕ, zero, suc, ◌+◌, ◌-◌, ◌≤◌, ◌<◌}
use native.Mathlib.Omega.{arith}
use mathlib.Core.Bool.{Bool, true, false, cond}
use mathlib.Core.List.{List, [], ◌∷◌, ◌++◌, map}
use mathlib.Core.Option.{some}
use lib.ListN.{length, get_elem?, get_or, take, drop, take-append-drop}
use lib.Seq.{take_at}
use lib.Dec.{ltb, eqb}
use borrow.Author.Tests.{ltb-false, le-leb, le-ltb, eqb-true}
use Rattle.model.specs.declared.Limits.{Limits}
use Rattle.model.specs.Bytes.{lines_of, frame, items}
use Rattle.model.specs.Cut.{empty}
use Rattle.model.specs.Computation.{stations, full, event_count}
use Rattle.model.specs.Reading.{Reading, report_size, header_kind, station_of, message_of, Result, refused, accepted, read_log}
use Rattle.model.specs.Beside.{beside}
use Rattle.model.specs.Merge.{of_kind, report_bytes, reports_bytes, event_bytes, message_bytes, carries, header_bytes, event_frames, message_frames, merged_frames}
use Rattle.model.specs.Limits.{barspace_size, line_size}
use Rattle.model.specs.Formula.{Formula}
use Rattle.model.specs.Rules.{as_true}
use Rattle.model.specs.Forecast.{forecast}
use Rattle.model.specs.Rounds.{rounds}
use Rattle.model.specs.Answer.{Answer, answer, answer_line}
use Rattle.model.specs.Promise.{Asked, Merged, Merges}
use Rattle.model.specs.Operations.{answer_op, refuse, write, merged_log, too_wide_together, too_many_together, merge_effect, merge_op}
use Rattle.lattice.proofs.Lists.{all_append, all_map, all_both, all_to_map, all_at}
use Rattle.lattice.proofs.Lists.All.{done, also}
use Rattle.lattice.proofs.Beside.{consistent-parts}
use Rattle.lattice.proofs.BesideTruth.{true-beside, false-beside}
use Rattle.lattice.proofs.BesideAnswer.{answered-beside, answer-beside}
use Rattle.lattice.proofs.Held.{fits_to}
use Rattle.lattice.proofs.MessageRule.{message_ok_iff}
use Rattle.lattice.proofs.Reports.{report-size, reports-size}
use Rattle.codec.specs.Limits.{Suitable}
use Rattle.codec.proofs.Bytes.{Bytes, bytes-none, bytes-cons, bytes_tail, bytes-append, bytes_left, bytes_drop, bytes_zeros}
use Rattle.codec.proofs.Cases.{or-false, Each}
use Rattle.codec.proofs.Formulas.{length-formula}
use Rattle.codec.proofs.Frames.{Sized}
use Rattle.codec.proofs.Lines.{IsFrame}
use Rattle.codec.proofs.Logs.{items-log}
use Rattle.codec.proofs.Accepted.{Admission, a_header, a_event, a_message, a_question, header_true, event-true, accepted-log}
use Rattle.codec.proofs.Lawful.{Lawful, nothing_lawful, admitted_lawful}
use Rattle.codec.proofs.Readings.{log-accepted, log_are_frames}
use Rattle.codec.proofs.Sizes.{short-log}
use Rattle.codec.proofs.Operations.{refuses-gives}
use Rattle.codec.proofs.Demands.{asked_written}
use Rattle.codec.proofs.Run.{Run, run_none, run_more}
use Rattle.codec.proofs.MergeSides.{headed, Filed, items-filed}
use Rattle.codec.proofs.Merge.{Mergeable, merged, all_run, merged_read}

-- LENGTHS: a frame that is let in is not too long

admitted_sized : {m : Limits} {r s : Reading} {f : List ℕ} → Suitable m → Lawful m r → Admission m r f s → Sized f
admitted_sized {m} {r} fit law (a_header {p = p} {f = f} first form) = let h = header_true m p f form in (omega arith, omega (arith, h, reports-size p (get_or f 0 0), fit.stations))
admitted_sized {m} {r} fit law (a_event {f = f} b u v n form ok) = let h = event-true r.panelled (stations r.computation) f form in (omega arith, omega (arith, h, report-size r.panelled, law.few_stations, fit.stations))
admitted_sized {m} {r} fit law (a_message {f = f} b u n four ok) = (omega arith, omega (arith, eqb-true (length f) 4 four))
admitted_sized {m} {r} fit law (a_question {f = f} {φ = φ} b n is named size works) = (omega arith, omega (arith, length-formula f φ is, fits_to φ size))

run-sized : {m : Limits} {r t : Reading} {fs : List (List ℕ)} → Suitable m → Lawful m r → Run m r fs t → Each Sized fs
run-sized fit law run_none = done
run-sized fit law (run_more a p) = also (admitted_sized fit law a) (run-sized fit (admitted_lawful law a) p)

-- BYTES

bytes_take : (n : ℕ) (l : List ℕ) → Bytes l → Bytes (take n l)
bytes_take n l h = bytes_left (take n l) (drop n l) (subst Bytes (sym (take-append-drop n l)) h)

kind-bytes : (k : ℕ) (fs : List (List ℕ)) → Each Bytes fs → Each Bytes (of_kind k fs)
unfolding of_kind
kind-bytes k [] h = done
kind-bytes k ([] ∷ fs) (also h g) = kind-bytes k fs g
kind-bytes k ((x ∷ f) ∷ fs) (also h g) = by (eqb x k) (kind-bytes k fs g)
  where
    by : (t : Bool) → Each Bytes (of_kind k fs) → Each Bytes (cond t (f ∷ of_kind k fs) (of_kind k fs))
    by true r = also (bytes_tail x f h) r
    by false r = r

report-bytes : (p w : Bool) (f : List ℕ) → Bytes f → Bytes (report_bytes p w f)
unfolding report_bytes
report-bytes p w f h = bytes-append (take (report_size p) f) (empty (report_size w - report_size p)) (bytes_take (report_size p) f h) (bytes_zeros (report_size w - report_size p))

reports-bytes : (p w : Bool) (n : ℕ) (f : List ℕ) → Bytes f → Bytes (reports_bytes p w n f)
unfolding reports_bytes
reports-bytes p w zero f h = bytes-none
reports-bytes p w (suc n) f h = bytes-append (report_bytes p w f) (reports_bytes p w n (drop (report_size p) f)) (report-bytes p w f h) (reports-bytes p w n (drop (report_size p) f) (bytes_drop (report_size p) f h))

event-bytes : (p w : Bool) (a b : ℕ) (f : List ℕ) → a + station_of f < 256 → Bytes f → Bytes (0x20 ∷ event_bytes p w a b f)
unfolding event_bytes
event-bytes p w a b f l h =
    let v = drop (1 + report_size p) f in
    let g = report_bytes p w (drop 1 f) ++ (empty a ++ (v ++ empty b)) in
    bytes-cons 0x20 ((a + station_of f) ∷ g) (omega arith) (bytes-cons (a + station_of f) g l (bytes-append (report_bytes p w (drop 1 f)) (empty a ++ (v ++ empty b)) (report-bytes p w (drop 1 f) (bytes_drop 1 f h))
    (bytes-append (empty a) (v ++ empty b) (bytes_zeros a) (bytes-append v (empty b) (bytes_drop (1 + report_size p) f h) (bytes_zeros b)))))

message-bytes : (a : ℕ) (f : List ℕ) → a + get_or f 0 0 < 256 → a + get_or f 2 0 < 256 → Bytes f → Bytes (0x25 ∷ message_bytes a f)
unfolding message_bytes
message-bytes a f l g h =
    let x = get_or f 1 0 in
    let y = a + get_or f 2 0 in
    let z = get_or f 3 0 in
    bytes-cons 0x25 ((a + get_or f 0 0) ∷ x ∷ y ∷ z ∷ []) (omega arith) (bytes-cons (a + get_or f 0 0) (x ∷ y ∷ z ∷ []) l (bytes-cons x (y ∷ z ∷ []) (h 1) (bytes-cons y (z ∷ []) g (bytes-cons z [] (h 3) bytes-none))))

kind_of_bytes : (w : Bool) → header_kind w < 256
unfolding header_kind
kind_of_bytes true = omega arith
kind_of_bytes false = omega arith

-- The events of a side, its messages, and its header's reports.
module _ {m : Limits} (fit : Suitable m) {r : Reading} (filed : Filed m r) (framed : Each IsFrame r.frames) where
  all_bytes : Each Bytes r.frames
  all_bytes = all_map (λ f h. h.bytes) framed

  events-bytes : (w : Bool) (a b : ℕ) → a + stations r.computation ≤ m.stations → Each Bytes (event_frames w a b r)
  events-bytes w a b h = all_to_map (λ f. 0x20 ∷ event_bytes r.panelled w a b f)
      (all_map (λ f g. event-bytes r.panelled w a b f (omega (arith, g.0.1, fit.stations)) g.1) (all_both filed.placed (kind-bytes 0x20 r.frames all_bytes)))

  messages-bytes : (a : ℕ) → a + stations r.computation ≤ m.stations → Each Bytes (message_frames a r)
  messages-bytes a h = all_to_map (λ f. 0x25 ∷ message_bytes a f)
      (all_map (λ f g. let s = (message_ok_iff r.computation (message_of f)).0 g.0.1 in
      message-bytes a f (omega (arith, s.sender-there, fit.stations)) (omega (arith, s.receiver-there, fit.stations)) g.1) (all_both filed.posted.sound (kind-bytes 0x25 r.frames all_bytes)))

  questions-bytes : Each Bytes (map (λ f. 0x30 ∷ f) (of_kind 0x30 r.frames))
  questions-bytes = all_to_map (λ f. 0x30 ∷ f) (all_map (λ f g. bytes-cons 0x30 f (omega arith) g) (kind-bytes 0x30 r.frames all_bytes))

  header-bytes : (w : Bool) → 0 < length r.frames → Bytes (header_bytes w r)
  header-bytes w h = reports-bytes r.panelled w (stations r.computation) (headed r) (bytes_drop 2 (get_or r.frames 0 []) (all_at all_bytes [] 0 h))

-- THE LOG

module _ {m : Limits} (fit : Suitable m) (r s : Reading) (ok : Mergeable m r s) (fr : Each IsFrame r.frames) (fs : Each IsFrame s.frames) where
  merged-bytes : Each Bytes (merged_frames r s)
  unfolding merged_frames
  merged-bytes =
      let w = carries r s in
      let n = stations r.computation in
      let k = stations s.computation in
      also
      (bytes-cons (header_kind w) ((n + k) ∷ (header_bytes w r ++ header_bytes w s)) (kind_of_bytes w) (bytes-cons (n + k) (header_bytes w r ++ header_bytes w s) (omega (arith, ok.few_stations, fit.stations)) (bytes-append (header_bytes w r) (header_bytes w s)
      (header-bytes fit ok.first fr w (omega (arith, ok.first.lawful.counted ok.first-begun))) (header-bytes fit ok.second fs w (omega (arith, ok.second.lawful.counted ok.second-begun))))))
      (all_append (events-bytes fit ok.first fr w 0 k (omega (arith, ok.few_stations)))
      (all_append (events-bytes fit ok.second fs w n 0 ok.few_stations)
      (all_append (messages-bytes fit ok.first fr 0 (omega (arith, ok.few_stations)))
      (all_append (messages-bytes fit ok.second fs n ok.few_stations) (questions-bytes fit ok.first fr)))))

  pub merged-frames : Each IsFrame (merged_frames r s)
  merged-frames = all_map (λ f h. record { sized = h.0; bytes = h.1 }) (all_both (run-sized fit (nothing_lawful m) (all_run r s ok).1) merged-bytes)

  -- Read accepts it, and reads the two computations side by side.
  pub merged-log : read_log m (merged_log r s) ≡ accepted (merged r s ok)
  unfolding read_log
  merged-log =
      let h = merged_read r s ok in
      let l = short-log fit (merged r s ok) (map frame (merged_frames r s)) h in
      rw (le-leb (length (merged_log r s)) m.bytes l, items-log (merged_frames r s) merged-frames) h

-- TWO ACCEPTED LOGS

module _ {m : Limits} (fit : Suitable m) (one two : List ℕ) (r s : Reading) (e : read_log m one ≡ accepted r) (e' : read_log m two ≡ accepted s) where
  pub logs_mergeable : too_wide_together m r s ≡ false → too_many_together m r s ≡ false → Mergeable m r s
  unfolding too_wide_together too_many_together
  logs_mergeable h g =
      let K = r.computation in
      let L = s.computation in
      let t = or-false (ltb m.events (event_count K + event_count L)) (ltb m.messages (length K.messages + length L.messages)) g in
      record {
        first = items-filed m (items (lines_of one)) r (accepted-log m one r e);
        second = items-filed m (items (lines_of two)) s (accepted-log m two s e');
        first-begun = (log-accepted m one r e).begun;
        second-begun = (log-accepted m two s e').begun;
        few_stations = omega (arith, ltb-false m.stations (stations K + stations L) h);
        few_events = omega (arith, ltb-false m.events (event_count K + event_count L) t.0);
        few_messages = omega (arith, ltb-false m.messages (length K.messages + length L.messages) t.1);
      }

  module _ (h : too_wide_together m r s ≡ false) (g : too_many_together m r s ≡ false) where
    -- The log of both is accepted, and what is read of it is the two computations side by side, with the questions of the first.
    pub merge_reads : read_log m (merged_log r s) ≡ accepted (merged r s (logs_mergeable h g))
    merge_reads = merged-log fit r s (logs_mergeable h g) (log_are_frames m one r e) (log_are_frames m two s e')

    -- It is no longer than a log may be.
    pub merge_short : length (merged_log r s) ≤ m.bytes
    merge_short = short-log fit (merged r s (logs_mergeable h g)) (map frame (merged_frames r s)) (merged_read r s (logs_mergeable h g))

    -- Merge writes it.
    pub merge_writes : (out : List ℕ) → m.bytes ≤ length out → merge_op m one two out ≡ write (length (merged_log r s) ∷ []) (merged_log r s) out
    unfolding merge_op merge_effect
    merge_writes out l = rw (e, e', h, g, le-ltb (length out) m.bytes l) refl

    -- What is promised of it.
    pub merge_promised : Merged m r s (merged_log r s)
    merge_promised = record {
      reads = merge_reads;
      parts = consistent-parts r.computation s.computation first.valid;
      when_true = λ q f i. true-beside r.computation s.computation first.valid f (first.good q f i).0;
      when_false = λ q f i. false-beside r.computation s.computation first.valid f (first.good q f i).0;
      answers = λ q f i one two a b. answered-beside r.computation s.computation first.valid second.valid f (first.good q f i).0 a b;
    }
      where
        first : Lawful m r
        first = (log-accepted m one r e).lawful

        second : Lawful m s
        second = (log-accepted m two s e').lawful

    -- Each question of the first is asked of it.
    pub merge_asked : (q : ℕ) (f : Formula) → get_elem? r.questions q ≡ some f → Asked m (merged_log r s) q (beside r.computation s.computation) f
    merge_asked q f i = record { panelled = carries r s; frames = merged_frames r s; questions = r.questions; reads = merge_reads; is = i }

    -- So Answer, with room enough, writes the line of the first's answer, each cut with all events of the second behind it.
    pub merge_answers :
        (q : ℕ) (f : Formula)
        → get_elem? r.questions q ≡ some f
        → (ws bs : ℕ)
        → (forecast (beside r.computation s.computation) f).cells ≤ ws
        → barspace_size ≤ bs
        → (out : List ℕ)
        → line_size ≤ length out
        → let l = answer_line (record {
          start = (answer r.computation f).start;
          cuts = map (λ c. c ++ full s.computation) (answer r.computation f).cuts;
          rounds = rounds (beside r.computation s.computation) (as_true f);
        }) in
        answer_op m (merged_log r s) q ws bs out ≡ write (length l ∷ []) l out
    merge_answers q f i ws bs hw hb out l =
        let first = (log-accepted m one r e).lawful in
        let second = (log-accepted m two s e').lawful in
        let g = first.good q f i in
        asked_written fit (merge_asked q f i) ws bs hw hb out l
        ∙ ap (λ (x : Answer). write (length (answer_line x) ∷ []) (answer_line x) out) (answer-beside r.computation s.computation first.valid second.valid f g.0 g.2)

-- THE OPERATION

-- What Merge hands back and writes is as promised.
pub merge_kept : {m : Limits} → Suitable m → (first second out : List ℕ) → Merges m first second (merge_op m first second out).reply (merge_op m first second out).output
unfolding merge_op merge_effect
merge_kept {m} fit first second out = by (read_log m first) refl (read_log m second) refl
  where
    written : (r s : Reading) → read_log m first ≡ accepted r → read_log m second ≡ accepted s → (a b c : Bool) → too_wide_together m r s ≡ a → too_many_together m r s ≡ b
        → Merges m first second
        (cond a (refuse 17 0 out) (cond b (refuse 18 0 out) (cond c (refuse 12 0 out) (write (length (merged_log r s) ∷ []) (merged_log r s) out)))).reply
        (cond a (refuse 17 0 out) (cond b (refuse 18 0 out) (cond c (refuse 12 0 out) (write (length (merged_log r s) ∷ []) (merged_log r s) out)))).output
    written r s e e' true b c h g n x = refuses-gives x
    written r s e e' false true c h g n x = refuses-gives x
    written r s e e' false false true h g n x = refuses-gives x
    written r s e e' false false false h g n x =
        let is : length (merged_log r s) ≡ n = cc in
        (r, s, e, e', subst (Merged m r s) (sym (take_at (merged_log r s) (drop (length (merged_log r s)) out) n is)) (merge_promised fit first second r s e e' h g))

    by : (x : Result) → read_log m first ≡ x → (y : Result) → read_log m second ≡ y → Merges m first second (merge_effect m x y out).reply (merge_effect m x y out).output
    by (refused k n) e y e' size x = refuses-gives x
    by (accepted r) e (refused k n) e' size x = refuses-gives x
    by (accepted r) e (accepted s) e' size x = written r s e e' (too_wide_together m r s) (too_many_together m r s) (ltb (length out) m.bytes) refl refl size x
