-- A value FFFF that is read of a log stands in its bytes as four digits F: a log without such four has no value FFFF.
use mathlib.Core.Path.{◌≡◌, refl}
use mathlib.Core.Logic.{inr}
use Prim.Native.Nat.{ℕ, zero, suc, ◌+◌, ◌/◌, ◌%◌}
use native.Mathlib.Omega.{arith}
use mathlib.Core.Bool.{Bool, true, false, ◌||◌}
use mathlib.Core.List.{List, [], ◌∷◌, ◌++◌, append_assoc}
use lib.ListN.{get_or, drop}
use lib.Seq.{drop-drop}
use lib.Dec.{eqb}
use Rattle.model.specs.declared.Limits.{Limits}
use Rattle.model.specs.Lists.{every, Some}
use Rattle.model.specs.Lists.Some.{here, there}
use Rattle.model.specs.Bytes.{lines_of, items, hex_digit, hex, check_byte, line}
use Rattle.model.specs.Frames.{word, log_of}
use Rattle.model.specs.Computation.{Report, stations, no_report, report}
use Rattle.model.specs.Reading.{Reading, nothing, report_size, report_of, reports_of, header_kind, station_of, event_of, opened, message_of, accepted, read_log}
use Rattle.lattice.proofs.Tests.{or-true}
use Rattle.lattice.proofs.Lists.{some_left, some_right}
use Rattle.lattice.proofs.Histories.{opened-each, extended-each}
use Rattle.codec.proofs.Bytes.{Bytes, bytes_tail}
use Rattle.codec.proofs.Cases.{Each, e-more}
use Rattle.codec.proofs.Lines.{IsFrame, checked}
use Rattle.codec.proofs.Logs.{log-items}
use Rattle.codec.proofs.Messages.{report-informed}
use Rattle.codec.proofs.Accepted.{Admission, a_header, a_event, a_message, a_question, event-true, read_items_invariant, accepted-log}
use Rattle.codec.proofs.Lawful.{Lawful, nothing_lawful, admitted_lawful}
use Rattle.codec.proofs.Readings.{log-frames}

-- Four digits F.
abbrev pub FFFF : List ℕ
FFFF = 0x46 ∷ 0x46 ∷ 0x46 ∷ 0x46 ∷ []

-- Are the first four bytes digits F?
unfoldable pub begins_ffff : List ℕ → Bool
begins_ffff s = every 4 (λ i. eqb (get_or s i 0) 0x46)

-- Does FFFF stand anywhere in the bytes?
unfoldable pub has_ffff : List ℕ → Bool
has_ffff [] = false
has_ffff (b ∷ s) = begins_ffff (b ∷ s) || has_ffff s

-- IN BYTES

-- It stands behind a, and b follows it.
abbrev Stands : List ℕ → Type 0
Stands s = (a b : List ℕ) × (s ≡ a ++ (FFFF ++ b))

has_more : (x : ℕ) (s : List ℕ) → has_ffff s ≡ true → has_ffff (x ∷ s) ≡ true
unfolding has_ffff
has_more x s h = (or-true (begins_ffff (x ∷ s)) (has_ffff s)).1 (inr h)

has_at : (a b : List ℕ) → has_ffff (a ++ (FFFF ++ b)) ≡ true
unfolding has_ffff begins_ffff every
has_at [] b = refl
has_at (x ∷ a) b = has_more x (a ++ (FFFF ++ b)) (has_at a b)

stands-left : (s t : List ℕ) → Stands s → Stands (s ++ t)
stands-left s t h = (h.0, h.1 ++ t, rw h.2 (append_assoc h.0 _ t))

stands-right : (s t : List ℕ) → Stands t → Stands (s ++ t)
stands-right s t h = (s ++ h.0, h.1, rw (h.2, append_assoc s h.0))

-- The digits of bytes in which the number FFFF stands, whatever follows them.
stands-hex : (i : ℕ) (l t : List ℕ) → Bytes l → word (drop i l) ≡ 0xFFFF → Stands (hex (l ++ t))
unfolding word hex hex_digit
stands-hex zero [] t b e = absurd (omega arith)
stands-hex zero (x ∷ []) t b e = absurd (omega arith)
stands-hex zero (x ∷ y ∷ l) t b e =
    let u : x ≡ 0xFF = omega (arith, b 0, b 1) in
    let v : y ≡ 0xFF = omega (arith, b 0, b 1) in
    ([], hex (l ++ t), rw (u, v) refl)
stands-hex (suc i) [] t b e = absurd (omega arith)
stands-hex (suc i) (x ∷ l) t b e = stands-right (hex_digit (x / 16) ∷ hex_digit (x % 16) ∷ []) (hex (l ++ t)) (stands-hex i l t (bytes_tail x l b) e)

-- IN FRAMES

-- The number FFFF stands in the bytes.
abbrev Shows : List ℕ → Type 0
Shows f = (i : ℕ) × (word (drop i f) ≡ 0xFFFF)

-- So FFFF stands in the line of a frame.
shows_line : (f : List ℕ) → IsFrame f → Shows f → Stands (line f)
unfolding line
shows_line f h s = stands-left (hex (checked f)) (0x0A ∷ []) (stands-hex s.0 f (check_byte f ∷ []) h.bytes s.1)

-- And in the log of frames of which one is such.
shows_log : (fs : List (List ℕ)) → Each IsFrame fs → Some Shows fs → Stands (log_of fs)
unfolding log_of
shows_log [] _ x3 = elim x3 [ ]
shows_log (f ∷ fs) (e-more h r) (here s) = stands-left (line f) (log_of fs) (shows_line f h s)
shows_log (f ∷ fs) (e-more h r) (there s) = stands-right (line f) (log_of fs) (shows_log fs r s)

-- With the kind before it, and where it stands behind some bytes.
shows_behind : (k n : ℕ) (f : List ℕ) → Shows (drop n f) → Shows (k ∷ f)
shows_behind k n f s = (suc (n + s.0), rw (← drop-drop s.0 n f) s.1)

-- IN REPORTS

report_shows : (p : Bool) (f : List ℕ) → (report_of p f).value ≡ 0xFFFF → Shows f
unfolding report_of
report_shows true f e = (0, e)
report_shows false f e = (0, e)

reports_show : (p : Bool) (n : ℕ) (f : List ℕ) (j : ℕ) → (get_or (reports_of p n f) j no_report).value ≡ 0xFFFF → Shows f
unfolding reports_of
reports_show p zero f j e = absurd (omega arith)
reports_show p (suc n) f zero e = report_shows p f e
reports_show p (suc n) f (suc j) e = let s = reports_show p n (drop (report_size p) f) j e in (report_size p + s.0, rw (← drop-drop s.0 (report_size p) f) s.1)

-- OF A LOG

-- If the report's value is FFFF, one of the frames shows it.
abbrev Told : List (List ℕ) → Report → Type 0
Told fs x = x.value ≡ 0xFFFF → Some Shows fs

none_told : (fs : List (List ℕ)) → Told fs no_report
none_told fs e = absurd (omega arith)

-- That holds of every report that has been read.
abbrev Shown : Reading → Type 0
Shown r = (j k : ℕ) → Told r.frames (report r.computation j k)

nothing-shown : Shown nothing
unfolding opened
nothing-shown = opened-each (Told []) (none_told []) [] (λ j. none_told [])

admitted_shown : {m : Limits} {r s : Reading} {f : List ℕ} → Lawful m r → Shown r → Admission m r f s → Shown s
admitted_shown {m} {r} law old (a_header {p = p} {f = f} b t) =
    let fs = r.frames ++ ((header_kind p ∷ f) ∷ []) in
    opened-each (Told fs) (none_told fs) (reports_of p (get_or f 0 0) (drop 1 f)) (λ j h. some_right r.frames (here (shows_behind (header_kind p) 1 f (reports_show p (get_or f 0 0) (drop 1 f) j h))))
admitted_shown {m} {r} law old (a_event {f = f} b u v c t o) =
    let fs = r.frames ++ ((0x20 ∷ f) ∷ []) in
    extended-each (Told fs) (none_told fs) r.computation (station_of f) (event_of r.panelled f) (omega (arith, law.valid.sizes, (event-true r.panelled (stations r.computation) f t).1))
    (λ j k h. some_left _ (old j k h))
    (λ h. some_right r.frames (here (shows_behind 0x20 1 f (report_shows r.panelled (drop 1 f) h))))
admitted_shown {m} {r} law old (a_message {f = f} b u c t o) = λ j k h. some_left _ (old j k (rw (report-informed r.computation (message_of f) j k) at h))
admitted_shown law old (a_question b c p t o w) = λ j k h. some_left _ (old j k h)

module _ (m : Limits) (log : List ℕ) (r : Reading) (e : read_log m log ≡ accepted r) where
  shown : Shown r
  shown = (read_items_invariant m (λ u. Lawful m u × Shown u)
      (λ u v f h a. (admitted_lawful h.0 a, admitted_shown h.0 h.1 a)) 1 nothing r (items (lines_of log)) (nothing_lawful m, nothing-shown) (accepted-log m log r e)).1

  -- A log of which a value FFFF is read has FFFF in its bytes.
  pub value_written : (j k : ℕ) → (report r.computation j k).value ≡ 0xFFFF → has_ffff log ≡ true
  value_written j k h =
      let x = log-items log r.frames (log-frames m log r e) in
      let s = shows_log r.frames x.1 (shown j k h) in
      rw (x.0, s.2) (has_at s.0 s.1)
