-- What every admitted frame keeps: the laws of clocks, the limits, and the agreement of questions and frames.
use mathlib.Core.Path.{◌≡◌, refl, ap, ◌∙◌}
use Prim.Native.Nat.{ℕ, suc, ◌+◌, ◌≤◌, ◌<◌}
use native.Mathlib.Omega.{arith}
use mathlib.Core.Bool.{Bool, true, false}
use mathlib.Core.List.{List, [], ◌∷◌, ◌++◌}
use mathlib.Core.Option.{some}
use lib.ListN.{length, get_or, drop, get_elem?, length-append, length-drop, get_or-append}
use borrow.Author.Tests.{ltb-true}
use Rattle.model.specs.declared.Limits.{Limits}
use Rattle.model.specs.Formula.{Formula, sound}
use Rattle.model.specs.Computation.{Report, Event, Message, Computation, stations, event_count, no_report, report}
use Rattle.model.specs.Rules.{as_true, workable}
use Rattle.model.specs.Size.{fits}
use Rattle.model.specs.Reading.{Reading, begun, nothing, go, report_size, report_of, reports_of, header_kind, opened, station_of, event_of, extended, message_of, informed, admit}
use Rattle.lattice.proofs.Valid.{Valid}
use Rattle.lattice.proofs.Histories.{stations-opened, event_count-opened, stations-extended, event_count-extended, opened-each, extended-each}
use Rattle.lattice.proofs.Clocks.{opened-valid, extended-valid, informed-valid}
use Rattle.lattice.proofs.Reports.{header-kind, plain_reports}
use Rattle.codec.proofs.Cases.{none-some}
use Rattle.codec.proofs.Snoc.{empty-list, get_elem?-snoc}
use Rattle.codec.proofs.QuestionFrames.{kind_of, Framed, framed_none, framed_other, framed_question}
use Rattle.codec.proofs.Messages.{messages-opened, messages-extended, message_more, stations-informed, event_count-informed, report-informed}
use Rattle.codec.proofs.Accepted.{Admission, a_header, a_event, a_message, a_question, admitted, begun-true, begun-false, unasked-true, Header, header_true, event-true}

-- Every panel is 0.
abbrev pub Plain : Computation → Type 0
Plain K = (j k : ℕ) → (report K j k).panel ≡ 0

pub record Lawful (m : Limits) (r : Reading) : Type 0 where
  -- before the header nothing has been read
  pub blank : stations r.computation ≡ 0 → r ≡ nothing
  -- the clocks are good
  pub valid : Valid r.computation
  -- the limits are kept
  pub few_stations : stations r.computation ≤ m.stations
  pub few_events : event_count r.computation ≤ m.events
  pub few_messages : length r.computation.messages ≤ m.messages
  pub few_questions : length r.questions ≤ m.questions
  -- the questions name stations that are there, are not too large, and can be worked out
  pub good : (q : ℕ) (φ : Formula) → get_elem? r.questions q ≡ some φ → (sound (stations r.computation) φ ≡ true) × (fits φ ≡ true) × (workable (as_true φ) ≡ true)
  -- the header stands first, and where it says that no panels are carried each is 0
  pub headed : 0 < stations r.computation → kind_of (get_or r.frames 0 []) ≡ header_kind r.panelled
  pub plain : r.panelled ≡ false → Plain r.computation
  -- a header, a frame for each event, for each message, for each question
  pub framed : Framed r.frames r.questions
  pub counted : 0 < stations r.computation → length r.frames ≡ suc (event_count r.computation + length r.computation.messages + length r.questions)

-- PANELS

opened_plain : (reports : List Report) → ((j : ℕ) → (get_or reports j no_report).panel ≡ 0) → Plain (opened reports)
opened_plain = opened-each (λ x. x.panel ≡ 0) refl

extended_plain : (K : Computation) (s : ℕ) (e : Event) → s < length K.events → Plain K → e.report.panel ≡ 0 → Plain (extended K s e)
extended_plain = extended-each (λ x. x.panel ≡ 0) refl

-- A report that carries none.
plain_report : (p : Bool) (f : List ℕ) → p ≡ false → (report_of p f).panel ≡ 0
unfolding report_of
plain_report p f e = rw e refl

plain_header : (p : Bool) (n : ℕ) (f : List ℕ) → p ≡ false → (j : ℕ) → (get_or (reports_of p n f) j no_report).panel ≡ 0
plain_header p n f e = rw e (plain_reports n f)

-- THE HEADER

some-frames : {m : Limits} {r : Reading} → Lawful m r → begun r ≡ true → 0 < length r.frames
some-frames {m} {r} law h = omega (arith, law.counted (begun-true r h))

-- A frame more leaves it first.
header_kept : (fs : List (List ℕ)) {k : ℕ} → kind_of (get_or fs 0 []) ≡ k → 0 < length fs → (f : List ℕ) → kind_of (get_or (fs ++ (f ∷ [])) 0 []) ≡ k
header_kept fs e h f = ap kind_of (get_or-append fs (f ∷ []) [] 0 h) ∙ e

-- EVERY READING

pub nothing_lawful : (m : Limits) → Lawful m nothing
unfolding opened
nothing_lawful m = record {
  blank = λ h. refl;
  valid = opened-valid [];
  few_stations = omega arith;
  few_events = omega (arith, event_count-opened []);
  few_messages = omega arith;
  few_questions = omega arith;
  good = λ q φ h. none-some h;
  headed = λ h. absurd (omega arith);
  plain = λ h. opened_plain [] (λ j. refl);
  framed = framed_none;
  counted = λ h. absurd (omega arith);
}

pub admitted_lawful : {m : Limits} {r : Reading} {f : List ℕ} {r' : Reading} → Lawful m r → Admission m r f r' → Lawful m r'
admitted_lawful {m} {r} law (a_header {p = p} {f = f} first form) = record {
  blank = λ h. absurd (omega (arith, many, sizes));
  valid = opened-valid reports;
  few_stations = omega (arith, many, sizes);
  few_events = omega (arith, event_count-opened reports);
  few_messages = omega (arith, ap length (messages-opened reports));
  few_questions = law.few_questions;
  good = rw unasked (λ q φ h. none-some h);
  headed = λ h. rw (ap (λ (x : Reading). x.frames) before) refl;
  plain = λ h. opened_plain reports (plain_header p (get_or f 0 0) (drop 1 f) h);
  framed = rw unasked (framed_other (header_kind p ∷ f) (header-kind 0x30 (omega arith) (omega arith) p) (rw unasked at law.framed));
  counted = λ h. omega (arith, event_count-opened reports, ap length (messages-opened reports), length-append r.frames ((header_kind p ∷ f) ∷ []), ap (λ (x : Reading). length x.frames) before, ap length unasked);
}
  where
    sizes : Header m p f
    sizes = header_true m p f form

    reports : List Report
    reports = reports_of p (get_or f 0 0) (drop 1 f)

    many : stations (opened reports) ≡ get_or f 0 0
    many = stations-opened reports ∙ sizes.reports

    before : r ≡ nothing
    before = law.blank (begun-false r first)

    unasked : r.questions ≡ []
    unasked = ap (λ (x : Reading). x.questions) before
admitted_lawful {m} {r} law (a_event {f = f} begun none-asked none-sent room form ok) = record {
  blank = λ h. absurd (omega (arith, same, begun-true r begun));
  valid = extended-valid K s e there law.valid (omega (arith, length-drop (1 + report_size p) f, sizes)) ok;
  few_stations = omega (arith, same, law.few_stations);
  few_events = omega (arith, longer, ltb-true (event_count K) m.events room);
  few_messages = omega (arith, law.few_messages, ap length (messages-extended K s e));
  few_questions = law.few_questions;
  good = rw same law.good;
  headed = λ h. header_kept r.frames (law.headed (begun-true r begun)) (some-frames law begun) (0x20 ∷ f);
  plain = λ h. extended_plain K s e there (law.plain h) (plain_report p (drop 1 f) h);
  framed = rw unasked (framed_other (0x20 ∷ f) (omega arith) (rw unasked at law.framed));
  counted = λ h. omega (arith, law.counted (begun-true r begun), longer, ap length (messages-extended K s e), length-append r.frames ((0x20 ∷ f) ∷ []));
}
  where
    K : Computation
    K = r.computation

    s : ℕ
    s = station_of f

    p : Bool
    p = r.panelled

    e : Event
    e = event_of p f

    sizes : (length f ≡ 1 + report_size p + stations K) × (s < stations K)
    sizes = event-true p (stations K) f form

    there : s < length K.events
    there = omega (arith, law.valid.sizes, sizes)

    same : stations (extended K s e) ≡ stations K
    same = stations-extended K s e

    longer : event_count (extended K s e) ≡ suc (event_count K)
    longer = event_count-extended K s e there

    unasked : r.questions ≡ []
    unasked = empty-list r.questions (unasked-true r none-asked)
admitted_lawful {m} {r} law (a_message {f = f} begun none-asked room form ok) = record {
  blank = λ h. absurd (omega (arith, same, begun-true r begun));
  valid = informed-valid K x law.valid ok;
  few_stations = omega (arith, same, law.few_stations);
  few_events = omega (arith, event_count-informed K x, law.few_events);
  few_messages = omega (arith, message_more K x, ltb-true (length K.messages) m.messages room);
  few_questions = law.few_questions;
  good = rw same law.good;
  headed = λ h. header_kept r.frames (law.headed (begun-true r begun)) (some-frames law begun) (0x25 ∷ f);
  plain = λ h j k. rw (report-informed K x j k) (law.plain h j k);
  framed = rw unasked (framed_other (0x25 ∷ f) (omega arith) (rw unasked at law.framed));
  counted = λ h. omega (arith, law.counted (begun-true r begun), event_count-informed K x, message_more K x, length-append r.frames ((0x25 ∷ f) ∷ []));
}
  where
    K : Computation
    K = r.computation

    x : Message
    x = message_of f

    same : stations (informed K x) ≡ stations K
    same = stations-informed K x

    unasked : r.questions ≡ []
    unasked = empty-list r.questions (unasked-true r none-asked)
admitted_lawful {m} {r} law (a_question {f = f} {φ = φ} begun room is named size works) = record {
  blank = λ h. absurd (omega (arith, begun-true r begun));
  valid = law.valid;
  few_stations = law.few_stations;
  few_events = law.few_events;
  few_messages = law.few_messages;
  few_questions = omega (arith, ltb-true (length r.questions) m.questions room, length-append r.questions (φ ∷ []));
  good = get_elem?-snoc (λ i ψ. (sound (stations r.computation) ψ ≡ true) × (fits ψ ≡ true) × (workable (as_true ψ) ≡ true)) r.questions φ law.good (named, size, works);
  headed = λ h. header_kept r.frames (law.headed (begun-true r begun)) (some-frames law begun) (0x30 ∷ f);
  plain = law.plain;
  framed = framed_question f φ is law.framed;
  counted = λ h. omega (arith, law.counted (begun-true r begun), length-append r.frames ((0x30 ∷ f) ∷ []), length-append r.questions (φ ∷ []));
}

pub admit_lawful : (m : Limits) (r : Reading) (f : List ℕ) (r' : Reading) → Lawful m r → admit m r f ≡ go r' → Lawful m r'
admit_lawful m r f r' law e = admitted_lawful law (admitted m r r' f e)
