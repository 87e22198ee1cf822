-- The bench log of document 01, from its bytes to the lines printed and the replies, by computing.
use mathlib.Core.Path.{◌≡◌, refl}
use Prim.Native.Nat.{ℕ}
use Prim.Native.Char.{code}
use Prim.Native.String as text
use Prim.Native.String.{String}
use mathlib.Core.List.{List, [], ◌∷◌, ◌++◌}
use mathlib.Core.Bool.{true, false}
use mathlib.Core.Option.{some}
use lib.ListN.{drop, replicate}
use Rattle.model.specs.declared.Aspect.TheVariants.{Value, Panel}
use Rattle.model.specs.declared.Limits.{Limits}
use Rattle.model.specs.Limits.{limits, print_limits, workspace_size, barspace_size, line_size}
use Rattle.model.specs.Lists.{sum, between, every}
use Rattle.model.specs.Bytes.{push, lines_of, digit, byte, bytes, carried, items, hex_digit, hex, check_byte, line}
use Rattle.model.specs.Looks.{own, well_formed}
use Rattle.model.specs.Frames.{word, log_of, list_of, before, entry, split, frames_in, frames_of}
use Rattle.model.specs.Atom.{range_token, atom_bytes, operands, range_of, atom_of, sound_atom, seen, within, test, is_inside, is_outside, sent_by, on_way, no_message, atom_is_true, atom_is_false, askable, next, up_to, raise_to, passes, raise_atom}
use Rattle.model.specs.Atom.Atom.{in_range, clear}
use Rattle.model.specs.Formula.{Formula, prefix, ahead, one, two, sign, token, spelt, formulas_in, single, formula_of, sound, weigh}
use Rattle.model.specs.Formula.Formula.{atom, not, and, or, possibly, always}
use Rattle.model.specs.Cut.{Cut, inside, inside_any, join}
use Rattle.model.specs.Computation.{Computation, Event, no_report, no_event, clock, report, known, is_consistent, counted, clock_ok, message_ok}
use Rattle.model.specs.Rules.{as_true, as_false, workable}
use Rattle.model.specs.Size.{width, bars, held, slim, narrow, fits}
use Rattle.model.specs.Forecast.{most_bars, ceiling, forecast}
use Rattle.model.specs.Structure.{row, joined, raise_by, raise, reaches, in_set, belongs, belongs_any, join_row, join_rows, greatest, keep, build_on, build}
use Rattle.model.specs.Basis.{then_right, round, onward, after, run, start, intersect, each, pairs, below, lowered, barred, basis}
use Rattle.model.specs.Rounds.{rounds_of_pair, rounds_of_pairs, rounds}
use Rattle.model.specs.Answer.{not_inside, add, tops, precedes, insert, sort, true_at, answer, in_row, four_bytes, answer_line, refusal_line}
use Rattle.model.specs.Reading.{Reading, nothing, begun, fault, check, report_size, report_of, reports_of, header_kind, header_form, opened, admit_header, event_form, extended, unasked, unsent, admit_event, informed, admit_message, asked, admit_question, admit, Result, refused, accepted, finish, proceed, read_items, read_log, read_frames, read_list}
use Rattle.model.specs.Beside.{beside}
use Rattle.model.specs.Merge.{of_kind, report_bytes, reports_bytes, event_bytes, message_bytes, merged_frames}
use Rattle.model.specs.Reply.{Reply, gives, refuses}
use Rattle.model.specs.Promise.{Asked}
use Rattle.model.specs.Operations.{write, read_effect, read_op, posing, opening_of, opening, cramped, forecast_reply_to, forecast_op, line_effect, answer_effect, answer_op, holds_reply_to, holds_op, write_effect, write_op, too_wide_together, too_many_together, merge_effect, merge_op, answer_lines, printed_of, printed}

-- The bytes of a text.
pub ascii : String → List ℕ
ascii text.[] = []
ascii (text.◌∷◌ c s) = code c ∷ ascii s

-- 01 as a formula.
pub range : ℕ → ℕ → ℕ → Formula
range s lo hi = atom (in_range Value s lo hi)

-- 08 as a formula.
pub panel : ℕ → ℕ → ℕ → Formula
panel s lo hi = atom (in_range Panel s lo hi)

-- The bench log up to its question.
pub bench : List ℕ
bench = ascii "100200000000EE\n200000050100DA\n200100010001DD\n200100020102DA\n"

pub Q : Formula
Q = and (range 0 5 5) (range 1 1 1)

-- The bench log with the question f.
pub asking : Formula → List ℕ
asking f = bench ++ line (0x30 ∷ prefix f)

-- The bench log with panels: station 0 goes from panel 7 to 9, station 1 from 8 to 9 with its second event.
pub panelled : List ℕ
panelled = ascii "11020000000700000008DE\n2000000500090100D1\n2001000100080001D5\n2001000200090102D1\n"

pub asking_panels : Formula → List ℕ
asking_panels f = panelled ++ line (0x30 ∷ prefix f)

-- The bench log with station 0 silent until its event, and station 1 silent between its two.
pub silenced : List ℕ
silenced = ascii "1002FFFF0000F0\n200000050100DA\n2001FFFF0001E0\n200100020102DA\n"

pub asking_silenced : Formula → List ℕ
asking_silenced f = silenced ++ line (0x30 ∷ prefix f)

-- A station that reports value and panel FFFF, and has no events.
pub asking_panel_ffff : Formula → List ℕ
asking_panel_ffff f = ascii "1101FFFFFFFFF2\n" ++ line (0x30 ∷ prefix f)

-- An event with a value, with no panel, and its clock.
pub event : ℕ → Cut → Event
event v c = record { report = record { value = v; panel = 0 }; clock = c }

-- The computation of the bench log.
pub benched : Computation
benched = record {
  initial = no_report ∷ no_report ∷ [];
  events =
      (event 5 (1 ∷ 0 ∷ []) ∷ [])
      ∷ (event 1 (0 ∷ 1 ∷ []) ∷ event 2 (1 ∷ 2 ∷ []) ∷ [])
      ∷ [];
  messages = [];
}

-- The frames of the bench log with Q.
pub bench_frames : List (List ℕ)
bench_frames =
    (0x10 ∷ 2 ∷ 0 ∷ 0 ∷ 0 ∷ 0 ∷ [])
    ∷ (0x20 ∷ 0 ∷ 0 ∷ 5 ∷ 1 ∷ 0 ∷ [])
    ∷ (0x20 ∷ 1 ∷ 0 ∷ 1 ∷ 0 ∷ 1 ∷ [])
    ∷ (0x20 ∷ 1 ∷ 0 ∷ 2 ∷ 1 ∷ 2 ∷ [])
    ∷ (0x30 ∷ prefix Q)
    ∷ []

-- The reply of Holds at a cut of the bench log with Q.
pub holds_at : Cut → Reply
holds_at c = holds_op limits (asking Q) 0 c workspace_size barspace_size

-- Ors of two and of three ways.
pub two_ways : Formula
two_ways = or (range 0 5 5) (range 0 5 5)

pub three_ways : Formula
three_ways = or (range 0 5 5) two_ways

-- What has been read after k events of one station.
pub after-events : ℕ → Reading
after-events k = record { panelled = false; computation = record { initial = no_report ∷ []; events = replicate k no_event ∷ []; messages = [] }; questions = []; frames = [] }

-- And after k messages.
pub after-messages : ℕ → Reading
after-messages k = record { panelled = false; computation = record { initial = no_report ∷ []; events = [] ∷ []; messages = replicate k (record { sender = 0; sent = 0; receiver = 0; received = 0 }) }; questions = []; frames = [] }

-- A message from station 0, sent at its event 1, to station 1, received at its event k; never, where k is 0.
pub message : ℕ → List ℕ
message k = line (0x25 ∷ 0 ∷ 1 ∷ 1 ∷ k ∷ [])

-- The bench log with some lines more before the question f.
pub sending : List ℕ → Formula → List ℕ
sending lines f = bench ++ lines ++ line (0x30 ∷ prefix f)

-- 07 as a formula.
pub none_between : ℕ → ℕ → Formula
none_between i j = atom (clear i j)

-- Two messages from station 0 to station 1: the event that receives the first brings in the sending of the second.
pub interleaved : Computation
interleaved = record {
  initial = no_report ∷ no_report ∷ [];
  events =
      (event 0 (1 ∷ 0 ∷ []) ∷ event 0 (2 ∷ 0 ∷ []) ∷ [])
      ∷ (event 0 (2 ∷ 1 ∷ []) ∷ event 0 (2 ∷ 2 ∷ []) ∷ [])
      ∷ [];
  messages = record { sender = 0; sent = 1; receiver = 1; received = 1 } ∷ record { sender = 0; sent = 2; receiver = 1; received = 2 } ∷ [];
}

-- All that is computed with: to unfold this is to unfold what its line names.
unfoldable pub definitions : Unit {0}
unfolding ascii range panel bench Q asking panelled asking_panels silenced asking_silenced asking_panel_ffff event benched bench_frames holds_at two_ways three_ways after-events after-messages message sending none_between interleaved sum between every push lines_of digit byte bytes carried items own well_formed hex_digit hex check_byte line word log_of list_of before entry split frames_in frames_of range_token atom_bytes operands range_of atom_of sound_atom seen within test is_inside is_outside sent_by on_way no_message atom_is_true atom_is_false askable next up_to raise_to passes raise_atom prefix ahead one two sign token spelt formulas_in single formula_of sound weigh inside inside_any join clock report known is_consistent counted clock_ok message_ok as_true as_false workable width bars held slim narrow fits row joined raise_by raise reaches in_set belongs belongs_any join_row join_rows greatest keep build_on build then_right round onward after run start intersect each pairs below lowered barred basis rounds_of_pair rounds_of_pairs rounds not_inside add tops precedes insert sort true_at answer in_row four_bytes answer_line refusal_line begun check report_size report_of reports_of header_kind header_form opened admit_header event_form extended unasked unsent admit_event informed admit_message asked admit_question admit finish proceed read_items read_log read_frames read_list read_effect read_op posing opening_of opening cramped forecast_reply_to forecast_op line_effect answer_effect answer_op holds_reply_to holds_op write_effect write_op of_kind report_bytes reports_bytes event_bytes message_bytes merged_frames too_wide_together too_many_together merge_effect merge_op answer_lines printed_of printed most_bars ceiling forecast
definitions = tt

-- The twelve cases marked *.
pub twelve :
    (asking Q ≡ bench ++ ascii "3003010000050005010100010001BE\n")
    × (printed (asking Q) ≡ ascii "400001010100000007B6\n")
    × (printed (asking (possibly Q)) ≡ ascii "400101010100000007B5\n")
    × (printed (asking (always (not Q))) ≡ ascii "400001010200000007B5\n")
    × (printed (asking (range 0 5 5)) ≡ ascii "400001010200000000BC\n")
    × (printed (asking (range 0 6 9)) ≡ ascii "40000000000000C0\n")
    × (printed (asking (always (range 0 0 5))) ≡ ascii "400101010200000000BB\n")
    × (printed (asking (or (and (range 0 5 5) (range 1 0 0)) (and (range 0 0 0) (range 1 1 1)))) ≡ ascii "400002000101000000000AB2\n")
    × (printed (asking (or Q Q)) ≡ ascii "40000101010000000EAF\n")
    × (printed (asking (and (range 0 6 9) Q)) ≡ ascii "40000000000007B9\n")
    × (holds_at (1 ∷ 1 ∷ []) ≡ gives (1 ∷ []))
    × (holds_at (1 ∷ 0 ∷ []) ≡ gives (0 ∷ []))
    × (holds_at (0 ∷ 2 ∷ []) ≡ refuses 13 0)
unfolding definitions
twelve = (refl, refl, refl, refl, refl, refl, refl, refl, refl, refl, refl, refl, refl)

-- What else the rules for dropping, bars, rounds and width come to.
pub more :
    (printed bench ≡ [])
    × (printed [] ≡ ascii "50040001AB\n")
    × (printed (asking (and (range 0 0 0) (range 1 2 2))) ≡ ascii "40000000000006BA\n")
    × (printed (asking (and (range 0 0 5) (always (not Q)))) ≡ ascii "40000101020000000BB1\n")
    × (printed (asking (possibly (and (range 0 5 5) (range 1 0 0)))) ≡ ascii "400101010000000005B8\n")
    × ((read_op limits (asking (and (and two_ways two_ways) (and two_ways two_ways))) (replicate limits.list 0)).reply ≡ gives (2 ∷ 3 ∷ 1 ∷ 85 ∷ []))
    × (printed (asking (and (and three_ways three_ways) two_ways)) ≡ ascii "50090005A2\n")
unfolding definitions
more = (refl, refl, refl, refl, refl, refl, refl)

-- Ranges through zero: a value at either end and one outside, as true and as false; every value, and none, where lo is one above hi.
pub through_zero :
    (printed (asking (range 1 2 0)) ≡ ascii "400101010200000000BB\n")
    × (printed (asking (not (range 1 2 0))) ≡ ascii "400001010100000000BD\n")
    × (printed (asking (always (range 1 2 0))) ≡ ascii "400001010200000000BC\n")
    × (printed (asking (range 0 5 4)) ≡ ascii "400101010200000000BB\n")
    × (printed (asking (not (range 0 5 4))) ≡ ascii "40000000000000C0\n")
unfolding definitions
through_zero = (refl, refl, refl, refl, refl)

-- A line's own bytes: the first line's, those from its third byte on, an empty line's, those of one without 0A; and which of these lines, with one whose check byte is wrong, are well formed.
pub own-bytes :
    (own (lines_of bench) ≡ 15)
    × (own (lines_of (drop 2 bench)) ≡ 13)
    × (own (lines_of (drop 14 bench)) ≡ 1)
    × (own (lines_of (ascii "100200000000EE")) ≡ 14)
    × (well_formed (items (lines_of bench)) ≡ true)
    × (well_formed (items (lines_of (drop 2 bench))) ≡ true)
    × (well_formed (items (lines_of (drop 14 bench))) ≡ false)
    × (well_formed (items (lines_of (ascii "100200000000EE"))) ≡ false)
    × (well_formed (items (lines_of (ascii "100200000000EF\n"))) ≡ true)
unfolding definitions
own-bytes = (refl, refl, refl, refl, refl, refl, refl, refl, refl)

-- Width, largest bar count, structures held, cells and ceiling of the rounds: an "and", bars below a sign that has none, signs joined the other way under a negation, the result's width, the left's width.
-- One cell less than forecast is refused with 11, and a question that is not there with 10.
pub forecasts :
    (forecast_op limits (asking Q) 0 ≡ gives (1 ∷ 0 ∷ 3 ∷ 24 ∷ 16 ∷ []))
    × (forecast_op limits (asking (possibly (always (not Q)))) 0 ≡ gives (1 ∷ 1 ∷ 3 ∷ 24 ∷ 16 ∷ []))
    × (forecast_op limits (asking (not Q)) 0 ≡ gives (2 ∷ 0 ∷ 4 ∷ 32 ∷ 0 ∷ []))
    × (forecast_op limits (asking (not two_ways)) 0 ≡ gives (1 ∷ 0 ∷ 3 ∷ 24 ∷ 16 ∷ []))
    × (forecast_op limits (asking (and (and two_ways two_ways) (and two_ways two_ways))) 0 ≡ gives (16 ∷ 0 ∷ 24 ∷ 192 ∷ 384 ∷ []))
    × (forecast_op limits (asking (or two_ways (always (not (and two_ways two_ways))))) 0 ≡ gives (3 ∷ 4 ∷ 10 ∷ 80 ∷ 64 ∷ []))
    × (forecast_op limits (asking Q) 1 ≡ refuses 10 0)
    × ((answer_op limits (asking Q) 0 24 barspace_size (replicate line_size 0)).reply ≡ gives (21 ∷ []))
    × ((answer_op limits (asking Q) 0 23 barspace_size (replicate line_size 0)).reply ≡ refuses 11 0)
    × (holds_op limits (asking Q) 0 (1 ∷ 1 ∷ []) 24 barspace_size ≡ gives (1 ∷ []))
    × (holds_op limits (asking Q) 0 (1 ∷ 1 ∷ []) 23 barspace_size ≡ refuses 11 0)
unfolding definitions
forecasts = (refl, refl, refl, refl, refl, refl, refl, refl, refl, refl, refl)

-- The limits, on either side: an event, malformed, after 126 and 127 in the program, after 253 and 254 in the operations; bytes of a log; bytes of the outputs of Read and Write and of a frame list.
pub sizes :
    (admit print_limits (after-events 126) (0x20 ∷ []) ≡ fault 6)
    × (admit print_limits (after-events 127) (0x20 ∷ []) ≡ fault 4)
    × (admit limits (after-events 253) (0x20 ∷ []) ≡ fault 6)
    × (admit limits (after-events 254) (0x20 ∷ []) ≡ fault 4)
    × (printed (replicate 8192 0x0A) ≡ ascii "50020001AD\n")
    × (printed (replicate 8193 0x0A) ≡ ascii "50010000AF\n")
    × ((read_op limits (replicate 16384 0x0A) []).reply ≡ refuses 2 1)
    × ((read_op limits (replicate 16385 0x0A) []).reply ≡ refuses 1 0)
    × ((read_op limits bench (replicate 8192 0)).reply ≡ gives (2 ∷ 3 ∷ 0 ∷ 28 ∷ []))
    × ((read_op limits bench (replicate 8191 0)).reply ≡ refuses 12 0)
    × ((write_op limits (6 ∷ 0x10 ∷ 2 ∷ 0 ∷ 0 ∷ 0 ∷ 0 ∷ []) (replicate 16384 0)).reply ≡ gives (15 ∷ []))
    × ((write_op limits (6 ∷ 0x10 ∷ 2 ∷ 0 ∷ 0 ∷ 0 ∷ 0 ∷ []) (replicate 16383 0)).reply ≡ refuses 12 0)
    × ((write_op limits (replicate 8192 1) []).reply ≡ refuses 4 1)
    × ((write_op limits (replicate 8194 1) []).reply ≡ refuses 14 0)
unfolding definitions
sizes = (refl, refl, refl, refl, refl, refl, refl, refl, refl, refl, refl, refl, refl, refl)

-- Messages: on the way up to its receiving, for ever if it never came, beside another atom, the other way, of one station; a message named twice; Holds before the receiving and at it.
pub messages :
    (printed (sending (message 2) (none_between 0 1)) ≡ ascii "400101010200000000BB\n")
    × (printed (sending (message 0) (none_between 0 1)) ≡ ascii "400101000100000000BD\n")
    × (printed (sending (message 2) (and (range 0 5 5) (not (not (none_between 0 1))))) ≡ ascii "400001010200000007B5\n")
    × (printed (sending (message 0) (and (range 0 5 5) (none_between 0 1))) ≡ ascii "40000000000004BC\n")
    × (printed (sending (message 0) (and (range 0 5 5) (none_between 1 0))) ≡ ascii "400001010200000006B6\n")
    × (printed (sending (message 0) (none_between 0 0)) ≡ ascii "400101010200000000BB\n")
    × (printed (sending (message 2) (always (not (none_between 0 1)))) ≡ ascii "40000000000000C0\n")
    × (printed (sending (message 2 ++ message 2) (none_between 0 1)) ≡ ascii "400101010200000000BB\n")
    × (printed (asking (none_between 0 1)) ≡ ascii "400101010200000000BB\n")
    × (holds_op limits (sending (message 2) (none_between 0 1)) 0 (1 ∷ 1 ∷ []) workspace_size barspace_size ≡ gives (0 ∷ []))
    × (holds_op limits (sending (message 2) (none_between 0 1)) 0 (1 ∷ 2 ∷ []) workspace_size barspace_size ≡ gives (1 ∷ []))
unfolding definitions
messages = (refl, refl, refl, refl, refl, refl, refl, refl, refl, refl, refl)

-- What is refused: 15 where the receiving event's clock lacks the sending event, or where there is no sending event; 8 for a station that is not there, before 16; 16 by the sign alone; 4 for a message after a question, an event after a message, a 65th message, though it has no bytes.
pub no_messages :
    (printed (sending (message 1) (none_between 0 1)) ≡ ascii "500F00059C\n")
    × (printed (sending (line (0x25 ∷ 0 ∷ 0 ∷ 1 ∷ 2 ∷ [])) (none_between 0 1)) ≡ ascii "500F00059C\n")
    × (printed (sending (message 2) (not (none_between 0 2))) ≡ ascii "50080006A2\n")
    × (printed (sending (message 2) (not (none_between 0 1))) ≡ ascii "501000069A\n")
    × (printed (sending (message 2) (always (none_between 0 1))) ≡ ascii "501000069A\n")
    × (printed (sending (message 2) (possibly (not (none_between 0 1)))) ≡ ascii "501000069A\n")
    × (printed (asking Q ++ message 2) ≡ ascii "50040006A6\n")
    × (printed (sending (message 2 ++ line (0x20 ∷ [])) Q) ≡ ascii "50040006A6\n")
    × (admit limits (after-messages 63) (0x25 ∷ []) ≡ fault 15)
    × (admit limits (after-messages 64) (0x25 ∷ []) ≡ fault 4)
unfolding definitions
no_messages = (refl, refl, refl, refl, refl, refl, refl, refl, refl, refl)

-- Receiving the first message is not enough, since with it the second is sent.
pub received_in_turn : raise_atom interleaved true (clear 0 1) (1 ∷ 0 ∷ []) ≡ some (2 ∷ 2 ∷ [])
unfolding definitions
received_in_turn = refl

-- Panels: questions without 08, as without panels, one of them about a value of the header; the panel of the last event, and that of the header; as false; through zero; with the value of the same station and of the other; with header 10, where each is 0.
pub panels :
    (printed (asking_panels Q) ≡ ascii "400001010100000007B6\n")
    × (printed (asking_panels (range 1 0 0)) ≡ ascii "400101010000000000BD\n")
    × (printed (asking_panels (panel 0 9 9)) ≡ ascii "400001010200000000BC\n")
    × (printed (asking_panels (panel 0 7 7)) ≡ ascii "400101000100000000BD\n")
    × (printed (asking_panels (not (panel 1 8 8))) ≡ ascii "400001010200000000BC\n")
    × (printed (asking_panels (panel 1 9 7)) ≡ ascii "400001010200000000BC\n")
    × (printed (asking_panels (always (panel 0 7 9))) ≡ ascii "400101010200000000BB\n")
    × (printed (asking_panels (and (panel 1 8 8) (range 1 2 2))) ≡ ascii "40000000000007B9\n")
    × (printed (asking_panels (and (panel 0 9 9) (range 1 1 1))) ≡ ascii "400001010100000007B6\n")
    × (holds_op limits (asking_panels (panel 1 9 9)) 0 (1 ∷ 1 ∷ []) workspace_size barspace_size ≡ gives (0 ∷ []))
    × (holds_op limits (asking_panels (panel 1 9 9)) 0 (1 ∷ 2 ∷ []) workspace_size barspace_size ≡ gives (1 ∷ []))
    × (printed (asking (panel 0 0 0)) ≡ ascii "400101010200000000BB\n")
    × (printed (asking (panel 0 1 1)) ≡ ascii "40000000000000C0\n")
unfolding definitions
panels = (refl, refl, refl, refl, refl, refl, refl, refl, refl, refl, refl, refl, refl)

-- What is refused: 5 for a header of kind 11 with the length of 10, and the reverse; 6 for an event likewise; 4 for a second header of the other kind; 8 for a station that is not there.
pub no_panels :
    (printed (ascii "110200000000ED\n") ≡ ascii "50050001AA\n")
    × (printed (ascii "10020000000700000008DF\n") ≡ ascii "50050001AA\n")
    × (printed (panelled ++ ascii "200000050100DA\n") ≡ ascii "50060005A5\n")
    × (printed (bench ++ ascii "2001000200090102D1\n") ≡ ascii "50060005A5\n")
    × (printed (bench ++ ascii "11020000000700000008DE\n") ≡ ascii "50040005A7\n")
    × (printed (asking_panels (panel 2 0 0)) ≡ ascii "50080005A3\n")
unfolding definitions
no_panels = (refl, refl, refl, refl, refl, refl)

-- Silent stations: FFFF is inside no range, one through zero neither, and outside none; under always it bars nothing, so that always can be true where its operand is not; under not possibly; P or not P is not true where P is silent. Panel FFFF is a number like any other.
pub silent :
    (printed (asking_silenced (range 0 0xFFFF 0xFFFF)) ≡ ascii "40000000000000C0\n")
    × (printed (asking_silenced (range 0 0 0xFFFF)) ≡ ascii "400001010200000000BC\n")
    × (printed (asking_silenced (not (range 0 5 5))) ≡ ascii "40000000000000C0\n")
    × (printed (asking_silenced (range 1 0xFFFE 0)) ≡ ascii "400101010000000000BD\n")
    × (printed (asking_silenced (not (range 1 0xFFFE 0))) ≡ ascii "400001010200000000BC\n")
    × (printed (asking_silenced (always (range 0 5 5))) ≡ ascii "400101010200000000BB\n")
    × (printed (asking_silenced (always (range 1 0 5))) ≡ ascii "400101010200000000BB\n")
    × (printed (asking_silenced (not (possibly (range 0 0xFFFF 0xFFFF)))) ≡ ascii "400101010200000000BB\n")
    × (holds_op limits (asking_silenced (or (range 1 0 2) (not (range 1 0 2)))) 0 (0 ∷ 1 ∷ []) workspace_size barspace_size ≡ gives (0 ∷ []))
    × (holds_op limits (asking_silenced (or (range 1 0 2) (not (range 1 0 2)))) 0 (1 ∷ 2 ∷ []) workspace_size barspace_size ≡ gives (1 ∷ []))
    × (printed (asking_panel_ffff (panel 0 0xFFFF 0xFFFF)) ≡ ascii "4001010000000000BE\n")
    × (printed (asking_panel_ffff (not (panel 0 0 1))) ≡ ascii "4001010000000000BE\n")
    × (printed (asking_panel_ffff (or (range 0 0xFFFF 0xFFFF) (not (range 0 0xFFFF 0xFFFF)))) ≡ ascii "40000000000000C0\n")
unfolding definitions
silent = (refl, refl, refl, refl, refl, refl, refl, refl, refl, refl, refl, refl, refl)

-- Two logs as one: the bench log with a message and Q, and the one with panels, a message that never came and a question: what is written, what is read of it, and the answer, with all of the second's events behind the first's cut. The same the other way round. The refusals of the first, of the second, of both; 17 before 18; 18 for events, and for messages; 12.
pub first-log : List ℕ
first-log = bench ++ ascii "2500010102D7\n" ++ line (0x30 ∷ prefix Q)

pub second-log : List ℕ
second-log = panelled ++ ascii "2500010100D9\n" ++ line (0x30 ∷ prefix (panel 1 0 9))

-- What is written.
pub merged_logs : List ℕ
merged_logs = ascii "110400000000000000000000000700000008DC\n20000005000001000000DA\n20010001000000010000DD\n20010002000001020000DA\n20020005000900000100CF\n20030001000800000001D3\n20030002000900000102CF\n2500010102D7\n2502010300D5\n3003010000050005010100010001BE\n"

pub merged_back : List ℕ
merged_back = ascii "110400000007000000080000000000000000DC\n20000005000901000000D1\n20010001000800010000D5\n20010002000901020000D1\n20020005000000000100D8\n20030001000000000001DB\n20030002000000000102D8\n2500010100D9\n2502010302D3\n30080100000009BE\n"

-- The computation of what was read.
pub computed : Result → Computation
computed (refused k n) = nothing.computation
computed (accepted r) = r.computation

-- Limits of so many stations, events and messages, and a log of so many bytes.
pub tight : ℕ → ℕ → ℕ → ℕ → Limits
tight n e x b = record { stations = n; events = e; messages = x; questions = 16; bytes = b; list = 8192 }

pub merging :
    (merge_op (tight 4 6 2 234) first-log second-log (replicate 234 0) ≡ write (234 ∷ []) merged_logs (replicate 234 0))
    × (computed (read_log limits merged_logs) ≡ beside (computed (read_log limits first-log)) (computed (read_log limits second-log)))
    × (printed merged_logs ≡ ascii "400001010101020000000DAD\n")
    × (merge_op (tight 4 6 2 220) second-log first-log (replicate 220 0) ≡ write (220 ∷ []) merged_back (replicate 220 0))
    × (computed (read_log limits merged_back) ≡ beside (computed (read_log limits second-log)) (computed (read_log limits first-log)))
    × (printed merged_back ≡ ascii "4001010102010200000000B8\n")
    × ((merge_op (tight 4 6 2 234) (ascii "\n") second-log []).reply ≡ refuses 2 1)
    × ((merge_op (tight 4 6 2 234) first-log (panelled ++ ascii "00") []).reply ≡ refuses 2 5)
    × ((merge_op (tight 4 6 2 234) (bench ++ ascii "00") (ascii "\n") []).reply ≡ refuses 2 5)
    × ((merge_op (tight 3 5 1 234) first-log second-log []).reply ≡ refuses 17 0)
    × ((merge_op (tight 4 5 2 234) first-log second-log []).reply ≡ refuses 18 0)
    × ((merge_op (tight 4 6 1 234) first-log second-log []).reply ≡ refuses 18 0)
    × ((merge_op (tight 4 6 2 234) first-log second-log []).reply ≡ refuses 12 0)
unfolding definitions beside first-log second-log merged_logs merged_back computed tight
merging = (refl, refl, refl, refl, refl, refl, refl, refl, refl, refl, refl, refl, refl)

-- What is promised of accepted logs and their questions is promised of this one.
pub bench_asked : Asked limits (asking Q) 0 benched Q
unfolding definitions
bench_asked = record { panelled = false; frames = bench_frames; questions = Q ∷ []; reads = refl; is = refl }
