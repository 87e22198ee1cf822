-- The frames of two logs as one log's: those of the second with their stations numbered on, each side's clocks with zeros for the other.
-- Of a side, p says whether its reports carry a panel, w whether those of the result do; a stations stand before its own, b behind them.
use Rattle.std.specs.Prelude.{ℕ, zero, suc, ◌+◌, ◌-◌, Bool, cond, ◌||◌, List, [], ◌∷◌, ◌++◌, map, get_or, take, drop, eqb}
use Rattle.model.specs.Cut.{empty}
use Rattle.model.specs.Computation.{stations}
use Rattle.model.specs.Reading.{Reading, report_size, header_kind, station_of}

-- The frames of a kind, each without it.
unfoldable pub of_kind : ℕ → List (List ℕ) → List (List ℕ)
of_kind k [] = []
of_kind k ([] ∷ l) = of_kind k l
of_kind k ((x ∷ f) ∷ l) = cond (eqb x k) (f ∷ of_kind k l) (of_kind k l)

-- The report at the front; a panel that it does not carry is 0.
unfoldable pub report_bytes : Bool → Bool → List ℕ → List ℕ
report_bytes p w f = take (report_size p) f ++ empty (report_size w - report_size p)

-- The n reports at the front.
unfoldable pub reports_bytes : Bool → Bool → ℕ → List ℕ → List ℕ
reports_bytes p w zero f = []
reports_bytes p w (suc n) f = report_bytes p w f ++ reports_bytes p w n (drop (report_size p) f)

-- An event without its kind: station, report, clock.
unfoldable pub event_bytes : Bool → Bool → ℕ → ℕ → List ℕ → List ℕ
event_bytes p w a b f = (a + station_of f) ∷ (report_bytes p w (drop 1 f) ++ (empty a ++ (drop (1 + report_size p) f ++ empty b)))

-- A message without its kind.
unfoldable pub message_bytes : ℕ → List ℕ → List ℕ
message_bytes a f = (a + get_or f 0 0) ∷ get_or f 1 0 ∷ (a + get_or f 2 0) ∷ get_or f 3 0 ∷ []

-- Do the reports of the result carry a panel? If those of one side do.
abbrev pub carries : Reading → Reading → Bool
carries r s = r.panelled || s.panelled

-- The header's reports of a side.
abbrev pub header_bytes : Bool → Reading → List ℕ
header_bytes w r = reports_bytes r.panelled w (stations r.computation) (drop 2 (get_or r.frames 0 []))

abbrev pub header_frame : Reading → Reading → List ℕ
header_frame r s = header_kind (carries r s) ∷ (stations r.computation + stations s.computation) ∷ (header_bytes (carries r s) r ++ header_bytes (carries r s) s)

-- The events of a side, and its messages.
abbrev pub event_frames : Bool → ℕ → ℕ → Reading → List (List ℕ)
event_frames w a b r = map (λ f. 0x20 ∷ event_bytes r.panelled w a b f) (of_kind 0x20 r.frames)

abbrev pub message_frames : ℕ → Reading → List (List ℕ)
message_frames a r = map (λ f. 0x25 ∷ message_bytes a f) (of_kind 0x25 r.frames)

-- The header, the events of both, the messages of both, the questions of the first.
unfoldable pub merged_frames : Reading → Reading → List (List ℕ)
merged_frames r s =
    header_frame r s
    ∷ (event_frames (carries r s) 0 (stations s.computation) r
    ++ (event_frames (carries r s) (stations r.computation) 0 s
    ++ (message_frames 0 r
    ++ (message_frames (stations r.computation) s
    ++ map (λ f. 0x30 ∷ f) (of_kind 0x30 r.frames)))))
