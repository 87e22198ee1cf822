-- The frames of one of two logs as they stand in the merged log, and what they have to be for that.
use Rattle.std.specs.Prelude.{◌≡◌, ℕ, ◌+◌, ◌*◌, ◌≤◌, ◌<◌, true, List, ◌∷◌, ◌++◌, map, length, get_or, drop}
use Rattle.model.specs.Limits.{limits}
use Rattle.model.specs.Frames.{log_of}
use Rattle.model.specs.Reading.{report_size, header_kind, station_of}
use Rattle.model.specs.Merge.{of_kind, reports_bytes, event_bytes, message_bytes}
use Rattle.codec.specs.Entries.{entries}
use Rattle.write_beside.specs.declared.Side.{Side}
use Rattle.write_beside.specs.declared.Part.{Part}
use Rattle.write_beside.specs.declared.Part.TheVariants.{Events, Messages, Questions}

-- The bytes of the largest header, and of the largest event.
abbrev pub header_size : ℕ
header_size = 2 + limits.stations * report_size true

abbrev pub event_size : ℕ
event_size = 2 + report_size true + limits.stations

-- The reports of a side carry a panel only where those of the merged log do.
abbrev pub Covered : Side → Type 0
Covered s = report_size s.panelled ≤ report_size s.carried

-- The kind of a part's frames.
abbrev pub kind : Part → ℕ
kind Events = 0x20
kind Messages = 0x25
kind Questions = 0x30

-- A frame of a part, f without its kind, as it stands in the merged log.
abbrev pub moved : Part → Side → List ℕ → List ℕ
moved Events s f = 0x20 ∷ event_bytes s.panelled s.carried s.before s.behind f
moved Messages s f = 0x25 ∷ message_bytes s.before f
moved Questions s f = 0x30 ∷ f

-- The lines of a part of a frame list.
abbrev pub part_of : Part → Side → List ℕ → List ℕ
part_of p s list = log_of (map (moved p s) (of_kind (kind p) (entries list)))

-- What a frame of a part has to be: long enough, its stations bytes when numbered on, and no longer than the largest event.
abbrev pub Fits : Part → Side → List ℕ → Type 0
Fits Events s f = (1 + report_size s.panelled ≤ length f) × (s.before + station_of f < 256) × (length (moved Events s f) ≤ event_size)
Fits Messages s f = (length f ≡ 4) × (s.before + get_or f 0 0 < 256) × (s.before + get_or f 2 0 < 256)
Fits Questions s f = Unit {0}

-- The header of both: before the second's own stations stand the first's, behind the first's own the second's.
abbrev pub header_of : Side → List ℕ → Side → List ℕ → List ℕ
header_of s f t g =
    header_kind s.carried
    ∷ (t.before + s.behind)
    ∷ (reports_bytes s.panelled s.carried t.before (drop 2 f) ++ reports_bytes t.panelled t.carried s.behind (drop 2 g))

-- What the two headers have to be: with so many reports, and not too many stations together.
pub record Headers (s : Side) (f : List ℕ) (t : Side) (g : List ℕ) : Type 0 where
  pub first : Covered s
  pub second : Covered t
  pub first_long : 2 + t.before * report_size s.panelled ≤ length f
  pub second_long : 2 + s.behind * report_size t.panelled ≤ length g
  pub few : t.before + s.behind ≤ limits.stations
