-- Loading a log: where the code stands while it reads, and what it comes to.
use Rattle.std.specs.Prelude as std
use Rattle.std.specs.Prelude.{◌≡◌, ℕ, ◌+◌, ◌*◌, ◌≤◌, ◌<◌, List, ◌∷◌, length, take, drop, Ok, Err, MatchResult}
use Rattle.model.specs.declared.Limits.{Limits}
use Rattle.model.specs.declared.Fault.{Fault}
use Rattle.model.specs.declared.Refusal.{Refusal}
use Rattle.model.specs.Limits.{limits}
use Rattle.model.specs.Bytes.{lines_of, Item, frame, items}
use Rattle.model.specs.Frames.{list_of}
use Rattle.model.specs.Reading.{Reading, Result, refused, accepted, read_items, read_log}
use Rattle.model.specs.Reply.{number}
use Rattle.frame.specs.declared.State.{State}
use Rattle.load.specs.declared.Loaded.{Loaded}
use Rattle.load.specs.declared.Unread.{Unread}
use Rattle.load.specs.declared.Position.{Position}
use Rattle.frame.specs.State.{fresh, Bounded, Represents}

-- The first line, before anything was read.
abbrev pub first : Position
first = record { at = 0; line = 1; length = 0; state = fresh }

-- The fault x of the line at p, and the list as far as it was read.
abbrev pub unread_at : Position → Fault → Unread
unread_at p x = record { refusal = record { fault = x; line = p.line }; length = p.length }

-- Under the limits m the whole comes to what the rest comes to after what has been read; state and store represent this, and the list has its frames.
pub record Sofar (m : Limits) (whole : Result) (left : List Item) (p : Position) (list t : List ℕ) : Type 0 where
  pub reading : Reading
  pub is : whole ≡ read_items m p.line reading left
  pub holds : Represents reading p.state t
  pub listed : take p.length list ≡ list_of reading.frames

-- What loading leaves of the list that was lent: every byte behind the first k.
pub record Left (k : ℕ) (list list' : List ℕ) : Type 0 where
  pub behind : drop k list' ≡ drop k list

-- The fault x at p ends the whole.
pub record Ends (m : Limits) (rest : List Item) (p : Position) (list t : List ℕ) (x : Fault) (list' : List ℕ) : Type 0 where
  pub left : Left p.length list list'
  pub ends : (whole : Result) → Sofar m whole rest p list t → whole ≡ refused (number x) p.line

-- The frame f at p was admitted, and q is the place after it; the next line starts at `next`.
pub record Passes (m : Limits) (p : Position) (f : List ℕ) (next : ℕ) (list t : List ℕ) (q : Position) (list' t' : List ℕ) : Type 0 where
  pub bounded : Bounded m q.state
  pub at : q.at ≡ next
  pub line : q.line ≡ p.line + 1
  pub longer : q.length ≡ p.length + (length f + 1)
  pub left : Left q.length list list'
  pub onward : (whole : Result) (rest : List Item) → Sofar m whole (frame f ∷ rest) p list t → Sofar m whole rest q list' t'

-- The frame f was tried at p; the next line starts at `next`.
abbrev pub Tries : Limits → Position → List ℕ → ℕ → List ℕ → List ℕ → std.Result Position Fault → List ℕ → List ℕ → Type 0
Tries m p f next list t r list' t' = MatchResult r (λ q. Passes m p f next list t q list' t') (λ x. (rest : List Item) → Ends m (frame f ∷ rest) p list t x list')

-- The places within a log: the list is at most half as long as what was read of the log.
pub record Within (m : Limits) (log : List ℕ) (p : Position) : Type 0 where
  pub bounded : Bounded m p.state
  pub inside : p.at ≤ length log
  pub half : 2 * p.length ≤ p.at
  pub low : p.line ≤ p.at + 1

-- The line at p was read, and q is the place of the next.
pub record Leads (m : Limits) (log : List ℕ) (p : Position) (list t : List ℕ) (q : Position) (list' t' : List ℕ) : Type 0 where
  pub within : Within m log q
  pub further : p.at < q.at
  pub longer : p.length ≤ q.length
  pub left : Left q.length list list'
  pub onward : (whole : Result) → Sofar m whole (items (lines_of (drop p.at log))) p list t → Sofar m whole (items (lines_of (drop q.at log))) q list' t'

-- The line at p was read, or it ends the whole.
abbrev pub Reads : Limits → List ℕ → Position → List ℕ → List ℕ → std.Result Position Fault → List ℕ → List ℕ → Type 0
Reads m log p list t r list' t' = MatchResult r (λ q. Leads m log p list t q list' t') (λ x. Ends m (items (lines_of (drop p.at log))) p list t x list')

-- The log is accepted under the limits m; state and store represent what it brings, and the first k bytes of list are its frame list.
pub record Accepts (m : Limits) (log : List ℕ) (s : State) (k : ℕ) (list t : List ℕ) : Type 0 where
  pub reading : Reading
  pub is : read_log m log ≡ accepted reading
  pub holds : Represents reading s t
  pub listed : take k list ≡ list_of reading.frames
  pub short : k ≤ limits.list
  pub bounded : Bounded m s
  pub some_stations : 0 < s.stations

-- The log is refused under the limits m.
abbrev pub Refuses : Limits → List ℕ → Refusal → Type 0
Refuses m log x = read_log m log ≡ refused (number x.fault) x.line

-- What loading a log comes to.
abbrev pub Loads : Limits → List ℕ → std.Result Loaded Unread → List ℕ → List ℕ → Type 0
Loads m log r list t = MatchResult r (λ l. Accepts m log l.state l.length list t) (λ u. Refuses m log u.refusal)

-- How much of the list was written.
abbrev pub written : std.Result Loaded Unread → ℕ
written (Ok l) = l.length
written (Err u) = u.length

-- The refusal of what was not read.
abbrev pub refusal_of : Unread → Refusal → Type 0
refusal_of u x = x ≡ u.refusal
