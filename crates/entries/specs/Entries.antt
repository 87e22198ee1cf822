-- The frames of a frame list, and how far Write has come in it.
use Rattle.std.specs.Prelude as std
use Rattle.std.specs.Prelude.{◌≡◌, ℕ, ◌+◌, ◌≤◌, ◌<◌, List, map, length, drop, MatchResult}
use Rattle.model.specs.declared.Fault.{Fault}
use Rattle.model.specs.declared.Refusal.{Refusal}
use Rattle.model.specs.declared.Limits.{Limits}
use Rattle.model.specs.Bytes.{frame}
use Rattle.codec.specs.Entries.{Formed, entries}
use Rattle.model.specs.Reading.{Reading, refused, accepted, read_list}
use Rattle.model.specs.Reply.{number}
use Rattle.load.specs.declared.Position.{Position}
use Rattle.frame.specs.State.{Bounded}
use Rattle.load.specs.Loading.{Sofar}

-- The frames before p were admitted under the limits m.
pub record Partly (m : Limits) (list : List ℕ) (p : Position) (t : List ℕ) : Type 0 where
  pub bounded : Bounded m p.state
  pub inside : p.length ≤ length list
  pub low : p.line ≤ p.length + 1
  pub rest_formed : Formed (drop p.length list)
  pub sofar : Sofar m (read_list m list) (map frame (entries (drop p.length list))) p list t

-- The frame at p was tried: the frames before q were admitted, or the list ends in a fault there.
abbrev pub Entered : Limits → List ℕ → Position → std.Result Position Fault → List ℕ → Type 0
Entered m list p r t = MatchResult r (λ q. Partly m list q t × (p.length < q.length)) (λ x. read_list m list ≡ refused (number x) p.line)

-- The list is accepted.
pub record Allowed (m : Limits) (list : List ℕ) : Type 0 where
  pub reading : Reading
  pub is : read_list m list ≡ accepted reading

-- What trying a whole list comes to.
abbrev pub Tried : Limits → std.Result (Unit {0}) Refusal → List ℕ → Type 0
Tried m r list = MatchResult r (λ _. Allowed m list) (λ x. read_list m list ≡ refused (number x.fault) x.line)
