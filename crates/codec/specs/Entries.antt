-- The frames of a frame list, where it has the form of one.
use Rattle.std.specs.Prelude.{◌≡◌, ℕ, Bool, true, false, List, []}
use Rattle.std.proofs.Math.Option.{Option, none, some}
use Rattle.model.specs.Frames.{frames_of}

-- Are there frames?
abbrev pub formed : Option (List (List ℕ)) → Bool
formed none = false
formed (some fs) = true

abbrev pub frames : Option (List (List ℕ)) → List (List ℕ)
frames none = []
frames (some fs) = fs

-- The list has the form of a frame list.
abbrev pub Formed : List ℕ → Type 0
Formed l = formed (frames_of l) ≡ true

-- The frames of a list.
abbrev pub entries : List ℕ → List (List ℕ)
entries l = frames (frames_of l)
