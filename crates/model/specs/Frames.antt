-- Frames one after another, as a log and as a frame list.
use Rattle.std.specs.Prelude.{ℕ, zero, suc, ◌+◌, ◌*◌, min, Bool, true, false, List, [], ◌∷◌, ◌++◌, length, take, drop, get_or}
use Rattle.std.proofs.Math.Option.{Option, none, some}
use Rattle.model.specs.Lists.{between}
use Rattle.model.specs.Bytes.{line}

-- The number of two bytes at the front, high byte first.
unfoldable pub word : List ℕ → ℕ
word f = 256 * get_or f 0 0 + get_or f 1 0

-- The log of some frames.
unfoldable pub log_of : List (List ℕ) → List ℕ
log_of [] = []
log_of (f ∷ fs) = line f ++ log_of fs

-- The frame list: per frame a length byte, then the frame without its check byte.
unfoldable pub list_of : List (List ℕ) → List ℕ
list_of [] = []
list_of (f ∷ fs) = length f ∷ (f ++ list_of fs)

-- A frame in front of those after it.
unfoldable pub before : List ℕ → Option (List (List ℕ)) → Option (List (List ℕ))
before f none = none
before f (some fs) = some (f ∷ fs)

-- A frame of k bytes in front of what go makes of the rest, if k is a length: not 0, over 99 or past the end.
unfoldable pub entry : (List ℕ → Option (List (List ℕ))) → ℕ → List ℕ → Bool → Option (List (List ℕ))
entry go k l true = before (take k l) (go (drop k l))
entry go k l false = none

unfoldable pub split : (List ℕ → Option (List (List ℕ))) → List ℕ → Option (List (List ℕ))
split go [] = some []
split go (k ∷ l) = entry go k l (between 1 (min 99 (length l)) k)

-- The frames of a list, for fewer than m frames.
unfoldable pub frames_in : ℕ → List ℕ → Option (List (List ℕ))
frames_in zero l = none
frames_in (suc m) l = split (frames_in m) l

unfoldable pub frames_of : List ℕ → Option (List (List ℕ))
frames_of l = frames_in (suc (length l)) l
