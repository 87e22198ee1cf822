-- Where a question stands in a frame list.
use Rattle.std.specs.Prelude.{◌≡◌, ℕ, ◌<◌, List, [], ◌∷◌, length, take, get_or}
use Rattle.model.specs.Frames.{list_of}

-- A list of frames has a frame at an index.
pub record Indexed (list : List ℕ) (index : ℕ) : Type 0 where
  pub frames : List (List ℕ)
  pub is : list ≡ list_of frames
  pub there : index < length frames

-- The first k bytes of list are a frame list, and the frame at the index is the question q.
pub record Asks (list : List ℕ) (k index : ℕ) (q : List ℕ) : Type 0 where
  pub frames : List (List ℕ)
  pub listed : take k list ≡ list_of frames
  pub there : index < length frames
  pub is : get_or frames index [] ≡ 0x30 ∷ q
