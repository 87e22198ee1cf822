-- What a slice holds after a list was put into it.
use Rattle.std.specs.Prelude.{ℕ, ◌+◌, List, ◌++◌, length, take, drop}

-- s in d, from `at` on.
unfoldable pub put_of : List ℕ → ℕ → List ℕ → List ℕ
put_of d at s = take at d ++ s ++ drop (at + length s) d
