-- What is written at the front of a slice: a line, or several.
use Rattle.std.specs.Prelude.{◌≡◌, ℕ, List, ◌++◌, length, drop}

-- The bytes stand at the front, r is their length, and behind them all is as it was.
pub record AtFront (bytes : List ℕ) (r : ℕ) (was now : List ℕ) : Type 0 where
  pub size : r ≡ length bytes
  pub front : now ≡ bytes ++ drop (length bytes) was
