-- Tables of rows of eight cells.
use Rattle.std.specs.Prelude.{ℕ, ◌*◌, List, take, drop}

-- Row i of a table.
abbrev pub row_of : List ℕ → ℕ → List ℕ
row_of table i = take 8 (drop (i * 8) table)
