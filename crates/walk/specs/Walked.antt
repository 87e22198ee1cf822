-- What a walk over the line that starts at `at` tells.
use Rattle.std.specs.Prelude.{◌≡◌, ℕ, zero, suc, ◌+◌, ◌*◌, ◌%◌, ◌≤◌, Result, Ok, Err, List, [], ◌∷◌, length, take, drop}
use Rattle.std.proofs.Math.Option.{some}
use Rattle.model.specs.Lists.{total}
use Rattle.model.specs.Bytes.{more, lines_of, bytes, Item, bad, items}
use Rattle.walk.specs.declared.Pair.{Pair}
use Rattle.walk.specs.declared.Pair.TheVariants.{Byte, End, Broken}
use Rattle.walk.specs.declared.Frame.{Frame}
use Rattle.walk.specs.declared.Malformed.{Malformed}
use Rattle.walk.specs.Pairs.{pair_of, to_tell}

-- A line of 2 to 100 bytes, now the first k of out, with their sum; the next line starts at `next`.
pub record Framed (log : List ℕ) (at k sum next : ℕ) (out : List ℕ) : Type 0 where
  pub text : List ℕ
  pub is : lines_of (drop at log) ≡ more text (lines_of (drop next log))
  pub carries : bytes text ≡ some (take k out)
  pub low : 2 ≤ k
  pub high : k ≤ 100
  pub room : k ≤ length out
  pub adds : sum ≡ total (take k out) % 256
  pub after : next ≡ at + 2 * k + 1
  pub inside : next ≤ length log

-- A line whose form is wrong.
pub record Spoilt (log : List ℕ) (at : ℕ) : Type 0 where
  pub others : List Item
  pub is : items (lines_of (drop at log)) ≡ bad 2 ∷ others

-- The next line starts behind what was looked at.
abbrev pub Walked : List ℕ → ℕ → Result Frame Malformed → List ℕ → Type 0
Walked log at (Ok f) out = Framed log at f.length f.sum (at + f.looks) out
Walked log at (Err m) out = Spoilt log at

-- How many bytes of the log were looked at.
abbrev pub looked : Result Frame Malformed → ℕ
looked (Ok f) = f.looks
looked (Err m) = m.looks

-- The byte of a pair in front of others, if it is one.
abbrev pub onto : Pair → List ℕ → List ℕ
onto (Byte b) l = b ∷ l
onto End l = []
onto Broken l = []

-- The bytes of the pairs of digits at the front, at most m: what a walk leaves, whatever the line comes to.
unfoldable pub lead : ℕ → List ℕ → List ℕ
lead zero s = []
lead (suc m) s = onto (pair_of s) (lead m (drop 2 s))

-- The looks of a walk: both digits of each of these pairs, and what tells what stands behind them.
unfoldable pub looks_of : List ℕ → ℕ
looks_of s = 2 * length (lead 100 s) + to_tell (drop (2 * length (lead 100 s)) s)
