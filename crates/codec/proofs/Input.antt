-- The first bytes of a file, if they are more than a log may have, tell what is printed for it.
use mathlib.Core.Path.{◌≡◌, refl, sym, ap, ◌∙◌}
use mathlib.Core.Bool.{Bool, true, false}
use mathlib.Core.List.{List}
use Prim.Native.Nat.{ℕ, ◌≤◌, ◌<◌}
use native.Mathlib.Omega.{arith}
use borrow.Author.Tests.{lt-leb, leb-true, leb-false}
use lib.Dec.{leb}
use lib.ListN.{length, take}
use lib.Seq.{take_all, length-take-le}
use Rattle.model.specs.declared.Limits.{Limits}
use Rattle.model.specs.Limits.{print_limits}
use Rattle.model.specs.Reading.{refused, read_log}
use Rattle.model.specs.Operations.{printed_of, input_size, printed}

-- A log that is too long.
pub read_long : (m : Limits) (log : List ℕ) → m.bytes < length log → read_log m log ≡ refused 1 0
unfolding read_log
read_long m log h = rw (lt-leb (length log) m.bytes h)

pub printed-long : (log : List ℕ) → print_limits.bytes < length log → printed log ≡ printed_of (refused 1 0)
unfolding printed
printed-long log h = ap printed_of (read_long print_limits log h)

-- A file is got whole, or what is got is too long as the file is.
pub printed-first : (n : ℕ) (file : List ℕ) → input_size ≤ n → printed (take n file) ≡ printed file
printed-first n file h = go (leb (length file) n) refl where
  go : (b : Bool) → leb (length file) n ≡ b → printed (take n file) ≡ printed file
  go true e = ap printed (take_all n file (omega (arith, leb-true)))
  go false e =
      let long : n < length file = omega (arith, leb-false) in
      let got : length (take n file) ≡ n = length-take-le n file (omega arith) in
      printed-long (take n file) (omega arith) ∙ sym (printed-long file (omega arith))
