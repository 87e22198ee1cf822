-- The value of a digit, by the range that the byte is in.
use Rattle.std.proofs.Common.{◌≡◌, ℕ, ◌<◌, false, eqb, leb}
use mathlib.Core.Bool.{and-false}
use mathlib.Core.Option.{some}
use borrow.Author.Tests.{lt-leb}
use Rattle.model.specs.Lists.{between}
use Rattle.model.specs.Bytes.{digit}
use Rattle.codec.proofs.Hex as hex
use Rattle.codec.proofs.Hex.{hex-digit}

pub between-under : (lo hi v : ℕ) → v < lo → between lo hi v ≡ false
unfolding between
between-under lo hi v p = rw (lt-leb lo v p)

pub between_over : (lo hi v : ℕ) → hi < v → between lo hi v ≡ false
unfolding between
between_over lo hi v p = rw (lt-leb v hi p) (and-false (leb lo v))

-- A digit is not 0A.
pub digit_no_end : (b d : ℕ) → digit b ≡ some d → eqb b 0x0A ≡ false
digit_no_end b d e = rw (← (hex-digit b d e).1) (hex.digit_no_end d)
