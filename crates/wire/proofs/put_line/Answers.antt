-- The digits of the frame, those of its check byte and 0A are put one after another.
use Rattle.std.proofs.Common.{refl, arith}
use Rattle.codec.proofs.Lines.{length-line}
use Rattle.wire.proofs.Hexes.{put-line-is}
use Rattle.wire.proofs.put_line.Goals as goal

pub returns : goal.returns
returns c = (
  omega (arith, length-line c.args.frame.now),
  put-line-is _ _ _ _ _ _ _ (omega arith) refl c.check_byte-check.ensures c.put_hex.ensures c.put_byte.ensures (omega arith),
)
