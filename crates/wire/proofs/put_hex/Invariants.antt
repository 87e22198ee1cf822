-- The digits of the first k bytes are put.
use Rattle.std.proofs.Common.{◌≡◌, take}
use Rattle.model.specs.Bytes.{hex}
use Rattle.cells.specs.Put.{put_of}
use Rattle.wire.proofs.put_hex.Given as goal

abbrev pub invariant-loop-k : goal.invariant-loop-k
invariant-loop-k l = l.out ≡ put_of l.initial.out l.at (hex (take l.k l.src))
