-- `exports::moment_read`: the reply of `op_read_write::read`, packed.
use mathlib.Core.Path.{ap, ◌∙◌}
use Rattle.packing.specs.Packed.{packed, read_widths}
use Rattle.packing.proofs.Replies.{read_fair}
use Rattle.exports.proofs.moment_read.Goals as goal

pub packed-requires : goal.packed-requires
packed-requires c = rw c.read.ensures.result_value (read_fair _ _)

pub returns : goal.returns
returns c =
    let h = c.read in
    record { value = c.packed.ensures ∙ ap (packed read_widths) h.ensures.result_value; out_after = h.ensures.out_after }
