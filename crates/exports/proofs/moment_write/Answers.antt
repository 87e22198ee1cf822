-- `exports::moment_write`: the reply of `op_read_write::write`, packed.
use mathlib.Core.Path.{ap, ◌∙◌}
use Rattle.packing.specs.Packed.{packed, write_widths}
use Rattle.packing.proofs.Replies.{write_fair}
use Rattle.exports.proofs.moment_write.Goals as goal

pub packed-requires : goal.packed-requires
packed-requires c = rw c.write.ensures.result_value (write_fair _ _)

pub returns : goal.returns
returns c =
    let h = c.write in
    record { value = c.packed.ensures ∙ ap (packed write_widths) h.ensures.result_value; out_after = h.ensures.out_after }
