-- `exports::moment_merge`: the reply of `op_merge::merge`, packed.
use mathlib.Core.Path.{ap, ◌∙◌}
use Rattle.packing.specs.Packed.{packed, write_widths}
use Rattle.packing.proofs.Replies.{merge_fair}
use Rattle.exports.proofs.moment_merge.Goals as goal

pub packed-requires : goal.packed-requires
packed-requires c = rw c.merge.ensures.result_value (merge_fair _ _ _)

pub returns : goal.returns
returns c =
    let h = c.merge in
    record { value = c.packed.ensures ∙ ap (packed write_widths) h.ensures.result_value; out_after = h.ensures.out_after }
