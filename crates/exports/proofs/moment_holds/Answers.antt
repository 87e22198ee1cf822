-- `exports::moment_holds`: the reply of `holds::holds`, packed.
use mathlib.Core.Path.{ap, ◌∙◌}
use Rattle.packing.specs.Packed.{packed, holds_widths}
use Rattle.packing.proofs.Replies.{holds_fair}
use Rattle.exports.proofs.moment_holds.Goals as goal

pub packed-requires : goal.packed-requires
packed-requires c = rw c.holds.ensures.result_value (holds_fair _ _ _ _ _)

pub returns : goal.returns
returns c =
    let h = c.holds in
    let k = rw h.ensures.result_value at h.ensures.kept in
    record { value = c.packed.ensures ∙ ap (packed holds_widths) h.ensures.result_value; kept = k.0; kept_bars = k.1 }
