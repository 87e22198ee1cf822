-- `exports::moment_answer`: the reply of `answer::answer`, packed.
use mathlib.Core.Path.{sym, ap, ◌∙◌}
use Rattle.packing.specs.Packed.{packed, answer_widths}
use Rattle.packing.proofs.Replies.{answer_fair, line_as_written}
use Rattle.exports.proofs.moment_answer.Goals as goal

pub packed-requires : goal.packed-requires
packed-requires c = rw (← line_as_written c.answer.result) (rw c.answer.ensures.result_value (answer_fair _ _ _ _ _))

pub returns : goal.returns
returns c =
    let h = c.answer in
    let k = rw h.ensures.result_value at h.ensures.kept in
    record { value = c.packed.ensures ∙ ap (packed answer_widths) (sym (line_as_written h.result) ∙ h.ensures.result_value); out_after = h.ensures.out_after; kept = k.0; kept_bars = k.1 }
