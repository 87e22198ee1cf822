-- `chains::first_cut` meets its contract.
use Rattle.std.proofs.Common.{◌∙◌, sym, refl}
use Rattle.picking.proofs.Reading.{row_cell, row_first}
use Rattle.chains.proofs.Finding.{first-none, first_some}
use Rattle.chains.proofs.first_cut.Goals as goal

pub returns-then-left-i : goal.returns-then-left-i
returns-then-left-i c = λ K S T j k m l r h e.
    let a = c.args in
    first-none K S T a.s j k a.i a.left.now a.right.now m l r h e _ (row_first a.left.now a.i ∙ c.if-left-i.true) refl

pub returns-else-left-i : goal.returns-else-left-i
returns-else-left-i c = λ K S T j k m l r h e.
    let a = c.args in
    first_some K S T a.s j k a.i a.left.now a.right.now m l r h e c.join_row.new.out c.from.result (λ y. c.if-left-i.false (sym (row_first a.left.now a.i) ∙ y))
    (c.from.ensures ∙ sym (row_cell a.left.now a.i a.s c.requires.1)) c.join_row.ensures
