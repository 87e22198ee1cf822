-- Each test is one of the definition's, in its order. Assumes nothing.
use mathlib.Core.Path.{sym, ◌∙◌}
use Rattle.cells.proofs.Parts.{drop-whole}
use Rattle.messages.proofs.Messages.{closed, full, misshapen, wrong, message_next}
use Rattle.messages.proofs.message.Goals as goal
use Rattle.messages.proofs.message.Goals.{then-not-is_open-via-then-not-is_open, then-not-is_open-via-else-not-is_open+then-m-s, then-bytes-ne-MESSAGE-via-then-bytes-ne-MESSAGE, then-bytes-ne-MESSAGE-via-else-bytes-ne-MESSAGE+then-not-message_ok}

pub returns-then-not-is_open : goal.returns-then-not-is_open
returns-then-not-is_open c = let p = c.requires.in_bounds in elim c.then-not-is_open.branch [
  | then-not-is_open-via-then-not-is_open w ↦ closed _ _ _ p.0 p.1 (sym c.is_open.ensures ∙ w.if-not-is_open.true)
  | then-not-is_open-via-else-not-is_open+then-m-s w ↦ full _ _ _ p.0 p.1 w.if-m-s.true
]

pub returns-then-bytes-ne-MESSAGE : goal.returns-then-bytes-ne-MESSAGE
returns-then-bytes-ne-MESSAGE c = let p = c.requires.in_bounds in let o = sym c.is_open.ensures ∙ c.if-not-is_open.false in elim c.then-bytes-ne-MESSAGE.branch [
  | then-bytes-ne-MESSAGE-via-then-bytes-ne-MESSAGE w ↦ misshapen _ _ _ p.0 p.1 o c.if-m-s.false (rw (drop-whole 1 c.args.frame.now) at w.if-bytes-ne-MESSAGE.true)
  | then-bytes-ne-MESSAGE-via-else-bytes-ne-MESSAGE+then-not-message_ok w ↦ wrong _ _ _ p.0 p.1 o c.if-m-s.false (rw (drop-whole 1 c.args.frame.now) at w.if-not-message_ok.ensures)
]

pub returns : goal.returns
returns c = let p = c.requires in let o = sym c.is_open.ensures ∙ c.if-not-is_open.false in let d = drop-whole 1 c.args.frame.now in
    rw (c.with_message.ensures, c.put.ensures, c.message_slot.ensures.0, d)
    (message_next p.no_larger.0 p.no_larger.1 _ _ p.in_bounds.0 p.in_bounds.1 o c.if-m-s.false c.told-store (rw d at c.if-bytes-ne-MESSAGE.false) (rw d at c.if-not-message_ok.ensures))
