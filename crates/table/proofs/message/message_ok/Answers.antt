-- Each test is one of the definition's. Assumes nothing.
use mathlib.Core.Path.{sym, ap, ◌∙◌}
use mathlib.Core.Bool.{not}
use Rattle.table.proofs.Messages.{there_iff, in_table, never-sent, sender_missing, receiver_missing, to_itself, never-came, received_with}
use Rattle.table.proofs.message.message_ok.Goals as goal

pub returns-then-x-eq0 : goal.returns-then-x-eq0
returns-then-x-eq0 c = λ K g. never-sent g _ _ _ _ _ c.from-i.ensures c.from-x.ensures c.from-j.ensures c.from-k.ensures c.if-x-eq0.true

pub returns-then-not-there : goal.returns-then-not-there
returns-then-not-there c = λ K g. sender_missing g _ _ _ _ _ c.from-i.ensures c.from-x.ensures c.from-j.ensures c.from-k.ensures _ c.there.ensures (ap not c.if-not-there.true)

pub returns-then-not-there-2 : goal.returns-then-not-there-2
returns-then-not-there-2 c = λ K g. receiver_missing g _ _ _ _ _ c.from-i.ensures c.from-x.ensures c.from-j.ensures c.from-k.ensures _ c.there-2.ensures (ap not c.if-not-there-2.true)

pub returns-then-i-j : goal.returns-then-i-j
returns-then-i-j c = λ K g. to_itself g _ _ _ _ _ c.from-i.ensures c.from-x.ensures c.from-j.ensures c.from-k.ensures c.if-i-j.true

pub returns-then-k-eq0 : goal.returns-then-k-eq0
returns-then-k-eq0 c = λ K g. never-came g _ _ _ _ _ c.from-i.ensures c.from-x.ensures c.from-j.ensures c.from-k.ensures c.if-x-eq0.false ((there_iff _ _ _ _).0 (sym c.there.ensures ∙ c.if-not-there.false)) ((there_iff _ _ _ _).0 (sym c.there-2.ensures ∙ c.if-not-there-2.false)) c.if-i-j.false c.if-k-eq0.true

pub slot-at-requires : goal.slot-at-requires
slot-at-requires c = let p = c.requires in in_table c.args.counts.now _ _ _ _ p.bytes_len.1 p.by_index c.there-2.ensures (ap not c.if-not-there-2.false)

pub returns : goal.returns
returns c = λ K g. received_with g _ _ _ _ _ c.from-i.ensures c.from-x.ensures c.from-j.ensures c.from-k.ensures c.if-x-eq0.false ((there_iff _ _ _ _).0 (sym c.there.ensures ∙ c.if-not-there.false)) ((there_iff _ _ _ _).0 (sym c.there-2.ensures ∙ c.if-not-there-2.false)) c.if-i-j.false c.if-k-eq0.false _ _ c.slot-at.ensures.0 c.from.ensures
