-- Each test is one of the definition's. Assumes nothing.
use mathlib.Core.Path.{sym, ap, ◌∙◌}
use native.Mathlib.Omega.{arith}
use lib.ListN.{drop, length-take, length-drop}
use lib.Seq.{drop-drop}
use Rattle.cells.proofs.Parts.{drop-whole}
use Rattle.codec.specs.Entries.{formed}
use Rattle.codec.proofs.Entries.{too_low, too_high, past_end, in_form, entries_end}
use Rattle.entries.proofs.lengths_ok.Goals as goal
use Rattle.entries.proofs.lengths_ok.Goals.{then-k-lt1-via-then-k-lt1, then-k-lt1-via-else-k-lt1+then-k-gt99, then-k-lt1-via-else-k-lt1+else-k-gt99+then-behind-k}

pub returns-then-k-lt1 : goal.returns-then-k-lt1
returns-then-k-lt1 c = let r = c.loop-rest.rest.now in let h = c.in-len1-up.len_at_least in let e = c.from-k.ensures in elim c.then-k-lt1.branch [
  | then-k-lt1-via-then-k-lt1 w ↦ sym (too_low r 0 _ h e w.if-k-lt1.true) ∙ c.loop-rest.invariant
  | then-k-lt1-via-else-k-lt1+then-k-gt99 w ↦ sym (too_high r 0 _ h e w.if-k-gt99.true) ∙ c.loop-rest.invariant
  | then-k-lt1-via-else-k-lt1+else-k-gt99+then-behind-k w ↦ sym (past_end r 0 _ h e (let b = simp (length-take, length-drop) at w.if-behind-k.true in omega arith)) ∙ c.loop-rest.invariant
]

pub loop-rest-preserved : goal.loop-rest-preserved
loop-rest-preserved c = let r = c.loop-rest.rest.now in let k = c.from-k.result in
    let b = simp (length-take, length-drop) at c.if-behind-k.false in
    rw (drop-whole 1 r, drop-whole k (drop 1 r), drop-drop k 1 r) (sym (in_form r 0 _ c.in-len1-up.len_at_least c.from-k.ensures c.if-k-lt1.false c.if-k-gt99.false (omega arith)) ∙ c.loop-rest.invariant)

pub returns : goal.returns
returns c = sym (ap formed (entries_end c.loop-rest.rest.now 0 (omega arith))) ∙ c.loop-rest.invariant
