-- Start, the listed cuts and the rounds make the answer.
use native.Mathlib.Nat.{le_trans}
use Rattle.structure.specs.Layout.{cuts_at}
use Rattle.listing.proofs.Answers.{answer-is, worked_ascend}
use Rattle.listing.proofs.list.Goals as goal

pub returns : goal.returns
returns c =
    let a = c.args in
    let b = c.starts-start in
    let l = c.list_cuts-listed in (
      le_trans l.ensures.0 c.requires.worked.2.few,
      λ K f w.
          answer-is K f a.x a.count a.rounds a.ws.now a.bs.now w b.result (cuts_at a.x.n l.result l.new.cuts) b.ensures (l.ensures.1 a.bs.now (worked_ascend K f a.x a.count a.rounds a.ws.now a.bs.now w)),
    )
