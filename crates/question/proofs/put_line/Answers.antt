-- `put_line` meets its contract: the basis is worked out, listed, and the listing is the answer. Assumes nothing.
use borrow.Author.Rules.{rules}
use Rattle.question.proofs.Answers.{cuts-within, line-told}
use Rattle.question.proofs.put_line.Goals as goal

pub work_out-basis-requires : goal.work_out-basis-requires
work_out-basis-requires c = let p = c.requires in
    record { question = p.question; barspace_size_in_bounds = p.bars_fit }

pub list-listed-requires : goal.list-listed-requires
list-listed-requires c = record { worked = (_, _, c.work_out-basis.ensures _ _ c.requires.question.2); stations_in_bounds = search rules }

pub put_answer-requires : goal.put_answer-requires
put_answer-requires c =
    let p = c.requires in
    let w = c.work_out-basis.ensures _ _ p.question.2 in
    let l = c.list-listed in
    (l.ensures.0, c.args.run.now.x.few_stations, cuts-within w _ _ l.ensures.0 l.auto.cuts, p.line_fits)

pub returns : goal.returns
returns c = λ K f g.
    line-told (c.list-listed.ensures.1 K f (c.work_out-basis.ensures K f g)) c.put_answer.ensures
