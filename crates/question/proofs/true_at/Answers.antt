-- `true_at` meets its contract: the basis is worked out, then asked. Assumes nothing.
use Rattle.question.proofs.true_at.Goals as goal

pub work_out-basis-requires : goal.work_out-basis-requires
work_out-basis-requires c = let p = c.requires in
    record { question = p.question; barspace_size_in_bounds = p.bars_fit }

pub belongs-requires : goal.belongs-requires
belongs-requires c =
    let p = c.requires in
    record { worked = (_, _, c.work_out-basis.ensures _ _ p.question.2); cut_len = p.cut_len }

pub returns : goal.returns
returns c = λ K f g. c.belongs.ensures K f (c.work_out-basis.ensures K f g)
