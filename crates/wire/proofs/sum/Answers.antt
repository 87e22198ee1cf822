use Rattle.std.proofs.Common.{◌+◌, ◌%◌, ◌∙◌, rules, tests}
use Rattle.std.proofs.lemmas.Iterator.{YieldsList-from_slice}
use Rattle.std.proofs.lemmas.Iterator.Consumers.{fold_from_yields_List}
use Rattle.wire.proofs.Hexes.{sum_fold}
use Rattle.wire.proofs.sum.Goals as goal

pub returns : goal.returns
returns c =
    let s = c.args.s.now in
    fold_from_yields_List _ (λ t b. (t + b) % 256) 0 c.fold.result c.fold.ensures.ran (YieldsList-from_slice s cc) (λ t b u q k. search (rules, tests)) ∙ sum_fold s
