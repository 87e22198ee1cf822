-- `belongs` meets its contract: the question is true at the cuts that belong to its basis. Assumes nothing.
use Rattle.question.proofs.Answers.{cut-told}
use Rattle.question.proofs.belongs.Goals as goal

pub belongs_any-requires : goal.belongs_any-requires
belongs_any-requires c = record { stands = c.requires.worked.2.stands }

pub returns : goal.returns
returns c = λ K f w. cut-told w _ _ _ c.belongs_any.ensures c.cut_at-at.ensures.0 c.requires.cut_len
