-- `query::paired` meets its contract, by the laws of and and or. Assumes nothing.
use Rattle.query.proofs.Measured.{sized-two}
use Rattle.query.proofs.paired.Goals as goal

pub returns : goal.returns
returns c = λ n q x w. sized-two c.args.and q x w c.join.ensures c.together.ensures
