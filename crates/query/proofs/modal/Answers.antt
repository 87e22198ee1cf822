-- `query::modal` meets its contract, by the laws of possibly and always. Assumes nothing.
use Rattle.query.proofs.Measured.{sized-modal}
use Rattle.query.proofs.modal.Goals as goal

pub returns : goal.returns
returns c = λ n q x. sized-modal c.args.possibly q x c.lift.ensures c.longer.ensures
