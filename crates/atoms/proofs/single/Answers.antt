-- `atoms::single` meets its contract: one structure without bars is the extent of every atom. Assumes nothing.
use Rattle.atoms.proofs.Atoms.{extent-atom}
use Rattle.atoms.proofs.single.Goals as goal

pub returns : goal.returns
returns c = extent-atom
