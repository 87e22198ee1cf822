-- A loaded log has what laying out asks for.
use Rattle.opening.proofs.Logs.{loaded}
use Rattle.opening.proofs.lay.Goals as goal

pub returns : goal.returns
returns c = let l = c.lay.ensures in (l.0, λ m log list a. l.2 _ (loaded a))
