-- The measure of the two rules: the length of what is left of the question.
use lib.ListN.{length}
use Rattle.basis.proofs.+basis_false_basis_true.Given as goal

abbrev pub decreases-basis_false : goal.decreases-basis_false
decreases-basis_false l = length l.q.now

abbrev pub decreases-basis_true : goal.decreases-basis_true
decreases-basis_true l = length l.q.now
