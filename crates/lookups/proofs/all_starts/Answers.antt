-- `lookups::all_starts` meets its contract.
use Rattle.lookups.proofs.all_starts.Goals as goal

pub returns-clause-intersected : goal.returns-clause-intersected
returns-clause-intersected c = λ K S T f k. c.put_all.ensures.intersected K S T f k c.join_all.ensures c.join_all-2.ensures
