-- `cuts::insert_at` meets its contract: the cuts from the place on have moved up by one cut.
use Rattle.cuts.proofs.Cuts.{cuts-insert}
use Rattle.cuts.proofs.insert_at.Goals as goal

pub returns : goal.returns
returns c =
    let a = c.args in
    rw (c.copy.ensures, c.shift.ensures) (cuts-insert a.cuts.now a.cut.now a.n a.place a.count c.requires.1 c.requires.2 c.requires.0)
