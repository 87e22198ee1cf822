-- The first n of eight zeros are the cut that holds no event.
use lib.ListN.{take}
use Rattle.listing.proofs.Standing.{belongs-empty}
use Rattle.listing.proofs.starts.Goals as goal

pub returns : goal.returns
returns c = belongs-empty c.args.x.n c.args.count (take c.args.x.n c.args.x.counts) c.args.ws.now c.args.bs.now c.args.x.few_stations c.empty_cut.ensures c.belongs_any.ensures
