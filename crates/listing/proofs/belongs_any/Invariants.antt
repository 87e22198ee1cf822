-- The cut belongs to none of the structures before the i-th.
use Rattle.std.proofs.Common.{◌≡◌, ◌+◌, ◌*◌, ◌-◌, take, drop}
use Rattle.model.specs.Structure.{belongs_any}
use Rattle.structure.specs.Layout.{standing}
use Rattle.listing.proofs.belongs_any.Given as goal

abbrev pub invariant-loop-i : goal.invariant-loop-i
invariant-loop-i l =
    belongs_any (standing l.x.n (take l.x.n l.x.counts) l.count l.ws l.bs) (take l.x.n l.cut)
    ≡ belongs_any (standing l.x.n (take l.x.n l.x.counts) (l.count - l.i) (drop (l.i * ((l.x.e + 1) * l.x.n)) l.ws) (drop (l.i * (16 * l.x.n)) l.bs)) (take l.x.n l.cut)
