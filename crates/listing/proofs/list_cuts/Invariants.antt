-- The greatest cuts of the structures behind the i-th are listed.
use Rattle.std.proofs.Common.{◌≡◌, ℕ, ◌+◌, ◌*◌, ◌-◌, ◌≤◌, List, map, take, drop}
use Rattle.model.specs.Structure.{greatest}
use Rattle.model.specs.Answer.{tops, sort}
use Rattle.lattice.specs.Ascending.{RowsAscend}
use Rattle.lattice.proofs.Lists.{All}
use Rattle.structure.specs.Layout.{cuts_at, standing}
use Rattle.listing.proofs.list_cuts.Given as goal

abbrev pub invariant-loop-i : goal.invariant-loop-i
invariant-loop-i l =
    (l.listed ≤ l.count - l.i)
    × ((bs : List ℕ) → All (RowsAscend (take l.x.n l.x.counts)) (standing l.x.n (take l.x.n l.x.counts) (l.count - l.i) (drop (l.i * ((l.x.e + 1) * l.x.n)) l.ws) bs)
    → cuts_at l.x.n l.listed l.cuts ≡ sort (tops (map greatest (standing l.x.n (take l.x.n l.x.counts) (l.count - l.i) (drop (l.i * ((l.x.e + 1) * l.x.n)) l.ws) bs))))
