-- `lookups::join_all` meets its contract: after i rows each of them is joined.
use Rattle.std.proofs.Common.{◌≡◌, ℕ, ◌<◌, length}
use Rattle.model.specs.Cut.{join}
use Rattle.picking.specs.Rows.{row_of}
use Rattle.lookups.specs.Found.{place_of}
use Rattle.lookups.proofs.join_all.Given as goal

abbrev pub invariant-loop-i : goal.invariant-loop-i
invariant-loop-i l = record {
  size : length l.out ≡ 2048;
  joined : (j : ℕ) → j < l.i → row_of l.out j ≡ join (row_of l.cuts j) (row_of l.rows (place_of l.picks l.cuts l.s j));
}
