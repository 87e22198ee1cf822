-- The invariant: the sum is that of the counts before j, and each station before j has its own. Assumes nothing.
use mathlib.Core.Path.{◌≡◌}
use Prim.Native.Nat.{ℕ, ◌<◌}
use lib.ListN.{length, take, get_or}
use Rattle.model.specs.Lists.{total}
use Rattle.offsets.proofs.offsets.Given as goal

abbrev pub invariant-loop-j : goal.invariant-loop-j
invariant-loop-j l = record {
  eight : length l.offs ≡ 8;
  so_far : l.sum ≡ total (take l.j (take l.n l.counts));
  each : (i : ℕ) → i < l.j → get_or l.offs i 0 ≡ total (take i (take l.n l.counts));
}
