-- The invariant: the rest has the form of a frame list exactly when the whole has it. Assumes nothing.
use mathlib.Core.Path.{◌≡◌}
use lib.ListN.{length}
use Rattle.model.specs.Frames.{frames_of}
use Rattle.codec.specs.Entries.{formed}
use Rattle.entries.proofs.lengths_ok.Given as goal

abbrev pub invariant-loop-rest : goal.invariant-loop-rest
invariant-loop-rest l = formed (frames_of l.rest) ≡ formed (frames_of l.list)

abbrev pub decreases-loop-rest : goal.decreases-loop-rest
decreases-loop-rest l = length l.rest
