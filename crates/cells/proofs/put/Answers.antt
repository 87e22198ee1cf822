-- All of a list is copied.
use mathlib.Core.Path.{refl, ◌∙◌}
use lib.ListN.{length}
use Rattle.cells.proofs.Puts.{put_copied}
use Rattle.cells.proofs.put.Goals as goal

pub returns : goal.returns
returns c =
    let a = c.args in
    c.copy.ensures ∙ put_copied a.dst.now a.src.now a.at (length a.src.now) refl
