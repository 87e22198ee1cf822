-- The line of the frame that was made. Assumes nothing.
use mathlib.Core.Path.{sym, ◌∙◌}
use Prim.Native.Nat.{◌≤◌}
use native.Mathlib.Nat.{zero-add}
use native.Mathlib.Omega.{arith}
use lib.ListN.{length}
use lib.Seq.{length-take-le}
use Rattle.model.specs.Reading.{report_size}
use Rattle.write_beside.specs.Moved.{header_of}
use Rattle.write_beside.proofs.Reports.{header_fits}
use Rattle.write_beside.proofs.Lines.{line-room, line-put}
use Rattle.write_beside.proofs.put_header.Goals as goal
use Rattle.write_beside.proofs.put_header.Goals.{After-merged_header-k}

inside : (c : After-merged_header-k) → c.merged_header-k.result ≤ length c.merged_header-k.new.frame
unfolding report_size
inside c =
    let m = c.merged_header-k in
    omega (arith, m.ensures.0, header_fits c.requires.headers)

pub slice_bounds-frame-end : goal.slice_bounds-frame-end
slice_bounds-frame-end c = inside (goal.at.slice_bounds-frame-end c).After-merged_header-k

pub slice_bounds-put_line-end : goal.slice_bounds-put_line-end
slice_bounds-put_line-end c = sym (length-take-le _ _ (inside (goal.at.slice_bounds-put_line-end c).After-merged_header-k))

pub put_line-requires : goal.put_line-requires
put_line-requires c = line-room _ _ c.merged_header-k.ensures.1 0 _ (omega (arith, c.requires.second_in_bounds))

pub returns : goal.returns
returns c =
    let a = c.args in
    let l = c.put_line.ensures in
    let w = line-put _ (header_of a.one a.first.now a.two a.second.now) c.merged_header-k.ensures.1 0 _ _ _ l.0 l.1 in
    record { value = w.0 ∙ zero-add _; out_after = w.1 }
