-- Two bytes, the reports of the first header, those of the second. Assumes nothing.
use Rattle.std.proofs.Common.{◌≡◌, ◌∙◌, length, arith, length-drop, length-set}
use Rattle.cells.proofs.Parts.{drop-whole}
use Rattle.model.specs.Reading.{report_size}
use Rattle.write_beside.proofs.Reports.{reports-fit, header_put}
use Rattle.write_beside.proofs.header.merged_header.Goals as goal

pub put_reports-middle-requires : goal.put_reports-middle-requires
unfolding report_size
put_reports-middle-requires c =
    let h = c.requires in
    let f = c.args.first.now in
    record { covered = h.first; panelled_in_bounds = (rw (drop-whole 2 f) (omega (arith, h.first_long, length-drop 2 f)), simp length-set (omega (arith, c.told-frame, reports-fit h))) }

pub put_reports-requires : goal.put_reports-requires
unfolding report_size
put_reports-requires c =
    let h = c.requires in
    let r = c.put_reports-middle in
    let f = c.args.second.now in
    let l : length r.new.frame ≡ length c.args.frame.now = r.auto.frame ∙ simp length-set in
    record { covered = h.second; panelled_in_bounds = (rw (drop-whole 2 f) (omega (arith, h.second_long, length-drop 2 f)), omega (arith, l, c.told-frame, r.ensures.0, reports-fit h)) }

pub returns : goal.returns
unfolding report_size
returns c =
    let r = rw (drop-whole 2 c.args.first.now) at c.put_reports-middle.ensures in
    let q = rw (drop-whole 2 c.args.second.now) at c.put_reports.ensures in
    header_put c.requires c.args.frame.now _ _ _ _ _ c.told-frame c.from.ensures r.0 r.1 q.0 q.1
