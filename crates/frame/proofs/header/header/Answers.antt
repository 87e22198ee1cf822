-- Each test is one of the definition's, in its order. Assumes nothing.
use mathlib.Core.Path.{◌≡◌}
use Rattle.std.proofs.lemmas.Result.{err_from_is_err_and}
use Rattle.model.specs.declared.Fault.TheVariants.{Header}
use Rattle.frame.proofs.Headers.{second, misshapen, header_next}
use Rattle.frame.proofs.header.header.Goals as goal

pub returns-then-s-ne0 : goal.returns-then-s-ne0
returns-then-s-ne0 c = let p = c.requires.in_bounds in second _ c.args.panelled _ _ p.0 p.1 c.if-s-ne0.true

pub returns-in_err-n : goal.returns-in_err-n
returns-in_err-n c = let p = c.requires.in_bounds in let e = c.in_err-n.ensures in
    let r = err_from_is_err_and c.from_residual.result c.from_residual.ensures.1 in
    let v = rw e.ok_part at e.value in
    let x : c.in_err-n.field-0.0 ≡ Header = cc in
    rw (r.1, r.2, x) (misshapen _ c.args.panelled _ _ p.0 p.1 c.if-s-ne0.false (rw e.ok_part at c.station_count.ensures))

pub returns : goal.returns
returns c = let p = c.requires in let d = rw c.in_ok-n.ensures.ok_part at c.station_count.ensures in
    rw c.with_header.ensures (header_next p.no_larger.0 p.no_larger.1 d c.open_stations.ensures p.in_bounds.0 p.in_bounds.1 c.if-s-ne0.false)
