-- The bars are the greatest cuts of the structures, and the test is the one of `keep`.
use Rattle.modal.proofs.Laws as laws
use Rattle.modal.proofs.bar.Goals as goal

pub returns-then-barred : goal.returns-then-barred
returns-then-barred c =
    let a = c.args in
    let p = c.requires in
    laws.bar_dropped a.x a.count a.starts.now a.ws.now c.copy.new.ws a.bs.now c.bar_each.new.bs c.end_bars.new.bs a.x.some_station p.fits.0 p.fits.4 p.fits.5 p.present c.bar_each.ensures.0 c.end_bars.ensures c.copy.ensures c.greatest-g.result c.barred.result c.greatest-g.ensures c.barred.ensures c.if-barred.true

pub returns-else-barred : goal.returns-else-barred
returns-else-barred c =
    let a = c.args in
    let p = c.requires in
    laws.bar_kept a.x a.count a.starts.now a.ws.now c.copy.new.ws a.bs.now c.bar_each.new.bs c.end_bars.new.bs a.x.some_station p.fits.0 p.fits.4 p.fits.5 p.present c.bar_each.ensures.0 c.end_bars.ensures c.copy.ensures c.greatest-g.result c.barred.result c.greatest-g.ensures c.barred.ensures c.if-barred.false
