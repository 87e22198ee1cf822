-- Each test is one of the definition's, in its order. Assumes nothing.
use mathlib.Core.Path.{refl, sym, ◌∙◌}
use native.Mathlib.Omega.{arith}
use Prim.Native.Nat.{◌+◌}
use Rattle.model.specs.Reading.{report_size}
use Rattle.cells.proofs.Parts.{drop-whole}
use Rattle.admit.proofs.Events.{closed, after_message, full, misshapen, clock-long, clock-wrong, event_next}
use Rattle.admit.proofs.event.event.Goals as goal
use Rattle.admit.proofs.event.event.Goals.{then-not-is_open-via-then-not-is_open, then-not-is_open-via-else-not-is_open+then-s-ne0, then-not-is_open-via-else-not-is_open+else-s-ne0+then-m-s}

pub returns-then-not-is_open : goal.returns-then-not-is_open
returns-then-not-is_open c = let p = c.requires.in_bounds in elim c.then-not-is_open.branch [
  | then-not-is_open-via-then-not-is_open w ↦ closed _ _ _ p.0 p.1 (sym c.is_open.ensures ∙ w.if-not-is_open.true)
  | then-not-is_open-via-else-not-is_open+then-s-ne0 w ↦ after_message _ _ _ p.0 p.1 w.if-s-ne0.true
  | then-not-is_open-via-else-not-is_open+else-s-ne0+then-m-s w ↦ full _ _ _ p.0 p.1 w.if-m-s.true
]

pub returns-then-not-well_formed : goal.returns-then-not-well_formed
returns-then-not-well_formed c = let p = c.requires.in_bounds in misshapen _ _ _ p.0 p.1 (sym c.is_open.ensures ∙ c.if-not-is_open.false) c.if-s-ne0.false c.if-m-s.false (sym c.well_formed-2.ensures.value ∙ c.if-not-well_formed.true)

pub returns-then-not-clock_ok : goal.returns-then-not-clock_ok
returns-then-not-clock_ok c = let p = c.requires.in_bounds in let l = sym c.well_formed-2.ensures.value ∙ c.if-not-well_formed.false in
    clock-wrong _ _ _ p.0 p.1 (sym c.is_open.ensures ∙ c.if-not-is_open.false) c.if-s-ne0.false c.if-m-s.false l
    (rw (c.report_size.ensures.0, drop-whole (report_size c.args.s.panelled + 2) c.args.frame.now, c.from-j.ensures, clock-long c.args.s c.args.frame.now l) at c.if-not-clock_ok.ensures)

pub returns : goal.returns
returns c = let p = c.requires in let l = sym c.well_formed-2.ensures.value ∙ c.if-not-well_formed.false in
    let d = drop-whole (report_size c.args.s.panelled + 2) c.args.frame.now in
    let ok = rw (c.report_size.ensures.0, d, c.from-j.ensures, clock-long c.args.s c.args.frame.now l) at c.if-not-clock_ok.ensures in
    rw (c.with_event.ensures, c.put_slot.ensures, c.slot.ensures.0, c.from-k.ensures, c.report_size.ensures.0, d)
    (event_next p.no_larger.0 p.no_larger.1 _ (omega (arith, c.from-j.ensures, c.if-not-well_formed.ensures.formed refl)) c.if-m-s.false _ _ p.in_bounds.0 p.in_bounds.1 (sym c.is_open.ensures ∙ c.if-not-is_open.false) c.if-s-ne0.false l c.from-j.ensures c.told-store ok)
