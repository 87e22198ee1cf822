-- The length is that of the form, and then the station decides. Assumes nothing.
use mathlib.Core.Path.{◌∙◌}
use borrow.Author.Tests.{ne_eqb}
use Rattle.admit.proofs.Events.{wrong_length, by_station}
use Rattle.admit.proofs.event.well_formed.Goals as goal

pub returns-then-frame-before-clause-value : goal.returns-then-frame-before-clause-value
returns-then-frame-before-clause-value c = let a = c.args in by_station a.s.panelled a.s.stations _ c.report_size-before.ensures.0 a.frame.now c.requires.0 c.if-frame-before.true _ c.from.ensures

pub returns-else-frame-before-clause-value : goal.returns-else-frame-before-clause-value
returns-else-frame-before-clause-value c = let a = c.args in ne_eqb _ _ c.if-frame-before.false ∙ wrong_length a.s.panelled a.s.stations _ c.report_size-before.ensures.0 a.frame.now c.requires.0 c.if-frame-before.false
