-- `exports::moment_forecast`: the reply of `forecast::forecast`, packed.
use mathlib.Core.Path.{ap, ◌∙◌}
use Rattle.packing.specs.Packed.{packed, forecast_widths}
use Rattle.packing.proofs.Replies.{forecast_fair}
use Rattle.exports.proofs.moment_forecast.Goals as goal

pub packed-requires : goal.packed-requires
packed-requires c = rw c.forecast.ensures.result_value (forecast_fair _ _)

pub returns : goal.returns
returns c = c.packed.ensures ∙ ap (packed forecast_widths) c.forecast.ensures.result_value
