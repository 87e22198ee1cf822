-- What the station first reports, and no events counted. Assumes nothing.
use mathlib.Core.Path.{ap₂, ◌∙◌}
use mathlib.Core.List.{◌++◌}
use Prim.Native.Nat.{ℕ, ◌+◌, ◌*◌, ◌≤◌}
use native.Mathlib.Nat.{mul-le-mul}
use native.Mathlib.Omega.{arith}
use lib.ListN.{drop, replicate}
use Rattle.model.specs.Limits.{limits, stored_report}
use Rattle.cells.specs.Put.{put_of}
use Rattle.table.specs.Table.{report_bytes}
use Rattle.table.proofs.open_station.Goals as goal
use Rattle.table.proofs.open_station.Goals.{After-report_size}

-- The reports before that of station j have few bytes.
before-it : (c : After-report_size) → c.args.j * c.report_size.result ≤ limits.stations * stored_report
before-it c = mul-le-mul {n₂ = limits.stations} {m₂ = stored_report} (omega (arith, c.requires.0)) c.report_size.ensures.2

pub overflow_mul-from : goal.overflow_mul-from
overflow_mul-from c = omega (arith, before-it c)

pub overflow_add-from : goal.overflow_add-from
overflow_add-from c = omega (arith, before-it c)

pub put_slot-requires : goal.put_slot-requires
put_slot-requires c = let p = c.requires in (rw c.report_size.ensures.0 p.1, omega (arith, c.slot.ensures.1))

pub returns : goal.returns
returns c = let a = c.args in c.put_slot.ensures ∙ ap₂ (λ (x w : ℕ). put_of a.store.now x (report_bytes a.panelled (drop (a.j * w + 2) a.frame.now) ++ replicate limits.stations 0)) c.slot.ensures.0 c.report_size.ensures.0
