-- A log that is accepted is as loading says.
use Rattle.std.proofs.Common.{arith}
use Rattle.bases.proofs.print_case.Goals as goal

pub print_loaded-requires : goal.print_loaded-requires
print_loaded-requires c =
    let l = c.load in
    let a = rw c.print_limits.ensures at c.in-Ok.ensures.loads in
    record { length_in_bounds = omega (arith, a.short, l.auto); accepts = (_, a) }
