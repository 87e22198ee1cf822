-- `run` meets its contract: the array holds more than a log may have, so the bytes got tell what is printed for the whole file. Assumes nothing.
use mathlib.Core.Logic.{inl, inr}
use native.Mathlib.Omega.{arith}
use Rattle.print.proofs.Printed.{take-most, printed_file}
use Rattle.print.proofs.run.Goals as goal
use Rattle.print.proofs.run.Goals.{then-got-lt-INPUT, else-got-lt-INPUT}

pub returns : goal.returns
returns c =
    let a = c.args in
    let same = take-most a.input.now c.if-got-lt-INPUT.n a.got (elim c.if-got-lt-INPUT.branch [ then-got-lt-INPUT w ↦ inl w.n-is | else-got-lt-INPUT w ↦ inr (omega arith, omega arith) ]) in
    let r = printed_file a.input.now a.out.now c.print_log.new.out a.got c.if-got-lt-INPUT.n _ (omega arith) same (c.print_log.ensures.value, c.print_log.ensures.out_after) in
    record { value = r.0; out_after = r.1.0; whole_file = r.1.1 }
