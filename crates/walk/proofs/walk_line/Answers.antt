use Rattle.std.proofs.Common.{◌≡◌, ◌+◌, ◌*◌, sym, arith}
use Rattle.walk.proofs.Walks.{walk_start, walk_byte, told_many, told-few, told-frame, told_broken, told_over}
use Rattle.walk.proofs.walk_line.Goals as goal

pub loop-k-init : goal.loop-k-init
loop-k-init c =
    let e : c.args.at + 0 ≡ c.args.at = omega arith in
    rw e (walk_start _ _ _ (omega arith) (omega arith))

pub loop-k-preserved : goal.loop-k-preserved
loop-k-preserved c =
    let e : c.args.at + 2 * (c.loop-k.k + 1) ≡ c.args.at + 2 * c.loop-k.k + 2 = omega arith in
    rw e (walk_byte c.loop-k.invariant c.read_pair.ensures.looks_after (sym c.in-Byte.ensures.value) (omega arith))

pub returns-in-End : goal.returns-in-End
returns-in-End c = let r = told-frame c.loop-k.invariant c.read_pair.ensures.looks_after c.if-log-i.false (sym c.in-End.ensures.value) c.if-k-ge2.true in
    record { result_value = r.0; looks = r.1.0; walked = r.1.1.0; out_after = r.1.1.1 }

pub returns-then-log-i : goal.returns-then-log-i
returns-then-log-i c = let r = told_over c.loop-k.invariant c.if-log-i.true in
    record { result_value = r.0; looks = r.1.0; walked = r.1.1.0; out_after = r.1.1.1 }

-- A byte too many.
pub returns-in_default : goal.returns-in_default
returns-in_default c = let r = told_many c.loop-k.invariant c.read_pair.ensures.looks_after (sym c.in-Byte.ensures.value) (omega (arith, c.loop-k.invariant.few)) in
    record { result_value = r.0; looks = r.1.0; walked = r.1.1.0; out_after = r.1.1.1 }

-- Fewer than two.
pub returns-in_default-2 : goal.returns-in_default-2
returns-in_default-2 c = let r = told-few c.loop-k.invariant c.read_pair.ensures.looks_after (sym c.in-End.ensures.value) c.if-k-ge2.false in
    record { result_value = r.0; looks = r.1.0; walked = r.1.1.0; out_after = r.1.1.1 }

-- Neither a pair nor an end.
pub returns-in_default-3 : goal.returns-in_default-3
returns-in_default-3 c = let r = told_broken c.loop-k.invariant c.read_pair.ensures.looks_after c.if-log-i.false (sym c.in_default.ensures.value) in
    record { result_value = r.0; looks = r.1.0; walked = r.1.1.0; out_after = r.1.1.1 }
