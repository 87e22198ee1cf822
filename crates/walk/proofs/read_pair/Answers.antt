-- The digits that were read pick the case of `pair_of`, and with it how many bytes tell it.
use Rattle.std.proofs.Common.{◌≡◌, ◌+◌, get_or, sym, ◌∙◌, ap, arith}
use mathlib.Core.Option.{none, some}
use Rattle.model.specs.Bytes.{digit}
use Rattle.codec.proofs.Hex.{hex-digit}
use Rattle.walk.proofs.Pairs.{seen_end, seen_none, seen-short, seen-half, seen-byte}
use Rattle.walk.proofs.read_pair.Goals as goal
use Rattle.walk.proofs.read_pair.Goals.{In_default, In-Some, In-Some-read_digit}

no_digit : (c : In_default) → digit (get_or c.args.log.now c.args.i 0) ≡ none
no_digit c = ap digit (sym c.look-a.ensures.1) ∙ sym c.in_default.ensures

high : (c : In-Some) → digit (get_or c.args.log.now c.args.i 0) ≡ some c.in-Some.high
high c = ap digit (sym c.look-a.ensures.1) ∙ sym c.in-Some.ensures

low : (c : In-Some-read_digit) → digit (get_or c.args.log.now (c.args.i + 1) 0) ≡ some c.in-Some-read_digit.low
low c = ap digit (sym c.look-b.ensures.1) ∙ sym c.in-Some-read_digit.ensures

pub returns-then-a-eq10 : goal.returns-then-a-eq10
returns-then-a-eq10 c =
    let r = seen_end _ _ c.requires.0 _ _ (no_digit (goal.at.returns-then-a-eq10 c).In_default) (sym c.look-a.ensures.1 ∙ c.if-a-eq10.true) (omega arith) in
    record { looks_after = r.0; value = r.1 }

pub returns-else-a-eq10 : goal.returns-else-a-eq10
returns-else-a-eq10 c =
    let r = seen_none _ _ c.requires.0 _ _ (no_digit (goal.at.returns-else-a-eq10 c).In_default) (λ e. c.if-a-eq10.false (c.look-a.ensures.1 ∙ e)) (omega arith) in
    record { looks_after = r.0; value = r.1 }

pub returns-then-log-j : goal.returns-then-log-j
returns-then-log-j c = let r = seen-short _ _ (omega arith) _ _ _ (high (goal.at.returns-then-log-j c).In-Some) c.if-log-j.true (omega arith) in
    record { looks_after = r.0; value = r.1 }

pub overflow_mul-result : goal.overflow_mul-result
overflow_mul-result c = omega (arith, (hex-digit _ _ (high (goal.at.overflow_mul-result c).In-Some)).0)

pub overflow_add-result : goal.overflow_add-result
overflow_add-result c = omega (arith, (hex-digit _ _ (high (goal.at.overflow_add-result c).In-Some)).0, (hex-digit _ _ (low (goal.at.overflow_add-result c).In-Some-read_digit)).0)

pub returns-in-Some-read_digit : goal.returns-in-Some-read_digit
returns-in-Some-read_digit c = let r = seen-byte _ _ c.requires.0 _ _ _ _ (high (goal.at.returns-in-Some-read_digit c).In-Some) (omega arith) (low (goal.at.returns-in-Some-read_digit c).In-Some-read_digit) (omega arith) in
    record { looks_after = r.0; value = r.1 }

pub returns-in-None : goal.returns-in-None
returns-in-None c =
    let b = ap digit (sym c.look-b.ensures.1) ∙ sym c.in-None.ensures in
    let r = seen-half _ _ c.requires.0 _ _ _ (high (goal.at.returns-in-None c).In-Some) (omega arith) b (omega arith) in
    record { looks_after = r.0; value = r.1 }
