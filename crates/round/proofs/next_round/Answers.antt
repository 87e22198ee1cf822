-- `round::next_round` meets its contract.
use Rattle.std.proofs.Common.{rules}
use Rattle.std.proofs.Math.Option.{some}
use Rattle.model.specs.Structure.{raise}
use Rattle.model.specs.Basis.{then_right}
use Rattle.slots.specs.Slots.{Says}
use Rattle.lattice.proofs.Tests.{clash}
use Rattle.round.proofs.Reading as laws
use Rattle.round.proofs.Reading.{Tells}
use Rattle.round.proofs.next_round.Goals as goal

pub returns-in_err-middle : goal.returns-in_err-middle
unfolding then_right
returns-in_err-middle c K S T x b h v =
    let e = rw c.in_err-middle.was at (c.raise.ensures K S (some x) b.small b.slots_left h) in
    rw c.from_residual.ensures (laws.next_lost K S T x c.args.left.now c.args.right.now c.args.cut.now b h v e)

pub returns-then-same : goal.returns-then-same
unfolding then_right
returns-then-same c K S T x b h v =
    let m = rw c.in_ok-middle.was at (c.raise.ensures K S (some x) b.small b.slots_left h) in
    let t = c.same.ensures in
    laws.next_same K S T x c.args.left.now c.args.right.now c.args.cut.now b h v m.0 m.1 c.in_ok-middle.middle m.2 (t.0 c.if-same.true)

pub returns : goal.returns
unfolding then_right
returns c K S T x b h v =
    let a = c.args in
    let m = rw c.in_ok-middle.was at (c.raise.ensures K S (some x) b.small b.slots_left h) in
    let t = c.same.ensures in
    let w : Says K (raise S x) c.in_ok-middle.middle = rw m.1 m.2 in
    laws.answers_same K T _ _ c.right_half.result (laws.next_half K S T x a.left.now a.right.now a.cut.now b h v m.0 m.1 c.in_ok-middle.middle m.2 (λ e. clash (t.1 e) c.if-same.false) (search rules) (search rules))
    (c.right_half.ensures K T x (raise S x) b.small b.good_right b.slots_right h w (laws.left-above K S T x a.left.now a.right.now a.cut.now b h v))
