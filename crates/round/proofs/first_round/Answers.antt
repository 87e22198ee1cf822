-- `round::first_round` meets its contract: the row that is read is what the clock is raised to.
use Rattle.std.proofs.Common.{arith, ◌≡◌, ◌*◌, sym, ◌∙◌, take, drop}
use Rattle.std.proofs.Math.Seq.{take_all}
use Rattle.model.specs.Computation.{clock}
use Rattle.model.specs.Structure.{row, raise}
use Rattle.slots.specs.Slots.{number, Says}
use Rattle.lattice.proofs.Shortcuts.{raised}
use Rattle.round.proofs.Reading as laws
use Rattle.round.proofs.first_round.Goals as goal

pub returns : goal.returns
returns c K S T j k b l e h =
    let a = c.args in
    let x = c.cut_at-middle.result in
    let w : x ≡ take 8 (drop (a.i * 8) a.left.now) = sym (take_all 8 x (omega arith)) ∙ c.cut_at-middle.ensures.0 in
    let p : a.i * 8 ≡ 8 * number K j k = omega arith in
    let u : Says K (row S j k) x = rw (w, p) (b.slots_left j k l) in
    c.right_half.ensures K T (clock K j k) (raise S (clock K j k)) b.small b.good_right b.slots_right h (laws.row-says K S T a.left.now a.right.now b j k l x u)
    (λ m g. (raised K S b.good_left (clock K j k) m h.consistent g).1)
