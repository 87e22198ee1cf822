use Prim.Native.Nat.{◌≤◌, ◌*◌}
use native.Mathlib.Omega.{arith}
use native.Mathlib.Nat.{mul-le-mul_right}
use Rattle.steps.proofs.Laws as laws
use Rattle.steps.proofs.atom_rows.Goals as goal

pub atom_row-requires : goal.atom_row-requires
atom_row-requires c =
    let a = c.args in
    let i = c.loop-i.i in
    let w = c.width-w in
    let m : i * a.n ≤ a.e * a.n = mul-le-mul_right a.n (omega arith) in
    (omega (arith, c.requires.tabled, c.requires.tabled.few_events), w.ensures.0, omega (arith, m, w.ensures.1, c.loop-i.auto), omega (arith, m, w.ensures.2), laws.event-room a.n a.e a.s a.off w.result a.table.now a.starts.now c.requires.tabled w.ensures.2 c.from.result (omega arith))

pub loop-i-preserved : goal.loop-i-preserved
loop-i-preserved c =
    let a = c.args in
    laws.atom-next a.n a.s a.off a.table.now a.starts.now c.loop-i.i c.loop-i.ws c.atom_row.new.ws c.atom_row.ensures.0 (rw (← c.from.ensures) c.atom_row.ensures.1) c.loop-i.invariant

pub returns-2 : goal.returns-2
returns-2 c =
    let a = c.args in
    let rows = laws.atom-next a.n a.s a.off a.table.now a.starts.now c.loop-i.i c.loop-i.ws c.atom_row.new.ws c.atom_row.ensures.0 (rw (← c.from.ensures) c.atom_row.ensures.1) c.loop-i.invariant in
    λ i h. rows i (omega arith)
