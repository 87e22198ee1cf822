-- The two rules: each goal of their code, answered by a law over the sign. Every call is of a shorter question.
use native.Mathlib.Omega.{arith}
use mathlib.Core.Bool.{true, false, not}
use Prim.Native.Nat.{ℕ, ◌-◌, ◌+◌, ◌*◌}
use lib.ListN.{length, take, drop}
use borrow.Rule.Slice.PartMut.{put_mid}
use Rattle.cells.proofs.Parts.{drop-whole}
use Rattle.token.proofs.Tokens as tokens
use Rattle.token.proofs.Operands as laws
use Rattle.basis.proofs.Pairing as pairing
use Rattle.basis.proofs.Pairing.{Left, Second}
use Rattle.basis.proofs.+basis_false_basis_true.Goals as goal
use Rattle.basis.proofs.+basis_false_basis_true.Goals.{basis_false-After-basis_false-l, basis_false-After-basis_false-r, basis_true-After-basis_true-l, basis_true-After-basis_true-r}

-- A FORMULA AS FALSE

module _ {t : ℕ} (c : basis_false-After-basis_false-l t) where
  -- The numbers once the first operand stands.
  left-false : Left c.args.run.now.x.n c.args.run.now.x.e c.basis_false-l.result.sets.count c.basis_false-l.result.used c.basis_false-l.result.rounds (length (take (length c.args.q.now - 1) (drop 1 c.args.q.now))) (length c.basis_false-l.new.ws) (length c.basis_false-l.new.bs)
  left-false = let l = c.basis_false-l in pairing.left c.in-Two.and c.requires c.in-Two.ensures (drop-whole 1 c.args.q.now) l.auto.ws l.auto.bs l.ensures

module _ {t : ℕ} (c : basis_false-After-basis_false-r t) where
  abbrev cells-false : ℕ
  cells-false = c.basis_false-l.result.sets.count * ((c.args.run.now.x.e + 1) * c.args.run.now.x.n)

  abbrev slots-false : ℕ
  slots-false = c.basis_false-l.result.sets.count * (16 * c.args.run.now.x.n)

  -- Both operands, as the code left them.
  second-false : Second c.args.run.now.x c.basis_false-l.result.sets c.basis_false-r.result.sets c.basis_false-r.result.used c.basis_false-r.result.rounds
      (put_mid cells-false (length c.basis_false-l.new.ws - cells-false) c.basis_false-l.new.ws c.basis_false-r.new.ws) (put_mid slots-false (length c.basis_false-l.new.bs - slots-false) c.basis_false-l.new.bs c.basis_false-r.new.bs) (not c.in-Two.and)
  second-false =
      let l = c.basis_false-l in
      let m = c.basis_false-r in
      pairing.second c.in-Two.and c.requires c.in-Two.ensures (drop-whole 1 _) l.auto.ws l.auto.bs l.ensures (drop-whole l.result.used _) m.ensures m.auto.ws m.auto.bs (tokens.as-false c.in-Two.and)

pub basis_false-bounds-q-0 : goal.basis_false-bounds-q-0
basis_false-bounds-q-0 t c = laws.question-some c.requires

pub basis_false-slice_bounds-rest-count : goal.basis_false-slice_bounds-rest-count
basis_false-slice_bounds-rest-count t c = laws.question-some c.requires

pub basis_false-slice_bounds-rest-start : goal.basis_false-slice_bounds-rest-start
basis_false-slice_bounds-rest-start t c = laws.question-some c.requires

-- 02

pub basis_false-basis_true-requires : goal.basis_false-basis_true-requires
basis_false-basis_true-requires t c = (omega (arith, laws.shorter c.requires (drop-whole 1 c.args.q.now), c.decreases), laws.ready_not c.requires (drop-whole 1 _) c.in-Not.ensures)

pub basis_false-passed-requires : goal.basis_false-passed-requires
basis_false-passed-requires t c = (laws.done c.basis_true.ensures (laws.ready_not c.requires (drop-whole 1 _) c.in-Not.ensures)).short

pub basis_false-returns-in-Not : goal.basis_false-returns-in-Not
basis_false-returns-in-Not t c =
    let p = c.passed.ensures in
    laws.made_not (drop-whole 1 _) c.in-Not.ensures p.0 p.1 p.2 c.basis_true.ensures

-- 05 AND 06

pub basis_false-basis_true-p-requires : goal.basis_false-basis_true-p-requires
basis_false-basis_true-p-requires t c = (omega (arith, laws.shorter c.requires (drop-whole 1 c.args.q.now), c.decreases), laws.ready_modal c.requires (drop-whole 1 _) true c.in-Possibly.ensures)

pub basis_false-lift-requires-clause-few : goal.basis_false-lift-requires-clause-few
basis_false-lift-requires-clause-few t c = let z = laws.lift_room c.requires (drop-whole 1 _) c.in-Possibly.ensures c.basis_true-p.auto.ws c.basis_true-p.auto.bs c.basis_true-p.ensures in (z.few, z.short)

pub basis_false-lift-requires-clause-fits : goal.basis_false-lift-requires-clause-fits
basis_false-lift-requires-clause-fits t c = let z = laws.lift_room c.requires (drop-whole 1 _) c.in-Possibly.ensures c.basis_true-p.auto.ws c.basis_true-p.auto.bs c.basis_true-p.ensures in (z.cells_fit, z.bars_fit, z.one-cells, z.one-bars)

pub basis_false-lift-requires-clause-starts_there : goal.basis_false-lift-requires-clause-starts_there
basis_false-lift-requires-clause-starts_there t c = let r = c.requires in (laws.starts-room r, laws.first-start r, laws.first_cell r)

pub basis_false-returns-in-Possibly : goal.basis_false-returns-in-Possibly
basis_false-returns-in-Possibly t c =
    let e = c.lift.ensures in
    laws.made_modal (drop-whole 1 _) true c.in-Possibly.ensures e.0 e.1 c.basis_true-p.ensures e.2

pub basis_false-basis_false-p-requires : goal.basis_false-basis_false-p-requires
basis_false-basis_false-p-requires t c = (omega (arith, laws.shorter c.requires (drop-whole 1 c.args.q.now), c.decreases), laws.ready_modal c.requires (drop-whole 1 _) false c.in-Always.ensures)

pub basis_false-lift-requires-in-Always-clause-few : goal.basis_false-lift-requires-in-Always-clause-few
basis_false-lift-requires-in-Always-clause-few t c = let z = laws.lift_room c.requires (drop-whole 1 _) c.in-Always.ensures c.basis_false-p.auto.ws c.basis_false-p.auto.bs c.basis_false-p.ensures in (z.few, z.short)

pub basis_false-lift-requires-in-Always-clause-fits : goal.basis_false-lift-requires-in-Always-clause-fits
basis_false-lift-requires-in-Always-clause-fits t c = let z = laws.lift_room c.requires (drop-whole 1 _) c.in-Always.ensures c.basis_false-p.auto.ws c.basis_false-p.auto.bs c.basis_false-p.ensures in (z.cells_fit, z.bars_fit, z.one-cells, z.one-bars)

pub basis_false-lift-requires-in-Always-clause-starts_there : goal.basis_false-lift-requires-in-Always-clause-starts_there
basis_false-lift-requires-in-Always-clause-starts_there t c = let r = c.requires in (laws.starts-room r, laws.first-start r, laws.first_cell r)

pub basis_false-returns-in-Always : goal.basis_false-returns-in-Always
basis_false-returns-in-Always t c =
    let e = c.lift-in-Always.ensures in
    laws.made_modal (drop-whole 1 _) false c.in-Always.ensures e.0 e.1 c.basis_false-p.ensures e.2

-- 03 AND 04

pub basis_false-basis_false-l-requires : goal.basis_false-basis_false-l-requires
basis_false-basis_false-l-requires t c = (omega (arith, laws.shorter c.requires (drop-whole 1 c.args.q.now), c.decreases), laws.ready_left c.requires (drop-whole 1 _) _ c.in-Two.ensures)

pub basis_false-overflow_mul-k-in-Two : goal.basis_false-overflow_mul-k-in-Two
basis_false-overflow_mul-k-in-Two t c = omega (arith, left-false (goal.at.basis_false-overflow_mul-k-in-Two t c).After-basis_false-l)

pub basis_false-overflow_mul-b-in-Two : goal.basis_false-overflow_mul-b-in-Two
basis_false-overflow_mul-b-in-Two t c = omega (arith, left-false (goal.at.basis_false-overflow_mul-b-in-Two t c).After-basis_false-l)

pub basis_false-slice_bounds-basis_false-count : goal.basis_false-slice_bounds-basis_false-count
basis_false-slice_bounds-basis_false-count t c = (left-false (goal.at.basis_false-slice_bounds-basis_false-count t c).After-basis_false-l).within

pub basis_false-slice_bounds-basis_false-start : goal.basis_false-slice_bounds-basis_false-start
basis_false-slice_bounds-basis_false-start t c = (left-false (goal.at.basis_false-slice_bounds-basis_false-start t c).After-basis_false-l).within

pub basis_false-slice_bounds-basis_false-count-in-Two : goal.basis_false-slice_bounds-basis_false-count-in-Two
basis_false-slice_bounds-basis_false-count-in-Two t c = (left-false (goal.at.basis_false-slice_bounds-basis_false-count-in-Two t c).After-basis_false-l).cells_fit

pub basis_false-slice_bounds-basis_false-start-in-Two : goal.basis_false-slice_bounds-basis_false-start-in-Two
basis_false-slice_bounds-basis_false-start-in-Two t c = (left-false (goal.at.basis_false-slice_bounds-basis_false-start-in-Two t c).After-basis_false-l).cells_fit

pub basis_false-slice_bounds-basis_false-count-in-Two-2 : goal.basis_false-slice_bounds-basis_false-count-in-Two-2
basis_false-slice_bounds-basis_false-count-in-Two-2 t c = (left-false (goal.at.basis_false-slice_bounds-basis_false-count-in-Two-2 t c).After-basis_false-l).bars_fit

pub basis_false-slice_bounds-basis_false-start-in-Two-2 : goal.basis_false-slice_bounds-basis_false-start-in-Two-2
basis_false-slice_bounds-basis_false-start-in-Two-2 t c = (left-false (goal.at.basis_false-slice_bounds-basis_false-start-in-Two-2 t c).After-basis_false-l).bars_fit

pub basis_false-basis_false-r-requires : goal.basis_false-basis_false-r-requires
basis_false-basis_false-r-requires t c =
    let l = c.basis_false-l in
    let b = c.in-Two.and in
    let h = c.in-Two.ensures in
    let d = drop-whole 1 c.args.q.now in
    let d₂ = drop-whole l.result.used (take (length c.args.q.now - 1) (drop 1 c.args.q.now)) in
    (omega (arith, pairing.right_shorter b c.requires h d l.auto.ws l.auto.bs l.ensures d₂, c.decreases), pairing.right_ready b c.requires h d l.auto.ws l.auto.bs l.ensures d₂)

pub basis_false-combine-requires-clause-starts_there : goal.basis_false-combine-requires-clause-starts_there
basis_false-combine-requires-clause-starts_there t c = laws.starts-room c.requires

pub basis_false-combine-requires-clause-short : goal.basis_false-combine-requires-clause-short
basis_false-combine-requires-clause-short t c =
    let o = goal.at.basis_false-combine-requires-clause-short t c in
    ((left-false o.After-basis_false-l).short, (second-false o.After-basis_false-r).short)

pub basis_false-combine-requires-clause-small : goal.basis_false-combine-requires-clause-small
basis_false-combine-requires-clause-small t c =
    let o = goal.at.basis_false-combine-requires-clause-small t c in
    ((left-false o.After-basis_false-l).small, (second-false o.After-basis_false-r).small)

pub basis_false-combine-requires-clause-few : goal.basis_false-combine-requires-clause-few
basis_false-combine-requires-clause-few t c =
    let o = goal.at.basis_false-combine-requires-clause-few t c in
    ((left-false o.After-basis_false-l).few, (second-false o.After-basis_false-r).few)

pub basis_false-combine-requires-clause-present : goal.basis_false-combine-requires-clause-present
basis_false-combine-requires-clause-present t c = (second-false (goal.at.basis_false-combine-requires-clause-present t c).After-basis_false-r).present

pub basis_false-combine-requires-clause-within : goal.basis_false-combine-requires-clause-within
basis_false-combine-requires-clause-within t c = let h = second-false (goal.at.basis_false-combine-requires-clause-within t c).After-basis_false-r in (h.within_left, h.within_right)

pub basis_false-combine-requires-clause-pairs_ready : goal.basis_false-combine-requires-clause-pairs_ready
basis_false-combine-requires-clause-pairs_ready t c = (second-false (goal.at.basis_false-combine-requires-clause-pairs_ready t c).After-basis_false-r).ready

pub basis_false-returns-in-Two : goal.basis_false-returns-in-Two
basis_false-returns-in-Two t c =
    let l = c.basis_false-l in
    let m = c.basis_false-r in
    let e = c.combine.ensures in
    pairing.made_two c.in-Two.and c.requires c.in-Two.ensures (drop-whole 1 _) l.auto.ws l.auto.bs l.ensures (drop-whole l.result.used _) m.ensures m.auto.ws m.auto.bs (tokens.as-false c.in-Two.and) e.0 e.1

-- A FORMULA AS TRUE

module _ {t : ℕ} (c : basis_true-After-basis_true-l t) where
  -- The numbers once the first operand stands.
  left-true : Left c.args.run.now.x.n c.args.run.now.x.e c.basis_true-l.result.sets.count c.basis_true-l.result.used c.basis_true-l.result.rounds (length (take (length c.args.q.now - 1) (drop 1 c.args.q.now))) (length c.basis_true-l.new.ws) (length c.basis_true-l.new.bs)
  left-true = let l = c.basis_true-l in pairing.left c.in-Two.and c.requires c.in-Two.ensures (drop-whole 1 c.args.q.now) l.auto.ws l.auto.bs l.ensures

module _ {t : ℕ} (c : basis_true-After-basis_true-r t) where
  abbrev cells-true : ℕ
  cells-true = c.basis_true-l.result.sets.count * ((c.args.run.now.x.e + 1) * c.args.run.now.x.n)

  abbrev slots-true : ℕ
  slots-true = c.basis_true-l.result.sets.count * (16 * c.args.run.now.x.n)

  -- Both operands, as the code left them.
  second-true : Second c.args.run.now.x c.basis_true-l.result.sets c.basis_true-r.result.sets c.basis_true-r.result.used c.basis_true-r.result.rounds
      (put_mid cells-true (length c.basis_true-l.new.ws - cells-true) c.basis_true-l.new.ws c.basis_true-r.new.ws) (put_mid slots-true (length c.basis_true-l.new.bs - slots-true) c.basis_true-l.new.bs c.basis_true-r.new.bs) c.in-Two.and
  second-true =
      let l = c.basis_true-l in
      let m = c.basis_true-r in
      pairing.second c.in-Two.and c.requires c.in-Two.ensures (drop-whole 1 _) l.auto.ws l.auto.bs l.ensures (drop-whole l.result.used _) m.ensures m.auto.ws m.auto.bs (tokens.as-true c.in-Two.and)

pub basis_true-bounds-q-0 : goal.basis_true-bounds-q-0
basis_true-bounds-q-0 t c = laws.question-some c.requires

pub basis_true-slice_bounds-rest-count : goal.basis_true-slice_bounds-rest-count
basis_true-slice_bounds-rest-count t c = laws.question-some c.requires

pub basis_true-slice_bounds-rest-start : goal.basis_true-slice_bounds-rest-start
basis_true-slice_bounds-rest-start t c = laws.question-some c.requires

-- 02

pub basis_true-basis_false-requires : goal.basis_true-basis_false-requires
basis_true-basis_false-requires t c = (omega (arith, laws.shorter c.requires (drop-whole 1 c.args.q.now), c.decreases), laws.ready_not c.requires (drop-whole 1 _) c.in-Not.ensures)

pub basis_true-passed-requires : goal.basis_true-passed-requires
basis_true-passed-requires t c = (laws.done c.basis_false.ensures (laws.ready_not c.requires (drop-whole 1 _) c.in-Not.ensures)).short

pub basis_true-returns-in-Not : goal.basis_true-returns-in-Not
basis_true-returns-in-Not t c =
    let p = c.passed.ensures in
    laws.made_not (drop-whole 1 _) c.in-Not.ensures p.0 p.1 p.2 c.basis_false.ensures

-- 05 AND 06

pub basis_true-basis_true-p-requires : goal.basis_true-basis_true-p-requires
basis_true-basis_true-p-requires t c = (omega (arith, laws.shorter c.requires (drop-whole 1 c.args.q.now), c.decreases), laws.ready_modal c.requires (drop-whole 1 _) true c.in-Possibly.ensures)

pub basis_true-lift-requires-clause-few : goal.basis_true-lift-requires-clause-few
basis_true-lift-requires-clause-few t c = let z = laws.lift_room c.requires (drop-whole 1 _) c.in-Possibly.ensures c.basis_true-p.auto.ws c.basis_true-p.auto.bs c.basis_true-p.ensures in (z.few, z.short)

pub basis_true-lift-requires-clause-fits : goal.basis_true-lift-requires-clause-fits
basis_true-lift-requires-clause-fits t c = let z = laws.lift_room c.requires (drop-whole 1 _) c.in-Possibly.ensures c.basis_true-p.auto.ws c.basis_true-p.auto.bs c.basis_true-p.ensures in (z.cells_fit, z.bars_fit, z.one-cells, z.one-bars)

pub basis_true-lift-requires-clause-starts_there : goal.basis_true-lift-requires-clause-starts_there
basis_true-lift-requires-clause-starts_there t c = let r = c.requires in (laws.starts-room r, laws.first-start r, laws.first_cell r)

pub basis_true-returns-in-Possibly : goal.basis_true-returns-in-Possibly
basis_true-returns-in-Possibly t c =
    let e = c.lift.ensures in
    laws.made_modal (drop-whole 1 _) true c.in-Possibly.ensures e.0 e.1 c.basis_true-p.ensures e.2

pub basis_true-basis_false-p-requires : goal.basis_true-basis_false-p-requires
basis_true-basis_false-p-requires t c = (omega (arith, laws.shorter c.requires (drop-whole 1 c.args.q.now), c.decreases), laws.ready_modal c.requires (drop-whole 1 _) false c.in-Always.ensures)

pub basis_true-lift-requires-in-Always-clause-few : goal.basis_true-lift-requires-in-Always-clause-few
basis_true-lift-requires-in-Always-clause-few t c = let z = laws.lift_room c.requires (drop-whole 1 _) c.in-Always.ensures c.basis_false-p.auto.ws c.basis_false-p.auto.bs c.basis_false-p.ensures in (z.few, z.short)

pub basis_true-lift-requires-in-Always-clause-fits : goal.basis_true-lift-requires-in-Always-clause-fits
basis_true-lift-requires-in-Always-clause-fits t c = let z = laws.lift_room c.requires (drop-whole 1 _) c.in-Always.ensures c.basis_false-p.auto.ws c.basis_false-p.auto.bs c.basis_false-p.ensures in (z.cells_fit, z.bars_fit, z.one-cells, z.one-bars)

pub basis_true-lift-requires-in-Always-clause-starts_there : goal.basis_true-lift-requires-in-Always-clause-starts_there
basis_true-lift-requires-in-Always-clause-starts_there t c = let r = c.requires in (laws.starts-room r, laws.first-start r, laws.first_cell r)

pub basis_true-returns-in-Always : goal.basis_true-returns-in-Always
basis_true-returns-in-Always t c =
    let e = c.lift-in-Always.ensures in
    laws.made_modal (drop-whole 1 _) false c.in-Always.ensures e.0 e.1 c.basis_false-p.ensures e.2

-- 03 AND 04

pub basis_true-basis_true-l-requires : goal.basis_true-basis_true-l-requires
basis_true-basis_true-l-requires t c = (omega (arith, laws.shorter c.requires (drop-whole 1 c.args.q.now), c.decreases), laws.ready_left c.requires (drop-whole 1 _) _ c.in-Two.ensures)

pub basis_true-overflow_mul-k-in-Two : goal.basis_true-overflow_mul-k-in-Two
basis_true-overflow_mul-k-in-Two t c = omega (arith, left-true (goal.at.basis_true-overflow_mul-k-in-Two t c).After-basis_true-l)

pub basis_true-overflow_mul-b-in-Two : goal.basis_true-overflow_mul-b-in-Two
basis_true-overflow_mul-b-in-Two t c = omega (arith, left-true (goal.at.basis_true-overflow_mul-b-in-Two t c).After-basis_true-l)

pub basis_true-slice_bounds-basis_true-count : goal.basis_true-slice_bounds-basis_true-count
basis_true-slice_bounds-basis_true-count t c = (left-true (goal.at.basis_true-slice_bounds-basis_true-count t c).After-basis_true-l).within

pub basis_true-slice_bounds-basis_true-start : goal.basis_true-slice_bounds-basis_true-start
basis_true-slice_bounds-basis_true-start t c = (left-true (goal.at.basis_true-slice_bounds-basis_true-start t c).After-basis_true-l).within

pub basis_true-slice_bounds-basis_true-count-in-Two : goal.basis_true-slice_bounds-basis_true-count-in-Two
basis_true-slice_bounds-basis_true-count-in-Two t c = (left-true (goal.at.basis_true-slice_bounds-basis_true-count-in-Two t c).After-basis_true-l).cells_fit

pub basis_true-slice_bounds-basis_true-start-in-Two : goal.basis_true-slice_bounds-basis_true-start-in-Two
basis_true-slice_bounds-basis_true-start-in-Two t c = (left-true (goal.at.basis_true-slice_bounds-basis_true-start-in-Two t c).After-basis_true-l).cells_fit

pub basis_true-slice_bounds-basis_true-count-in-Two-2 : goal.basis_true-slice_bounds-basis_true-count-in-Two-2
basis_true-slice_bounds-basis_true-count-in-Two-2 t c = (left-true (goal.at.basis_true-slice_bounds-basis_true-count-in-Two-2 t c).After-basis_true-l).bars_fit

pub basis_true-slice_bounds-basis_true-start-in-Two-2 : goal.basis_true-slice_bounds-basis_true-start-in-Two-2
basis_true-slice_bounds-basis_true-start-in-Two-2 t c = (left-true (goal.at.basis_true-slice_bounds-basis_true-start-in-Two-2 t c).After-basis_true-l).bars_fit

pub basis_true-basis_true-r-requires : goal.basis_true-basis_true-r-requires
basis_true-basis_true-r-requires t c =
    let l = c.basis_true-l in
    let b = c.in-Two.and in
    let h = c.in-Two.ensures in
    let d = drop-whole 1 c.args.q.now in
    let d₂ = drop-whole l.result.used (take (length c.args.q.now - 1) (drop 1 c.args.q.now)) in
    (omega (arith, pairing.right_shorter b c.requires h d l.auto.ws l.auto.bs l.ensures d₂, c.decreases), pairing.right_ready b c.requires h d l.auto.ws l.auto.bs l.ensures d₂)

pub basis_true-combine-requires-clause-starts_there : goal.basis_true-combine-requires-clause-starts_there
basis_true-combine-requires-clause-starts_there t c = laws.starts-room c.requires

pub basis_true-combine-requires-clause-short : goal.basis_true-combine-requires-clause-short
basis_true-combine-requires-clause-short t c =
    let o = goal.at.basis_true-combine-requires-clause-short t c in
    ((left-true o.After-basis_true-l).short, (second-true o.After-basis_true-r).short)

pub basis_true-combine-requires-clause-small : goal.basis_true-combine-requires-clause-small
basis_true-combine-requires-clause-small t c =
    let o = goal.at.basis_true-combine-requires-clause-small t c in
    ((left-true o.After-basis_true-l).small, (second-true o.After-basis_true-r).small)

pub basis_true-combine-requires-clause-few : goal.basis_true-combine-requires-clause-few
basis_true-combine-requires-clause-few t c =
    let o = goal.at.basis_true-combine-requires-clause-few t c in
    ((left-true o.After-basis_true-l).few, (second-true o.After-basis_true-r).few)

pub basis_true-combine-requires-clause-present : goal.basis_true-combine-requires-clause-present
basis_true-combine-requires-clause-present t c = (second-true (goal.at.basis_true-combine-requires-clause-present t c).After-basis_true-r).present

pub basis_true-combine-requires-clause-within : goal.basis_true-combine-requires-clause-within
basis_true-combine-requires-clause-within t c = let h = second-true (goal.at.basis_true-combine-requires-clause-within t c).After-basis_true-r in (h.within_left, h.within_right)

pub basis_true-combine-requires-clause-pairs_ready : goal.basis_true-combine-requires-clause-pairs_ready
basis_true-combine-requires-clause-pairs_ready t c = (second-true (goal.at.basis_true-combine-requires-clause-pairs_ready t c).After-basis_true-r).ready

pub basis_true-returns-in-Two : goal.basis_true-returns-in-Two
basis_true-returns-in-Two t c =
    let l = c.basis_true-l in
    let m = c.basis_true-r in
    let e = c.combine.ensures in
    pairing.made_two c.in-Two.and c.requires c.in-Two.ensures (drop-whole 1 _) l.auto.ws l.auto.bs l.ensures (drop-whole l.result.used _) m.ensures m.auto.ws m.auto.bs (tokens.as-true c.in-Two.and) e.0 e.1
