use Rattle.std.specs.Prelude.{None}
use mathlib.Core.Path.{◌≡◌}
use Prim.Native.Nat.{ℕ, ◌<◌, ◌+◌, ◌*◌}
use native.Mathlib.Omega.{arith}
use lib.ListN.{get_or}
use Rattle.model.specs.Structure.{row}
use Rattle.pair.specs.Post.{structure_of, OnePair}
use Rattle.pairs.specs.Post.{RowPair}
use Rattle.pairs.proofs.Putting.{row-none, row_more, row_knows}
use Rattle.pairs.proofs.Room.{one_ready, row_room, row-rounds, rows_fit, pair_small}
use Rattle.pair.proofs.Tables as laws
use Rattle.pairs.proofs.pair_row.Goals as goal

pub overflow_mul-i : goal.overflow_mul-i
overflow_mul-i c =
    let a = c.args in
    omega (arith, row_room a.x a.q a.ws.now a.bs.now c.requires)

pub put_rows-requires : goal.put_rows-requires
put_rows-requires c =
    let a = c.args in
    (c.args.x.few_stations, c.args.x.few_events, row_room a.x a.q a.ws.now a.bs.now c.requires, c.coding-code.ensures.0)

pub loop-j-init : goal.loop-j-init
loop-j-init c =
    let a = c.args in
    record { few = omega arith; small = omega arith; put = row-none a.x.n a.x.e (RowPair a.x a.q a.first.now a.ws.now a.bs.now) a.q.to a.q.left a.q.right a.ws.now a.bs.now }

pub bounds-marks-j : goal.bounds-marks-j
bounds-marks-j c = omega (arith, c.requires.few)

pub pair_one-one-requires : goal.pair_one-one-requires
pair_one-one-requires c =
    let a = c.args in
    let v = c.loop-j in
    one_ready a.x a.q v.kept v.j _ a.ws.now v.ws a.bs.now v.bs _ _ v.rounds c.args.x.some_station c.requires v.invariant.put v.auto.ws v.auto.bs c.loop-j-test.true v.invariant.few

pub overflow_add-rounds : goal.overflow_add-rounds
overflow_add-rounds c =
    let v = c.loop-j in
    let m : ℕ = (c.args.x.e + 1) * (c.args.x.e + 5) in
    omega (arith, row-rounds m v.rounds v.j _ v.invariant.small c.pair_one-one.ensures.rounds_few, rows_fit v.j c.args.q.many m c.loop-j-test.true c.requires.few (pair_small c.args.x.e (omega (arith, c.args.x.few_events))))

pub loop-j-preserved : goal.loop-j-preserved
loop-j-preserved c =
    let a = c.args in
    let n : ℕ = a.x.n in
    let e : ℕ = a.x.e in
    let r = c.requires in
    let v = c.loop-j in
    let x = c.pair_one-one in
    let t = c.put_rows in
    let k = c.coding-code in
    let h : v.j < a.q.many = c.loop-j-test.true in
    record {
      few = omega (arith, x.ensures.one, v.invariant.few);
      small = row-rounds ((e + 1) * (e + 5)) v.rounds v.j _ v.invariant.small x.ensures.rounds_few;
      put = row_more n e c.args.x.some_station (RowPair a.x a.q a.first.now a.ws.now a.bs.now)
          (OnePair a.x (record { left = a.q.left; right = a.q.right + v.j; to = a.q.to + v.kept; leftmark = a.q.leftmark; rightmark = get_or a.q.marks v.j None }) t.new.table a.first.now v.ws v.bs) (λ K g. g.begun.counted)
          (row_knows a.x c.args.x.some_station a.first.now a.ws.now v.ws a.bs.now v.bs a.q.to v.invariant.put.cells_kept v.invariant.put.bars_kept a.q t.new.table v.j (a.q.to + v.kept) h r.left r.right
          (λ K g.
          t.ensures K (row (structure_of n e K a.ws.now a.bs.now a.q.left)) g.begun.small g.begun.stationed g.begun.counted
          (laws.offsets_are a.x K k.result g.begun.stationed g.begun.offs_are k.ensures.1)
          (laws.structure_rows K g.begun.small n e g.begun.stationed a.ws.now a.bs.now a.q.left g.good_left)))
          a.q.to v.kept _ a.q.left a.q.right v.j a.ws.now v.ws x.new.ws a.bs.now v.bs x.new.bs v.rounds _ r.left (omega (arith, r.right, h)) v.invariant.put x.ensures.put;
    }

pub returns : goal.returns
returns c =
    let a = c.args in
    let v = c.loop-j in
    let q : v.j ≡ a.q.many = omega arith in
    record {
      few = omega (arith, v.invariant.few);
      rounds_few = rw (← q) v.invariant.small;
      put = rw q at v.invariant.put;
    }
