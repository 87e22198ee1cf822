use Rattle.std.specs.Prelude.{None}
use mathlib.Core.Path.{◌≡◌}
use Prim.Native.Nat.{ℕ, ◌<◌, ◌+◌, ◌*◌}
use native.Mathlib.Omega.{arith}
use lib.ListN.{get_or}
use Rattle.pairs.specs.Post.{RowPair, AllPairs}
use Rattle.pairs.proofs.Putting.{all_none, all_more, all_knows}
use Rattle.pairs.proofs.Room.{row_ready, all_rounds, all_counts, rows-small, rounds-fit, pair_small}
use Rattle.pairs.proofs.pair_rows.Goals as goal

pub overflow_add-o : goal.overflow_add-o
overflow_add-o c = let p = c.requires in omega (arith, p.left, p.right)

pub loop-i-init : goal.loop-i-init
loop-i-init c =
    let a = c.args in
    record { few = omega arith; small = omega arith; put = all_none a.x.n a.x.e (AllPairs a.x a.l a.r a.first.now a.ws.now a.bs.now) (a.l.count + a.r.count) a.l.count a.r.count a.ws.now a.bs.now }

pub overflow_add-q : goal.overflow_add-q
overflow_add-q c =
    let a = c.args in
    let v = c.loop-i in
    let p = c.requires in
    omega (arith, rows-small v.i a.l.count a.r.count c.loop-i-test.true p.few, all_counts v.kept v.i a.r.count 0 v.invariant.few (omega arith), p.left, p.right)

pub bounds-lefts-i : goal.bounds-lefts-i
bounds-lefts-i c = omega (arith, c.requires.left)

pub pair_row-row-requires : goal.pair_row-row-requires
pair_row-row-requires c =
    let a = c.args in
    let v = c.loop-i in
    row_ready a.x a.l a.r v.i v.kept _ a.ws.now v.ws a.bs.now v.bs _ _ v.rounds c.args.x.some_station c.requires v.invariant.put v.auto.ws v.auto.bs c.loop-i-test.true v.invariant.few

pub overflow_add-kept : goal.overflow_add-kept
overflow_add-kept c =
    let a = c.args in
    let v = c.loop-i in
    let p = c.pair_row-row in
    omega (arith, rows-small v.i a.l.count a.r.count c.loop-i-test.true c.requires.few, all_counts v.kept v.i a.r.count p.result.count v.invariant.few p.ensures.few)

pub overflow_add-rounds : goal.overflow_add-rounds
overflow_add-rounds c =
    let a = c.args in
    let v = c.loop-i in
    let m : ℕ = (a.x.e + 1) * (a.x.e + 5) in
    let p = c.pair_row-row in
    omega (arith, rounds-fit m (v.rounds + p.result.rounds) ((v.i + 1) * a.r.count) (all_rounds m v.rounds v.i a.r.count p.result.rounds v.invariant.small p.ensures.rounds_few) (rows-small v.i a.l.count a.r.count c.loop-i-test.true c.requires.few), pair_small a.x.e (omega (arith, c.args.x.few_events)))

pub loop-i-preserved : goal.loop-i-preserved
loop-i-preserved c =
    let a = c.args in
    let z = c.args.x.some_station in
    let v = c.loop-i in
    let p = c.pair_row-row in
    let first = a.first.now in
    let k : ℕ = a.l.count in
    let m : ℕ = a.r.count in
    let h : v.i < k = c.loop-i-test.true in
    record {
      few = all_counts v.kept v.i m _ v.invariant.few p.ensures.few;
      small = all_rounds ((a.x.e + 1) * (a.x.e + 5)) v.rounds v.i m _ v.invariant.small p.ensures.rounds_few;
      put = all_more a.x.n a.x.e z (AllPairs a.x a.l a.r first a.ws.now a.bs.now)
          (RowPair a.x (record { left = v.i; right = k; many = m; to = k + m + v.kept; leftmark = get_or a.l.stations v.i None; marks = a.r.stations }) first v.ws v.bs) (λ K g. g.begun.counted)
          (all_knows a.x z first a.ws.now v.ws a.bs.now v.bs (k + m) v.invariant.put.cells_kept v.invariant.put.bars_kept a.l a.r v.i (k + m + v.kept) h (omega arith))
          (k + m) v.kept _ k m v.i a.ws.now v.ws p.new.ws a.bs.now v.bs p.new.bs v.rounds _ (omega arith) (omega arith) v.invariant.put p.ensures.put;
    }

pub returns : goal.returns
returns c =
    let v = c.loop-i in
    let q : v.i ≡ c.args.l.count = omega arith in
    record {
      few = rw (← q) v.invariant.few;
      rounds_few = rw (← q) v.invariant.small;
      put = rw q at v.invariant.put;
    }
