-- `joining::pair_all` meets its contract: the starts stand in a table, and the pairs kept are moved to the front.
use mathlib.Core.Path.{◌∙◌}
use Prim.Native.Nat.{ℕ, ◌+◌, ◌*◌}
use native.Mathlib.Omega.{arith}
use lib.ListN.{length}
use Rattle.model.specs.Basis.{pairs}
use Rattle.model.specs.Rounds.{rounds_of_pairs}
use Rattle.pair.proofs.Tables as tables
use Rattle.pairs.specs.Post.{AllPairs}
use Rattle.pairs.proofs.Putting.{all_x, all_y, moved-stands, moved-least}
use Rattle.pairs.proofs.Room.{rounds-fit, end_room}
use Rattle.joining.proofs.pair_all.Goals as goal

pub put_rows-requires : goal.put_rows-requires
put_rows-requires c =
    (c.args.x.few_stations, c.args.x.few_events, omega (arith, c.requires.starts_there), c.coding-code.ensures.0)

pub pair_rows-p-requires : goal.pair_rows-p-requires
pair_rows-p-requires c = c.requires.pairs_ready

pub overflow_add-l : goal.overflow_add-l
overflow_add-l c = let p = c.requires.pairs_ready in omega (arith, p.left, p.right)

pub to_front-requires : goal.to_front-requires
to_front-requires c =
    let a = c.args in
    let p = c.pair_rows-p in (
      omega (arith, end_room a.l.count a.r.count p.result.count ((a.x.e + 1) * a.x.n) (length a.ws.now) p.ensures.few c.requires.pairs_ready.cells_fit, p.auto.ws),
      omega (arith, end_room a.l.count a.r.count p.result.count (16 * a.x.n) (length a.bs.now) p.ensures.few c.requires.pairs_ready.bars_fit, p.auto.bs),
    )

pub shape_of-ws : goal.shape_of-ws
shape_of-ws c = c.to_front.auto.ws ∙ c.pair_rows-p.auto.ws

pub shape_of-bs : goal.shape_of-bs
shape_of-bs c = c.to_front.auto.bs ∙ c.pair_rows-p.auto.bs

pub returns : goal.returns
unfolding pairs rounds_of_pairs
returns c =
    let a = c.args in
    let n : ℕ = a.x.n in
    let e : ℕ = a.x.e in
    let z = c.args.x.some_station in
    let p = c.pair_rows-p in
    let t = c.put_rows in
    let k = c.coding-code in
    let first = t.new.table in
    let m = c.to_front in
    let fw = end_room a.l.count a.r.count p.result.count ((e + 1) * n) (length a.ws.now) p.ensures.few c.requires.pairs_ready.cells_fit in
    let fb = end_room a.l.count a.r.count p.result.count (16 * n) (length a.bs.now) p.ensures.few c.requires.pairs_ready.bars_fit in
    let P = AllPairs a.x a.l a.r first a.ws.now a.bs.now in
    let X = all_x n e a.ws.now a.bs.now a.l.count a.r.count a.l.count in
    let Y = all_y n e a.ws.now a.bs.now a.l.count a.r.count a.l.count in
    let put = p.ensures.put in
    let stands = moved-stands n e z P (λ K g. g.begun.counted) (a.l.count + a.r.count) p.result.count a.ws.now p.new.ws m.new.ws a.bs.now p.new.bs m.new.bs X Y p.result.rounds (omega (arith, fw, p.auto.ws)) (omega (arith, fb, p.auto.bs)) put m.ensures.0 m.ensures.1 in
    record {
      stands = λ K l g. stands K (record { begun = tables.laid_table K a.x a.starts.now l k.result first k.ensures.1 (t.ensures K); bases = g });
      summed = λ K l g. put.summed K (record { begun = tables.laid_table K a.x a.starts.now l k.result first k.ensures.1 (t.ensures K); bases = g });
      least = moved-least n e z P (λ K g. g.begun.counted) (a.l.count + a.r.count) p.result.count a.ws.now p.new.ws m.new.ws a.bs.now p.new.bs m.new.bs X Y p.result.rounds (omega (arith, fw, p.auto.ws)) (omega (arith, fb, p.auto.bs)) put m.ensures.0 m.ensures.1;
      small = rounds-fit ((e + 1) * (e + 5)) p.result.rounds (a.l.count * a.r.count) p.ensures.rounds_few c.requires.pairs_ready.few;
    }
