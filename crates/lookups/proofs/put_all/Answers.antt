use Rattle.std.proofs.Common.{ℕ, ◌+◌, ◌∙◌, arith}
use Rattle.slots.proofs.Turned as laws
use Rattle.picking.proofs.Forms.{before-is}
use Rattle.lookups.proofs.Starts.{one-start}
use Rattle.lookups.proofs.put_all.Goals as goal

pub loop-i-init : goal.loop-i-init
loop-i-init c =
    let x = c.args.q.x in
    laws.turned_none x.n x.e (x.e + 5) _ c.args.ws.now

pub overflow_add-rounds : goal.overflow_add-rounds
overflow_add-rounds c =
    let l = c.loop-i in
    let e : ℕ = c.args.q.x.e in
    omega (arith, laws.few-rounds l.i e (e + 5) l.rounds (omega arith) c.args.q.x.few_events (omega arith) l.invariant.few, c.look_up-step.ensures.few_rounds (e + 1) c.requires.few_rounds)

pub loop-i-preserved : goal.loop-i-preserved
loop-i-preserved c =
    let l = c.loop-i in
    let q = c.args.q in
    let r = c.look_up-step in
    let w = c.put_start in
    laws.turned_more q.x.n q.x.e (q.x.e + 5) _ (λ K S T k. (k.stationed, k.counted)) l.i l.ws w.new.ws l.rounds r.result.rounds l.invariant (omega arith) w.ensures.ws_unchanged
    (omega (arith, r.ensures.few_rounds (q.x.e + 1) c.requires.few_rounds))
    (λ K S T k j m h z. one-start q.x.n q.x.e q.s _ _ _ _ _ _ c.coding-code.result K S T k l.i j m (omega arith) h z r.result (r.ensures.looked K S T j m) w.new.ws (w.ensures.ws_after K))

pub returns-clause-intersected : goal.returns-clause-intersected
returns-clause-intersected c = λ K S T f k x y.
    let q = c.args.q in
    let l = c.loop-i in
    let d = c.coding-code in
    laws.turned_all q.x.n q.x.e (q.x.e + 5) _ (λ K S T k. (k.stationed, k.counted)) l.i l.ws l.rounds (omega (arith, l.invariant.in-range)) l.invariant K S T (record {
      stationed = f.stationed;
      counted = f.counted;
      offsets = λ j h. d.ensures.1 j (omega (arith, h, f.stationed)) ∙ before-is q.x j (omega (arith, h, f.stationed)) K f;
      found = k;
      reached = x;
      before = y;
    })
