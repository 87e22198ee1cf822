use Rattle.std.proofs.Common.{arith, refl, ap, ◌∙◌, ◌≡◌, ◌+◌, ◌*◌, ℕ}
use Rattle.structure.proofs.Places.{row_fits}
use Rattle.slots.proofs.Turned as laws
use Rattle.rounds.proofs.intersect.Goals as goal

pub loop-i-init : goal.loop-i-init
loop-i-init c = let a = c.args in record { room = refl; turned = laws.turned_none a.n a.e (a.e + 2) _ a.ws.now }

pub overflow_mul-i : goal.overflow_mul-i
overflow_mul-i c = omega (arith, row_fits c.loop-i.i c.args.e c.args.n (omega arith))

pub put_start-requires : goal.put_start-requires
put_start-requires c = (c.requires.0, c.requires.1, omega (arith, row_fits c.loop-i.i c.args.e c.args.n (omega arith)))

pub overflow_add-rounds : goal.overflow_add-rounds
overflow_add-rounds c =
    let l = c.loop-i in
    omega (arith, laws.few-rounds l.i c.args.e (c.args.e + 2) l.rounds (omega arith) c.requires.2 (omega arith) l.invariant.turned.few)

pub loop-i-preserved : goal.loop-i-preserved
loop-i-preserved c =
    let l = c.loop-i in
    let a = c.args in
    let r = c.one_start-start in
    let w = c.put_start in
    record {
      room = w.auto.ws ∙ l.invariant.room;
      turned = laws.turned_more a.n a.e (a.e + 2) _ (λ K S T k. (k.stationed, k.counted)) l.i l.ws w.new.ws l.rounds r.result.rounds l.invariant.turned (omega arith) w.ensures.ws_unchanged r.ensures.rounds_bound
          (λ K S T k j m h e. let o = r.ensures.ended K S T j m k.both k.clocks_are k.counted h e in (w.ensures.ws_after K _ k.both.small k.stationed k.offsets (rw c.as_ref.ensures.value o.reached), o.rounds));
    }

pub returns : goal.returns
returns c =
    let a = c.args in
    let l = c.loop-i in
    let q : l.i ≡ a.e + 1 = omega (arith, l.invariant.turned.in-range) in
    record { intersected = laws.turned_all a.n a.e (a.e + 2) _ (λ K S T k. (k.stationed, k.counted)) l.i l.ws l.rounds (omega arith) l.invariant.turned; upper_bound = omega (arith, l.invariant.turned.few, ap (λ (x : ℕ). x * (a.e + 2)) q) }
