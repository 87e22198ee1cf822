-- The pairs, or one basis after the other as they stand.
use mathlib.Core.Path.{◌≡◌, refl, ap, ◌∙◌}
use Prim.Native.Nat.{ℕ, ◌+◌}
use lib.ListN.{length}
use native.Mathlib.Omega.{arith}
use borrow.Author.Rules.{rules}
use Rattle.pairs.proofs.Room.{pair_small}
use Rattle.joining.proofs.Combining as laws
use Rattle.joining.proofs.combine.Goals as goal

pub overflow_add-rounds : goal.overflow_add-rounds
overflow_add-rounds c =
    let m = pair_small c.args.x.e (omega (arith, c.args.x.few_events)) in
    omega (arith, c.pair_all-p.ensures.small, c.rounds_of-rounds.ensures, c.requires.small)

pub returns-then-pair : goal.returns-then-pair
returns-then-pair c =
    let a = c.args in
    let u = c.unmarked.ensures in
    let p = c.pair_all-p in
    (u.2, laws.combined_pairs a.x a.l.sets a.r.sets a.l.rounds a.r.rounds a.starts.now a.ws.now _ a.bs.now _ _ _ a.pair p.result.count p.result.rounds c.if-pair.true u.0 u.1 (u.3 ∙ ap (λ (x : ℕ). x + p.result.rounds) c.rounds_of-rounds.ensures) p.ensures)

pub returns : goal.returns
returns c =
    let a = c.args in
    let b = c.both.ensures in
    let p = c.requires in
    let l : length a.l.sets.stations ≡ 16 = search rules in
    let r : length a.r.sets.stations ≡ 16 = search rules in
    (refl, laws.combined_all a.x a.l.sets a.r.sets a.l.rounds a.r.rounds a.starts.now a.ws.now a.bs.now _ _ a.pair c.if-pair.false b.0 c.rounds_of-rounds.ensures p.present l r p.few.0 p.within b.1)
