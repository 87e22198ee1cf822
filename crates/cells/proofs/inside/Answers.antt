use Rattle.std.proofs.Common.{◌<◌, ◌≤◌, rules, tests}
use Rattle.std.proofs.lemmas.Iterator.{IsFirst-from_position, YieldsList-from_slice, YieldsList-from_zip}
use Rattle.cells.proofs.Cuts.{inside_none}
use Rattle.cells.proofs.inside.Goals as goal

pub returns : goal.returns
returns c =
    let a = c.args in
    inside_none a.a.now a.b.now c.position.result c.is_none.result c.requires c.is_none.ensures
    (IsFirst-from_position c.position.new.self _ _ (λ p. p.1 < p.0) (λ p. p.0 ≤ p.1) c.position.ensures.ran (YieldsList-from_zip (YieldsList-from_slice a.a.now cc) (YieldsList-from_slice a.b.now cc)) (λ x q k. search (rules, tests)) (λ x q k. search (rules, tests)))
