-- `lookups::look_up` meets its contract: the first cell of the row tells the outcome.
use Rattle.std.proofs.Common.{◌≡◌, ◌<◌, ◌*◌, rules, ap, sym, subst, ◌∙◌, arith, List, ℕ, get_or, Some}
use Rattle.model.specs.Computation.{clock}
use Rattle.model.specs.Basis.{start}
use Rattle.picking.specs.Rows.{row_of}
use Rattle.picking.proofs.Reading.{row_first}
use Rattle.slots.specs.Reached.{Reached}
use Rattle.lookups.proofs.AtRow as laws
use Rattle.lookups.proofs.look_up.Goals as goal

pub returns-then-cut-clause-looked : goal.returns-then-cut-clause-looked
returns-then-cut-clause-looked c = λ K S T j k h.
    let a = c.args in
    let r = c.lost_rounds in
    let e : get_or a.t.now.out.now (a.i * 8) 0 ≡ 255 = sym (row_first a.t.now.out.now a.i) ∙ ap (λ (l : List ℕ). get_or l 0 0) (sym c.row_at-cut.ensures) ∙ c.if-cut.true in
    laws.looked-lost K S T a.s _ _ _ _ _ _ a.i j k h a.t.now.long.0 c.requires.0 c.requires.1 r.result (r.ensures.value K S T j k h e) e

pub returns-clause-looked : goal.returns-clause-looked
returns-clause-looked c = λ K S T j k h.
    let a = c.args in
    let r = c.raised_rounds in
    let cut : List ℕ = c.row_at-cut.result.now in
    let there : get_or cut 0 0 < 255 = (let z : get_or cut 0 0 < 256 = search rules in omega (arith, z, c.if-cut.false)) in
    let e : cut ≡ row_of a.t.now.out.now a.i = c.row_at-cut.ensures in
    record {
      rounds = r.ensures.value K S T j k h there;
      reached = subst (λ (l : List ℕ). Reached K (Some l) (start K S T (clock K j k)).reached) (sym e)
          (laws.raised-reached K S T a.s _ _ _ _ _ _ a.i j k h a.t.now.long.0 c.requires.0 c.requires.1 r.result (r.ensures.value K S T j k h there) (rw (← row_first a.t.now.out.now a.i, ← e) there));
    }
