-- `lookups::raised_rounds` meets its contract: a start that comes to a cut has a first cut, and its rounds are those of what this looks up.
use Rattle.std.proofs.Common.{◌≡◌, ℕ, arith, refl, sym, ◌∙◌, List, cond, eqb, length}
use borrow.Author.Tests.{eq-eqb, ne_eqb}
use Rattle.picking.specs.Rows.{row_of}
use Rattle.picking.proofs.Reading.{row_first, row-length}
use Rattle.chaining.proofs.Telling.{unless}
use Rattle.lookups.proofs.AtRow as laws
use Rattle.lookups.proofs.raised_rounds.Goals as goal
use Rattle.lookups.proofs.raised_rounds.Goals.{then-p-eq0, else-p-eq0}

pub returns-clause-value : goal.returns-clause-value
returns-clause-value c = λ K S T j k h f.
    let a = c.args in
    let t = a.t.now in
    let p : ℕ = c.place_of-p.result in
    let d : List ℕ = c.row_at-before.result.now in
    let e = c.requires.2 in
    let same = c.same-same.ensures in
    let before : (d ≡ cond (eqb p 0) (row_of t.first.now a.i) (row_of t.last.now a.i)) × (length d ≡ 8) =
    elim c.if-p-eq0.branch [
      | then-p-eq0 w ↦ rw (c.row_at-before.ensures, eq-eqb p 0 w.if-p-eq0.true, w.row_at-is) (refl, row-length t.first.now a.i t.long.2 c.requires.0)
      | else-p-eq0 w ↦ rw (c.row_at-before.ensures, ne_eqb p 0 w.if-p-eq0.false, w.row_at-is) (refl, row-length t.last.now a.i t.long.3 c.requires.0)
    ] in
    omega (
      arith,
      c.from.ensures,
      unless c.same-same.result _ c.from-2.ensures,
      laws.raised_rounds K S T a.s _ _ _ _ _ _ a.i j k h t.long.0 c.requires.0 c.requires.1 p c.place_of-p.ensures.0
          d c.same-same.result t.long.1 before.1 (λ z. sym e ∙ same.0 z, λ z. same.1 (e ∙ z)) before.0 (rw (← row_first t.out.now a.i, ← e) f),
    )
