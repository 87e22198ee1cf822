-- `chaining::make_entry` meets its contract.
use mathlib.Core.Path.{◌≡◌, refl, sym, ap, ◌∙◌}
use Prim.Native.Nat.{ℕ, ◌<◌}
use native.Mathlib.Omega.{arith}
use mathlib.Core.Bool.{cond}
use mathlib.Core.List.{List}
use mathlib.Core.Option.{some}
use lib.Dec.{eqb}
use lib.ListN.{length, get_or}
use borrow.Author.Tests.{eq-eqb, ne_eqb}
use Rattle.model.specs.Cut.{join}
use Rattle.model.specs.Computation.{clock}
use Rattle.model.specs.Structure.{row}
use Rattle.picking.specs.Rows.{row_of}
use Rattle.picking.proofs.Reading.{row_cell, row_first, row-length, slot_row, row_copied}
use Rattle.chaining.specs.declared.Cells.{Cells}
use Rattle.chaining.proofs.Telling as laws
use Rattle.chaining.proofs.make_entry.Goals as goal
use Rattle.chaining.proofs.make_entry.Goals.{then-p-eq0, then-q, else-q, else-p-eq0}

pub returns-then-table-v-clause-tells : goal.returns-then-table-v-clause-tells
returns-then-table-v-clause-tells c = λ K A B E k g ch h e.
    let a = c.args in
    laws.entry-none K A B a.q.right a.q.s E k a.picks.now a.table.now a.first.now a.chain.now (row_of a.table.now a.v) g ch h
    (slot_row K (row B) a.table.now a.q.s k a.v g.slots_are h e) _ _ _ (row_first a.table.now a.v ∙ c.if-table-v.true) refl refl refl

pub returns-else-table-v-clause-tells : goal.returns-else-table-v-clause-tells
returns-else-table-v-clause-tells c = λ K A B E k g ch h e.
    let a = c.args in
    let t = a.table.now in
    let d : List ℕ = row_of t a.v in
    let p : ℕ = c.from-p.result in
    let s8 : a.q.s < 8 = omega (arith, a.q.there, a.q.x.few_stations) in
    let q : p ≡ get_or a.picks.now (get_or d a.q.s 0) 0 = c.from-p.ensures ∙ ap (λ (y : ℕ). get_or a.picks.now y 0) (c.from.ensures ∙ sym (row_cell t a.v a.q.s s8)) in
    let long : length d ≡ 8 = row-length t a.v c.told-table c.requires.0 in
    let clock-row : ℕ = cond a.q.right a.v 0 in
    let under-is : c.if-p-eq0.entry.under ≡ cond (eqb p 0) (row_of a.first.now clock-row) (join d (row_of a.chain.now.under p)) =
    elim c.if-p-eq0.branch [
      | then-p-eq0 w ↦ rw (eq-eqb p 0 w.if-p-eq0.true) (ap (λ (x : Cells). x.under) w.entry-is ∙ row_copied a.first.now a.entry.now.under w.copy.new.ws w.if-q.clock (omega arith) w.copy.ensures
          ∙ ap (row_of a.first.now) (elim w.if-q.branch [
            | then-q w' ↦ rw w'.if-q.true w'.clock-is
            | else-q w' ↦ rw w'.if-q.false w'.clock-is
          ]))
      | else-p-eq0 w ↦ rw (ne_eqb p 0 w.if-p-eq0.false) (ap (λ (x : Cells). x.under) w.entry-is ∙ w.join_row-else-p-eq0.ensures)
    ] in
    let above-is : c.if-p-eq0.entry.above ≡ join d (row_of a.chain.now.above p) =
    elim c.if-p-eq0.branch [
      | then-p-eq0 w ↦ ap (λ (x : Cells). x.above) w.entry-is ∙ c.join_row.ensures
      | else-p-eq0 w ↦ ap (λ (x : Cells). x.above) w.entry-is ∙ c.join_row.ensures
    ] in
    laws.entry-some K A B a.q.right a.q.s E k a.picks.now t a.first.now a.chain.now d g ch h
    (slot_row K (row B) t a.q.s k a.v g.slots_are h e) (λ f. c.if-table-v.false (sym (row_first t a.v) ∙ f)) c.if-p-eq0.entry.above c.if-p-eq0.entry.under p _ q
    (λ x o u y. laws.reach K g.small x o a.chain.now d c.if-p-eq0.entry.above p long u y above-is)
    (λ x o u y. laws.come K g.small (clock K a.q.s (cond a.q.right k 0)) x o a.chain.now (row_of a.first.now clock-row) d c.if-p-eq0.entry.under p long u
    (slot_row K (λ i m. some (clock K i m)) a.first.now a.q.s (cond a.q.right k 0) clock-row g.clocks_are (omega (arith, laws.base_le a.q.right k))
    (laws.base_number K a.q.s a.v k a.q.right e)) y under-is) refl
