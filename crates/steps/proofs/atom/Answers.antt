-- The rows written are those that the table leads to.
use native.Mathlib.Omega.{arith}
use Rattle.std.specs.Prelude.{◌≡◌, ℕ, ◌≤◌, []}
use lib.ListN.{set}
use lib.Seq.{get_or-set_same}
use Rattle.model.specs.Computation.{full}
use Rattle.model.specs.Structure.{build}
use Rattle.structure.specs.Layout.{standing}
use Rattle.steps.specs.Rows.{row_at, atom_row, Leads}
use Rattle.steps.proofs.Atoms as atoms
use Rattle.steps.proofs.atom.Goals as goal

pub returns-then-ws : goal.returns-then-ws
returns-then-ws c =
    let a = c.args in (
      omega arith,
      λ z. absurd (omega arith),
      λ x K f en ee laid lead.
          atoms.at_sizes
          (λ n e. ((i : ℕ) → i ≤ e → row_at n i c.atom_rows.new.ws ≡ atom_row n a.s a.off a.table.now a.starts.now i) → Leads n e a.s a.off a.table.now a.starts.now f → standing n (full K) 0 c.atom_rows.new.ws (set a.bs.now 0 255) ≡ build K f [])
          x _ _ en ee (λ rows leads. atoms.atom_dropped K _ _ laid _ _ _ f leads _ _ rows c.if-ws.true) c.atom_rows.ensures lead,
    )

pub returns-else-ws : goal.returns-else-ws
returns-else-ws c =
    let a = c.args in (
      omega arith,
      λ z. c.if-ws.false,
      λ x K f en ee laid lead.
          atoms.at_sizes
          (λ n e. ((i : ℕ) → i ≤ e → row_at n i c.atom_rows.new.ws ≡ atom_row n a.s a.off a.table.now a.starts.now i) → Leads n e a.s a.off a.table.now a.starts.now f → standing n (full K) 1 c.atom_rows.new.ws (set a.bs.now 0 255) ≡ build K f [])
          x _ _ en ee (λ rows leads. atoms.atom_kept K _ _ laid _ _ _ f leads _ _ rows c.if-ws.false (get_or-set_same a.bs.now 0 255 0 (omega (arith, c.requires.fits.1, c.requires.tabled)))) c.atom_rows.ensures lead,
    )
