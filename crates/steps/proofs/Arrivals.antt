-- 07: a table of arrivals leads to the rows of its raising function.
use mathlib.Core.Path.{◌≡◌, sym, ap, ◌∙◌}
use Prim.Native.Nat.{ℕ, ◌+◌, ◌*◌, ◌≤◌, ◌<◌}
use native.Mathlib.Omega.{arith}
use mathlib.Core.List.{List}
use mathlib.Core.Bool.{true}
use mathlib.Core.Option.{Option, some}
use lib.ListN.{length, get_or, drop}
use lib.Seq.{get_or-take, get_or-drop}
use Rattle.model.specs.Cut.{Cut, ◌!◌}
use Rattle.model.specs.Computation.{Computation, count}
use Rattle.model.specs.Atom.{raise_atom}
use Rattle.model.specs.Atom.Atom.{clear}
use Rattle.lattice.proofs.Due.{Entry, entry-raises}
use Rattle.structure.specs.declared.Shape.{Shape}
use Rattle.structure.specs.Layout.{decoded}
use Rattle.structure.specs.Laid.{Laid}
use Rattle.structure.proofs.Starts.{count-is, own-fit}
use Rattle.arrivals.specs.Table.{Entered, Arrivals}
use Rattle.steps.specs.Rows.{row_at, joined_row, atom_row, Tabled, Leads}
use Rattle.steps.proofs.Atoms as atoms
use Rattle.steps.proofs.Built.{start-consistent}

module _ (K : Computation) (shape : Shape) (starts : List ℕ) (laid : Laid K shape starts) (i j : ℕ) (hi : i < shape.n) (hj : j < shape.n)
    (table : List ℕ) (t : Arrivals K laid.valid i j table) where
  pub clear_tabled : Tabled shape.n shape.e i (get_or shape.offs j 0) table (length starts)
  clear_tabled = record {
    station = hi;
    few_stations = shape.few_stations;
    few_events = shape.few_events;
    before = omega (arith, own-fit K shape starts laid j hj);
    starts_fit = laid.starts_fit;
    reach = λ k a f. omega (arith, t.reach k a f, own-fit K shape starts laid j hj, count-is K shape starts laid j hj);
  }

  entry-there : (x k : ℕ) → Entry K laid.valid i j x (some k) → k ≤ count K j
  entry-there x k e = e.0.0

  pub clear_leads : Leads shape.n shape.e i (get_or shape.offs j 0) table starts (raise_atom K true (clear i j))
  unfolding atom_row
  clear_leads r a = go (t.entries (c ! i) ((start-consistent K shape starts laid r a).within i))
    where
      c : Cut
      c = row_at shape.n r starts

      at : get_or starts (r * shape.n + i) 0 ≡ c ! i
      at = sym (get_or-take shape.n (drop (r * shape.n) starts) i 0 hi ∙ get_or-drop (r * shape.n) starts i 0)

      there : (o : Option ℕ) → Entry K laid.valid i j (c ! i) o → (k : ℕ) → o ≡ some k → k ≤ count K j
      there o e k q = entry-there (c ! i) k (rw q at e)

      go : Entered K laid.valid i j table (c ! i)
          → decoded (joined_row shape.n (get_or shape.offs j 0) starts r (get_or table (get_or starts (r * shape.n + i) 0) 0)) ≡ raise_atom K true (clear i j) c
      go (o, e, n) =
          atoms.row_leads K shape starts laid j hj r a o (there o n) (get_or table (get_or starts (r * shape.n + i) 0) 0) (ap (λ (x : ℕ). get_or table x 0) at ∙ e)
          ∙ entry-raises K laid.valid i j c (start-consistent K shape starts laid r a) o n
