-- What is at the front of a token that is no sign and the bytes after it: an atom, or nothing.
use Rattle.std.specs.Prelude as prelude
use Rattle.std.specs.Prelude.{Some}
use mathlib.Core.Path.{◌≡◌, refl, sym, ◌∙◌}
use mathlib.Core.Bool.{Bool, true, false}
use mathlib.Core.List.{List, ◌∷◌}
use mathlib.Core.Option.{none, some}
use Prim.Native.Nat.{ℕ, suc, ◌<◌, ◌≤◌}
use native.Mathlib.Omega.{arith}
use lib.ListN.{length}
use borrow.Author.Tests.{lt-leb}
use Rattle.model.specs.Atom.{Atom, operands, atom_of, sound_atom, askable}
use Rattle.model.specs.Formula.{token, weigh, sound}
use Rattle.model.specs.Formula.Formula.{atom}
use Rattle.model.specs.Rules.{as_true, as_false}
use Rattle.model.specs.Size.{width, bars, held, slim, narrow}
use Rattle.model.specs.Forecast.{most_bars}
use Rattle.lattice.specs.Signed.{normal}
use Rattle.lattice.proofs.Signed.{workable-atom}
use Rattle.codec.specs.Formulas.{formulas}
use Rattle.codec.proofs.Formulas.{formulas-token, formulas-atom}
use Rattle.extents.specs.declared.Figures.{Figures}
use Rattle.extents.specs.Extents.{pairs_of, figures_of, extent_of}
use Rattle.atoms.specs.Measured.{first, Sized}

-- One structure, without bars.
abbrev one_structure : Figures
one_structure = record { width = 1; bars = 0; most = 0; held = 1; pairs = 0 }

pub extent-atom : (s : Bool) (a : Atom) → Some one_structure ≡ extent_of (normal s (atom a))
unfolding extent_of figures_of pairs_of as_true as_false narrow slim width bars held most_bars
extent-atom true a = refl
extent-atom false a = refl

module _ (t k : ℕ) (q : List ℕ) (e : operands t ≡ some k) where
  pub nothing-atom : length q < k → first (formulas (t ∷ q)) ≡ none
  unfolding token first
  nothing-atom h = rw (formulas-token t q, e, lt-leb k (length q) h)

  pub sized-atom :
      (n : ℕ) (s : Bool) {b w : Bool} {i : prelude.Option Figures}
      → k ≤ length q
      → b ≡ sound_atom n (atom_of t q)
      → w ≡ askable s (atom_of t q)
      → ((o : Bool) (a : Atom) → i ≡ extent_of (normal o (atom a)))
      → Sized n s (t ∷ q) (record { used = suc k; tokens = 1; atoms = 1; sound = b; workable = w; extent = i })
  unfolding weigh sound
  sized-atom n s h o g i =
      record {
        formula = atom (atom_of t q);
        reads = formulas-atom t k q e h;
        within = omega arith;
        few_tokens = omega arith;
        few_atoms = omega arith;
        tokens = refl;
        atoms = refl;
        sound = o;
        workable = g ∙ sym (workable-atom s (atom_of t q));
        extent = i s (atom_of t q);
      }
