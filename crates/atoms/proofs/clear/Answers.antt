-- `atoms::clear` meets its contract, by the laws of an atom's token. Assumes nothing.
use mathlib.Core.Path.{◌≡◌, refl, ◌∙◌}
use mathlib.Core.Bool.{Bool, ◌&&◌}
use mathlib.Core.List.{List}
use mathlib.Core.Option.{some}
use Prim.Native.Nat.{ℕ, suc}
use native.Mathlib.Omega.{arith}
use lib.Dec.{ltb}
use lib.ListN.{get_or}
use borrow.Author.Tests.{le-leb, lt-leb}
use Rattle.model.specs.Atom.{operands, atom_of, sound_atom, askable}
use Rattle.atoms.proofs.Atoms.{nothing-atom, sized-atom}
use Rattle.atoms.proofs.clear.Goals as goal
use Rattle.atoms.proofs.clear.Goals.{then-from-n, else-from-n}

-- 07 is followed by two bytes.
two : operands 7 ≡ some 2
unfolding operands
two = refl

sound-is : (n : ℕ) (q : List ℕ) → (ltb (get_or q 0 0) n && ltb (get_or q 1 0) n) ≡ sound_atom n (atom_of 7 q)
unfolding sound_atom atom_of
sound-is n q = refl

-- It can be worked out as true, and not as false.
askable-is : (s : Bool) (q : List ℕ) → s ≡ askable s (atom_of 7 q)
unfolding askable atom_of
askable-is s q = refl

pub returns-in_default : goal.returns-in_default
returns-in_default c = nothing-atom 7 2 c.args.rest.now two c.in_default.len_below

pub returns : goal.returns
returns c =
    let i = get_or c.args.rest.now 0 0 in
    let j = get_or c.args.rest.now 1 0 in
    let there : c.if-from-n.result ≡ (ltb i c.args.n && ltb j c.args.n) =
    elim c.if-from-n.branch [
      | then-from-n w ↦ w.result-is ∙ simp (w.from-then-from-n.ensures, le-leb (suc i) c.args.n (omega (arith, c.from.ensures)))
      | else-from-n w ↦ w.result-is ∙ simp (c.from.ensures, lt-leb (suc i) c.args.n (omega (arith, c.from.ensures)))
    ] in
    sized-atom 7 2 _ two _ _ c.in-len2-up.len_at_least (there ∙ sound-is _ _) (askable-is c.args.sign _) c.single.ensures
