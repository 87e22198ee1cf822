-- `atoms::range` meets its contract, by the laws of an atom's token. Assumes nothing.
use mathlib.Core.Path.{◌≡◌, sym, ap, ◌∙◌}
use mathlib.Core.Bool.{Bool, true}
use mathlib.Core.List.{List}
use Prim.Native.Nat.{ℕ}
use lib.Dec.{ltb}
use lib.ListN.{get_or}
use Rattle.model.specs.declared.Aspect.{Aspect}
use Rattle.model.specs.Atom.{range_token, range_of, atom_of, sound_atom, askable}
use Rattle.codec.proofs.Atoms.{range-operands, range-of}
use Rattle.atoms.proofs.Atoms.{nothing-atom, sized-atom}
use Rattle.atoms.proofs.range.Goals as goal

sound-is : (n : ℕ) (a : Aspect) (q : List ℕ) → ltb (get_or q 0 0) n ≡ sound_atom n (atom_of (range_token a) q)
unfolding sound_atom range_of
sound-is n a q = ap (sound_atom n) (sym (range-of a q))

-- A range can be worked out under either sign.
askable-is : (s : Bool) (a : Aspect) (q : List ℕ) → true ≡ askable s (atom_of (range_token a) q)
unfolding askable range_of
askable-is s a q = ap (askable s) (sym (range-of a q))

pub returns-in_default : goal.returns-in_default
returns-in_default c = λ s a. nothing-atom (range_token a) 5 c.args.rest.now (range-operands a) c.in_default.len_below

pub returns : goal.returns
returns c = λ s a. sized-atom (range_token a) 5 _ (range-operands a) _ s c.in-len5-up.len_at_least (ap (λ (i : ℕ). ltb i c.args.n) c.from.ensures ∙ sound-is _ a _) (askable-is s a _) c.single.ensures
