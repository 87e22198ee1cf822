-- Formulas, and their bytes in prefix form.
use Rattle.std.specs.Prelude.{ℕ, zero, suc, ◌+◌, Bool, cond, ◌&&◌, List, [], ◌∷◌, ◌++◌, length, drop, leb, eqb}
use Rattle.std.proofs.Math.Option.{Option, none, some}
use Rattle.model.specs.Atom.{Atom, atom_bytes, operands, atom_of, sound_atom}

pub data Formula : Type 0 where
  atom : Atom → Formula
  not possibly always : Formula → Formula
  and or : Formula → Formula → Formula

-- The prefix form.
unfoldable pub prefix : Formula → List ℕ
prefix (atom a) = atom_bytes a
prefix (not f) = 0x02 ∷ prefix f
prefix (and f g) = 0x03 ∷ (prefix f ++ prefix g)
prefix (or f g) = 0x04 ∷ (prefix f ++ prefix g)
prefix (possibly f) = 0x05 ∷ prefix f
prefix (always f) = 0x06 ∷ prefix f

-- READING IT: the formulas that bytes spell, one after another

-- A formula in front of those after it.
unfoldable pub ahead : Formula → Option (List Formula) → Option (List Formula)
ahead f none = none
ahead f (some l) = some (f ∷ l)

-- A sign of one operand takes the first formula after it.
unfoldable pub one : (Formula → Formula) → Option (List Formula) → Option (List Formula)
one c none = none
one c (some []) = none
one c (some (f ∷ l)) = some (c f ∷ l)

-- A sign of two operands takes the first two.
unfoldable pub two : (Formula → Formula → Formula) → Option (List Formula) → Option (List Formula)
two c none = none
two c (some []) = none
two c (some (f ∷ [])) = none
two c (some (f ∷ g ∷ l)) = some (c f g ∷ l)

-- The token byte alone decides how many operands follow.
unfoldable pub sign : ℕ → Option (List Formula) → Option (List Formula)
sign t o =
    cond (eqb t 0x02) (one not o)
    (cond (eqb t 0x03) (two and o)
    (cond (eqb t 0x04) (two or o)
    (cond (eqb t 0x05) (one possibly o)
    (cond (eqb t 0x06) (one always o) none))))

-- An atom's token is followed by k bytes, a sign's by formulas; go reads what is after a token.
unfoldable pub token : (List ℕ → Option (List Formula)) → ℕ → List ℕ → Option ℕ → Option (List Formula)
token go t q (some k) = cond (leb k (length q)) (ahead (atom (atom_of t q)) (go (drop k q))) none
token go t q none = sign t (go q)

unfoldable pub spelt : (List ℕ → Option (List Formula)) → List ℕ → Option (List Formula)
spelt go [] = some []
spelt go (t ∷ q) = token go t q (operands t)

-- The formulas, for fewer than m tokens.
unfoldable pub formulas_in : ℕ → List ℕ → Option (List Formula)
formulas_in zero q = none
formulas_in (suc m) q = spelt (formulas_in m) q

unfoldable pub single : Option (List Formula) → Option Formula
single none = none
single (some []) = none
single (some (f ∷ [])) = some f
single (some (f ∷ g ∷ l)) = none

-- The formula that bytes spell, if it is exactly one. (It is the one whose prefix form they are: proved.)
unfoldable pub formula_of : List ℕ → Option Formula
formula_of q = single (formulas_in (suc (length q)) q)

-- COUNTS

-- Each atom is sound.
unfoldable pub sound : ℕ → Formula → Bool
sound n (atom a) = sound_atom n a
sound n (not f) = sound n f
sound n (and f g) = sound n f && sound n g
sound n (or f g) = sound n f && sound n g
sound n (possibly f) = sound n f
sound n (always f) = sound n f

-- The tokens of a formula, each weighed: atoms by a, those of one operand by u, 03 and 04 by b.
unfoldable pub weigh : ℕ → ℕ → ℕ → Formula → ℕ
weigh a u b (atom x) = a
weigh a u b (not f) = u + weigh a u b f
weigh a u b (and f g) = b + weigh a u b f + weigh a u b g
weigh a u b (or f g) = b + weigh a u b f + weigh a u b g
weigh a u b (possibly f) = u + weigh a u b f
weigh a u b (always f) = u + weigh a u b f

-- Tokens.
abbrev pub tokens : Formula → ℕ
tokens = weigh 1 1 1

-- Atoms: tokens 01, 07 and 08.
abbrev pub atoms : Formula → ℕ
atoms = weigh 1 0 0

-- Tokens 03 and 04: the and/or signs.
abbrev pub signs : Formula → ℕ
signs = weigh 0 0 1
