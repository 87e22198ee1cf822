-- The answer to a question, and its line.
use Rattle.std.specs.Prelude.{ℕ, ◌/◌, ◌%◌, ◌^◌, Bool, true, false, cond, ◌&&◌, ◌||◌, List, [], ◌∷◌, ◌++◌, map, length, ltb, eqb}
use Rattle.model.specs.Bytes.{line}
use Rattle.model.specs.Formula.{Formula}
use Rattle.model.specs.Cut.{Cut, empty, inside, inside_any}
use Rattle.model.specs.Computation.{Computation, stations}
use Rattle.model.specs.Rules.{as_true}
use Rattle.model.specs.Structure.{greatest, belongs_any}
use Rattle.model.specs.Basis.{basis}
use Rattle.model.specs.Rounds.{rounds}

-- WHICH CUTS ARE LISTED

-- The cuts of a list that are not contained in c.
unfoldable pub not_inside : Cut → List Cut → List Cut
not_inside c [] = []
not_inside c (d ∷ l) = cond (inside d c) (not_inside c l) (d ∷ not_inside c l)

-- One more cut among cuts none of which contains another: nothing new if one of them contains it, else without those that it contains.
unfoldable pub add : Cut → List Cut → List Cut
add c l = cond (inside_any c l) l (c ∷ not_inside c l)

-- The cuts of a list that are contained in no other, each once.
unfoldable pub tops : List Cut → List Cut
tops [] = []
tops (c ∷ l) = add c (tops l)

-- Does c stand before d? Station 0 decides first.
unfoldable pub precedes : Cut → Cut → Bool
precedes [] [] = false
precedes [] (y ∷ d) = true
precedes (x ∷ c) [] = false
precedes (x ∷ c) (y ∷ d) = ltb x y || (eqb x y && precedes c d)

-- One more cut, in its place.
unfoldable pub insert : Cut → List Cut → List Cut
insert c [] = c ∷ []
insert c (d ∷ l) = cond (precedes c d) (c ∷ d ∷ l) (d ∷ insert c l)

-- The cuts in ascending order.
unfoldable pub sort : List Cut → List Cut
sort [] = []
sort (c ∷ l) = insert c (sort l)

-- THE ANSWER

-- Start, cuts, rounds.
pub record Answer : Type 0 where
  pub start : Bool
  pub cuts : List Cut
  pub rounds : ℕ

-- Is the formula true at c? (So the basis says: proved.)
unfoldable pub true_at : Computation → Formula → Cut → Bool
true_at K f c = belongs_any (basis K (as_true f)) c

-- Of the greatest cuts of the basis those contained in no other.
unfoldable pub answer : Computation → Formula → Answer
answer K f = record { start = true_at K f (empty (stations K)); cuts = sort (tops (map greatest (basis K (as_true f)))); rounds = rounds K (as_true f) }

-- ITS LINE

-- 01 for yes, 00 for no.
abbrev pub yes_no : Bool → ℕ
yes_no true = 0x01
yes_no false = 0x00

-- Lists one after another.
unfoldable pub in_row : List (List ℕ) → List ℕ
in_row [] = []
in_row (c ∷ l) = c ++ in_row l

-- A number in four bytes, high byte first.
unfoldable pub four_bytes : ℕ → List ℕ
four_bytes v = (v / 2 ^ 24 % 256) ∷ (v / 2 ^ 16 % 256) ∷ (v / 2 ^ 8 % 256) ∷ (v % 256) ∷ []

-- The answer line.
unfoldable pub answer_line : Answer → List ℕ
answer_line a = line (0x40 ∷ yes_no a.start ∷ length a.cuts ∷ (in_row a.cuts ++ four_bytes a.rounds))

-- The refusal line: number, line.
unfoldable pub refusal_line : ℕ → ℕ → List ℕ
refusal_line k n = line (0x50 ∷ k ∷ (n / 256) ∷ (n % 256) ∷ [])
