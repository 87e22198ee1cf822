-- How large a question is, under the sign each token is used in.
use Rattle.std.specs.Prelude.{ℕ, ◌+◌, ◌*◌, max, Bool, ◌&&◌, leb}
use Rattle.model.specs.Formula.{Formula, tokens, atoms}
use Rattle.model.specs.Rules.{Normal, as_true}
use Rattle.model.specs.Rules.Normal.{literal, both, either, possible, impossible}

-- Width: the structure count if none were dropped.
unfoldable pub width : Normal → ℕ
width (literal b a) = 1
width (both p q) = width p * width q
width (either p q) = width p + width q
width (possible p) = width p
width (impossible p) = 1

-- Bar count: no structure has more bars.
unfoldable pub bars : Normal → ℕ
bars (literal b a) = 0
bars (both p q) = bars p + bars q
bars (either p q) = max (bars p) (bars q)
bars (possible p) = 0
bars (impossible p) = width p

-- Structures held: the most that stand at a time while p is worked out.
unfoldable pub held : Normal → ℕ
held (literal b a) = 1
held (both p q) = max (held p) (max (width p + held q) (width p + width q + width (both p q)))
held (either p q) = max (held p) (max (width p + held q) (width p + width q + width (either p q)))
held (possible p) = max (held p) (width p + width (possible p))
held (impossible p) = max (held p) (width p + width (impossible p))

-- Width and bar count are at most 16.
unfoldable pub slim : Normal → Bool
slim p = leb (width p) 16 && leb (bars p) 16

-- The same at every token.
unfoldable pub narrow : Normal → Bool
narrow (literal b a) = slim (literal b a)
narrow (both p q) = slim (both p q) && narrow p && narrow q
narrow (either p q) = slim (either p q) && narrow p && narrow q
narrow (possible p) = slim (possible p) && narrow p
narrow (impossible p) = slim (impossible p) && narrow p

-- A question has at most 32 tokens, 12 of them 01, and is narrow.
unfoldable pub fits : Formula → Bool
fits f = leb (tokens f) 32 && leb (atoms f) 12 && narrow (as_true f)
