-- Atoms, the tokens of a formula that are no signs: their bytes, when one is true and when false, and how a cut is raised to one at which it is.
use Rattle.std.specs.Prelude.{ℕ, zero, suc, ◌-◌, ◌/◌, ◌%◌, Bool, true, false, cond, not, ◌&&◌, ◌||◌, List, [], ◌∷◌, drop, get_or, leb, ltb, eqb}
use Rattle.std.proofs.Math.Option.{Option, none, some}
use Rattle.model.specs.Lists.{between}
use Rattle.model.specs.Frames.{word}
use Rattle.model.specs.Cut.{Cut, ◌!◌, join}
use Rattle.model.specs.Computation.{Computation, Report, Message, count, clock, report}
use Rattle.model.specs.declared.Aspect.{Aspect}
use Rattle.model.specs.declared.Aspect.TheVariants.{Value, Panel}
use Rattle.model.specs.declared.Finding.{Finding}
use Rattle.model.specs.declared.Finding.TheVariants.{Inside, Outside, Silent}

pub data Atom : Type 0 where
  -- 01 or 08, station, lo, hi: the station's value, or its panel, is in the range from lo to hi
  in_range : Aspect → ℕ → ℕ → ℕ → Atom
  -- 07, i, j: no message from i to j is on its way
  clear : ℕ → ℕ → Atom

-- BYTES

-- The token of a range: 01 looks at the value, 08 at the panel.
unfoldable pub range_token : Aspect → ℕ
range_token Value = 0x01
range_token Panel = 0x08

-- The token byte and what follows it.
unfoldable pub atom_bytes : Atom → List ℕ
atom_bytes (in_range a s lo hi) = range_token a ∷ s ∷ (lo / 256) ∷ (lo % 256) ∷ (hi / 256) ∷ (hi % 256) ∷ []
atom_bytes (clear i j) = 0x07 ∷ i ∷ j ∷ []

-- How many bytes follow the token byte of an atom; none if the token is no atom's.
unfoldable pub operands : ℕ → Option ℕ
operands t = cond (eqb t 0x01) (some 5) (cond (eqb t 0x07) (some 2) (cond (eqb t 0x08) (some 5) none))

-- The range of the bytes that follow a token byte, and the atom of both.
unfoldable pub range_of : Aspect → List ℕ → Atom
range_of a q = in_range a (get_or q 0 0) (word (drop 1 q)) (word (drop 3 q))

unfoldable pub atom_of : ℕ → List ℕ → Atom
atom_of t q = cond (eqb t 0x01) (range_of Value q) (cond (eqb t 0x07) (clear (get_or q 0 0) (get_or q 1 0)) (range_of Panel q))

-- Of n stations each that is named is there.
unfoldable pub sound_atom : ℕ → Atom → Bool
sound_atom n (in_range a s lo hi) = ltb s n
sound_atom n (clear i j) = ltb i n && ltb j n

-- TRUTH AND FALSITY

-- What a range looks at, of a report.
unfoldable pub seen : Aspect → Report → ℕ
seen Value r = r.value
seen Panel r = r.panel

-- Is what is looked at that of a station that is silent? A rebooting station's value is FFFF; a panel FFFF is a number like any other.
abbrev pub is_silent : Aspect → ℕ → Bool
is_silent Value v = eqb v 0xFFFF
is_silent Panel v = false

-- Is a number from lo to hi? In a range whose lo is above hi are the numbers from lo up and those up to hi.
unfoldable pub within : ℕ → ℕ → ℕ → Bool
within lo hi v = cond (leb lo hi) (between lo hi v) (leb lo v || leb v hi)

-- The test of one value, or panel, by a range: what is silent is neither inside nor outside, whatever the range.
unfoldable pub test : Aspect → ℕ → ℕ → ℕ → Finding
test a lo hi v = cond (is_silent a v) Silent (cond (within lo hi v) Inside Outside)

-- Did the test say inside; did it say outside?
unfoldable pub is_inside : Finding → Bool
is_inside Inside = true
is_inside Outside = false
is_inside Silent = false

unfoldable pub is_outside : Finding → Bool
is_outside Inside = false
is_outside Outside = true
is_outside Silent = false

-- Is it a message from i to j, and sent by event x of i or before?
unfoldable pub sent_by : ℕ → ℕ → ℕ → Message → Bool
sent_by i j x m = eqb m.sender i && eqb m.receiver j && leb m.sent x

-- Is it one of which the cut holds the sending and not the receiving?
unfoldable pub on_way : ℕ → ℕ → Cut → Message → Bool
on_way i j c m = sent_by i j (c ! i) m && not (between 1 (c ! j) m.received)

-- Does no message pass the test?
unfoldable pub no_message : (Message → Bool) → List Message → Bool
no_message p [] = true
no_message p (m ∷ l) = not (p m) && no_message p l

-- Is the atom true at the cut?
unfoldable pub atom_is_true : Computation → Atom → Cut → Bool
atom_is_true K (in_range a s lo hi) c = is_inside (test a lo hi (seen a (report K s (c ! s))))
atom_is_true K (clear i j) c = no_message (on_way i j c) K.messages

-- Is it false there? 07 is so where it is not true.
unfoldable pub atom_is_false : Computation → Atom → Cut → Bool
atom_is_false K (in_range a s lo hi) c = is_outside (test a lo hi (seen a (report K s (c ! s))))
atom_is_false K (clear i j) c = not (atom_is_true K (clear i j) c)

-- Can the atom be worked out, as true or as false? 07 cannot as false.
unfoldable pub askable : Bool → Atom → Bool
askable b (in_range a s lo hi) = true
askable b (clear i j) = b

-- RAISING: the least consistent cut that contains c and at which an atom is true, or false; or none

-- The first of the m numbers from k on that passes the test.
unfoldable pub next : (ℕ → Bool) → ℕ → ℕ → Option ℕ
next p zero k = none
next p (suc m) k = cond (p k) (some k) (next p m (suc k))

-- c joined with the clock of event k of station s, where there is such a k.
unfoldable pub up_to : Computation → ℕ → Cut → Option ℕ → Option Cut
up_to K s c none = none
up_to K s c (some k) = some (join c (clock K s k))

-- c joined with the clock of the first event of station s, from the last one in c on, that passes the test.
unfoldable pub raise_to : Computation → ℕ → (ℕ → Bool) → Cut → Option Cut
raise_to K s p c = up_to K s c (next p (suc (count K s) - c ! s) (c ! s))

-- Does a value, or a panel, pass a range, as true or as false?
unfoldable pub passes : Bool → Aspect → ℕ → ℕ → ℕ → Bool
passes true a lo hi v = is_inside (test a lo hi v)
passes false a lo hi v = is_outside (test a lo hi v)

-- For an atom as true, or as false: 01 and 08 look for a value or a panel of their station, 07 looks for an event of the receiver at which nothing is on its way; as false 07 is not worked out, and none stands for it.
unfoldable pub raise_atom : Computation → Bool → Atom → Cut → Option Cut
raise_atom K b (in_range a s lo hi) c = raise_to K s (λ k. passes b a lo hi (seen a (report K s k))) c
raise_atom K true (clear i j) c = raise_to K j (λ k. atom_is_true K (clear i j) (join c (clock K j k))) c
raise_atom K false (clear i j) c = none
