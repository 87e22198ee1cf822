-- A line whose form is wrong, by what stands behind the pairs of digits that were passed.
use Rattle.std.proofs.Common.{◌≡◌, ℕ, ◌+◌, ◌<◌, ◌≤◌, Bool, true, false, cond, eqb, List, [], ◌∷◌, ◌++◌, length, refl, ap, ◌∙◌, arith, length-append}
use mathlib.Core.Option.{Option, none, some}
use Rattle.model.specs.Bytes.{Lines, more, rest, push, lines_of, digit, byte, bytes, Item, bad, carried, items}
use Rattle.walk.specs.Pairs.{first_digit, joined, pair_of}
use Rattle.walk.specs.declared.Pair.TheVariants.{End, Broken}
use Rattle.walk.proofs.Digits.{between-under, between_over}
use Rattle.walk.proofs.Fronts.{Front, pushes, pushes-more, pushes-rest, ahead}

-- The bytes f in front of the lines ls make a first line that is refused.
abbrev pub Refused : List ℕ → Lines → Type 0
Refused f (more l ls) = carried (ahead f (bytes l)) ≡ bad 2
Refused f (rest l) = 1 ≤ length f + length l

-- The items start with fault 2.
abbrev pub Faulty : Lines → Type 0
Faulty ls = (others : List Item) × (items ls ≡ bad 2 ∷ others)

items-rest : (l : List ℕ) → 1 ≤ length l → items (rest l) ≡ bad 2 ∷ []
unfolding items
items-rest [] h = absurd (omega arith)
items-rest (b ∷ l) h = refl

faulty : {f s t : List ℕ} → Front f s t → (ls : Lines) → lines_of t ≡ ls → Refused f ls → Faulty (lines_of s)
unfolding items
faulty {f} r (more l ls) e h =
    let w : lines_of _ ≡ more (r.passed ++ l) ls = r.lines ∙ ap (pushes r.passed) e ∙ pushes-more r.passed l ls in
    (items ls, rw (w, r.brings l, h))
faulty {f} r (rest l) e h =
    let w : lines_of _ ≡ rest (r.passed ++ l) = r.lines ∙ ap (pushes r.passed) e ∙ pushes-rest r.passed l in
    ([], rw w (items-rest (r.passed ++ l) (simp length-append (omega (arith, r.two)))))

pub refused_faulty : {f s t : List ℕ} → Front f s t → Refused f (lines_of t) → Faulty (lines_of s)
refused_faulty {t = t} r h = faulty r (lines_of t) refl h

-- ---- fewer than 2 bytes, more than 100
carried-few : (f : List ℕ) → length f < 2 → carried (some f) ≡ bad 2
unfolding carried
carried-few f h = rw (between-under 2 100 (length f) h)

carried_many : (f : List ℕ) → 100 < length f → carried (some f) ≡ bad 2
unfolding carried
carried_many f h = rw (between_over 2 100 (length f) h)

many : (f : List ℕ) (o : Option (List ℕ)) → 100 < length f → carried (ahead f o) ≡ bad 2
unfolding ahead carried
many f none h = refl
many f (some g) h = carried_many (f ++ g) (simp length-append (omega arith))

pub refused_many : (f : List ℕ) (ls : Lines) → 100 < length f → Refused f ls
refused_many f (more l ls) h = many f (bytes l) h
refused_many f (rest l) h = omega arith

pub refused-few : (f : List ℕ) (ls : Lines) → length f < 2 → Refused f (more [] ls)
unfolding ahead bytes
refused-few f ls h = carried-few (f ++ []) (simp length-append (omega arith))

-- ---- neither a pair nor an end
none-refused : (f l : List ℕ) (ls : Lines) → bytes l ≡ none → Refused f (more l ls)
unfolding ahead carried
none-refused f l ls e = rw e

cons-none : (a : ℕ) (l : List ℕ) → digit a ≡ none → bytes (a ∷ l) ≡ none
unfolding bytes byte
cons-none a [] e = refl
cons-none a (b ∷ l) e = rw e

byte-none : (h : Option ℕ) (o : Option (List ℕ)) → byte h none o ≡ none
unfolding byte
byte-none none o = refl
byte-none (some h) o = refl

second_none : (a b : ℕ) (l : List ℕ) → digit b ≡ none → bytes (a ∷ b ∷ l) ≡ none
unfolding bytes
second_none a b l e = rw e (byte-none (digit a) (bytes l))

high-refused : (f : List ℕ) (a : ℕ) (ls : Lines) → digit a ≡ none → Refused f (push a ls)
unfolding push
high-refused f a (more l ls) e = none-refused f (a ∷ l) ls (cons-none a l e)
high-refused f a (rest l) e = omega arith

low-refused : (f : List ℕ) (a b : ℕ) (ls : Lines) → digit b ≡ none → Refused f (push a (push b ls))
unfolding push
low-refused f a b (more l ls) e = none-refused f (a ∷ b ∷ l) ls (second_none a b l e)
low-refused f a b (rest l) e = omega arith

-- a digit and then 0A, or no digit
odd_refused : (f s : List ℕ) (a b : ℕ) (t : Bool) → eqb b 0x0A ≡ t → digit b ≡ none → Refused f (push a (lines_of (b ∷ s)))
unfolding push lines_of bytes ahead carried
odd_refused f s a b true t e = rw t
odd_refused f s a b false t e = rw t (low-refused f a b (lines_of s) e)

joined-refused : (f s : List ℕ) (a : ℕ) (h l : Option ℕ) → digit a ≡ h → first_digit s ≡ l → joined h l ≡ Broken → Refused f (push a (lines_of s))
unfolding push lines_of
joined-refused f s a none l ea eb e = high-refused f a (lines_of s) ea
joined-refused f [] a (some h) none ea eb e = omega arith
joined-refused f (b ∷ s) a (some h) none ea eb e = odd_refused f s a b (eqb b 0x0A) refl eb
joined-refused f s a (some h) (some l) ea eb e = let z : ◌≡◌ {A = ℕ} 0 1 = cc in absurd (omega arith)

front-refused : (f s : List ℕ) (a : ℕ) (t : Bool) → eqb a 0x0A ≡ t → cond t End (joined (digit a) (first_digit s)) ≡ Broken → Refused f (lines_of (a ∷ s))
unfolding lines_of
front-refused f s a true t e = let z : ◌≡◌ {A = ℕ} 0 1 = cc in absurd (omega arith)
front-refused f s a false t e = rw t (joined-refused f s a (digit a) (first_digit s) refl refl e)

pub refused_broken : (f s : List ℕ) → 1 ≤ length s → pair_of s ≡ Broken → Refused f (lines_of s)
unfolding pair_of
refused_broken f [] h e = absurd (omega arith)
refused_broken f (a ∷ s) h e = front-refused f s a (eqb a 0x0A) refl e
