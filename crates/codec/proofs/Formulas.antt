-- Formulas and their prefix forms. Reading needs no more fuel than there are bytes, so it obeys two step laws;
-- and what bytes spell is told by a relation, one constructor a token, from which all the rest follows.
use mathlib.Core.Path.{◌≡◌, refl, sym, ap, ◌∙◌}
use mathlib.Core.Bool.{true}
use mathlib.Core.List.{List, [], ◌∷◌, ◌++◌, append_assoc, append-nil}
use mathlib.Core.Option.{Option, none, some}
use Prim.Native.Nat.{ℕ, zero, suc, ◌+◌, ◌*◌, ◌<◌, ◌≤◌}
use native.Mathlib.Omega.{arith}
use lib.Dec.{leb, eqb}
use lib.ListN.{length, drop, length-append, length-drop, take-append-drop}
use lib.Seq.{drop-append_seam}
use borrow.Author.Tests.{leb-true, le-leb, eqb-true}
use Rattle.model.specs.Lists.{sum}
use Rattle.model.specs.Atom.{operands, atom_of}
use Rattle.model.specs.Formula.{Formula, prefix, ahead, one, two, sign, token, spelt, formulas_in, single, formula_of, weigh, tokens, atoms}
use Rattle.model.specs.Formula.Formula.{atom, not, and, or, possibly, always}
use Rattle.codec.specs.Formulas.{formulas}
use Rattle.codec.proofs.Bytes.{Bytes, bytes-cons, bytes-append, bytes_tail, bytes_drop}
use Rattle.codec.proofs.Cases.{none-some, cases}
use Rattle.codec.proofs.Atoms.{sign-none, operands-small, spelling, SmallAtom, atom-bytes, bytes-atom}

-- FUEL

-- What is made of a token depends only on what is made of the bytes after it.
token_same :
    (go on : List ℕ → Option (List Formula)) (t : ℕ) (q : List ℕ) (o : Option ℕ)
    → ((p : List ℕ) → length p ≤ length q → go p ≡ on p)
    → token go t q o ≡ token on t q o
unfolding token
token_same go on t q (some k) e = rw (e (drop k q) (simp length-drop (omega arith)))
token_same go on t q none e = rw (e q (omega arith))

-- Any two amounts of fuel that suffice give the same.
fuel : (m k : ℕ) (q : List ℕ) → length q < m → length q < k → formulas_in m q ≡ formulas_in k q
unfolding formulas_in spelt
fuel zero k q h g = absurd (omega arith)
fuel (suc m) zero q h g = absurd (omega arith)
fuel (suc m) (suc k) [] h g = refl
fuel (suc m) (suc k) (t ∷ q) h g = token_same (formulas_in m) (formulas_in k) t q (operands t) (λ p l. fuel m k p (omega arith) (omega arith))

-- Fuel does not matter.
pub formulas-in : (m : ℕ) (q : List ℕ) → length q < m → formulas_in m q ≡ formulas q
formulas-in m q h = fuel m (suc (length q)) q h (omega arith)

-- No bytes spell no formula; else the first token decides.
pub formulas-none : formulas [] ≡ some []
unfolding formulas_in spelt
formulas-none = refl

pub formulas-token : (t : ℕ) (q : List ℕ) → formulas (t ∷ q) ≡ token formulas t q (operands t)
unfolding formulas_in spelt
formulas-token t q = token_same (formulas_in (suc (length q))) formulas t q (operands t) (λ p l. formulas-in (suc (length q)) p (omega arith))

-- An atom's token is followed by its bytes, any other by what its sign takes.
pub formulas-atom : (t k : ℕ) (q : List ℕ) → operands t ≡ some k → k ≤ length q → formulas (t ∷ q) ≡ ahead (atom (atom_of t q)) (formulas (drop k q))
unfolding token
formulas-atom t k q e h = formulas-token t q ∙ rw (e, le-leb k (length q) h)

pub formulas-sign : (t : ℕ) (q : List ℕ) → operands t ≡ none → formulas (t ∷ q) ≡ sign t (formulas q)
unfolding token
formulas-sign t q e = formulas-token t q ∙ rw e

-- THE PREFIX FORM READS BACK

pub one-ahead : (c : Formula → Formula) (f : Formula) (o : Option (List Formula)) → one c (ahead f o) ≡ ahead (c f) o
unfolding one ahead
one-ahead c f none = refl
one-ahead c f (some l) = refl

pub two-ahead : (c : Formula → Formula → Formula) (f g : Formula) (o : Option (List Formula)) → two c (ahead f (ahead g o)) ≡ ahead (c f g) o
unfolding two ahead
two-ahead c f g none = refl
two-ahead c f g (some l) = refl

-- A prefix form in front of bytes brings its formula in front of theirs.
pub formulas-prefix : (f : Formula) (q : List ℕ) → formulas (prefix f ++ q) ≡ ahead f (formulas q)
unfolding prefix sign
formulas-prefix (atom a) q =
    let s = spelling a in
    rw s.are (formulas-atom s.token (length s.bytes) (s.bytes ++ q) s.many (omega (arith, length-append s.bytes q))
    ∙ rw (s.back q, drop-append_seam s.bytes q))
formulas-prefix (not f) q = formulas-sign 2 (prefix f ++ q) (sign-none 2 (omega arith) (omega arith)) ∙ rw (formulas-prefix f q) (one-ahead not f (formulas q))
formulas-prefix (and f g) q =
    formulas-sign 3 ((prefix f ++ prefix g) ++ q) (sign-none 3 (omega arith) (omega arith))
    ∙ rw (append_assoc (prefix f) (prefix g) q, formulas-prefix f (prefix g ++ q), formulas-prefix g q) (two-ahead and f g (formulas q))
formulas-prefix (or f g) q =
    formulas-sign 4 ((prefix f ++ prefix g) ++ q) (sign-none 4 (omega arith) (omega arith))
    ∙ rw (append_assoc (prefix f) (prefix g) q, formulas-prefix f (prefix g ++ q), formulas-prefix g q) (two-ahead or f g (formulas q))
formulas-prefix (possibly f) q = formulas-sign 5 (prefix f ++ q) (sign-none 5 (omega arith) (omega arith)) ∙ rw (formulas-prefix f q) (one-ahead possibly f (formulas q))
formulas-prefix (always f) q = formulas-sign 6 (prefix f ++ q) (sign-none 6 (omega arith) (omega arith)) ∙ rw (formulas-prefix f q) (one-ahead always f (formulas q))

-- A prefix form spells its formula.
pub formula-prefix : (f : Formula) → formula_of (prefix f) ≡ some f
unfolding formula_of single ahead
formula-prefix f =
    let e : formulas (prefix f) ≡ ahead f (some []) = rw (← append-nil (prefix f)) (formulas-prefix f [] ∙ ap (ahead f) formulas-none) in
    rw e

-- WHAT BYTES SPELL

-- The bytes q spell the formulas l, one after another.
pub data Spells : List ℕ → List Formula → Type 0 where
  s_none : Spells [] []
  s_atom : {t k : ℕ} {q : List ℕ} {l : List Formula} → operands t ≡ some k → k ≤ length q → Spells (drop k q) l → Spells (t ∷ q) (atom (atom_of t q) ∷ l)
  s_not : {q : List ℕ} {f : Formula} {l : List Formula} → Spells q (f ∷ l) → Spells (0x02 ∷ q) (not f ∷ l)
  s_and : {q : List ℕ} {f g : Formula} {l : List Formula} → Spells q (f ∷ g ∷ l) → Spells (0x03 ∷ q) (and f g ∷ l)
  s_or : {q : List ℕ} {f g : Formula} {l : List Formula} → Spells q (f ∷ g ∷ l) → Spells (0x04 ∷ q) (or f g ∷ l)
  s_possibly : {q : List ℕ} {f : Formula} {l : List Formula} → Spells q (f ∷ l) → Spells (0x05 ∷ q) (possibly f ∷ l)
  s_always : {q : List ℕ} {f : Formula} {l : List Formula} → Spells q (f ∷ l) → Spells (0x06 ∷ q) (always f ∷ l)

ahead-some : (f : Formula) (o : Option (List Formula)) (l : List Formula) → ahead f o ≡ some l → (r : List Formula) × (o ≡ some r) × (l ≡ f ∷ r)
unfolding ahead
ahead-some f none l e = none-some e
ahead-some f (some r) l e = (r, refl, cc)

one-some : (c : Formula → Formula) (o : Option (List Formula)) (l : List Formula) → one c o ≡ some l → (f : Formula) × (r : List Formula) × (o ≡ some (f ∷ r)) × (l ≡ c f ∷ r)
unfolding one
one-some c none l e = none-some e
one-some c (some []) l e = none-some e
one-some c (some (f ∷ r)) l e = (f, r, refl, cc)

two-some :
    (c : Formula → Formula → Formula) (o : Option (List Formula)) (l : List Formula)
    → two c o ≡ some l
    → (f g : Formula) × (r : List Formula) × (o ≡ some (f ∷ g ∷ r)) × (l ≡ c f g ∷ r)
unfolding two
two-some c none l e = none-some e
two-some c (some []) l e = none-some e
two-some c (some (f ∷ [])) l e = none-some e
two-some c (some (f ∷ g ∷ r)) l e = (f, g, r, refl, cc)

-- What go makes of bytes is what they spell.
abbrev Reads : (List ℕ → Option (List Formula)) → Type 0
Reads go = (q : List ℕ) (l : List Formula) → go q ≡ some l → Spells q l

module _ (go : List ℕ → Option (List Formula)) (reads : Reads go) (q : List ℕ) (l : List Formula) where
  by_one : (c : Formula → Formula) (t k : ℕ) → eqb t k ≡ true → one c (go q) ≡ some l → ((f : Formula) (r : List Formula) → Spells q (f ∷ r) → Spells (k ∷ q) (c f ∷ r)) → Spells (t ∷ q) l
  by_one c t k h e s =
      let x = one-some c (go q) l e in
      rw (eqb-true t k h, x.3) (s _ _ (reads q _ x.2))

  by_two : (c : Formula → Formula → Formula) (t k : ℕ) → eqb t k ≡ true → two c (go q) ≡ some l → ((f g : Formula) (r : List Formula) → Spells q (f ∷ g ∷ r) → Spells (k ∷ q) (c f g ∷ r)) → Spells (t ∷ q) l
  by_two c t k h e s =
      let x = two-some c (go q) l e in
      rw (eqb-true t k h, x.4) (s _ _ _ (reads q _ x.3))

  by_sign : (t : ℕ) → sign t (go q) ≡ some l → Spells (t ∷ q) l
  unfolding sign
  by_sign t e =
      cases (eqb t 2) e (λ k e. by_one not t 2 k e (λ f r. s_not)) (λ k e.
      cases (eqb t 3) e (λ k e. by_two and t 3 k e (λ f g r. s_and)) (λ k e.
      cases (eqb t 4) e (λ k e. by_two or t 4 k e (λ f g r. s_or)) (λ k e.
      cases (eqb t 5) e (λ k e. by_one possibly t 5 k e (λ f r. s_possibly)) (λ k e.
      cases (eqb t 6) e (λ k e. by_one always t 6 k e (λ f r. s_always)) (λ k e.
      none-some e)))))

by_token : (go : List ℕ → Option (List Formula)) (reads : Reads go) (t : ℕ) (q : List ℕ) (l : List Formula) (o : Option ℕ) → operands t ≡ o → token go t q o ≡ some l → Spells (t ∷ q) l
unfolding token
by_token go reads t q l (some k) h e =
    cases (leb k (length q)) e (λ b e.
    let x = ahead-some (atom (atom_of t q)) (go (drop k q)) l e in
    rw x.2 (s_atom h (leb-true k (length q) b) (reads (drop k q) _ x.1)))
    (λ b e. none-some e)
by_token go reads t q l none h e = by_sign go reads q l t e

reads_in : (m : ℕ) → Reads (formulas_in m)
unfolding formulas_in spelt
reads_in zero q l e = none-some e
reads_in (suc m) [] l e = let n : l ≡ [] = cc in rw n s_none
reads_in (suc m) (t ∷ q) l e = by_token (formulas_in m) (reads_in m) t q l (operands t) refl e

-- Formulas that are read from bytes are spelt by them.
pub formulas_spell : (q : List ℕ) (l : List Formula) → formulas q ≡ some l → Spells q l
formulas_spell q l e = reads_in (suc (length q)) q l e

-- THE BYTES THAT SPELL A FORMULA ARE ITS PREFIX FORM

-- What each atom names fits its bytes.
abbrev pub Small : Formula → Type 0
Small (atom a) = SmallAtom a
Small (not f) = Small f
Small (and f g) = Small f × Small g
Small (or f g) = Small f × Small g
Small (possibly f) = Small f
Small (always f) = Small f

-- Each of the formulas is small.
abbrev pub Smalls : List Formula → Type 0
Smalls [] = Unit {0}
Smalls (f ∷ l) = Small f × Smalls l

-- The prefix forms one after another.
unfoldable pub prefixes : List Formula → List ℕ
prefixes [] = []
prefixes (f ∷ l) = prefix f ++ prefixes l

spelt_by : {q : List ℕ} {l : List Formula} → Spells q l → Bytes q → (prefixes l ≡ q) × Smalls l
unfolding prefixes prefix
spelt_by s_none h = (refl, tt)
spelt_by (s_atom {t = t} {k = k} {q = q} e g r) h =
    let b = bytes_tail t q h in
    let x = atom-bytes t k q e g b in
    let ih = spelt_by r (bytes_drop k q b) in
    (rw (x.0, ih.0) (ap (λ (p : List ℕ). t ∷ p) (take-append-drop k q)), (x.1, ih.1))
spelt_by (s_not r) h = let ih = spelt_by r (λ i. h (suc i)) in (ap (λ (x : List ℕ). 0x02 ∷ x) ih.0, ih.1)
spelt_by (s_and {f = f} {g = g} {l = l} r) h =
    let ih = spelt_by r (λ i. h (suc i)) in
    (ap (λ (x : List ℕ). 0x03 ∷ x) (append_assoc (prefix f) (prefix g) (prefixes l) ∙ ih.0), ((ih.1.0, ih.1.1.0), ih.1.1.1))
spelt_by (s_or {f = f} {g = g} {l = l} r) h =
    let ih = spelt_by r (λ i. h (suc i)) in
    (ap (λ (x : List ℕ). 0x04 ∷ x) (append_assoc (prefix f) (prefix g) (prefixes l) ∙ ih.0), ((ih.1.0, ih.1.1.0), ih.1.1.1))
spelt_by (s_possibly r) h = let ih = spelt_by r (λ i. h (suc i)) in (ap (λ (x : List ℕ). 0x05 ∷ x) ih.0, ih.1)
spelt_by (s_always r) h = let ih = spelt_by r (λ i. h (suc i)) in (ap (λ (x : List ℕ). 0x06 ∷ x) ih.0, ih.1)

-- Bytes are the prefix forms of the formulas they spell.
pub prefixes-formulas : (q : List ℕ) (l : List Formula) → Bytes q → formulas q ≡ some l → (prefixes l ≡ q) × Smalls l
prefixes-formulas q l h e = spelt_by (formulas_spell q l e) h

single-some : (o : Option (List Formula)) (f : Formula) → single o ≡ some f → o ≡ some (f ∷ [])
unfolding single
single-some none f e = none-some e
single-some (some []) f e = none-some e
single-some (some (g ∷ [])) f e = cc
single-some (some (g ∷ h ∷ l)) f e = none-some e

-- Bytes that spell exactly one formula.
pub formulas-formula : (q : List ℕ) (f : Formula) → formula_of q ≡ some f → formulas q ≡ some (f ∷ [])
unfolding formula_of
formulas-formula q f e = single-some (formulas q) f e

-- Bytes that spell a formula are its prefix form.
pub prefix-formula : (q : List ℕ) (f : Formula) → Bytes q → formula_of q ≡ some f → (prefix f ≡ q) × Small f
unfolding prefixes
prefix-formula q f h e =
    let x = prefixes-formulas q (f ∷ []) h (formulas-formula q f e) in
    (sym (append-nil (prefix f)) ∙ x.0, x.1.0)

-- The prefix form of a small formula is bytes.
pub bytes-prefix : (f : Formula) → Small f → Bytes (prefix f)
unfolding prefix
bytes-prefix (atom a) h = bytes-atom a h
bytes-prefix (not f) h = bytes-cons 0x02 (prefix f) (omega arith) (bytes-prefix f h)
bytes-prefix (and f g) h = bytes-cons 0x03 (prefix f ++ prefix g) (omega arith) (bytes-append (prefix f) (prefix g) (bytes-prefix f h.0) (bytes-prefix g h.1))
bytes-prefix (or f g) h = bytes-cons 0x04 (prefix f ++ prefix g) (omega arith) (bytes-append (prefix f) (prefix g) (bytes-prefix f h.0) (bytes-prefix g h.1))
bytes-prefix (possibly f) h = bytes-cons 0x05 (prefix f) (omega arith) (bytes-prefix f h)
bytes-prefix (always f) h = bytes-cons 0x06 (prefix f) (omega arith) (bytes-prefix f h)

-- LENGTHS

-- A byte for each token, and at most five more for each atom.
abbrev pub size : Formula → ℕ
size f = tokens f + 5 * atoms f

length-spelt : {q : List ℕ} {l : List Formula} → Spells q l → length q ≤ sum size l
unfolding sum weigh
length-spelt s_none = omega arith
length-spelt (s_atom {t = t} {k = k} {q = q} e g r) = omega (arith, length-spelt r, length-drop k q, operands-small t k e)
length-spelt (s_not r) = omega (arith, length-spelt r)
length-spelt (s_and r) = omega (arith, length-spelt r)
length-spelt (s_or r) = omega (arith, length-spelt r)
length-spelt (s_possibly r) = omega (arith, length-spelt r)
length-spelt (s_always r) = omega (arith, length-spelt r)

pub length-formula : (q : List ℕ) (f : Formula) → formula_of q ≡ some f → length q ≤ size f
unfolding sum
length-formula q f e = omega (arith, length-spelt (formulas_spell q (f ∷ []) (formulas-formula q f e)))

-- Only no bytes spell no formula.
spelt-none : {q : List ℕ} → Spells q [] → q ≡ []
spelt-none s_none = refl

pub formulas-empty : (q : List ℕ) → formulas q ≡ some [] → q ≡ []
formulas-empty q e = spelt-none (formulas_spell q [] e)
