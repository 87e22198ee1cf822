-- What is at the front of a token and the bytes after it, from what is at the front of those bytes: a law for each arity.
use Rattle.std.specs.Prelude as prelude
use mathlib.Core.Path.{◌≡◌, refl, sym, ap, ap₂, ◌∙◌}
use mathlib.Core.Bool.{Bool, true, false, ◌&&◌, beq, not as negated}
use mathlib.Core.List.{List, [], ◌∷◌}
use mathlib.Core.Option.{none}
use Prim.Native.Nat.{ℕ, ◌+◌, ◌≤◌}
use native.Mathlib.Numerals.{add-one}
use native.Mathlib.Omega.{arith}
use lib.ListN.{length, drop, length-drop}
use lib.Seq.{drop-drop}
use Rattle.model.specs.Formula.{Formula, ahead, one, two, sign, weigh, tokens, atoms, sound}
use Rattle.model.specs.Formula.Formula.{not}
use Rattle.model.specs.Rules.{Normal, workable}
use Rattle.lattice.specs.Signed.{normal, two as joining, modal, joined_form, lifted_form}
use Rattle.lattice.proofs.Signed.{normal-not, normal-two, normal-modal, weigh-two, weigh-modal, sound-two, sound-modal, workable-two, workable-modal}
use Rattle.codec.specs.Formulas.{formulas}
use Rattle.codec.proofs.Atoms.{sign-none}
use Rattle.codec.proofs.Formulas.{formulas-none, formulas-sign, one-ahead, two-ahead}
use Rattle.extents.specs.declared.Figures.{Figures}
use Rattle.atoms.specs.declared.Size.{Size}
use Rattle.extents.specs.Extents.{extent_of}
use Rattle.atoms.specs.Measured.{first, Sized}
use Rattle.query.specs.Sizes.{Short, Longer, Together, modal_byte, pair_byte}
use Rattle.extents.proofs.Extents.{extent-small}
use Rattle.query.proofs.Formulas.{one-first, two-first, two-second}

-- TOKENS

-- COUNTS

-- A sign of one operand adds a token that is no atom.
record Unary (n : ℕ) (c : Formula → Formula) : Type 0 where
  pub more : (f : Formula) → tokens (c f) ≡ 1 + tokens f
  pub same : (f : Formula) → atoms (c f) ≡ 0 + atoms f
  pub sound_same : (f : Formula) → sound n (c f) ≡ sound n f

unary_not : (n : ℕ) → Unary n not
unfolding weigh sound
unary_not n = record { more = λ f. refl; same = λ f. refl; sound_same = λ f. refl }

unary_modal : (n : ℕ) (b : Bool) → Unary n (modal b)
unary_modal n b = record { more = weigh-modal 1 1 1 b; same = weigh-modal 1 0 0 b; sound_same = sound-modal n b }

-- WHAT A SIZE TELLS

pub sized-short : {n : ℕ} {s : Bool} {q : List ℕ} {z : Size} → length q ≤ 99 → Sized n s q z → Short z
sized-short {s = s} h x =
    record {
      used = omega arith;
      tokens = omega arith;
      atoms = omega arith;
      extent = rw x.extent (extent-small s x.formula (omega (arith, x.atoms)));
    }

-- NO TOKEN

pub nothing-empty : (q : List ℕ) → length q ≡ 0 → first (formulas q) ≡ none
unfolding first
nothing-empty [] h = rw formulas-none
nothing-empty (t ∷ q) h = absurd (omega arith)

-- ONE OPERAND

sized-one :
    {n : ℕ} {s o : Bool} {t : ℕ} {q : List ℕ} {z r : Size} {i : prelude.Option Figures} (c : Formula → Formula)
    → Unary n c
    → formulas (t ∷ q) ≡ one c (formulas q)
    → (x : Sized n o q z)
    → workable (normal s (c x.formula)) ≡ workable (normal o x.formula)
    → i ≡ extent_of (normal s (c x.formula))
    → Longer z i r
    → Sized n s (t ∷ q) r
sized-one {t = t} {q = q} {z = z} {r = r} c u k x w i l =
    let d : drop r.used (t ∷ q) ≡ drop z.used q = rw (l.used, add-one) in
    record {
      formula = c x.formula;
      reads = k ∙ ap (one c) x.reads ∙ one-ahead c x.formula _ ∙ ap (λ (p : List ℕ). ahead (c x.formula) (formulas p)) (sym d);
      within = omega arith;
      few_tokens = omega arith;
      few_atoms = omega arith;
      tokens = omega (arith, u.more x.formula);
      atoms = omega (arith, u.same x.formula);
      sound = l.sound ∙ x.sound ∙ sym (u.sound_same x.formula);
      workable = l.workable ∙ x.workable ∙ sym w;
      extent = l.extent ∙ i;
    }

spelt-not : (q : List ℕ) → formulas (2 ∷ q) ≡ one not (formulas q)
unfolding sign
spelt-not q = formulas-sign 2 q (sign-none 2 (omega arith) (omega arith))

pub nothing-not : (q : List ℕ) → first (formulas q) ≡ none → first (formulas (2 ∷ q)) ≡ none
nothing-not q p = ap first (spelt-not q) ∙ one-first not (formulas q) p

pub sized-not : {n : ℕ} {s : Bool} {q : List ℕ} {z r : Size} → Sized n (negated s) q z → Longer z z.extent r → Sized n s (2 ∷ q) r
sized-not {n} {s} {q} x l =
    let e = normal-not s x.formula in
    sized-one not (unary_not n) (spelt-not q) x (ap workable e) (x.extent ∙ ap extent_of (sym e)) l

spelt-modal : (b : Bool) (q : List ℕ) → formulas (modal_byte b ∷ q) ≡ one (modal b) (formulas q)
unfolding sign
spelt-modal true q = formulas-sign 5 q (sign-none 5 (omega arith) (omega arith))
spelt-modal false q = formulas-sign 6 q (sign-none 6 (omega arith) (omega arith))

module _ (b : Bool) (q : List ℕ) where
  pub nothing-modal : first (formulas q) ≡ none → first (formulas (modal_byte b ∷ q)) ≡ none
  nothing-modal p = ap first (spelt-modal b q) ∙ one-first (modal b) (formulas q) p

  pub sized-modal :
      {n : ℕ} {s : Bool} {z r : Size} {i : prelude.Option Figures}
      → Sized n b q z
      → ((p : Normal) → z.extent ≡ extent_of p → i ≡ extent_of (lifted_form (beq b s) p))
      → Longer z i r
      → Sized n s (modal_byte b ∷ q) r
  sized-modal {n} {s} x i k =
      sized-one (modal b) (unary_modal n b) (spelt-modal b q) x (workable-modal s b x.formula)
      (i (normal b x.formula) x.extent ∙ ap extent_of (sym (normal-modal s b x.formula))) k

-- TWO OPERANDS

spelt-two : (b : Bool) (q : List ℕ) → formulas (pair_byte b ∷ q) ≡ two (joining b) (formulas q)
unfolding sign
spelt-two true q = formulas-sign 3 q (sign-none 3 (omega arith) (omega arith))
spelt-two false q = formulas-sign 4 q (sign-none 4 (omega arith) (omega arith))

module _ (b : Bool) (q : List ℕ) where
  pub nothing_left : first (formulas q) ≡ none → first (formulas (pair_byte b ∷ q)) ≡ none
  nothing_left p = ap first (spelt-two b q) ∙ two-first (joining b) (formulas q) p

  module _ {n : ℕ} {s : Bool} {y : Size} (x : Sized n s q y) where
    pub nothing_right : first (formulas (drop y.used q)) ≡ none → first (formulas (pair_byte b ∷ q)) ≡ none
    nothing_right p =
        ap first (spelt-two b q ∙ ap (two (joining b)) x.reads) ∙ two-second (joining b) x.formula _ p

    pub sized-two :
        {z r : Size} {i : prelude.Option Figures}
        → Sized n s (drop y.used q) z
        → ((p o : Normal) → y.extent ≡ extent_of p → z.extent ≡ extent_of o → i ≡ extent_of (joined_form (beq b s) p o))
        → Together y z i r
        → Sized n s (pair_byte b ∷ q) r
    sized-two {z} {r} w i k =
        let f = x.formula in
        let g = w.formula in
        let d : drop r.used (pair_byte b ∷ q) ≡ drop z.used (drop y.used q) = rw (k.used, add-one, drop-drop) in
        record {
          formula = joining b f g;
          reads =
              spelt-two b q
              ∙ ap (two (joining b)) (x.reads ∙ ap (ahead f) w.reads)
              ∙ two-ahead (joining b) f g _
              ∙ ap (λ (p : List ℕ). ahead (joining b f g) (formulas p)) (sym d);
          within = omega (arith, length-drop y.used q);
          few_tokens = omega arith;
          few_atoms = omega arith;
          tokens = omega (arith, weigh-two 1 1 1 b f g);
          atoms = omega (arith, weigh-two 1 0 0 b f g);
          sound = k.sound ∙ ap₂ ◌&&◌ x.sound w.sound ∙ sym (sound-two n b f g);
          workable = k.workable ∙ ap₂ ◌&&◌ x.workable w.workable ∙ sym (workable-two s b f g);
          extent = k.extent ∙ i (normal s f) (normal s g) x.extent w.extent ∙ ap extent_of (sym (normal-two s b f g));
        }
