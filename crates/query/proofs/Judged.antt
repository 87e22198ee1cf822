-- The verdict on a question follows from what is at its front.
use Rattle.std.specs.Prelude.{Ok, Err, None, Some}
use Rattle.model.specs.declared.Fault.TheVariants as fault
use mathlib.Core.Path.{◌≡◌, refl, sym, ap, ◌∙◌}
use mathlib.Core.Bool.{true, false, cond, ◌&&◌}
use mathlib.Core.List.{List, [], ◌∷◌}
use mathlib.Core.Option.{Option, none, some}
use Prim.Native.Nat.{ℕ, ◌<◌, ◌≤◌}
use native.Mathlib.Omega.{arith}
use borrow.Author.Tests.{le-leb, lt-leb}
use lib.Dec.{leb}
use lib.ListN.{length, drop, length-drop, drop_of_length-le}
use Rattle.model.specs.Formula.{Formula, prefix, ahead, single, formula_of, sound}
use Rattle.model.specs.Size.{narrow, fits}
use Rattle.model.specs.Rules.{as_true, workable}
use Rattle.codec.proofs.Cases.{none-some}
use Rattle.codec.specs.Formulas.{formulas}
use Rattle.codec.proofs.Formulas.{formulas-none, formulas-formula, formulas-empty, formula-prefix}
use Rattle.extents.specs.declared.Figures.{Figures}
use Rattle.atoms.specs.declared.Size.{Size}
use Rattle.extents.specs.Extents.{figures_of}
use Rattle.query.specs.Judged.{judged, figures_in}
use Rattle.atoms.specs.Measured.{first, Sized}
use Rattle.extents.proofs.Extents.{narrow_of, wide_of}

-- NOT EXACTLY ONE FORMULA

single-first : (o : Option (List Formula)) → first o ≡ none → single o ≡ none
unfolding first single
single-first none h = refl
single-first (some []) h = refl
single-first (some (f ∷ l)) h = none-some (sym h)

pub judged-nothing : (n : ℕ) (q : List ℕ) → first (formulas q) ≡ none → Err fault.Formula ≡ judged n (formula_of q)
unfolding judged formula_of
judged-nothing n q h = rw (single-first (formulas q) h)

ahead-alone : (f g : Formula) (o : Option (List Formula)) → ahead f o ≡ some (g ∷ []) → o ≡ some []
unfolding ahead
ahead-alone f g none e = none-some e
ahead-alone f g (some l) e = cc

module _ {n : ℕ} {q : List ℕ} {z : Size} (x : Sized n true q z) where
  pub judged-more : (z.used ≡ length q → ⊥) → Err fault.Formula ≡ judged n (formula_of q)
  unfolding judged
  judged-more h = go (formula_of q) refl
    where
      go : (o : Option Formula) → formula_of q ≡ o → Err fault.Formula ≡ judged n o
      go none e = refl
      go (some g) e =
          let r : formulas (drop z.used q) ≡ some [] = ahead-alone x.formula g _ (sym x.reads ∙ formulas-formula q g e) in
          absurd (h (omega (arith, ap length (formulas-empty (drop z.used q) r), length-drop z.used q, x.within)))

  -- EXACTLY ONE FORMULA

  module _ (h : z.used ≡ length q) where
    one-formula : formula_of q ≡ some x.formula
    unfolding formula_of single ahead
    one-formula = rw (x.reads, h, drop_of_length-le q {i = length q} (omega arith), formulas-none)

    pub judged_unsound : z.sound ≡ false → Err fault.Formula ≡ judged n (formula_of q)
    unfolding judged
    judged_unsound s = simp (one-formula, sym x.sound ∙ s)

    module _ (s : z.sound ≡ true) where
      -- With sound atoms the size is left, and whether each can be worked out.
      by_size : judged n (formula_of q) ≡ cond (leb z.tokens 32 && leb z.atoms 12 && narrow (as_true x.formula)) (cond (workable (as_true x.formula)) (Ok (figures_of (as_true x.formula))) (Err fault.Unworkable)) (Err fault.Size)
      unfolding judged fits
      by_size = simp (one-formula, sym x.sound ∙ s, x.tokens, x.atoms)

      pub judged-tokens : 32 < z.tokens → Err fault.Size ≡ judged n (formula_of q)
      judged-tokens t = sym (by_size ∙ simp (lt-leb _ _ t))

      pub judged-atoms : z.tokens ≤ 32 → 12 < z.atoms → Err fault.Size ≡ judged n (formula_of q)
      judged-atoms t a = sym (by_size ∙ simp (le-leb _ _ t, lt-leb _ _ a))

      pub judged_wide : z.tokens ≤ 32 → z.atoms ≤ 12 → z.extent ≡ None → Err fault.Size ≡ judged n (formula_of q)
      judged_wide t a w = sym (by_size ∙ simp (le-leb _ _ t, le-leb _ _ a, wide_of (as_true x.formula) (sym w ∙ x.extent)))

      module _ (g : Figures) (t : z.tokens ≤ 32) (a : z.atoms ≤ 12) (e : z.extent ≡ Some g) where
        pub judged_unworkable : z.workable ≡ false → Err fault.Unworkable ≡ judged n (formula_of q)
        judged_unworkable w =
            let k = narrow_of (as_true x.formula) g (sym e ∙ x.extent) in
            sym (by_size ∙ simp (le-leb _ _ t, le-leb _ _ a, k.narrow, sym x.workable ∙ w))

        pub judged_fine : z.workable ≡ true → Ok g ≡ judged n (formula_of q)
        judged_fine w =
            let k = narrow_of (as_true x.formula) g (sym e ∙ x.extent) in
            ap Ok k.figures ∙ sym (by_size ∙ simp (le-leb _ _ t, le-leb _ _ a, k.narrow, sym x.workable ∙ w))

-- A FINE QUESTION

module _ (n : ℕ) {q : List ℕ} (f : Formula) (e : q ≡ prefix f) (s : sound n f ≡ true) (h : fits f ≡ true) (w : workable (as_true f) ≡ true) where
  judged-prefix : judged n (formula_of q) ≡ Ok (figures_of (as_true f))
  unfolding judged
  judged-prefix = simp (e, formula-prefix f, s, h, w)

  -- Its figures are those of its formula as true.
  pub figures-prefix : {g : Figures} → g ≡ figures_in (judged n (formula_of q)) → g ≡ figures_of (as_true f)
  figures-prefix v = v ∙ ap figures_in judged-prefix
