-- The frames and the questions agree: the frames of questions stand last, one a question, and each spells its question.
use mathlib.Core.Path.{◌≡◌, refl, sym, ap, ◌∙◌}
use mathlib.Core.Logic.{◌≢◌}
use Prim.Native.Nat.{ℕ, zero, suc, ◌+◌, ◌<◌}
use native.Mathlib.Omega.{arith}
use mathlib.Core.Bool.{Bool, true, false, cond}
use mathlib.Core.List.{List, [], ◌∷◌, ◌++◌, map, append-nil, append_assoc, map-append}
use mathlib.Core.Option.{Option, some}
use lib.ListN.{length, get_or, get_elem?, length-append, length-map}
use lib.Seq.{get_or-append-add}
use lib.Dec.{eqb}
use borrow.Author.Tests.{ne_eqb}
use Rattle.model.specs.Formula.{Formula, spelt, formulas_in, single, formula_of}
use Rattle.codec.proofs.Snoc.{empty-list, get_or-snoc}

-- The frame of a question: its kind, then the bytes that spell it.
abbrev pub as_frame : List ℕ → List ℕ
as_frame q = 0x30 ∷ q

-- The kind of a frame.
abbrev pub kind_of : List ℕ → ℕ
kind_of f = get_or f 0 0

-- The frames of questions, each without its kind.
unfoldable pub question_frames : List (List ℕ) → List (List ℕ)
question_frames [] = []
question_frames ([] ∷ l) = question_frames l
question_frames ((k ∷ f) ∷ l) = cond (eqb k 0x30) (f ∷ question_frames l) (question_frames l)

-- Other frames, then those of the questions.
pub record Framed (frames : List (List ℕ)) (questions : List Formula) : Type 0 where
  pub front : List (List ℕ)
  pub asks : List (List ℕ)
  pub split : frames ≡ front ++ map as_frame asks
  pub others : (i : ℕ) → kind_of (get_or front i []) ≢ 0x30
  pub spelt : map formula_of asks ≡ map some questions

-- ONE MORE FRAME

pub framed_none : Framed [] []
framed_none = record { front = []; asks = []; split = refl; others = λ i. omega arith; spelt = refl }

no_asks : {frames : List (List ℕ)} (g : Framed frames []) → g.asks ≡ []
no_asks g = empty-list g.asks (sym (length-map g.asks formula_of) ∙ ap length g.spelt)

pub framed_other : {frames : List (List ℕ)} (f : List ℕ) → kind_of f ≢ 0x30 → Framed frames [] → Framed (frames ++ (f ∷ [])) []
framed_other {frames} f d g = record { front = g.front ++ (f ∷ []); asks = []; split = rw alone (sym (append-nil (g.front ++ (f ∷ [])))); others = get_or-snoc (λ x. kind_of x ≢ 0x30) g.front f [] g.others d; spelt = refl }
  where
    alone : frames ≡ g.front
    alone = g.split ∙ ap (λ (l : List (List ℕ)). g.front ++ map as_frame l) (no_asks g) ∙ append-nil g.front

pub framed_question : {frames : List (List ℕ)} {questions : List Formula} (f : List ℕ) (φ : Formula) → formula_of f ≡ some φ → Framed frames questions → Framed (frames ++ (as_frame f ∷ [])) (questions ++ (φ ∷ []))
framed_question {frames} {questions} f φ is g = record {
  front = g.front;
  asks = g.asks ++ (f ∷ []);
  split = rw (g.split, map-append as_frame g.asks (f ∷ [])) (append_assoc g.front (map as_frame g.asks) (as_frame f ∷ []));
  others = g.others;
  spelt = rw (map-append formula_of g.asks (f ∷ []), map-append {B = Option Formula} some questions (φ ∷ []), g.spelt, is);
}

-- BACK TO THE QUESTIONS

question_frames-append : (a b : List (List ℕ)) → question_frames (a ++ b) ≡ question_frames a ++ question_frames b
unfolding question_frames
question_frames-append [] b = refl
question_frames-append ([] ∷ a) b = question_frames-append a b
question_frames-append ((k ∷ f) ∷ a) b = by (eqb k 0x30) (question_frames-append a b)
  where
    by : (t : Bool) → question_frames (a ++ b) ≡ question_frames a ++ question_frames b
        → cond t (f ∷ question_frames (a ++ b)) (question_frames (a ++ b)) ≡ cond t (f ∷ question_frames a) (question_frames a) ++ question_frames b
    by true h = ap (λ (l : List (List ℕ)). f ∷ l) h
    by false h = h

question_frames-as_frame : (asks : List (List ℕ)) → question_frames (map as_frame asks) ≡ asks
unfolding question_frames
question_frames-as_frame [] = refl
question_frames-as_frame (q ∷ asks) = ap (λ (l : List (List ℕ)). q ∷ l) (question_frames-as_frame asks)

question_frames-others : (front : List (List ℕ)) → ((i : ℕ) → kind_of (get_or front i []) ≢ 0x30) → question_frames front ≡ []
unfolding question_frames
question_frames-others [] d = refl
question_frames-others ([] ∷ front) d = question_frames-others front (λ i. d (suc i))
question_frames-others ((k ∷ f) ∷ front) d = rw (ne_eqb k 0x30 (d 0)) (question_frames-others front (λ i. d (suc i)))

spelt-at : (asks : List (List ℕ)) (questions : List Formula) → map formula_of asks ≡ map some questions → (q : ℕ) → formula_of (get_or asks q []) ≡ get_elem? questions q
unfolding formula_of single formulas_in spelt
spelt-at [] [] e q = refl
spelt-at [] (φ ∷ questions) e q = let z : ◌≡◌ {A = ℕ} 0 1 = cc in absurd (omega arith)
spelt-at (a ∷ asks) [] e q = let z : ◌≡◌ {A = ℕ} 0 1 = cc in absurd (omega arith)
spelt-at (a ∷ asks) (φ ∷ questions) e zero = cc
spelt-at (a ∷ asks) (φ ∷ questions) e (suc q) = spelt-at asks questions (cc) q

get_or-as_frame : (asks : List (List ℕ)) (q : ℕ) → q < length asks → get_or (map as_frame asks) q [] ≡ as_frame (get_or asks q [])
get_or-as_frame [] q h = absurd (omega arith)
get_or-as_frame (a ∷ asks) zero h = refl
get_or-as_frame (a ∷ asks) (suc q) h = get_or-as_frame asks q (omega arith)

module _ {frames : List (List ℕ)} {questions : List Formula} (g : Framed frames questions) where
  pub question_frames_asks : question_frames frames ≡ g.asks
  question_frames_asks = rw (g.split, question_frames-append, question_frames-as_frame, question_frames-others g.front g.others)

  pub question_frames_spell : map formula_of (question_frames frames) ≡ map some questions
  question_frames_spell = rw question_frames_asks g.spelt

  -- Frame number q of a question spells question number q; past the last there is neither.
  pub question-spelt : (q : ℕ) → formula_of (get_or (question_frames frames) q []) ≡ get_elem? questions q
  question-spelt q = spelt-at (question_frames frames) questions question_frames_spell q

  pub length-question_frames : length (question_frames frames) ≡ length questions
  length-question_frames = sym (length-map (question_frames frames) formula_of) ∙ ap length question_frames_spell ∙ length-map {B = Option Formula} questions some

  pub length-frames : length frames ≡ length g.front + length questions
  length-frames = rw (g.split, length-append, length-map, ← question_frames_asks, length-question_frames)

  -- Where it stands.
  pub question-place : (q : ℕ) → q < length questions → get_or frames (length g.front + q) [] ≡ as_frame (get_or (question_frames frames) q [])
  question-place q h = rw (question_frames_asks, g.split, get_or-append-add) (get_or-as_frame g.asks q (omega (arith, ap length question_frames_asks, length-question_frames)))
