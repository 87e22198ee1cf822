-- Answer lines written one behind the other are those of the questions so far.
use mathlib.Core.Path.{◌≡◌, refl, sym, ap, subst, ◌∙◌}
use mathlib.Core.List.{List, [], ◌∷◌, ◌++◌, append-nil, append_assoc}
use mathlib.Core.Option.{some}
use Prim.Native.Nat.{ℕ, zero, suc, ◌+◌, ◌-◌, ◌≤◌, ◌<◌}
use native.Mathlib.Omega.{arith}
use native.Mathlib.Numerals.{add-one}
use lib.ListN.{length, take, drop, get_elem?, length-append, length-drop}
use lib.Seq.{take_at, drop_at, take_all, drop-drop}
use borrow.Rule.Slice.PartMut.{put_mid}
use Rattle.model.specs.declared.Limits.{Limits}
use Rattle.model.specs.Limits.{print_limits, line_size}
use Rattle.structure.specs.declared.Run.{Run}
use Rattle.model.specs.Formula.{Formula, prefix}
use Rattle.model.specs.Computation.{Computation}
use Rattle.model.specs.Answer.{answer, answer_line}
use Rattle.model.specs.Operations.{answer_lines}
use Rattle.codec.proofs.Suited.{print_suitable}
use Rattle.codec.proofs.Demands.{asked-line-fits}
use Rattle.load.specs.declared.Loaded.{Loaded}
use Rattle.load.specs.Loading.{Accepts}
use Rattle.cells.proofs.Parts.{put_end}
use Rattle.line.specs.AtFront.{AtFront}
use Rattle.question.specs.Questions.{Question}
use Rattle.opening.specs.Prepared.{Prepared}
use Rattle.question.proofs.Posed.{question}
use Rattle.opening.proofs.Logs.{question-there, question-count, is-asked, good-at}

lines-append : (K : Computation) (l m : List Formula) → answer_lines K (l ++ m) ≡ answer_lines K l ++ answer_lines K m
unfolding answer_lines
lines-append K [] m = refl
lines-append K (f ∷ l) m = rw (lines-append K l m, append_assoc)

take-question : (l : List Formula) (i : ℕ) (f : Formula) → get_elem? l i ≡ some f → take (suc i) l ≡ take i l ++ (f ∷ [])
take-question [] i f e = let z : ◌≡◌ {A = ℕ} 0 1 = cc in absurd (omega arith)
take-question (g ∷ l) zero f e = let z : g ≡ f = cc in ap (λ (x : Formula). x ∷ []) z
take-question (g ∷ l) (suc i) f e = ap (λ (x : List Formula). g ∷ x) (take-question l i f e)

-- One more question, one more line.
lines_more : (K : Computation) (l : List Formula) (i : ℕ) (f : Formula) → get_elem? l i ≡ some f → answer_lines K (take (i + 1) l) ≡ answer_lines K (take i l) ++ answer_line (answer K f)
unfolding answer_lines
lines_more K l i f e = rw (add-one, take-question l i f e, lines-append, append-nil)

-- A line written behind others: they stand together, and behind them all is as it was.
line-behind : (l line was out part : List ℕ) (end r : ℕ) → end ≤ length out → AtFront l end was out
    → AtFront line r (take (length out - end) (drop end out)) part → AtFront (l ++ line) (end + r) was (put_mid end (length out - end) out part)
line-behind l line was out part end r h w v =
    let size : length l ≡ end = sym w.size in
    let before : take end out ≡ l = ap (take end) w.front ∙ take_at l (drop (length l) was) end size in
    let behind : drop end out ≡ drop (length l) was = ap (drop end) w.front ∙ drop_at l (drop (length l) was) end size in
    let rest : take (length out - end) (drop end out) ≡ drop (length l) was = take_all (length out - end) (drop end out) (omega (arith, length-drop end out)) ∙ behind in
    let here : part ≡ line ++ drop (length l + length line) was = v.front ∙ rw (rest, drop-drop) in
    record {
      size = omega (arith, w.size, v.size, length-append l line);
      front = put_end end out part h ∙ rw (before, here, length-append, append_assoc);
    }

-- The lines to the first i questions stand at the front of the output, and end at `end`.
pub record Printing (l : Loaded) (list : List ℕ) (run : Run) (was out : List ℕ) (end i : ℕ) : Type 0 where
  pub is : (p : Prepared print_limits l list run) → AtFront (answer_lines p.accepts.reading.computation (take i p.accepts.reading.questions)) end was out

pub printing_none : (l : Loaded) (list : List ℕ) (run : Run) (was : List ℕ) → Printing l list run was was 0 0
unfolding answer_lines
printing_none l list run was = record { is = λ p. record { size = refl; front = refl } }

module _ {l : Loaded} {list : List ℕ} {run : Run} (out : List ℕ) (end i : ℕ) (h : i < l.state.questions) (inside : end ≤ length out) (bytes : List ℕ)
    (found : (m : Limits) (log t : List ℕ) (a : Accepts m log l.state l.length list t) (f : Formula) → get_elem? a.reading.questions i ≡ some f → bytes ≡ prefix f) (r : ℕ) (part : List ℕ)
    (put : (K : Computation) (f : Formula) → Question K f run bytes → AtFront (answer_line (answer K f)) r (take (length out - end) (drop end out)) part) where
  there : (p : Prepared print_limits l list run) → (f : Formula) × (get_elem? p.accepts.reading.questions i ≡ some f)
  there p = question-there p.accepts.reading.questions i (omega (arith, question-count p.accepts))

  written : (p : Prepared print_limits l list run) → AtFront (answer_line (answer p.accepts.reading.computation (there p).0)) r (take (length out - end) (drop end out)) part
  written p = put p.accepts.reading.computation (there p).0 (question p.accepts.reading.computation (there p).0 (good-at p.accepts i (there p).0 (there p).1) bytes (found print_limits p.log p.store p.accepts (there p).0 (there p).1) p.laid)

  -- One more line, within the size of a line.
  pub line-short : Prepared print_limits l list run → r ≤ line_size
  line-short p = omega (arith, (written p).size, asked-line-fits print_suitable (is-asked p.accepts i (there p).0 (there p).1))

  pub printing_more : {was : List ℕ} → Printing l list run was out end i → Printing l list run was (put_mid end (length out - end) out part) (end + r) (i + 1)
  printing_more {was} g = record {
    is = λ p.
        subst (λ y. AtFront y (end + r) was (put_mid end (length out - end) out part)) (sym (lines_more p.accepts.reading.computation p.accepts.reading.questions i (there p).0 (there p).1))
        (line-behind _ _ was out part end r inside (g.is p) (written p));
  }

-- At the end all questions are answered.
pub printing_all : {l : Loaded} {list : List ℕ} {run : Run} {was out : List ℕ} {end i : ℕ} → Printing l list run was out end i → l.state.questions ≤ i
    → (p : Prepared print_limits l list run) → AtFront (answer_lines p.accepts.reading.computation p.accepts.reading.questions) end was out
printing_all {was = was} {out = out} {end = end} {i = i} g h p =
    subst (λ y. AtFront (answer_lines p.accepts.reading.computation y) end was out) (take_all i p.accepts.reading.questions (omega (arith, question-count p.accepts))) (g.is p)
