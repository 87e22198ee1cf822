-- What the program prints for an accepted log: the lines that Answer writes, question by question, and demand 3 of each.
use mathlib.Core.Path.{◌≡◌, refl, ap}
use Prim.Native.Nat.{ℕ, zero, suc}
use mathlib.Core.List.{List, [], ◌∷◌, ◌++◌, map}
use mathlib.Core.Option.{some}
use lib.ListN.{length-map, get_elem?}
use Rattle.model.specs.Limits.{print_limits}
use Rattle.model.specs.Formula.{Formula}
use Rattle.model.specs.Computation.{Computation}
use Rattle.model.specs.Answer.{answer, in_row, answer_line}
use Rattle.model.specs.Reading.{Reading, accepted, read_log}
use Rattle.model.specs.Operations.{answer_lines, printed_of, printed}
use Rattle.model.specs.Promise.{Asked, Prints}
use Rattle.codec.proofs.Cases.{none-some}
use Rattle.codec.proofs.Demands.{asked-answered, asked_written}
use Rattle.codec.proofs.Suited.{suitable, print_suitable, print_within}
use Rattle.codec.proofs.Larger.{asked_up}

-- The line to a question.
abbrev line_to : Computation → Formula → List ℕ
line_to K f = answer_line (answer K f)

lines-row : (K : Computation) (l : List Formula) → answer_lines K l ≡ in_row (map (line_to K) l)
unfolding answer_lines in_row
lines-row K [] = refl
lines-row K (f ∷ l) = ap (λ (x : List ℕ). line_to K f ++ x) (lines-row K l)

-- Line q is that to question q.
line_at : (K : Computation) (l : List Formula) (q : ℕ) (line : List ℕ) → get_elem? (map (line_to K) l) q ≡ some line → (f : Formula) × (get_elem? l q ≡ some f) × (line ≡ line_to K f)
line_at K [] q line e = none-some e
line_at K (f ∷ l) zero line e = (f, refl, cc)
line_at K (f ∷ l) (suc q) line e = line_at K l q line e

module _ (log : List ℕ) (r : Reading) (e : read_log print_limits log ≡ accepted r) where
  asked : (q : ℕ) (f : Formula) → get_elem? r.questions q ≡ some f → Asked print_limits log q r.computation f
  asked q f i = record { panelled = r.panelled; frames = r.frames; questions = r.questions; reads = e; is = i }

  pub prints : Prints log r
  unfolding printed printed_of
  prints = record {
    lines = map (line_to r.computation) r.questions;
    whole = rw e (lines-row r.computation r.questions);
    as_many = length-map r.questions (line_to r.computation);
    answers = λ q f line i j.
        let x = line_at r.computation r.questions q line j in
        let same : x.0 ≡ f = cc in
        rw (x.2, same) (asked-answered print_suitable (asked q f i));
    unchanged = λ q f line i j ws bs out hw hb ho.
        let x = line_at r.computation r.questions q line j in
        let same : x.0 ≡ f = cc in
        rw (x.2, same) (asked_written suitable (asked_up print_within (asked q f i)) ws bs hw hb out ho);
  }
