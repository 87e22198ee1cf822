-- Laws of the header: its form, and the table that stands once its slots are open. Assumes nothing.
use mathlib.Core.Path.{◌≡◌, refl, sym, ap, ◌∙◌}
use mathlib.Core.Bool.{Bool, true, false, and-false}
use mathlib.Core.List.{List, [], ◌∷◌, ◌++◌}
use Prim.Native.Nat.{ℕ, zero, suc, ◌+◌, ◌*◌, ◌<◌, ◌≤◌}
use native.Mathlib.Omega.{arith}
use native.Mathlib.Nat.{add_comm, le_trans}
use lib.Dec.{ltb}
use borrow.Author.Tests.{eq-eqb, ne_eqb, le-leb, lt-leb, ltb-true, ltb-false}
use lib.ListN.{length, take, drop, get_or, length-drop, length-replicate, get_or-replicate, get_or-eq_default}
use lib.Seq.{get_or-drop, get_or-take, length-take-le, drop-drop, ext_get_or}
use Rattle.model.specs.declared.Limits.{Limits}
use Rattle.model.specs.declared.Fault.TheVariants.{Kind, Header}
use Rattle.model.specs.Limits.{limits, stored_report}
use Rattle.model.specs.Lists.{between}
use Rattle.model.specs.Cut.{◌!◌, empty}
use Rattle.model.specs.Computation.{Report, stations, no_report, clock, report}
use Rattle.model.specs.Reading.{Reading, report_size, report_of, reports_of, header_kind, header_form, opened, with_header, check, admit_header}
use Rattle.lattice.proofs.Reports.{length-reports, report-at}
use Rattle.lattice.proofs.Histories.{length-opened, count-opened, event_count-opened}
use Rattle.codec.specs.Limits.{NoLarger}
use Rattle.codec.proofs.Messages.{messages-opened}
use Rattle.table.specs.Table.{slot, Stored}
use Rattle.table.specs.Opening.{opening, Open}
use Rattle.table.proofs.Slots as slots
use Rattle.table.proofs.Slots.{clock-at, report_back, clock_back}
use Rattle.table.proofs.Messages.{none-posted}
use Rattle.frame.specs.declared.State.{State}
use Rattle.frame.specs.State.{after_header, Bounded, Represents, Goes, Admitted, Faulty}
use Rattle.frame.specs.Header.{Headed}
use Rattle.frame.proofs.Steps.{kind_header, kind-front, begun-not, begun_yes}

-- FORM
module _ (m : Limits) (p : Bool) (f : List ℕ) where
  pub short : length f < 2 → header_form m p (drop 1 f) ≡ false
  unfolding header_form
  short h = rw (lt-leb 1 (length (drop 1 f)) (simp length-drop (omega arith)))

  second-byte : get_or (drop 1 f) 0 0 ≡ get_or f 1 0
  second-byte = get_or-drop 1 f 0 0

  pub none : get_or f 1 0 ≡ 0 → header_form m p (drop 1 f) ≡ false
  unfolding header_form between
  none h = rw (second-byte, h) (simp and-false)

  pub many : m.stations < get_or f 1 0 → header_form m p (drop 1 f) ≡ false
  unfolding header_form between
  many h = rw (second-byte, lt-leb (get_or f 1 0) m.stations h) (simp and-false)

  pub uneven : 1 ≤ length f → (length f ≡ get_or f 1 0 * report_size p + 2 → ⊥) → header_form m p (drop 1 f) ≡ false
  unfolding header_form
  uneven l h = rw (second-byte, ne_eqb (length (drop 1 f)) (1 + get_or f 1 0 * report_size p) (λ e. h (omega (arith, length-drop 1 f)))) (simp and-false)

  pub headed : 0 < get_or f 1 0 → get_or f 1 0 ≤ m.stations → length f ≡ get_or f 1 0 * report_size p + 2 → Headed m p f (get_or f 1 0)
  unfolding header_form between
  headed o q h =
      let l : length (drop 1 f) ≡ 1 + get_or f 1 0 * report_size p = omega (arith, length-drop 1 f) in
      record {
        few = q;
        some = o;
        right = rw (second-byte, l, le-leb 1 (1 + get_or f 1 0 * report_size p) (omega arith), le-leb 1 (get_or f 1 0) o, le-leb (get_or f 1 0) m.stations q, eq-eqb (1 + get_or f 1 0 * report_size p) (1 + get_or f 1 0 * report_size p) refl);
        is = refl;
        long = h;
      }

-- what the tests of the form say, one by one
pub ruleset forms = (short, none, many, uneven, headed)

-- FAULTS

module _ (m : Limits) (p : Bool) {s : State} (f t : List ℕ) (some_bytes : 1 ≤ length f) (kind : get_or f 0 0 ≡ header_kind p) where
  pub second : (s.stations ≡ 0 → ⊥) → Faulty m s f t Kind t
  unfolding admit_header check
  second e = record { is = λ r h. kind_header m r p f some_bytes kind ∙ rw (begun_yes h e); kept = refl }

  pub misshapen : s.stations ≡ 0 → header_form m p (drop 1 f) ≡ false → Faulty m s f t Header t
  unfolding admit_header check
  misshapen e w = record { is = λ r h. kind_header m r p f some_bytes kind ∙ rw (begun-not h e, w); kept = refl }

-- THE TABLE OF THE FIRST REPORTS

zeros : (n : ℕ) → n ≤ limits.stations → take n (empty limits.stations) ≡ empty n
zeros n h =
    let k : length (take n (empty limits.stations)) ≡ n = length-take-le n (empty limits.stations) h in
    ext_get_or 0 _ _ (k ∙ sym (length-replicate {A = ℕ} n 0)) (λ i l.
    get_or-take n (empty limits.stations) i 0 (omega arith) ∙ get_or-replicate {A = ℕ} limits.stations i 0 0 (omega arith) ∙ sym (get_or-replicate {A = ℕ} n i 0 0 (omega arith)))

pub zero-at : (j : ℕ) → empty limits.stations ! j ≡ 0
zero-at j = case (ltb j limits.stations) refl where
  case : (b : Bool) → ltb j limits.stations ≡ b → empty limits.stations ! j ≡ 0
  case true q = get_or-replicate {A = ℕ} limits.stations j 0 0 (ltb-true j limits.stations q)
  case false q = get_or-eq_default (empty limits.stations) 0 (ltb-false j limits.stations q)

module _ {p : Bool} {f t : List ℕ} {n : ℕ} (few : n ≤ limits.stations) (o : Open p f n t) where
  first : List Report
  first = reports_of p n (drop 2 f)

  sized : length first ≡ n
  unfolding first
  sized = length-reports p n (drop 2 f)

  first-report : (j : ℕ) → j < n → report_of true (drop (slot j 0) t) ≡ get_or first j no_report
  unfolding first
  first-report j l =
      slots.report-at limits.stations (slot j 0) t (opening p f j) (o.at j l)
      ∙ report_back p (drop (j * report_size p + 2) f) (empty limits.stations)
      ∙ sym (report-at p n (drop 2 f) j l ∙ ap (report_of p) (drop-drop (j * report_size p) 2 f ∙ ap (λ (i : ℕ). drop i f) (add_comm 2 (j * report_size p))))

  first-clock : (j : ℕ) → j < n → take n (drop (slot j 0 + stored_report) t) ≡ empty n
  first-clock j l =
      clock-at limits.stations (slot j 0) t (opening p f j) (o.at j l) n few
      ∙ ap (take n) (clock_back p (drop (j * report_size p + 2) f) (empty limits.stations)) ∙ zeros n few

  stored-first : Stored (opened (reports_of p n (drop 2 f))) n (empty limits.stations) t
  unfolding opened report clock first
  stored-first = record {
    size = sized;
    each = λ j. zero-at j ∙ sym (count-opened first j);
    table = record {
      reports = λ j k l m. at-report j k (rw sized at l) (omega (arith, count-opened first j));
      clocks = λ j k l m. at-clock j k (rw sized at l) (omega (arith, count-opened first j));
    };
  } where
    at-report : (j k : ℕ) → j < n → k ≤ 0 → report_of true (drop (slot j k) t) ≡ report (opened first) j k
    at-report j zero l m = first-report j l
    at-report j (suc k) l m = absurd (omega arith)

    at-clock : (j k : ℕ) → j < n → k ≤ 0 → take (stations (opened first)) (drop (slot j k + stored_report) t) ≡ clock (opened first) j k
    at-clock j zero l m = rw sized (first-clock j l)
    at-clock j (suc k) l m = absurd (omega arith)

-- THE STEP

module _ {m : Limits} (up : NoLarger m limits) {s : State} {p : Bool} {f t t' : List ℕ} {n : ℕ} (b : Bounded m s) (d : Headed m p f n) (o : Open p f n t') (some_bytes : 1 ≤ length f) (kind : get_or f 0 0 ≡ header_kind p) (e : s.stations ≡ 0) where
  goes : (r : Reading) → Represents r s t → Goes m r f (after_header s p n) t'
  unfolding admit_header check opened
  goes r h =
      let i : get_or (drop 1 f) 0 0 ≡ n = second-byte m p f ∙ sym d.is in
      let v = reports_of p n (drop 2 f) in
      record {
        after = with_header p r (drop 1 f);
        step = kind_header m r p f some_bytes kind ∙ rw (begun-not h e, d.right);
        frames = ap (λ (x : List ℕ). r.frames ++ (x ∷ [])) (kind-front f (header_kind p) some_bytes kind);
        holds = rw (i, drop-drop 1 1 f) (record {
          panelled = refl;
          stored = stored-first (le_trans d.few up.stations) o;
          posted = none-posted t' (messages-opened v);
          sizes = length-opened v;
          events = sym (event_count-opened v);
          messages = sym (ap length (messages-opened v));
          questions = h.questions;
        });
      }

  pub header_next : Admitted m s f t (after_header s p n) t'
  header_next = record {
    bounded = record { few_stations = d.few; few_events = omega arith; few_messages = omega arith; few_questions = b.few_questions; eight = refl; each = λ j. rw (zero-at j) (omega arith) };
    goes = goes;
  }
