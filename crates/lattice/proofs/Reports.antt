-- Reports one after another: as many as asked for, each at its place; and with no panel carried each panel is 0.
use mathlib.Core.Path.{◌≡◌, refl, sym, ap, ◌∙◌}
use mathlib.Core.Logic.{◌≢◌}
use Prim.Native.Nat.{ℕ, zero, suc, ◌+◌, ◌*◌, ◌≤◌, ◌<◌}
use native.Mathlib.Nat.{zero-mul, suc-mul}
use native.Mathlib.Omega.{arith}
use mathlib.Core.Bool.{Bool, true, false}
use mathlib.Core.List.{List}
use lib.ListN.{length, get_or, drop}
use lib.Seq.{drop-drop}
use Rattle.model.specs.Computation.{no_report}
use Rattle.model.specs.Reading.{report_size, report_of, reports_of, header_kind}

-- A report has two bytes or four.
pub report-size : (p : Bool) → (2 ≤ report_size p) × (report_size p ≤ 4)
unfolding report_size
report-size true = omega arith
report-size false = omega arith

pub size-carried : (p : Bool) → p ≡ true → report_size p ≡ 4
unfolding report_size
size-carried p e = rw e refl

pub size_plain : (p : Bool) → p ≡ false → report_size p ≡ 2
unfolding report_size
size_plain p e = rw e refl

-- A header is no frame of another kind.
pub header-kind : (k : ℕ) → k ≢ 0x10 → k ≢ 0x11 → (p : Bool) → header_kind p ≢ k
unfolding header_kind
header-kind k h g true e = g (sym e)
header-kind k h g false e = h (sym e)

-- n of them have at most 4 * n, and each of them is within.
pub reports-size : (p : Bool) (n : ℕ) → n * report_size p ≤ 4 * n
unfolding report_size
reports-size true n = omega arith
reports-size false n = omega arith

pub report_in : (p : Bool) (j n : ℕ) → j < n → j * report_size p + report_size p ≤ n * report_size p
unfolding report_size
report_in true j n h = omega arith
report_in false j n h = omega arith

pub length-reports : (p : Bool) (n : ℕ) (f : List ℕ) → length (reports_of p n f) ≡ n
unfolding reports_of
length-reports p zero f = refl
length-reports p (suc n) f = ap suc (length-reports p n (drop (report_size p) f))

-- Report j stands behind j of them.
pub report-at : (p : Bool) (n : ℕ) (f : List ℕ) (j : ℕ) → j < n → get_or (reports_of p n f) j no_report ≡ report_of p (drop (j * report_size p) f)
unfolding reports_of
report-at p zero f j h = absurd (omega arith)
report-at p (suc n) f zero h = rw (zero-mul (report_size p)) refl
report-at p (suc n) f (suc j) h =
    let x : report_size p + j * report_size p ≡ suc j * report_size p = omega (arith, suc-mul j (report_size p)) in
    report-at p n (drop (report_size p) f) j (omega arith) ∙ ap (report_of p) (drop-drop (j * report_size p) (report_size p) f ∙ ap (λ (m : ℕ). drop m f) x)

-- With no panel carried.
pub plain_reports : (n : ℕ) (f : List ℕ) (j : ℕ) → (get_or (reports_of false n f) j no_report).panel ≡ 0
unfolding reports_of report_of
plain_reports zero f j = refl
plain_reports (suc n) f zero = refl
plain_reports (suc n) f (suc j) = plain_reports n (drop (report_size false) f) j
