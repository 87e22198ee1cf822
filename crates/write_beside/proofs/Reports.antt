-- Reports put one after the other, and the header that they stand in: what is put behind what was put is put with it. Assumes nothing.
use mathlib.Core.Path.{◌≡◌, refl, sym, ap, ◌∙◌}
use Prim.Native.Nat.{ℕ, suc, ◌+◌, ◌-◌, ◌*◌, ◌≤◌, ◌<◌}
use native.Mathlib.Nat.{zero-mul, suc-mul, mul-le-mul_right}
use native.Mathlib.Omega.{arith}
use mathlib.Core.Bool.{Bool, true}
use mathlib.Core.List.{List, [], ◌∷◌, ◌++◌, append_assoc, append-nil}
use lib.ListN.{length, take, drop, set, length-append, length-drop}
use lib.Seq.{length-take-le}
use Rattle.model.specs.Cut.{empty}
use Rattle.model.specs.Reading.{report_size, header_kind}
use Rattle.model.specs.Merge.{report_bytes, reports_bytes}
use Rattle.lattice.proofs.Reports.{size-carried, reports-size, report_in}
use Rattle.codec.proofs.MergeBytes.{Covers, length-report, length-reports}
use Rattle.cells.specs.Put.{put_of}
use Rattle.cells.proofs.Puts.{length-put, put-nil, put_two, put-put}
use Rattle.write_beside.specs.declared.Side.{Side}
use Rattle.write_beside.specs.Moved.{header_size, header_of, Headers}
use Rattle.write_beside.proofs.Lines.{put_taken}

-- ONE REPORT

pub report-put : (p w : Bool) (d f x y : List ℕ) (at own size end : ℕ) → own ≡ report_size p → size ≡ report_size w → own ≤ length f → at ≤ length d
    → end ≡ at + own → x ≡ put_of d at (take own f) → y ≡ put_of x end (empty (size - own))
    → y ≡ put_of d at (report_bytes p w f)
unfolding report_bytes
report-put p w d f x y at own size end e g h l a q r =
    let s = take own f in
    let n : length s ≡ own = length-take-le own f h in
    r ∙ ap (λ (t : List ℕ). put_of t end (empty (size - own))) q ∙ ap (λ (i : ℕ). put_of (put_of d at s) i (empty (size - own))) (omega (arith, a, n))
    ∙ put-put d s (empty (size - own)) at l ∙ rw (e, g) refl

-- ALL REPORTS OF A HEADER

-- k of n are put, the first of f: they end at `end` of x, and those left stand at the front of rest
pub record Reported (p w : Bool) (n : ℕ) (f d : List ℕ) (at : ℕ) (x rest : List ℕ) (end k : ℕ) : Type 0 where
  pub covers : Covers p w
  pub room : at + n * report_size w ≤ length d
  pub within : k ≤ n
  pub left : (n - k) * report_size p ≤ length rest
  pub ends : end ≡ at + k * report_size w
  pub written : List ℕ
  pub size : length written ≡ k * report_size w
  pub whole : reports_bytes p w n f ≡ written ++ reports_bytes p w (n - k) rest
  pub is : x ≡ put_of d at written

module _ {p w : Bool} {n : ℕ} {f d : List ℕ} {at : ℕ} where
  pub reported_none : Covers p w → n * report_size p ≤ length f → at + n * report_size w ≤ length d → Reported p w n f d at d f at 0
  reported_none c l m = let e : n - 0 ≡ n = omega arith in record {
    covers = c;
    room = m;
    within = omega arith;
    left = rw e l;
    ends = omega (arith, zero-mul (report_size w));
    written = [];
    size = sym (zero-mul (report_size w));
    whole = rw e refl;
    is = sym (put-nil d at);
  }

  module _ {x rest : List ℕ} {end k : ℕ} (r : Reported p w n f d at x rest end k) where
    pub reported_length : length x ≡ length d
    reported_length = ap length r.is ∙ length-put d r.written at (omega (arith, r.size, r.room, mul-le-mul_right (report_size w) r.within))

    module _ (h : k < n) where
      one-less : n - k ≡ suc (n - (k + 1))
      one-less = omega arith

      pub next_in : report_size p ≤ length rest
      next_in = omega (arith, r.left, ap (λ (m : ℕ). m * report_size p) one-less, suc-mul (n - (k + 1)) (report_size p))

      pub next_fits : end + report_size w ≤ length x
      next_fits = omega (arith, r.ends, r.room, reported_length, report_in w k n h)

      next-whole : reports_bytes p w (n - k) rest ≡ report_bytes p w rest ++ reports_bytes p w (n - (k + 1)) (drop (report_size p) rest)
      unfolding reports_bytes
      next-whole = rw one-less refl

      pub reported_more : (own : ℕ) → own ≡ report_size p → (y : List ℕ) (last : ℕ) → last ≡ end + report_size w → y ≡ put_of x end (report_bytes p w rest)
          → Reported p w n f d at y (drop own rest) last (k + 1)
      reported_more own o y last e u =
          let b = report_bytes p w rest in
          let l : length b ≡ report_size w = length-report p w r.covers rest next_in in
          let z : end ≡ at + length r.written = omega (arith, r.ends, r.size) in
          record {
            covers = r.covers;
            room = r.room;
            within = omega arith;
            left = omega (arith, o, r.left, ap (λ (m : ℕ). m * report_size p) one-less, suc-mul (n - (k + 1)) (report_size p), length-drop own rest);
            ends = omega (arith, r.ends, suc-mul k (report_size w));
            written = r.written ++ b;
            size = omega (arith, length-append r.written b, l, r.size, suc-mul k (report_size w));
            whole = r.whole ∙ ap (λ (t : List ℕ). r.written ++ t) next-whole ∙ sym (append_assoc r.written b (reports_bytes p w (n - (k + 1)) (drop (report_size p) rest))) ∙ rw o refl;
            is = u ∙ rw (r.is, z) (put-put d r.written b at (omega (arith, r.room)));
          }

    pub reported_all : n ≤ k → (end ≡ at + n * report_size w) × (x ≡ put_of d at (reports_bytes p w n f))
    unfolding reports_bytes
    reported_all h =
        let m : k ≡ n = omega (arith, r.within) in
        let o : n - k ≡ 0 = omega arith in
        let z : reports_bytes p w n f ≡ r.written = r.whole ∙ rw o (append-nil r.written) in
        (r.ends ∙ rw m refl, r.is ∙ ap (put_of d at) (sym z))

-- THE HEADER

module _ {s t : Side} {f g : List ℕ} (h : Headers s f t g) where
  abbrev first_reports : List ℕ
  first_reports = reports_bytes s.panelled s.carried t.before (drop 2 f)

  abbrev second_reports : List ℕ
  second_reports = reports_bytes t.panelled t.carried s.behind (drop 2 g)

  length-first : length first_reports ≡ t.before * report_size s.carried
  length-first = length-reports s.panelled s.carried h.first t.before (drop 2 f) (omega (arith, h.first_long, length-drop 2 f))

  length-second : length second_reports ≡ s.behind * report_size t.carried
  length-second = length-reports t.panelled t.carried h.second s.behind (drop 2 g) (omega (arith, h.second_long, length-drop 2 g))

  pub reports-fit : 2 + t.before * report_size s.carried + s.behind * report_size t.carried ≤ header_size
  reports-fit = omega (arith, h.few, reports-size s.carried t.before, reports-size t.carried s.behind, size-carried true refl)

  length_header : length (header_of s f t g) ≡ 2 + t.before * report_size s.carried + s.behind * report_size t.carried
  length_header = omega (arith, length-append first_reports second_reports, length-first, length-second)

  pub header_fits : length (header_of s f t g) ≤ header_size
  header_fits = omega (arith, length_header, reports-fit)

  -- two bytes, the reports of the first, those of the second
  pub header_put : (d x y : List ℕ) (kind middle last : ℕ) → length d ≡ header_size → kind ≡ header_kind s.carried
      → middle ≡ 2 + t.before * report_size s.carried → x ≡ put_of (set (set d 0 kind) 1 (t.before + s.behind)) 2 first_reports
      → last ≡ middle + s.behind * report_size t.carried → y ≡ put_of x middle second_reports
      → (last ≡ length (header_of s f t g)) × (take last y ≡ header_of s f t g)
  header_put d x y kind middle last l e m q n r =
      let two = kind ∷ (t.before + s.behind) ∷ [] in
      let long : 2 ≤ length d = omega (arith, l) in
      let seam : middle ≡ 0 + length (two ++ first_reports) = omega (arith, m, length-first) in
      let all : last ≡ length (header_of s f t g) = omega (arith, n, m, length_header) in
      let front : x ≡ put_of d 0 (two ++ first_reports) = q ∙ rw (put_two d 0 kind (t.before + s.behind) (omega arith)) (put-put d two first_reports 0 (omega arith)) in
      let both : y ≡ put_of d 0 ((two ++ first_reports) ++ second_reports) = r ∙ rw (front, seam) (put-put d (two ++ first_reports) second_reports 0 (omega arith)) in
      let is : y ≡ put_of d 0 (header_of s f t g) = both ∙ rw e refl in
      (all, ap (take last) is ∙ put_taken d (header_of s f t g) last all)
