-- The bytes of a merged log's frames: what is read of them is what was read of the two logs' frames.
use mathlib.Core.Path.{◌≡◌, refl, ap, ap₂, ◌∙◌}
use Prim.Native.Nat.{ℕ, zero, suc, ◌+◌, ◌-◌, ◌*◌, ◌≤◌}
use native.Mathlib.Nat.{zero-mul, suc-mul}
use native.Mathlib.Omega.{arith}
use mathlib.Core.Bool.{Bool, true, false}
use mathlib.Core.List.{List, [], ◌∷◌, ◌++◌, append_assoc}
use lib.ListN.{length, take, drop, length-append, length-drop, length-replicate}
use lib.Seq.{length-take-le, drop_at, drop-drop}
use Rattle.model.specs.Cut.{Cut, empty}
use Rattle.model.specs.Computation.{Report}
use Rattle.model.specs.Frames.{word}
use Rattle.model.specs.Reading.{report_size, report_of, reports_of, station_of, event_of}
use Rattle.model.specs.Beside.{padded}
use Rattle.model.specs.Merge.{report_bytes, reports_bytes, event_bytes}

-- Reports carry a panel in the result if they do here.
abbrev pub Covers : Bool → Bool → Type 0
Covers p w = report_size p ≤ report_size w

-- REPORTS

report_cases : (g : List ℕ) (p w : Bool) → Covers p w → (f : List ℕ) → report_size p ≤ length f → report_of w (report_bytes p w f ++ g) ≡ report_of p f
unfolding report_of report_bytes report_size word
report_cases g true true c (x ∷ y ∷ z ∷ t ∷ f) h = refl
report_cases g true true c (x ∷ y ∷ z ∷ []) h = absurd (omega arith)
report_cases g true true c (x ∷ y ∷ []) h = absurd (omega arith)
report_cases g true true c (x ∷ []) h = absurd (omega arith)
report_cases g true true c [] h = absurd (omega arith)
report_cases g true false c f h = absurd (omega arith)
report_cases g false true c (x ∷ y ∷ f) h = refl
report_cases g false true c (x ∷ []) h = absurd (omega arith)
report_cases g false true c [] h = absurd (omega arith)
report_cases g false false c (x ∷ y ∷ f) h = refl
report_cases g false false c (x ∷ []) h = absurd (omega arith)
report_cases g false false c [] h = absurd (omega arith)

module _ (p w : Bool) (c : Covers p w) where
  pub length-report : (f : List ℕ) → report_size p ≤ length f → length (report_bytes p w f) ≡ report_size w
  unfolding report_bytes
  length-report f h = omega (arith, length-append (take (report_size p) f) (empty (report_size w - report_size p)), length-take-le (report_size p) f h, length-replicate {A = ℕ} (report_size w - report_size p) 0)

  pub report_again : (f g : List ℕ) → report_size p ≤ length f → report_of w (report_bytes p w f ++ g) ≡ report_of p f
  report_again f g h = report_cases g p w c f h

  pub length-reports : (n : ℕ) (f : List ℕ) → n * report_size p ≤ length f → length (reports_bytes p w n f) ≡ n * report_size w
  unfolding reports_bytes
  length-reports zero f h = omega (arith, zero-mul (report_size w))
  length-reports (suc n) f h =
      let l : n * report_size p ≤ length (drop (report_size p) f) = omega (arith, suc-mul n (report_size p), length-drop (report_size p) f) in
      omega (arith, length-append (report_bytes p w f) (reports_bytes p w n (drop (report_size p) f)), length-report f (omega (arith, suc-mul n (report_size p))), length-reports n (drop (report_size p) f) l, suc-mul n (report_size w))

  pub reports_again : (n : ℕ) (f g : List ℕ) → n * report_size p ≤ length f → reports_of w n (reports_bytes p w n f ++ g) ≡ reports_of p n f
  unfolding reports_bytes reports_of
  reports_again zero f g h = refl
  reports_again (suc n) f g h =
      let rest = reports_bytes p w n (drop (report_size p) f) in
      let here : report_size p ≤ length f = omega (arith, suc-mul n (report_size p)) in
      let l : n * report_size p ≤ length (drop (report_size p) f) = omega (arith, suc-mul n (report_size p), length-drop (report_size p) f) in
      rw (append_assoc (report_bytes p w f) rest g, report_again f (rest ++ g) here, drop_at (report_bytes p w f) (rest ++ g) (report_size w) (length-report f here), reports_again n (drop (report_size p) f) g l) refl

-- The reports at the front, and those behind them.
pub reports-more : (w : Bool) (n k : ℕ) (f : List ℕ) → reports_of w (n + k) f ≡ reports_of w n f ++ reports_of w k (drop (n * report_size w) f)
unfolding reports_of
reports-more w zero k f = let e : 0 + k ≡ k = omega arith in rw (e, zero-mul (report_size w)) refl
reports-more w (suc n) k f =
    let e : suc n + k ≡ suc (n + k) = omega arith in
    let d : report_size w + n * report_size w ≡ suc n * report_size w = omega (arith, suc-mul n (report_size w)) in
    rw (e, reports-more w n k (drop (report_size w) f), drop-drop (n * report_size w) (report_size w) f, d) refl

-- EVENTS

module _ (p w : Bool) (c : Covers p w) (a b n : ℕ) (f : List ℕ) (size : length f ≡ 1 + report_size p + n) where
  room : report_size p ≤ length (drop 1 f)
  room = omega (arith, length-drop 1 f)

  pub length-event : length (event_bytes p w a b f) ≡ 1 + report_size w + (a + (n + b))
  unfolding event_bytes
  length-event =
      let v = drop (1 + report_size p) f in
      omega (arith, length-append (report_bytes p w (drop 1 f)) (empty a ++ (v ++ empty b)), length-report p w c (drop 1 f) room, length-append (empty a) (v ++ empty b), length-append v (empty b), length-replicate {A = ℕ} a 0, length-replicate {A = ℕ} b 0, length-drop (1 + report_size p) f)

  pub station_again : station_of (event_bytes p w a b f) ≡ a + station_of f
  unfolding event_bytes
  station_again = refl

  pub event_again : event_of w (event_bytes p w a b f) ≡ padded a b (event_of p f)
  unfolding event_bytes
  event_again =
      let v = empty a ++ (drop (1 + report_size p) f ++ empty b) in
      let e : 1 + report_size w ≡ suc (report_size w) = omega arith in
      ap₂ (λ (r : Report) (k : Cut). record { report = r; clock = k }) (report_again p w c (drop 1 f) v room)
      (ap (λ (k : ℕ). drop k ((a + station_of f) ∷ (report_bytes p w (drop 1 f) ++ v))) e ∙ drop_at (report_bytes p w (drop 1 f)) v (report_size w) (length-report p w c (drop 1 f) room))
