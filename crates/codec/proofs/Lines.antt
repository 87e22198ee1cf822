-- Lines: a frame's line brings the frame, and a line that brings a frame is that frame's line. The check byte is the one byte that brings the sum to zero.
use mathlib.Core.Path.{◌≡◌, refl, sym, ap, ◌∙◌}
use mathlib.Core.Bool.{true}
use mathlib.Core.List.{List, [], ◌∷◌, ◌++◌, append_assoc}
use mathlib.Core.Option.{Option, none, some}
use Prim.Native.Nat.{ℕ, suc, ◌+◌, ◌-◌, ◌/◌, ◌%◌, ◌<◌, ◌≤◌}
use native.Mathlib.Omega.{arith}
use lib.Dec.{eqb}
use lib.ListN.{length, take, get_or, length-append}
use lib.Seq.{take_at, take-suc, take-length}
use borrow.Author.Tests.{eq-eqb, eqb-true}
use Rattle.model.specs.Lists.{total, between}
use Rattle.model.specs.Bytes.{more, push, lines_of, bytes, frame, bad, carried, items, hex, check_byte, line}
use Rattle.lattice.proofs.Sums.{sum-snoc}
use Rattle.codec.proofs.Bytes.{Bytes, bytes-none, bytes-cons, bytes-append, bytes_left, bytes-right}
use Rattle.codec.proofs.Cases.{cases, between-true, between_in}
use Rattle.codec.proofs.Frames.{Sized}
use Rattle.codec.proofs.Hex.{digit_no_end, bytes-hex, hex-bytes}
-- Two digits a byte, those of the check byte, and 0A.
pub use Rattle.lattice.proofs.Line.{length-line}

-- THE CHECK BYTE

-- A frame with its check byte.
abbrev pub checked : List ℕ → List ℕ
checked f = f ++ (check_byte f ∷ [])

-- The check byte brings the sum to zero.
pub check-zero : (f : List ℕ) → total (checked f) % 256 ≡ 0
unfolding check_byte
check-zero f = omega (arith, sum-snoc (λ x. x) f (check_byte f))

-- It is a byte.
pub check-byte : (f : List ℕ) → check_byte f < 256
unfolding check_byte
check-byte f = omega arith

-- No other byte does.
pub check_only : (f : List ℕ) (x : ℕ) → x < 256 → total (f ++ (x ∷ [])) % 256 ≡ 0 → x ≡ check_byte f
unfolding check_byte
check_only f x h e = omega (arith, sum-snoc (λ x. x) f x)

pub bytes-checked : (f : List ℕ) → Bytes f → Bytes (checked f)
bytes-checked f h = bytes-append f (check_byte f ∷ []) h (bytes-cons (check_byte f) [] (check-byte f) bytes-none)

pub length-checked : (f : List ℕ) → length (checked f) ≡ length f + 1
length-checked f = length-append f (check_byte f ∷ [])

-- A LINE OF DIGITS

-- Digits and then 0A are the first line.
pub lines-hex : (s t : List ℕ) → lines_of (hex s ++ (0x0A ∷ t)) ≡ more (hex s) (lines_of t)
unfolding lines_of push hex
lines-hex [] t = refl
lines-hex (x ∷ s) t = rw (digit_no_end (x / 16), digit_no_end (x % 16), lines-hex s t)

pub lines-line : (f t : List ℕ) → lines_of (line f ++ t) ≡ more (hex (checked f)) (lines_of t)
unfolding line
lines-line f t = rw (append_assoc (hex (checked f)) (0x0A ∷ []) t) (lines-hex (checked f) t)

-- A line reads back, whatever its length.
pub bytes-line : (f : List ℕ) → Bytes f → bytes (hex (checked f)) ≡ some (checked f)
bytes-line f h = bytes-hex (checked f) (bytes-checked f h)

snoc_same : (f g : List ℕ) (x y : ℕ) → f ++ (x ∷ []) ≡ g ++ (y ∷ []) → f ≡ g
snoc_same f g x y e =
    let n : length f ≡ length g = omega (arith, length-append f (x ∷ []), length-append g (y ∷ []), ap length e) in
    sym (take_at f (x ∷ []) (length g) n) ∙ ap (take (length g)) e ∙ take_at g (y ∷ []) (length g) refl

-- Two frames of bytes with one line are one frame.
pub line_same : (f g : List ℕ) → Bytes f → Bytes g → line f ≡ line g → f ≡ g
line_same f g h k e =
    let m : lines_of (line f ++ []) ≡ lines_of (line g ++ []) = rw e refl in
    let n : hex (checked f) ≡ hex (checked g) = cc (lines-line f [], lines-line g []) in
    let c : checked f ≡ checked g = cc (bytes-line f h, bytes-line g k, ap bytes n) in
    snoc_same f g (check_byte f) (check_byte g) c

-- WHAT A LINE BRINGS

-- A frame, its check byte not counted: 1 to 99 bytes.
pub record IsFrame (f : List ℕ) : Type 0 where
  pub sized : Sized f
  pub bytes : Bytes f

carried-checked : (f : List ℕ) → Sized f → carried (some (checked f)) ≡ frame f
unfolding carried
carried-checked f h =
    let n = length-checked f in
    let b : between 2 100 (length (checked f)) ≡ true = between_in 2 100 (length (checked f)) (omega arith) (omega arith) in
    let p : take (length (checked f) - 1) (checked f) ≡ f = take_at f (check_byte f ∷ []) (length (checked f) - 1) (omega arith) in
    rw (b, eq-eqb (total (checked f) % 256) 0 (check-zero f), p)

-- A frame's line in front of a log brings the frame first.
pub items-line : (f t : List ℕ) → IsFrame f → items (lines_of (line f ++ t)) ≡ frame f ∷ items (lines_of t)
unfolding items
items-line f t h = rw (lines-line f t, bytes-line f h.bytes, carried-checked f h.sized)

bad-frame : {B : Type 0} {k : ℕ} {f : List ℕ} → bad k ≡ frame f → B
bad-frame e = let z : ◌≡◌ {A = ℕ} 0 1 = cc in absurd (omega arith)

-- A list that is not empty, and its last number.
last : (l : List ℕ) → 1 ≤ length l → l ≡ take (length l - 1) l ++ (get_or l (length l - 1) 0 ∷ [])
last l h =
    let n : suc (length l - 1) ≡ length l = omega arith in
    sym (take-length l) ∙ ap (λ (k : ℕ). take k l) (sym n) ∙ take-suc l (length l - 1) 0 (omega arith)

-- What a line with the frame f carries: f, its last byte, a sum of zero.
record Carried (o : Option (List ℕ)) (f : List ℕ) : Type 0 where
  pub check : ℕ
  pub whole : o ≡ some (f ++ (check ∷ []))
  pub sized : Sized f
  pub balanced : total (f ++ (check ∷ [])) % 256 ≡ 0

carried-good : (g f : List ℕ) → between 2 100 (length g) ≡ true → total g % 256 ≡ 0 → frame (take (length g - 1) g) ≡ frame f → Carried (some g) f
carried-good g f t z e =
    let h = between-true 2 100 (length g) t in
    let x = get_or g (length g - 1) 0 in
    let p : take (length g - 1) g ≡ f = cc in
    let q : g ≡ f ++ (x ∷ []) = last g (omega arith) ∙ ap (λ (t : List ℕ). t ++ (x ∷ [])) p in
    let n = length-append f (x ∷ []) in
    let m = ap length q in
    record { check = x; whole = ap some q; sized = (omega arith, omega arith); balanced = rw q at z }

carried-frame : (o : Option (List ℕ)) (f : List ℕ) → carried o ≡ frame f → Carried o f
unfolding carried
carried-frame none f e = bad-frame e
carried-frame (some g) f e =
    cases (between 2 100 (length g)) e (λ t e.
    cases (eqb (total g % 256) 0) e (λ z e. carried-good g f t (eqb-true (total g % 256) 0 z) e) (λ z e. bad-frame e)) (λ t e.
    bad-frame e)

-- A line that brings a frame is that frame's line.
pub line_frame : (l f : List ℕ) → carried (bytes l) ≡ frame f → (l ++ (0x0A ∷ []) ≡ line f) × IsFrame f
unfolding line
line_frame l f e =
    let x = carried-frame (bytes l) f e in
    let y = x.check in
    let h = hex-bytes l (f ++ (y ∷ [])) x.whole in
    let c : y ≡ check_byte f = check_only f y (bytes-right f (y ∷ []) h.1 0) x.balanced in (
      ap (λ (s : List ℕ). s ++ (0x0A ∷ [])) (sym h.0 ∙ ap (λ (y : ℕ). hex (f ++ (y ∷ []))) c),
      record { sized = x.sized; bytes = bytes_left f (y ∷ []) h.1 },
    )
