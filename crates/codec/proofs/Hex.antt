-- Hexadecimal: the digits of bytes read back, and digits that are read are those of the bytes they give.
use mathlib.Core.Path.{◌≡◌, refl, ap, ◌∙◌}
use mathlib.Core.Bool.{Bool, true, false}
use mathlib.Core.List.{List, [], ◌∷◌}
use mathlib.Core.Option.{Option, none, some}
use Prim.Native.Nat.{ℕ, ◌+◌, ◌-◌, ◌*◌, ◌/◌, ◌%◌, ◌<◌, ◌≤◌}
use native.Mathlib.Omega.{arith}
use lib.Dec.{ltb, eqb}
use borrow.Author.Tests.{lt-ltb, le-ltb, le-leb, lt-leb, ne_eqb, ltb-true, ltb-false}
use Rattle.model.specs.Lists.{between}
use Rattle.model.specs.Bytes.{digit, byte, bytes, hex_digit, hex}
use Rattle.codec.proofs.Bytes.{Bytes, bytes-none, bytes-cons, bytes_tail}
use Rattle.codec.proofs.Cases.{none-some, cases, between-true}
-- Two digits a byte.
pub use Rattle.lattice.proofs.Line.{length-hex}

-- A DIGIT

low : (d : ℕ) → d < 10 → hex_digit d ≡ d + 48
unfolding hex_digit
low d h = rw (lt-ltb d 10 h)

high : (d : ℕ) → 10 ≤ d → hex_digit d ≡ d + 55
unfolding hex_digit
high d h = rw (le-ltb d 10 h)

digit-hex_by : (d : ℕ) (b : Bool) → ltb d 10 ≡ b → d < 16 → digit (hex_digit d) ≡ some d
unfolding digit between
digit-hex_by d true e h =
    let k = ltb-true d 10 e in
    rw (low d k, le-leb 48 (d + 48) (omega arith), le-leb (d + 48) 57 (omega arith)) (ap some (omega arith))
digit-hex_by d false e h =
    let k = ltb-false d 10 e in
    rw (high d k, le-leb 48 (d + 55) (omega arith), lt-leb (d + 55) 57 (omega arith), le-leb 65 (d + 55) (omega arith), le-leb (d + 55) 70 (omega arith)) (ap some (omega arith))

-- The digit of a number below 16 is read as the number.
pub digit-hex : (d : ℕ) → d < 16 → digit (hex_digit d) ≡ some d
digit-hex d h = digit-hex_by d (ltb d 10) refl h

decimal : (b d : ℕ) → between 48 57 b ≡ true → some (b - 48) ≡ some d → (d < 16) × (hex_digit d ≡ b)
decimal b d k e =
    let h = between-true 48 57 b k in
    let n : b - 48 ≡ d = cc in
    (omega arith, low d (omega arith) ∙ omega arith)

letter : (b d : ℕ) → between 65 70 b ≡ true → some (b - 55) ≡ some d → (d < 16) × (hex_digit d ≡ b)
letter b d k e =
    let h = between-true 65 70 b k in
    let n : b - 55 ≡ d = cc in
    (omega arith, high d (omega arith) ∙ omega arith)

-- What is read as a digit is the digit of what it gives.
pub hex-digit : (b d : ℕ) → digit b ≡ some d → (d < 16) × (hex_digit d ≡ b)
unfolding digit
hex-digit b d e =
    cases (between 48 57 b) e (decimal b d) (λ k e.
    cases (between 65 70 b) e (letter b d) (λ k e.
    none-some e))

no_end_by : (d : ℕ) (b : Bool) → ltb d 10 ≡ b → eqb (hex_digit d) 0x0A ≡ false
no_end_by d true e = rw (low d (ltb-true d 10 e)) (ne_eqb (d + 48) 10 (omega arith))
no_end_by d false e = rw (high d (ltb-false d 10 e)) (ne_eqb (d + 55) 10 (omega arith))

-- No digit is 0A.
pub digit_no_end : (d : ℕ) → eqb (hex_digit d) 0x0A ≡ false
digit_no_end d = no_end_by d (ltb d 10) refl

-- BYTES

-- The digits of bytes are read as the bytes.
pub bytes-hex : (f : List ℕ) → Bytes f → bytes (hex f) ≡ some f
unfolding bytes byte hex
bytes-hex [] h = refl
bytes-hex (x ∷ f) h =
    let b : x < 256 = h 0 in
    rw (digit-hex (x / 16) (omega arith), digit-hex (x % 16) (omega arith), bytes-hex f (bytes_tail x f h)) (ap (λ (y : ℕ). some (y ∷ f)) (omega arith))

byte-some :
    (o p : Option ℕ) (q : Option (List ℕ)) (f : List ℕ)
    → byte o p q ≡ some f
    → (h l : ℕ) × (g : List ℕ) × (o ≡ some h) × (p ≡ some l) × (q ≡ some g) × (f ≡ (16 * h + l) ∷ g)
unfolding byte
byte-some none p q f e = none-some e
byte-some (some h) none q f e = none-some e
byte-some (some h) (some l) none f e = none-some e
byte-some (some h) (some l) (some g) f e = (h, l, g, refl, refl, refl, cc)

-- What is read as bytes are the digits of bytes.
pub hex-bytes : (l f : List ℕ) → bytes l ≡ some f → (hex f ≡ l) × Bytes f
unfolding bytes hex
hex-bytes [] f e = let n : f ≡ [] = cc in rw n (refl, bytes-none)
hex-bytes (a ∷ []) f e = none-some e
hex-bytes (a ∷ b ∷ l) f e =
    let x = byte-some (digit a) (digit b) (bytes l) f e in
    let p = hex-digit a x.0 x.3 in
    let q = hex-digit b x.1 x.4 in
    let ih = hex-bytes l x.2 x.5 in
    let u : (16 * x.0 + x.1) / 16 ≡ x.0 = omega arith in
    let v : (16 * x.0 + x.1) % 16 ≡ x.1 = omega arith in
    rw x.6 (rw (u, v, p.1, q.1, ih.0), bytes-cons (16 * x.0 + x.1) x.2 (omega arith) ih.1)
