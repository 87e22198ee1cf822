-- The digits of bytes, and a frame's line put together from its parts.
use Rattle.std.proofs.Common.{◌≡◌, ℕ, ◌+◌, ◌*◌, ◌%◌, ◌<◌, ◌≤◌, List, [], ◌∷◌, ◌++◌, length, fold, get_or, take, set, refl, ap, ◌∙◌, add-one, arith, length-append, length-take-le, take-suc}
use Rattle.model.specs.Lists.{sum, total}
use Rattle.model.specs.Bytes.{hex, check_byte, line}
use Rattle.codec.proofs.Hex.{length-hex}
use Rattle.cells.specs.Put.{put_of}
use Rattle.cells.proofs.Puts.{put_one, put-put}

pub hex-append : (a b : List ℕ) → hex (a ++ b) ≡ hex a ++ hex b
unfolding hex
hex-append [] b = refl
hex-append (x ∷ a) b = rw (hex-append a b)

hex-step : (s : List ℕ) (k : ℕ) → k < length s → hex (take (k + 1) s) ≡ hex (take k s) ++ hex (get_or s k 0 ∷ [])
hex-step s k h = rw (add-one, take-suc s k 0 h) (hex-append (take k s) (get_or s k 0 ∷ []))

-- The digits of one byte more are put.
pub put-hex-step : (d s : List ℕ) (at k : ℕ) → k < length s → at ≤ length d
    → put_of (put_of d at (hex (take k s))) (at + 2 * k) (hex (get_or s k 0 ∷ [])) ≡ put_of d at (hex (take (k + 1) s))
put-hex-step d s at k h w =
    let n : length (hex (take k s)) ≡ 2 * k = length-hex (take k s) ∙ ap (λ (m : ℕ). 2 * m) (length-take-le k s (omega arith)) in
    rw (hex-step s k h, ← n) (put-put d (hex (take k s)) (hex (get_or s k 0 ∷ [])) at w)

-- The three parts of a line are put one after another.
pub put-line-is : (d d₁ d₂ f : List ℕ) (at end x : ℕ) → at ≤ length d → end ≡ at + 2 * length f → x ≡ check_byte f
    → d₁ ≡ put_of d at (hex f) → d₂ ≡ put_of d₁ end (hex (x ∷ [])) → end + 2 < length d₂ → set d₂ (end + 2) 0x0A ≡ put_of d at (line f)
unfolding line
put-line-is d d₁ d₂ f at end x h e ex e₁ e₂ w =
    let n₁ : end ≡ at + length (hex f) = omega (arith, length-hex f) in
    let two : d₂ ≡ put_of d at (hex (f ++ (x ∷ []))) = e₂ ∙ rw (e₁, n₁, hex-append f (x ∷ [])) (put-put d (hex f) (hex (x ∷ [])) at h) in
    let n₂ : end + 2 ≡ at + length (hex (f ++ (x ∷ []))) = omega (arith, length-hex (f ++ (x ∷ [])), length-append f (x ∷ [])) in
    let all : put_of d₂ (end + 2) (0x0A ∷ []) ≡ put_of d at (hex (f ++ (x ∷ [])) ++ (0x0A ∷ [])) =
    rw (n₂, two) (put-put d (hex (f ++ (x ∷ []))) (0x0A ∷ []) at h) in
    put_one d₂ (end + 2) 0x0A w ∙ all ∙ rw ex

-- Bytes added up, each time modulo 256.
fold_from : (s : List ℕ) (t : ℕ) → t < 256 → fold (λ a b. (a + b) % 256) t s ≡ (t + total s) % 256
unfolding sum
fold_from [] t h = omega arith
fold_from (b ∷ s) t h = omega (arith, fold_from s ((t + b) % 256) (omega arith))

pub sum_fold : (s : List ℕ) → fold (λ a b. (a + b) % 256) 0 s ≡ total s % 256
sum_fold s = omega (arith, fold_from s 0 (omega arith))
