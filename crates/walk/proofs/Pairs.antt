-- What stands at a place of a log, and how many bytes tell it, by the bytes there.
use Rattle.std.proofs.Common.{◌≡◌, ℕ, suc, ◌+◌, ◌*◌, ◌<◌, ◌≤◌, cond, eqb, List, length, get_or, drop, sym, ap, ◌∙◌, add-one, drop_of_length-le, drop-cons, eq-eqb, ne_eqb}
use mathlib.Core.Option.{Option, none, some}
use Rattle.model.specs.Bytes.{digit}
use Rattle.walk.specs.Pairs.{first_digit, joined, pair_of, second, to_tell}
use Rattle.walk.specs.declared.Pair.{Pair}
use Rattle.walk.specs.declared.Pair.TheVariants.{Byte, End, Broken}
use Rattle.walk.proofs.Digits.{digit_no_end}

module _ (s : List ℕ) (i : ℕ) (inside : i < length s) where
  pair-here : pair_of (drop i s) ≡ cond (eqb (get_or s i 0) 0x0A) End (joined (digit (get_or s i 0)) (first_digit (drop (i + 1) s)))
  unfolding pair_of
  pair-here = rw (add-one, drop-cons s i 0)

  tell_here : to_tell (drop i s) ≡ suc (second (digit (get_or s i 0)) (drop (i + 1) s))
  unfolding to_tell
  tell_here = rw (add-one, drop-cons s i 0)

  pair-digit : (h : ℕ) → digit (get_or s i 0) ≡ some h → pair_of (drop i s) ≡ joined (some h) (first_digit (drop (i + 1) s))
  pair-digit h e = pair-here ∙ rw (digit_no_end (get_or s i 0) h e, e)

  pair-two : (h : ℕ) (l : Option ℕ) → digit (get_or s i 0) ≡ some h → i + 1 < length s → digit (get_or s (i + 1) 0) ≡ l → pair_of (drop i s) ≡ joined (some h) l
  pair-two h l e w o = pair-digit h e ∙ ap (joined (some h)) (ap first_digit (drop-cons s (i + 1) 0 w) ∙ o)

  tell_two : (h : ℕ) → digit (get_or s i 0) ≡ some h → i + 1 < length s → to_tell (drop i s) ≡ 2
  tell_two h e w = tell_here ∙ rw (e, drop-cons s (i + 1) 0 w)

  -- From n looks to m: what stands at i was seen, each byte that tells it looked at once.
  module _ (n m : ℕ) where
    abbrev Seen : Pair → Type 0
    Seen r = (m ≡ n + to_tell (drop i s)) × (r ≡ pair_of (drop i s))

    seen : (t : ℕ) {r : Pair} → to_tell (drop i s) ≡ t → pair_of (drop i s) ≡ r → m ≡ n + t → Seen r
    seen t l r e = (e ∙ ap (λ (k : ℕ). n + k) (sym l), sym r)

    pub seen_end : digit (get_or s i 0) ≡ none → get_or s i 0 ≡ 0x0A → m ≡ n + 1 → Seen End
    seen_end d e = seen 1 (tell_here ∙ rw d) (pair-here ∙ rw (eq-eqb (get_or s i 0) 0x0A e))

    pub seen_none : digit (get_or s i 0) ≡ none → (get_or s i 0 ≡ 0x0A → ⊥) → m ≡ n + 1 → Seen Broken
    seen_none d e = seen 1 (tell_here ∙ rw d) (pair-here ∙ rw (ne_eqb (get_or s i 0) 0x0A e, d))

    pub seen-short : (h : ℕ) → digit (get_or s i 0) ≡ some h → length s ≤ i + 1 → m ≡ n + 1 → Seen Broken
    seen-short h d l = seen 1 (tell_here ∙ rw (d, drop_of_length-le s {i = i + 1} l)) (pair-digit h d ∙ rw (drop_of_length-le s {i = i + 1} l))

    pub seen-half : (h : ℕ) → digit (get_or s i 0) ≡ some h → i + 1 < length s → digit (get_or s (i + 1) 0) ≡ none → m ≡ n + 2 → Seen Broken
    seen-half h d w o = seen 2 (tell_two h d w) (pair-two h none d w o)

    pub seen-byte : (h l : ℕ) → digit (get_or s i 0) ≡ some h → i + 1 < length s → digit (get_or s (i + 1) 0) ≡ some l → m ≡ n + 2 → Seen (Byte (16 * h + l))
    seen-byte h l d w o = seen 2 (tell_two h d w) (pair-two h (some l) d w o)
