-- A list that is written from its front: what stands before a place after one more cell, one more row, one more station. Assumes nothing.
use mathlib.Core.Path.{◌≡◌, sym, ap, ◌∙◌}
use mathlib.Core.List.{List, [], ◌∷◌, ◌++◌, append_assoc, append-nil}
use Prim.Native.Nat.{ℕ, suc, ◌+◌, ◌*◌, ◌≤◌, ◌<◌}
use native.Mathlib.Omega.{arith}
use native.Mathlib.Numerals.{add-one}
use native.Mathlib.Nat.{add-zero, add-mul}
use lib.ListN.{length, take, drop, get_or, set, length-drop}
use lib.Seq.{paste, take-paste, take-suc-set}
use Rattle.model.specs.Limits.{stored_report}
use Rattle.model.specs.Frames.{word}
use Rattle.model.specs.Lists.{sum, total}
use Rattle.table.specs.Table.{slot}
use Rattle.layout.specs.Rows.{in_turn, clock_in, clocks_in, starts_in, values_of, values_in}
use Rattle.offsets.proofs.Totals.{sum_next}

pub none_yet : (d : List ℕ) (at : ℕ) → take (at + 0) d ≡ take at d ++ []
none_yet d at = rw (add-zero at, append-nil (take at d))

-- one more list
pub part_more : (d d' x y : List ℕ) (a b : ℕ) → take a d ≡ x → take b d' ≡ take a d ++ y → take b d' ≡ x ++ y
part_more d d' x y a b p q = rw p at q

-- n cells of t copied
pub copied : (d d' t : List ℕ) (at from n : ℕ) → at + n ≤ length d → from + n ≤ length t → d' ≡ paste d at (drop from t) n
    → take (at + n) d' ≡ take at d ++ take n (drop from t)
copied d d' t at from n h l e = ap (take (at + n)) e ∙ take-paste d at (drop from t) n (omega arith) (simp length-drop (omega arith))

module _ (d₀ d : List ℕ) (at : ℕ) where
  pub cell_more : (s : List ℕ) (i v : ℕ) → at + i < length d → take (at + i) d ≡ take at d₀ ++ s → take (at + (i + 1)) (set d (at + i) v) ≡ take at d₀ ++ (s ++ v ∷ [])
  cell_more s i v h p =
      let e : at + (i + 1) ≡ suc (at + i) = omega arith in
      rw (e, take-suc-set d (at + i) v h, p) (append_assoc (take at d₀) s (v ∷ []))

  pub value-more : (b : ℕ) (t : List ℕ) (j k a v : ℕ) → a ≡ slot j k → v ≡ word (drop (a + b) t) → at + k < length d → take (at + k) d ≡ take at d₀ ++ values_of b t j k
      → take (at + (k + 1)) (set d (at + k) v) ≡ take at d₀ ++ values_of b t j (k + 1)
  unfolding values_of in_turn
  value-more b t j k a v e w h p =
      let x : values_of b t j (k + 1) ≡ values_of b t j k ++ v ∷ [] = rw (add-one k, ← e, ← w) in
      rw x (cell_more (values_of b t j k) k v h p)

  pub clock-more : (t d' : List ℕ) (n j k a : ℕ) → a ≡ slot j (k + 1) → take (at + k * n) d ≡ take at d₀ ++ clocks_in t n j k
      → take (at + k * n + n) d' ≡ take (at + k * n) d ++ take n (drop (a + stored_report) t) → take (at + (k + 1) * n) d' ≡ take at d₀ ++ clocks_in t n j (k + 1)
  unfolding clocks_in clock_in in_turn
  clock-more t d' n j k a e p q =
      let w : at + (k + 1) * n ≡ at + k * n + n = omega (arith, add-mul k 1 n) in
      let s : a ≡ slot j (suc k) = omega arith in
      rw (w, add-one k, ← s, ← append_assoc) (part_more d d' _ _ (at + k * n) (at + k * n + n) p q)

-- ALL STATIONS: station j of n has m events, and b are those of the stations before it
module _ (t counts d d' : List ℕ) (n j m b : ℕ) (h : j < n) (has : m ≡ get_or counts j 0) (before : b ≡ total (take j (take n counts))) where
  pub values_more : (i : ℕ) → take (total (take j (take n counts)) + j) d ≡ values_in i t counts j → take (b + j + (m + 1)) d' ≡ take (b + j) d ++ values_of i t j (m + 1)
      → take (total (take (j + 1) (take n counts)) + (j + 1)) d' ≡ values_in i t counts (j + 1)
  unfolding values_in in_turn
  values_more i p q =
      let w : total (take (j + 1) (take n counts)) + (j + 1) ≡ b + j + (m + 1) = omega (arith, sum_next counts n j h) in
      let e : values_in i t counts (j + 1) ≡ values_in i t counts j ++ values_of i t j (m + 1) = rw (add-one j, add-one m, has) in
      rw (w, e) (part_more d d' (values_in i t counts j) (values_of i t j (m + 1)) (b + j) (b + j + (m + 1)) (rw before p) q)

  pub starts_more : take ((total (take j (take n counts)) + 1) * n) d ≡ starts_in t n counts j → take ((b + 1) * n + m * n) d' ≡ take ((b + 1) * n) d ++ clocks_in t n j m
      → take ((total (take (j + 1) (take n counts)) + 1) * n) d' ≡ starts_in t n counts (j + 1)
  unfolding starts_in in_turn
  starts_more p q =
      let s : total (take (j + 1) (take n counts)) + 1 ≡ b + 1 + m = omega (arith, sum_next counts n j h) in
      let w : (total (take (j + 1) (take n counts)) + 1) * n ≡ (b + 1) * n + m * n = ap (λ (x : ℕ). x * n) s ∙ add-mul (b + 1) m n in
      let e : starts_in t n counts (j + 1) ≡ starts_in t n counts j ++ clocks_in t n j m = rw (add-one j, has) (sym (append_assoc (clock_in t n 0 0) (in_turn (λ i. clocks_in t n i (get_or counts i 0)) j) (clocks_in t n j (get_or counts j 0)))) in
      rw (w, e) (part_more d d' (starts_in t n counts j) (clocks_in t n j m) ((b + 1) * n) ((b + 1) * n + m * n) (rw before p) q)

pub starts_first : (t counts d d' : List ℕ) (n : ℕ) → take (0 + n) d' ≡ take 0 d ++ take n (drop stored_report t) → take ((total (take 0 (take n counts)) + 1) * n) d' ≡ starts_in t n counts 0
unfolding starts_in clock_in in_turn sum
starts_first t counts d d' n q =
    let w : (0 + 1) * n ≡ 0 + n = omega arith in
    rw (w, append-nil (take n (drop stored_report t))) q
