-- What the loops write: joins, the table of a station, the rows of an atom.
use mathlib.Core.Path.{◌≡◌, refl, sym, ap, ap₂, ◌∙◌}
use Prim.Native.Nat.{ℕ, zero, suc, ◌+◌, ◌-◌, ◌*◌, ◌≤◌, ◌<◌, max}
use native.Mathlib.Omega.{arith}
use native.Mathlib.Nat.{mul-le-mul_right}
use native.Mathlib.Numerals.{add-one}
use mathlib.Core.List.{List, ◌∷◌}
use mathlib.Core.Bool.{Bool, true, false}
use lib.Dec.{eqb}
use lib.ListN.{length, get_or, take, drop, set, replicate, length-drop, length-replicate, get_or-replicate}
use lib.Seq.{length-take-le, take-take, get_or-take, get_or-drop, get_or-set_same, get_or-set_other, paste}
use borrow.Author.Tests.{eq-eqb, ne_eqb}
use Rattle.model.specs.Cut.{join}
use Rattle.model.specs.Atom.{next}
use Rattle.lattice.proofs.Cuts.{length-join, join-at}
use Rattle.cells.proofs.Cuts.{take-join}
use Rattle.cells.proofs.Parts.{paste_front, paste_part}
use Rattle.structure.specs.Layout.{coded, event_row}
use Rattle.structure.proofs.Starts.{event-fits}
use Rattle.steps.specs.Rows.{row_at, absent, entry, joined_row, atom_row, Tabled}
use Rattle.steps.proofs.Parts.{rows_next}

-- JOINS

-- Element j of two parts joined.
pub parts_at : (s : List ℕ) (a b n j : ℕ) → j < n → get_or (join (take n (drop a s)) (take n (drop b s))) j 0 ≡ max (get_or s (a + j) 0) (get_or s (b + j) 0)
parts_at s a b n j h =
    join-at (take n (drop a s)) (take n (drop b s)) j
    ∙ ap₂ max (get_or-take n (drop a s) j 0 h ∙ get_or-drop a s j 0) (get_or-take n (drop b s) j 0 h ∙ get_or-drop b s j 0)

pub parts-length : (s : List ℕ) (a b n : ℕ) → a + n ≤ length s → b + n ≤ length s → length (join (take n (drop a s)) (take n (drop b s))) ≡ n
parts-length s a b n h k =
    omega (arith, length-join (take n (drop a s)) (take n (drop b s)), length-take-le n (drop a s) (omega (arith, length-drop a s)), length-take-le n (drop b s) (omega (arith, length-drop b s)))

take_none : (n w : ℕ) → n ≤ w → take n (replicate w 255) ≡ absent n
take_none zero w h = refl
take_none (suc n) zero h = absurd (omega arith)
take_none (suc n) (suc w) h = ap (λ (l : List ℕ). 255 ∷ l) (take_none n w (omega arith))

-- TABLES

-- Past the last event nothing passes.
pub entry_past : (p : ℕ → Bool) (m k : ℕ) → m < k → entry p m k ≡ 255
unfolding entry next coded
entry_past p m k h = let e : suc m - k ≡ 0 = omega arith in rw e

-- A turn of the loop that fills a table from its end: what is tested at k is the test at i, and w is what is written at i.
module _ (p : ℕ → Bool) (m k i : ℕ) (at : i ≡ k) (h : k ≤ m) where
  pub entry_hit : p i ≡ true → k ≡ entry p m k
  unfolding entry next coded
  entry_hit t =
      let e : suc m - k ≡ suc (m - k) = omega arith in
      let u : p k ≡ true = rw (← at) t in
      rw (e, u)

  pub entry_miss : p i ≡ false → entry p m (k + 1) ≡ entry p m k
  unfolding entry next coded
  entry_miss t =
      let e : suc m - k ≡ suc (m - k) = omega arith in
      let f : suc m - suc k ≡ m - k = omega arith in
      let u : p k ≡ false = rw (← at) t in
      rw (add-one k, e, f, u)

  pub table_turn : (t : List ℕ) (w : ℕ) → m < 256 → length t ≡ 256 → w ≡ entry p m k
      → ((j : ℕ) → k < j → j < 256 → get_or t j 0 ≡ entry p m j) → (j : ℕ) → k ≤ j → j < 256 → get_or (set t i w) j 0 ≡ entry p m j
  table_turn t w b l e f j a c = go (eqb j k) refl
    where
      go : (x : Bool) → eqb j k ≡ x → get_or (set t i w) j 0 ≡ entry p m j
      go true q = let r : j ≡ k = borrow.Author.Tests.eqb-true j k q in rw (at, r) (get_or-set_same t k w 0 (omega arith) ∙ e)
      go false q = let r = borrow.Author.Tests.eqb-false j k q in rw at (get_or-set_other t k j w 0 r ∙ f j (omega arith) c)

pub table-start : (j : ℕ) → j < 256 → ◌≡◌ {A = ℕ} (get_or (replicate 256 255) j 0) 255
table-start j h = get_or-replicate 256 j 255 0 h

-- ATOMS

-- What a row comes to where w cells were written for it, n or more.
module _ (n w i : ℕ) (h : n ≤ w) (d d₂ : List ℕ) (room : i * n + w ≤ length d) where
  abbrev Row : List ℕ → Type 0
  Row l = (take (i * n) d₂ ≡ take (i * n) d) × (row_at n i d₂ ≡ l)

  row_written : (l : List ℕ) → w ≤ length l → d₂ ≡ paste d (i * n) l w → Row (take n l)
  row_written l m e = (
    ap (take (i * n)) e ∙ paste_front d (i * n) l w (omega arith) m,
    sym (take-take n w (drop (i * n) d₂) h) ∙ ap (λ (x : List ℕ). take n (take w (drop (i * n) x))) e ∙ ap (take n) (paste_part d (i * n) l w (omega arith) m) ∙ take-take n w l h,
  )

  module _ (off : ℕ) (starts : List ℕ) (k : ℕ) where
    pub row-none : k ≡ 255 → d₂ ≡ paste d (i * n) (replicate w 255) w → Row (joined_row n off starts i k)
    unfolding joined_row
    row-none z e =
        let r = row_written (replicate w 255) (omega (arith, length-replicate {A = ℕ} w 255)) e in
        (r.0, r.1 ∙ rw (eq-eqb k 255 z) (take_none n w h))

    pub row-joined : (k ≡ 255 → ⊥) → (r : ℕ) → r ≡ event_row off k → i * n + w ≤ length starts → r * n + w ≤ length starts
        → d₂ ≡ paste d (i * n) (join (take w (drop (i * n) starts)) (take w (drop (r * n) starts))) w → Row (joined_row n off starts i k)
    unfolding joined_row
    row-joined z r q f g e =
        let l : List ℕ = join (take w (drop (i * n) starts)) (take w (drop (r * n) starts)) in
        let t = row_written l (omega (arith, parts-length starts (i * n) (r * n) w f g)) e in (
          t.0,
          t.1 ∙ take-join n (take w (drop (i * n) starts)) (take w (drop (r * n) starts))
              ∙ ap₂ join (take-take n w (drop (i * n) starts) h) (take-take n w (drop (r * n) starts) h) ∙ rw (ne_eqb k 255 z, q),
        )

-- A turn of the loop over the rows.
pub atom-next : (n s off : ℕ) (table starts : List ℕ) (i : ℕ) (w w₂ : List ℕ) → take (i * n) w₂ ≡ take (i * n) w
    → row_at n i w₂ ≡ joined_row n off starts i (get_or table (get_or starts (i * n + s) 0) 0)
    → ((r : ℕ) → r < i → row_at n r w ≡ atom_row n s off table starts r) → (r : ℕ) → r < i + 1 → row_at n r w₂ ≡ atom_row n s off table starts r
unfolding atom_row
atom-next n s off table starts i w w₂ e h = rows_next n (atom_row n s off table starts) i w w₂ e h

-- The row that an entry leads to stands among the starts, with w cells where the last one has as many.
pub event-room : (n e s off w : ℕ) (table starts : List ℕ) → Tabled n e s off table (length starts) → e * n + w ≤ length starts
    → (k : ℕ) → k < 256 → (get_or table k 0 ≡ 255 → ⊥) → event_row off (get_or table k 0) * n + w ≤ length starts
event-room n e s off w table starts t room k h f =
    let r : event_row off (get_or table k 0) ≤ e = omega (arith, event-fits off (get_or table k 0), t.reach k h f) in
    omega (arith, mul-le-mul_right n r)
