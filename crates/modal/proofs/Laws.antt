-- Possibly and not possibly: rows below a cut, one structure after the other, and bars at the greatest cuts.
use mathlib.Core.Path.{◌≡◌, refl, sym, ap, ap₂, subst, ◌∙◌}
use Prim.Native.Nat.{ℕ, zero, suc, ◌+◌, ◌-◌, ◌*◌, ◌≤◌, ◌<◌}
use native.Mathlib.Omega.{arith}
use native.Mathlib.Nat.{suc-mul, zero-mul, add-zero, mul-le-mul_right, not-suc-le-zero}
use mathlib.Core.List.{List, [], ◌∷◌, ◌++◌, map, append_assoc, append-nil}
use mathlib.Core.Bool.{Bool, true, false, cond}
use mathlib.Core.Option.{none, some}
use lib.Dec.{eqb, ltb}
use lib.ListN.{length, get_or, take, drop, set, replicate, length-drop, length-replicate, get_or-replicate, get_or-append}
use lib.Seq.{paste, length-take-le, take_at, drop_at, drop-drop, get_or-take, get_or-drop, get_or-append-add}
use borrow.Author.Tests.{eq-eqb, ne_eqb, eqb-false, ltb-true, ltb-false}
use borrow.Rule.Slice.PartMut.{put_mid}
use Rattle.model.specs.Cut.{Cut, inside, inside_any}
use Rattle.model.specs.Computation.{Computation, full}
use Rattle.model.specs.Structure.{Structure, join_row, join_rows, greatest, keep, build}
use Rattle.model.specs.Basis.{each, below, lowered, barred}
use Rattle.lattice.specs.Ascending.{RowsAscend}
use Rattle.lattice.proofs.Lists.{All, all_left}
use Rattle.lattice.proofs.Cuts.{⊑-inside, join-at, empty_⊑}
use Rattle.structure.specs.Layout.{decoded, rows_at, stations_at, structure_at, standing, bars_at, cells, bar_cells}
use Rattle.structure.specs.declared.Shape.{Shape}
use Rattle.structure.specs.Laid.{Laid}
use Rattle.tops.specs.Greatest.{GreatestAt}
use Rattle.steps.specs.Rows.{row_at, absent, below_row, Ended}
use Rattle.cells.proofs.Parts.{drop-whole, part_same, paste_front, paste_part, paste_behind, put_end}
use Rattle.structure.proofs.Rows.{decoded-none, decoded-some}
use Rattle.structure.proofs.Places.{one_more, cells_are, next_fits, row_fits}
use Rattle.steps.proofs.Parts.{row_zero, row-suc}
use Rattle.steps.proofs.Built.{start-there, build-there, keep_free, no_bars}
use Rattle.steps.proofs.Atoms.{not-both}
use Rattle.structure.proofs.Standing.{set_same, standing_same, standing-add, standing-each}
use Rattle.tops.proofs.LastRows.{greatest_of, starts_ascend}
use Rattle.modal.specs.Post.{Present, Lowered, Possible, Impossible}

-- ROWS BELOW A CUT

module _ (n : ℕ) (g starts : List ℕ) (i : ℕ) where
  pub below_in : inside (row_at n i starts) g ≡ true → row_at n i starts ≡ below_row n g starts i
  unfolding below_row
  below_in h = rw h

  pub below_out : inside (row_at n i starts) g ≡ false → absent n ≡ below_row n g starts i
  unfolding below_row
  below_out h = rw h

  pub below_length : (e : ℕ) → i ≤ e → (e + 1) * n ≤ length starts → length (below_row n g starts i) ≡ n
  unfolding below_row
  below_length e h l = go (inside (row_at n i starts) g)
    where
      go : (b : Bool) → length (cond b (row_at n i starts) (absent n)) ≡ n
      go true = length-take-le n (drop (i * n) starts) (omega (arith, length-drop (i * n) starts, row_fits i e n h))
      go false = length-replicate {A = ℕ} n 255

-- The empty cut is contained in every cut, so the least row is there.
pub below-least : (n : ℕ) (g starts w : List ℕ) → 0 < n → row_at n 0 starts ≡ replicate n 0 → row_at n 0 w ≡ below_row n g starts 0 → get_or w 0 0 ≡ 255 → ⊥
below-least n g starts w h e f q =
    let r : row_at n 0 w ≡ replicate n 0 = f ∙ sym (below_in n g starts 0 (ap (λ (x : Cut). inside x g) e ∙ ⊑-inside (replicate n 0) g (empty_⊑ n g))) ∙ e in
    let z : ◌≡◌ {A = ℕ} 0 255 =
    sym (get_or-replicate n 0 0 0 h) ∙ ap (λ (x : List ℕ). get_or x 0 0) (sym r ∙ row_zero n w) ∙ get_or-take n w 0 0 h ∙ q in
    omega arith

module _ (K : Computation) (shape : Shape) (starts : List ℕ) (laid : Laid K shape starts) where
  below-decoded : (g : Cut) (i : ℕ) → i ≤ shape.e → decoded (below_row shape.n g starts i) ≡ below g (row_at shape.n i starts)
  unfolding below_row below
  below-decoded g i h = go (inside (row_at shape.n i starts) g)
    where
      go : (b : Bool) → decoded (cond b (row_at shape.n i starts) (absent shape.n)) ≡ cond b (some (row_at shape.n i starts)) none
      go true = decoded-some (row_at shape.n i starts) (start-there K shape starts laid i h)
      go false = decoded-none (absent shape.n) (get_or-replicate shape.n 0 255 0 shape.some_station)

  pub lowered-stands : (g : Cut) (w b : List ℕ) → ((i : ℕ) → i ≤ shape.e → row_at shape.n i w ≡ below_row shape.n g starts i) → (get_or w 0 0 ≡ 255 → ⊥) → get_or b 0 0 ≡ 255
      → structure_at shape.n (full K) w b ∷ [] ≡ build K (below g) []
  lowered-stands g w b rows h f =
      rw (no_bars shape.n b f)
      (sym (build-there K shape starts laid (below g) w (λ i k. ap decoded (rows i k) ∙ below-decoded g i k) [] h ∙ keep_free _ _))

-- ONE STRUCTURE AFTER THE OTHER

pub each_append : (f : Structure → List Structure) (L M : List Structure) → each f (L ++ M) ≡ each f L ++ each f M
unfolding each
each_append f [] M = refl
each_append f (S ∷ L) M = ap (λ (l : List Structure). f S ++ l) (each_append f L M) ∙ sym (append_assoc (f S) (each f L) (each f M))

-- Behind k cells p was put, of which the first m were written: what stands behind them is as before.
behind_more : (k m j : ℕ) (w p v : List ℕ) → k ≤ length w → j ≡ k + m → drop m p ≡ drop m (drop k w) → drop k w ≡ drop k v → drop j (take k w ++ p) ≡ drop j v
behind_more k m j w p v h q e f =
    ap (λ (x : ℕ). drop x (take k w ++ p)) q ∙ sym (drop-drop m k (take k w ++ p)) ∙ ap (drop m) (drop_at (take k w) p k (length-take-le k w h))
    ∙ e ∙ ap (drop m) f ∙ drop-drop m k v ∙ ap (λ (x : ℕ). drop x v) (sym q)

-- A turn of the loop for possibly: i structures are done, w₁ and b₁; of what stands behind them p and q are made.
module _ (shape : Shape) (i : ℕ) (starts w w₁ p b b₁ q : List ℕ) (z : 0 < shape.n) (hw : i * ((shape.e + 1) * shape.n) ≤ length w₁) (hb : i * (16 * shape.n) ≤ length b₁)
    (done : Possible shape i starts w w₁ b b₁) (one : Lowered shape starts (drop (i * ((shape.e + 1) * shape.n)) w₁) p (drop (i * (16 * shape.n)) b₁) q) where
  abbrev w₂ : List ℕ
  w₂ = take (i * ((shape.e + 1) * shape.n)) w₁ ++ p

  abbrev b₂ : List ℕ
  b₂ = take (i * (16 * shape.n)) b₁ ++ q

  cells-more : drop ((i + 1) * ((shape.e + 1) * shape.n)) w₂ ≡ drop ((i + 1) * ((shape.e + 1) * shape.n)) w
  cells-more =
      behind_more (i * ((shape.e + 1) * shape.n)) ((shape.e + 1) * shape.n) ((i + 1) * ((shape.e + 1) * shape.n)) w₁ p w hw (one_more i ((shape.e + 1) * shape.n)) one.cells_behind done.cells_behind

  bars-more : drop ((i + 1) * (16 * shape.n)) b₂ ≡ drop ((i + 1) * (16 * shape.n)) b
  bars-more = behind_more (i * (16 * shape.n)) (16 * shape.n) ((i + 1) * (16 * shape.n)) b₁ q b hb (one_more i (16 * shape.n)) one.bars_behind done.bars_behind

  least_more : Present ((shape.e + 1) * shape.n) (i + 1) w₂
  least_more j h f = go (ltb j i) refl
    where
      l : length (take (i * ((shape.e + 1) * shape.n)) w₁) ≡ i * ((shape.e + 1) * shape.n)
      l = length-take-le (i * ((shape.e + 1) * shape.n)) w₁ hw

      s : 0 < (shape.e + 1) * shape.n
      s = omega (arith, one_more shape.e shape.n)

      go : (t : Bool) → ltb j i ≡ t → ⊥
      go true g =
          let a : j < i = ltb-true j i g in
          let k : j * ((shape.e + 1) * shape.n) < i * ((shape.e + 1) * shape.n) = omega (arith, mul-le-mul_right ((shape.e + 1) * shape.n) a, suc-mul j ((shape.e + 1) * shape.n), s) in
          done.least j a
          (sym (get_or-take (i * ((shape.e + 1) * shape.n)) w₁ (j * ((shape.e + 1) * shape.n)) 0 k) ∙ sym (get_or-append (take (i * ((shape.e + 1) * shape.n)) w₁) p 0 (j * ((shape.e + 1) * shape.n)) (omega (arith, l))) ∙ f)
      go false g =
          let a : j ≡ i = omega (arith, ltb-false j i g) in
          let u : j * ((shape.e + 1) * shape.n) ≡ length (take (i * ((shape.e + 1) * shape.n)) w₁) + 0 = ap (λ (x : ℕ). x * ((shape.e + 1) * shape.n)) a ∙ sym l ∙ sym (add-zero _) in
          one.least (sym (ap (λ (x : ℕ). get_or w₂ x 0) u ∙ get_or-append-add (take (i * ((shape.e + 1) * shape.n)) w₁) p 0 0) ∙ f)

  pub lower_turn : Possible shape (i + 1) starts w w₂ b b₂
  unfolding lowered each standing
  lower_turn = record {
    stands = λ K laid asc.
        let c = cells_are shape.n shape.e (full K) laid.counted in
        let k : i * cells shape.n (full K) ≡ i * ((shape.e + 1) * shape.n) = ap (λ (x : ℕ). i * x) c in
        let x : drop (i * cells shape.n (full K)) w₂ ≡ p = ap (λ (x : ℕ). drop x w₂) k ∙ drop_at (take (i * ((shape.e + 1) * shape.n)) w₁) p (i * ((shape.e + 1) * shape.n)) (length-take-le (i * ((shape.e + 1) * shape.n)) w₁ hw) in
        let y : drop (i * bar_cells shape.n) b₂ ≡ q = drop_at (take (i * (16 * shape.n)) b₁) q (i * (16 * shape.n)) (length-take-le (i * (16 * shape.n)) b₁ hb) in
        let old : standing shape.n (full K) i w₂ b₂ ≡ standing shape.n (full K) i w₁ b₁ =
        standing_same shape.n (full K) i w₂ w₁ b₂ b₁ z (ap (λ (j : ℕ). take j w₂) k ∙ take_at (take (i * ((shape.e + 1) * shape.n)) w₁) p (i * ((shape.e + 1) * shape.n)) (length-take-le (i * ((shape.e + 1) * shape.n)) w₁ hw) ∙ ap (λ (j : ℕ). take j w₁) (sym k))
        (take_at (take (i * (16 * shape.n)) b₁) q (i * (16 * shape.n)) (length-take-le (i * (16 * shape.n)) b₁ hb)) in
        let here : structure_at shape.n (full K) (drop (i * ((shape.e + 1) * shape.n)) w₁) (drop (i * (16 * shape.n)) b₁) ≡ structure_at shape.n (full K) (drop (i * cells shape.n (full K)) w) (drop (i * bar_cells shape.n) b) =
        ap₂ (structure_at shape.n (full K)) (done.cells_behind ∙ ap (λ (j : ℕ). drop j w) (sym k)) done.bars_behind in
        let own = standing-each shape.n (full K) (RowsAscend (full K)) (i + 1) w b asc i (omega arith) in
        let others = all_left (standing shape.n (full K) i w b) _ (subst (All (RowsAscend (full K))) (standing-add shape.n (full K) i 1 w b) asc) in
        let new : standing shape.n (full K) 1 (drop (i * cells shape.n (full K)) w₂) (drop (i * bar_cells shape.n) b₂) ≡ lowered K (standing shape.n (full K) 1 (drop (i * cells shape.n (full K)) w) (drop (i * bar_cells shape.n) b)) =
        ap₂ (standing shape.n (full K) 1) x y ∙ one.stands K laid (subst (RowsAscend (full K)) (sym here) own)
        ∙ ap (λ (S : Structure). build K (below (greatest S)) []) here
        ∙ sym (append-nil _) in
        standing-add shape.n (full K) i 1 w₂ b₂ ∙ ap₂ (λ (l m : List Structure). l ++ m) (old ∙ done.stands K laid others) new
        ∙ sym (each_append (λ S. build K (below (greatest S)) []) (standing shape.n (full K) i w b) _)
        ∙ ap (lowered K) (sym (standing-add shape.n (full K) i 1 w b));
    least = least_more;
    cells_behind = cells-more;
    bars_behind = bars-more;
  }

pub lower_none : (shape : Shape) (starts w b : List ℕ) → Possible shape 0 starts w w b b
unfolding standing lowered each
lower_none shape starts w b = record { stands = λ K laid asc. refl; least = λ i h. absurd (not-suc-le-zero h); cells_behind = refl; bars_behind = refl }

-- A part that goes to the end has room.
pub part_room : (k m : ℕ) (w : List ℕ) → k + m ≤ length w → m ≤ length (take (length w - k) (drop k w))
part_room k m w h = omega (arith, ap length (drop-whole k w), length-drop k w)

-- The same turn, as the code leaves it.
module _ (shape : Shape) (i : ℕ) (starts w w₁ p b b₁ q : List ℕ) (z : 0 < shape.n) (hw : i * ((shape.e + 1) * shape.n) ≤ length w₁) (hb : i * (16 * shape.n) ≤ length b₁)
    (done : Possible shape i starts w w₁ b b₁)
    (one : Lowered shape starts (take (length w₁ - i * ((shape.e + 1) * shape.n)) (drop (i * ((shape.e + 1) * shape.n)) w₁)) p (take (length b₁ - i * (16 * shape.n)) (drop (i * (16 * shape.n)) b₁)) q) where
  one' : Lowered shape starts (drop (i * ((shape.e + 1) * shape.n)) w₁) p (drop (i * (16 * shape.n)) b₁) q
  one' =
      subst (λ (x : List ℕ). Lowered shape starts (drop (i * ((shape.e + 1) * shape.n)) w₁) p x q) (drop-whole (i * (16 * shape.n)) b₁)
      (subst (λ (x : List ℕ). Lowered shape starts x p (take (length b₁ - i * (16 * shape.n)) (drop (i * (16 * shape.n)) b₁)) q) (drop-whole (i * ((shape.e + 1) * shape.n)) w₁) one)

  pub lower_put : Possible shape (i + 1) starts w (put_mid (i * ((shape.e + 1) * shape.n)) (length w₁ - i * ((shape.e + 1) * shape.n)) w₁ p) b (put_mid (i * (16 * shape.n)) (length b₁ - i * (16 * shape.n)) b₁ q)
  lower_put =
      subst (λ (x : List ℕ). Possible shape (i + 1) starts w x b (put_mid (i * (16 * shape.n)) (length b₁ - i * (16 * shape.n)) b₁ q)) (sym (put_end (i * ((shape.e + 1) * shape.n)) w₁ p hw))
      (subst (λ (x : List ℕ). Possible shape (i + 1) starts w (take (i * ((shape.e + 1) * shape.n)) w₁ ++ p) b x) (sym (put_end (i * (16 * shape.n)) b₁ q hb))
      (lower_turn shape i starts w w₁ p b b₁ q z hw hb done one'))

pub lower_one : (shape : Shape) (starts w w₂ b g : List ℕ) → 0 < shape.n → 16 * shape.n ≤ length b → row_at shape.n 0 starts ≡ replicate shape.n 0
    → GreatestAt shape w 0 (take shape.n g)
    → ((i : ℕ) → i ≤ shape.e → row_at shape.n i w₂ ≡ below_row shape.n (take shape.n g) starts i) → drop ((shape.e + 1) * shape.n) w₂ ≡ drop ((shape.e + 1) * shape.n) w → Lowered shape starts w w₂ b (set b 0 255)
lower_one shape starts w w₂ b g z l f top rows behind =
    let least : get_or w₂ 0 0 ≡ 255 → ⊥ = below-least shape.n (take shape.n g) starts w₂ z f (rows 0 (omega arith)) in
    record {
      stands = λ K laid asc.
          lowered-stands K shape starts laid (greatest (structure_at shape.n (full K) w b)) w₂ (set b 0 255)
          (λ i h. rows i h ∙ ap (λ (x : Cut). below_row shape.n x starts i) (greatest_of shape (full K) w 0 (take shape.n g) laid.counts_are top b asc)) least (lib.Seq.get_or-set_same b 0 255 0 (omega arith));
      least = least;
      cells_behind = behind;
      bars_behind = lib.Seq.drop-set-lt (16 * shape.n) b 0 255 (omega arith);
    }

-- BARS

-- Bar i is written.
pub bars_turn : (P : ℕ → Cut → Type 0) (n i : ℕ) (b b₂ g : List ℕ) → i * n + n ≤ length b → n ≤ length g → P i (take n g) → b₂ ≡ paste b (i * n) (drop 0 g) n
    → ((r : ℕ) → r < i → P r (row_at n r b)) → (r : ℕ) → r < i + 1 → P r (row_at n r b₂)
bars_turn P n i b b₂ g h l top q inv r s = go (ltb r i) refl
  where
    go : (t : Bool) → ltb r i ≡ t → P r (row_at n r b₂)
    go true e =
        let a : r < i = ltb-true r i e in
        let k : take (i * n) b₂ ≡ take (i * n) b = ap (take (i * n)) q ∙ paste_front b (i * n) g n (omega arith) l in
        subst (P r) (sym (part_same (i * n) b₂ b k (r * n) n (next_fits r i n a))) (inv r a)
    go false e =
        let a : r ≡ i = omega (arith, ltb-false r i e) in
        let k : row_at n i b₂ ≡ take n g = ap (row_at n i) q ∙ paste_part b (i * n) g n (omega arith) l in
        rw a (subst (P i) (sym k) top)

-- Nothing behind it changes.
pub bars_behind : (n i : ℕ) (b₀ b b₂ g : List ℕ) → i * n + n ≤ length b → n ≤ length g → b₂ ≡ paste b (i * n) (drop 0 g) n → drop (i * n) b ≡ drop (i * n) b₀
    → drop ((i + 1) * n) b₂ ≡ drop ((i + 1) * n) b₀
bars_behind n i b₀ b b₂ g h l q e =
    ap (drop ((i + 1) * n)) q ∙ paste_behind b (i * n) g n (omega arith) l ((i + 1) * n) (omega (arith, one_more i n))
    ∙ ap (λ (x : ℕ). drop x b) (one_more i n) ∙ sym (drop-drop n (i * n) b) ∙ ap (drop n) e ∙ drop-drop n (i * n) b₀ ∙ ap (λ (x : ℕ). drop x b₀) (sym (one_more i n))

up : {a b : ℕ} → a < b → suc a < suc b
up h = omega arith

module _ (n : ℕ) (z : 0 < n) where
  row_first : (m : ℕ) (w : List ℕ) (g : Cut) → (get_or g 0 0 ≡ 255 → ⊥) → get_or (join_row (rows_at n m w) g) 0 0 ≡ 255 → ⊥
  unfolding rows_at join_row decoded
  row_first zero w g h = h
  row_first (suc m) w g h = go (eqb (get_or (take n w) 0 0) 255) refl (row_first m (drop n w) g h)
    where
      go : (b : Bool) → eqb (get_or (take n w) 0 0) 255 ≡ b → (get_or (join_row (rows_at n m (drop n w)) g) 0 0 ≡ 255 → ⊥)
          → get_or (join_row (cond b none (some (take n w)) ∷ rows_at n m (drop n w)) g) 0 0 ≡ 255 → ⊥
      go true q k = k
      go false q k = λ f. not-both _ _ (eqb-false (get_or (take n w) 0 0) 255 q) k (sym (join-at (take n w) (join_row (rows_at n m (drop n w)) g) 0) ∙ f)

  rows-first : (counts w : List ℕ) (g : Cut) → (get_or g 0 0 ≡ 255 → ⊥) → get_or (join_rows (stations_at n counts w) g) 0 0 ≡ 255 → ⊥
  unfolding stations_at join_rows
  rows-first [] w g h = h
  rows-first (m ∷ counts) w g h = row_first m w (join_rows (stations_at n counts (drop (m * n) w)) g) (rows-first counts (drop (m * n) w) g h)

  -- The first count of a greatest cut is not 255, so it can be a bar.
  pub greatest-first : (counts w d : List ℕ) → (get_or w 0 0 ≡ 255 → ⊥) → get_or (greatest (structure_at n counts w d)) 0 0 ≡ 255 → ⊥
  unfolding greatest
  greatest-first counts w d h = rows-first counts (drop n w) (take n w) (λ f. h (sym (get_or-take n w 0 0 z) ∙ f))

  -- The bars that were written are the greatest cuts of the structures.
  pub bars_are : (cap k : ℕ) (b counts w d : List ℕ) → k ≤ cap → ((j : ℕ) → j < k → row_at n j b ≡ greatest (structure_at n counts (drop (j * cells n counts) w) (drop (j * bar_cells n) d)))
      → ((j : ℕ) → j < k → get_or w (j * cells n counts) 0 ≡ 255 → ⊥) → (k < cap → get_or b (k * n) 0 ≡ 255)
      → bars_at n cap b ≡ map greatest (standing n counts k w d)
  unfolding bars_at standing
  bars_are zero zero b counts w d h rows firsts end = refl
  bars_are zero (suc k) b counts w d h rows firsts end = absurd (not-suc-le-zero h)
  bars_are (suc cap) zero b counts w d h rows firsts end =
      let q : get_or b 0 0 ≡ 255 = ap (λ (x : ℕ). get_or b x 0) (sym (zero-mul n)) ∙ end (omega arith) in
      rw (eq-eqb (get_or b 0 0) 255 q)
  bars_are (suc cap) (suc k) b counts w d h rows firsts end =
      let s : ℕ = cells n counts in
      let u : ℕ = bar_cells n in
      let zw : drop (0 * s) w ≡ w = ap (λ (x : ℕ). drop x w) (zero-mul s) in
      let zd : drop (0 * u) d ≡ d = ap (λ (x : ℕ). drop x d) (zero-mul u) in
      let r : take n b ≡ greatest (structure_at n counts w d) = sym (row_zero n b) ∙ rows 0 (omega arith) ∙ ap₂ (λ (x y : List ℕ). greatest (structure_at n counts x y)) zw zd in
      let f : get_or w 0 0 ≡ 255 → ⊥ = λ q. firsts 0 (omega arith) (ap (λ (x : ℕ). get_or w x 0) (zero-mul s) ∙ q) in
      let g : get_or b 0 0 ≡ 255 → ⊥ = λ q. greatest-first counts w d f (ap (λ (x : List ℕ). get_or x 0 0) (sym r) ∙ get_or-take n b 0 0 z ∙ q) in
      let dw : (j : ℕ) → drop (suc j * s) w ≡ drop (j * s) (drop s w) = λ j. ap (λ (x : ℕ). drop x w) (suc-mul j s ∙ native.Mathlib.Nat.add_comm (j * s) s) ∙ sym (drop-drop (j * s) s w) in
      let dd : (j : ℕ) → drop (suc j * u) d ≡ drop (j * u) (drop u d) = λ j. ap (λ (x : ℕ). drop x d) (suc-mul j u ∙ native.Mathlib.Nat.add_comm (j * u) u) ∙ sym (drop-drop (j * u) u d) in
      let at : (j : ℕ) → get_or (drop s w) (j * s) 0 ≡ get_or w (suc j * s) 0 = λ j. get_or-drop s w (j * s) 0 ∙ ap (λ (x : ℕ). get_or w x 0) (native.Mathlib.Nat.add_comm s (j * s) ∙ sym (suc-mul j s)) in
      rw (ne_eqb (get_or b 0 0) 255 g)
      (ap₂ (λ (x : Cut) (l : List Cut). x ∷ l) r
      (bars_are cap k (drop n b) counts (drop s w) (drop u d) (native.Mathlib.Nat.le_of_suc-le-suc h)
      (λ j q. sym (row-suc n j b) ∙ rows (suc j) (up q) ∙ ap₂ (λ (x y : List ℕ). greatest (structure_at n counts x y)) (dw j) (dd j))
      (λ j q v. firsts (suc j) (up q) (sym (at j) ∙ v))
      (λ q. get_or-drop n b (k * n) 0 ∙ ap (λ (x : ℕ). get_or b x 0) (native.Mathlib.Nat.add_comm n (k * n) ∙ sym (suc-mul k n)) ∙ end (up q))))

-- NOT POSSIBLY

-- All cuts: the starts themselves.
all_rows : (n e : ℕ) (starts w w₂ : List ℕ) → (e + 1) * n ≤ length starts → w₂ ≡ paste w 0 (drop 0 starts) ((e + 1) * n)
    → (i : ℕ) → i ≤ e → row_at n i w₂ ≡ row_at n i starts
all_rows n e starts w w₂ l q i k =
    part_same ((e + 1) * n) w₂ starts (ap (take ((e + 1) * n)) q ∙ paste_part w 0 starts ((e + 1) * n) (omega arith) l) (i * n) n (row_fits i e n k)

module _ (shape : Shape) (k : ℕ) (starts w w₂ b b₁ b₂ : List ℕ) (z : 0 < shape.n) (few : k ≤ 16) (hs : (shape.e + 1) * shape.n ≤ length starts)
    (there : get_or starts 0 0 ≡ 255 → ⊥) (firsts : Present ((shape.e + 1) * shape.n) k w)
    (rows : (i : ℕ) → i < k → GreatestAt shape w (i * ((shape.e + 1) * shape.n)) (row_at shape.n i b₁))
    (end : Ended 0 k shape.n b₁ b₂) (q : w₂ ≡ paste w 0 (drop 0 starts) ((shape.e + 1) * shape.n)) where
  first_all : get_or w₂ 0 0 ≡ 255 → ⊥
  first_all f =
      let r : take shape.n w₂ ≡ take shape.n starts = sym (row_zero shape.n w₂) ∙ all_rows shape.n shape.e starts w w₂ hs q 0 (omega arith) ∙ row_zero shape.n starts in
      there (sym (get_or-take shape.n starts 0 0 z) ∙ ap (λ (x : List ℕ). get_or x 0 0) (sym r) ∙ get_or-take shape.n w₂ 0 0 z ∙ f)

  kept_rows : (i : ℕ) → i < k → row_at shape.n i b₂ ≡ row_at shape.n i b₁
  kept_rows i h = part_same (0 + k * shape.n) b₂ b₁ end.front (i * shape.n) shape.n (omega (arith, next_fits i k shape.n h))

  module _ (K : Computation) (laid : Laid K shape starts) (asc : All (RowsAscend (full K)) (standing shape.n (full K) k w b)) where
    greatest-there : (j : ℕ) → j < k → row_at shape.n j b₁ ≡ greatest (structure_at shape.n (full K) (drop (j * cells shape.n (full K)) w) (drop (j * bar_cells shape.n) b))
    greatest-there j h =
        let c = cells_are shape.n shape.e (full K) laid.counted in
        let top : GreatestAt shape w (j * cells shape.n (full K)) (row_at shape.n j b₁) = rw c (rows j h) in
        greatest_of shape (full K) w (j * cells shape.n (full K)) (row_at shape.n j b₁) laid.counts_are top (drop (j * bar_cells shape.n) b)
        (standing-each shape.n (full K) (RowsAscend (full K)) k w b asc j h)

    barred-is : barred K (standing shape.n (full K) k w b) ≡ keep (structure_at shape.n (full K) w₂ b₂)
    unfolding barred
    barred-is =
        let c = sym (cells_are shape.n shape.e (full K) laid.counted) in
        let bars : bars_at shape.n 16 b₂ ≡ map greatest (standing shape.n (full K) k w b) =
        bars_are shape.n z 16 k b₂ (full K) w b few
        (λ j h. kept_rows j h ∙ greatest-there j h)
        (λ j h f. firsts j h (ap (λ (x : ℕ). get_or w (j * x) 0) c ∙ f))
        (λ h. ap (λ (x : ℕ). get_or b₂ x 0) (let o : k * shape.n ≡ 0 + k * shape.n = omega arith in o) ∙ end.ends h) in
        build-there K shape starts laid some w₂
        (λ i h. ap decoded (all_rows shape.n shape.e starts w w₂ hs q i h) ∙ decoded-some (row_at shape.n i starts) (start-there K shape starts laid i h))
        (map greatest (standing shape.n (full K) k w b)) first_all
        ∙ ap (λ (l : List Cut). keep (record { least = take shape.n w₂; rows = stations_at shape.n (full K) (drop shape.n w₂); bars = l })) (sym bars)

  -- The starts ascend, so the greatest of all cuts is found.
  all_top : (K : Computation) → Laid K shape starts → (g : Cut) → GreatestAt shape w₂ 0 g → g ≡ greatest (structure_at shape.n (full K) w₂ b₂)
  all_top K laid g top =
      let c = cells_are shape.n shape.e (full K) laid.counted in
      let e : take (cells shape.n (full K)) w₂ ≡ take (cells shape.n (full K)) starts = rw c (ap (take ((shape.e + 1) * shape.n)) q ∙ paste_part w 0 starts ((shape.e + 1) * shape.n) (omega arith) hs) in
      greatest_of shape (full K) w₂ 0 g laid.counts_are top b₂
      (subst (RowsAscend (full K)) (sym (set_same shape.n (full K) w₂ starts b₂ e)) (starts_ascend K shape starts laid b₂))

  module _ (g : List ℕ) (t : Bool) (top : GreatestAt shape w₂ 0 (take shape.n g))
      (test : t ≡ inside_any (take shape.n g) (bars_at shape.n 16 (drop 0 b₂))) where
    pub bar_dropped : t ≡ true → Impossible shape k 0 starts w w₂ b b₂
    unfolding standing keep
    bar_dropped y = record {
      stands = λ K laid asc.
          sym (barred-is K laid asc
          ∙ ap (λ (x : Bool). cond x [] (structure_at shape.n (full K) w₂ b₂ ∷ [])) (ap (λ (x : Cut). inside_any x (bars_at shape.n 16 b₂)) (sym (all_top K laid (take shape.n g) top)) ∙ sym test ∙ y));
      least = λ i h. absurd (not-suc-le-zero h);
      few = omega arith;
    }

    pub bar_kept : t ≡ false → Impossible shape k 1 starts w w₂ b b₂
    unfolding standing keep
    bar_kept y = record {
      stands = λ K laid asc.
          sym (barred-is K laid asc
          ∙ ap (λ (x : Bool). cond x [] (structure_at shape.n (full K) w₂ b₂ ∷ [])) (ap (λ (x : Cut). inside_any x (bars_at shape.n 16 b₂)) (sym (all_top K laid (take shape.n g) top)) ∙ sym test ∙ y));
      least = λ i h f. first_all (ap (λ (x : ℕ). get_or w₂ x 0) (sym (ap (λ (x : ℕ). x * ((shape.e + 1) * shape.n)) (let o : i ≡ 0 = omega arith in o) ∙ zero-mul ((shape.e + 1) * shape.n))) ∙ f);
      few = omega arith;
    }
