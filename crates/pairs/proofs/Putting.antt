-- Pairs put one behind the other: a row of pairs, all pairs.
use Rattle.std.specs.Prelude.{Option, None}
use mathlib.Core.Path.{◌≡◌, refl, sym, ap, ap₂, subst, ◌∙◌}
use Prim.Native.Nat.{ℕ, suc, ◌+◌, ◌-◌, ◌*◌, ◌≤◌, ◌<◌}
use native.Mathlib.Omega.{arith}
use native.Mathlib.Nat.{add-mul, mul-le-mul_right, not-suc-le-zero}
use mathlib.Core.List.{List, [], ◌∷◌, ◌++◌, append-nil}
use mathlib.Core.Bool.{Bool, true, false}
use lib.Dec.{ltb}
use lib.ListN.{length, get_or, take, drop, length-drop}
use lib.Seq.{paste, get_or-drop, drop-drop}
use borrow.Author.Tests.{ltb-true, ltb-false}
use Rattle.model.specs.Lists.{sum, total}
use Rattle.model.specs.Computation.{Computation, full, event_count}
use Rattle.model.specs.Structure.{Structure, row}
use Rattle.model.specs.Basis.{intersect, each}
use Rattle.model.specs.Rounds.{rounds_of_pair}
use Rattle.structure.specs.Layout.{structure_at, standing, cells, bar_cells}
use Rattle.lattice.proofs.Sums.{sum-snoc}
use Rattle.cells.proofs.Parts.{front_same, part_same, cell_same, paste_part}
use Rattle.structure.proofs.Places.{one_more, cells_are, next_fits}
use Rattle.structure.proofs.Standing.{structure_same, standing_same, standing-add, standing-each}
use Rattle.modal.specs.Post.{Present}
use Rattle.modal.proofs.Laws.{each_append}
use Rattle.structure.specs.declared.Shape.{Shape}
use Rattle.structure.specs.declared.Sets.{Sets}
use Rattle.structure.specs.Marks.{Mark, Marked}
use Rattle.structure.proofs.Marks.{standing_mark}
use Rattle.slots.specs.Slots.{Slots}
use Rattle.lattice.proofs.Lists.{All}
use Rattle.lattice.proofs.Bases.{Good}
use Rattle.pair.specs.Post.{structure_of, standing_from, Put, OnePair}
use Rattle.pairs.specs.declared.Row.{Row}
use Rattle.pairs.specs.Post.{RowPair, AllPairs}

-- LISTS

each-one : (f : Structure → List Structure) (L : List Structure) (S : Structure) → each f L ++ f S ≡ each f (L ++ (S ∷ []))
unfolding each
each-one f L S = sym (each_append f L (S ∷ []) ∙ ap (λ (l : List Structure). each f L ++ l) (append-nil (f S)))

sum_one : (f : Structure → ℕ) (L : List Structure) (S : Structure) → sum f L + f S ≡ sum f (L ++ (S ∷ []))
sum_one f L S = sym (sum-snoc f L S)

-- WHAT STANDS BEFORE A PLACE

module _ (n e : ℕ) where
  abbrev size : ℕ
  size = (e + 1) * n

  abbrev slot : ℕ
  slot = 16 * n

  module _ (z : 0 < n) (K : Computation) (counted : event_count K ≡ e) where
    pub cells_is : suc (total (full K)) * n ≡ size
    cells_is = cells_are n e (full K) counted

    -- k structures and one more.
    snoc : (k : ℕ) (w b : List ℕ) → standing n (full K) (k + 1) w b ≡ standing n (full K) k w b ++ (structure_of n e K w b k ∷ [])
    unfolding standing
    snoc k w b = standing-add n (full K) k 1 w b ∙ ap (λ (x : ℕ). standing n (full K) k w b ++ (structure_at n (full K) (drop (k * x) w) (drop (k * bar_cells n) b) ∷ [])) cells_is

    pub at_sum : (l j : ℕ) (w b : List ℕ) → structure_of n e K (drop (l * size) w) (drop (l * slot) b) j ≡ structure_of n e K w b (l + j)
    at_sum l j w b =
        ap₂ (structure_at n (full K)) (drop-drop (j * size) (l * size) w ∙ ap (λ (x : ℕ). drop x w) (sym (add-mul l j size)))
        (drop-drop (j * slot) (l * slot) b ∙ ap (λ (x : ℕ). drop x b) (sym (add-mul l j slot)))

    module _ (o : ℕ) (w v b d : List ℕ) (ew : take (o * size) w ≡ take (o * size) v) (eb : take (o * slot) b ≡ take (o * slot) d) where
      pub from_kept : (l r : ℕ) → l + r ≤ o → standing_from n e K w b l r ≡ standing_from n e K v d l r
      from_kept l r h =
          standing_same n (full K) r (drop (l * size) w) (drop (l * size) v) (drop (l * slot) b) (drop (l * slot) d) z
          (ap (λ (x : ℕ). take (r * x) (drop (l * size) w)) cells_is
          ∙ part_same (o * size) w v ew (l * size) (r * size) (omega (arith, mul-le-mul_right size h, add-mul l r size))
          ∙ ap (λ (x : ℕ). take (r * x) (drop (l * size) v)) (sym cells_is))
          (part_same (o * slot) b d eb (l * slot) (r * slot) (omega (arith, mul-le-mul_right slot h, add-mul l r slot)))

      pub structure_kept : (i : ℕ) → i < o → structure_of n e K w b i ≡ structure_of n e K v d i
      structure_kept i h =
          structure_same n (full K) (drop (i * size) w) (drop (i * size) v) (drop (i * slot) b) (drop (i * slot) d) z
          (ap (λ (x : ℕ). take x (drop (i * size) w)) cells_is
          ∙ part_same (o * size) w v ew (i * size) size (next_fits i o size h)
          ∙ ap (λ (x : ℕ). take x (drop (i * size) v)) (sym cells_is))
          (part_same (o * slot) b d eb (i * slot) slot (next_fits i o slot h))

  -- ONE BEHIND THE OTHER

  pub put-none : (P : Computation → Type 0) (o : ℕ) (w b : List ℕ) (X : Computation → List Structure) (Y : Computation → ℕ) → ((K : Computation) → X K ≡ []) → ((K : Computation) → Y K ≡ 0) → Put n e o 0 P w w b b X Y 0
  unfolding standing
  put-none P o w b X Y f g = record {
    stands = λ K h. sym (f K);
    summed = λ K h. sym (g K);
    cells_kept = refl;
    bars_kept = refl;
    least = λ j h. absurd (not-suc-le-zero h);
  }

  module _ (z : 0 < n) (P P' : Computation → Type 0) (num : (K : Computation) → P K → event_count K ≡ e) (known : (K : Computation) → P K → P' K) (o k m : ℕ) (w w₁ w₂ b b₁ b₂ : List ℕ) (X X' X'' : Computation → List Structure) (Y Y' Y'' : Computation → ℕ) (s s' : ℕ)
      (first : Put n e o k P w w₁ b b₁ X Y s) (second : Put n e (o + k) m P' w₁ w₂ b₁ b₂ X' Y' s')
      (both : (K : Computation) → P K → X K ++ X' K ≡ X'' K) (adds : (K : Computation) → P K → Y K + Y' K ≡ Y'' K) where
    put-least : (j : ℕ) → j < k + m → get_or w₂ ((o + j) * size) 0 ≡ 255 → ⊥
    put-least j h f = go (ltb j k) refl
      where
        p : 0 < size
        p = omega (arith, one_more e n)

        go : (t : Bool) → ltb j k ≡ t → ⊥
        go true q =
            let a : suc (o + j) ≤ o + k = omega (arith, ltb-true j k q) in
            let c : (o + j) * size < (o + k) * size = omega (arith, next_fits (o + j) (o + k) size a, p) in
            first.least j (ltb-true j k q) (sym (cell_same ((o + k) * size) w₂ w₁ second.cells_kept ((o + j) * size) c) ∙ f)
        go false q =
            let a : o + k + (j - k) ≡ o + j = omega (arith, ltb-false j k q) in
            second.least (j - k) (omega (arith, ltb-false j k q)) (ap (λ (x : ℕ). get_or w₂ (x * size) 0) a ∙ f)

    pub put-more : Put n e o (k + m) P w w₂ b b₂ X'' Y'' (s + s')
    put-more = record {
      stands = λ K h.
          let c : suc (total (full K)) * n ≡ size = cells_is z K (num K h) in
          let old : standing n (full K) k (drop (o * size) w₂) (drop (o * slot) b₂) ≡ X K =
          from_kept z K (num K h) (o + k) w₂ w₁ b₂ b₁ second.cells_kept second.bars_kept o k (omega arith) ∙ first.stands K h in
          let dw : drop (k * cells n (full K)) (drop (o * size) w₂) ≡ drop ((o + k) * size) w₂ =
          ap (λ (y : ℕ). drop (k * y) (drop (o * size) w₂)) c ∙ drop-drop (k * size) (o * size) w₂ ∙ ap (λ (y : ℕ). drop y w₂) (sym (add-mul o k size)) in
          let db : drop (k * bar_cells n) (drop (o * slot) b₂) ≡ drop ((o + k) * slot) b₂ = drop-drop (k * slot) (o * slot) b₂ ∙ ap (λ (y : ℕ). drop y b₂) (sym (add-mul o k slot)) in
          standing-add n (full K) k m (drop (o * size) w₂) (drop (o * slot) b₂)
          ∙ ap₂ (λ (l r : List Structure). l ++ r) old (ap₂ (standing n (full K) m) dw db ∙ second.stands K (known K h)) ∙ both K h;
      summed = λ K h. ap₂ (λ (u v : ℕ). u + v) (first.summed K h) (second.summed K (known K h)) ∙ adds K h;
      cells_kept = front_same ((o + k) * size) w₂ w₁ second.cells_kept (o * size) (omega (arith, add-mul o k size)) ∙ first.cells_kept;
      bars_kept = front_same ((o + k) * slot) b₂ b₁ second.bars_kept (o * slot) (omega (arith, add-mul o k slot)) ∙ first.bars_kept;
      least = put-least;
    }

  -- A ROW OF PAIRS

  abbrev pub row_x : List ℕ → List ℕ → ℕ → ℕ → ℕ → Computation → List Structure
  row_x w b i l j K = each (intersect K (structure_of n e K w b i)) (standing_from n e K w b l j)

  abbrev pub row_y : List ℕ → List ℕ → ℕ → ℕ → ℕ → Computation → ℕ
  row_y w b i l j K = sum (rounds_of_pair K (structure_of n e K w b i)) (standing_from n e K w b l j)

  pub row-none : (P : Computation → Type 0) (o i l : ℕ) (w b : List ℕ) → Put n e o 0 P w w b b (row_x w b i l 0) (row_y w b i l 0) 0
  unfolding standing each sum
  row-none P o i l w b = put-none P o w b (row_x w b i l 0) (row_y w b i l 0) (λ K. refl) (λ K. refl)

  pub row_more : 0 < n → (P P' : Computation → Type 0) → ((K : Computation) → P K → event_count K ≡ e) → ((K : Computation) → P K → P' K) → (o c k i l j : ℕ) (w w₁ w₂ b b₁ b₂ : List ℕ) (s s' : ℕ) → i < o → l + j < o
      → Put n e o c P w w₁ b b₁ (row_x w b i l j) (row_y w b i l j) s
      → Put n e (o + c) k P' w₁ w₂ b₁ b₂ (λ K. intersect K (structure_of n e K w₁ b₁ i) (structure_of n e K w₁ b₁ (l + j))) (λ K. rounds_of_pair K (structure_of n e K w₁ b₁ i) (structure_of n e K w₁ b₁ (l + j))) s'
      → Put n e o (c + k) P w w₂ b b₂ (row_x w b i l (j + 1)) (row_y w b i l (j + 1)) (s + s')
  row_more z P P' num known o c k i l j w w₁ w₂ b b₁ b₂ s s' hi hj p q =
      put-more z P P' num known o c k w w₁ w₂ b b₁ b₂ _ _ (row_x w b i l (j + 1)) _ _ (row_y w b i l (j + 1)) s s' p q
      (λ K h.
      let x = structure_kept z K (num K h) o w₁ w b₁ b p.cells_kept p.bars_kept i hi in
      let y = structure_kept z K (num K h) o w₁ w b₁ b p.cells_kept p.bars_kept (l + j) hj ∙ sym (at_sum z K (num K h) l j w b) in
      ap₂ (λ (S T : Structure). row_x w b i l j K ++ intersect K S T) x y
      ∙ each-one (intersect K (structure_of n e K w b i)) (standing_from n e K w b l j) _
      ∙ ap (each (intersect K (structure_of n e K w b i))) (sym (snoc z K (num K h) j (drop (l * size) w) (drop (l * slot) b))))
      (λ K h.
      let x = structure_kept z K (num K h) o w₁ w b₁ b p.cells_kept p.bars_kept i hi in
      let y = structure_kept z K (num K h) o w₁ w b₁ b p.cells_kept p.bars_kept (l + j) hj ∙ sym (at_sum z K (num K h) l j w b) in
      ap₂ (λ (S T : Structure). row_y w b i l j K + rounds_of_pair K S T) x y
      ∙ sum_one (rounds_of_pair K (structure_of n e K w b i)) (standing_from n e K w b l j) _
      ∙ ap (sum (rounds_of_pair K (structure_of n e K w b i))) (sym (snoc z K (num K h) j (drop (l * size) w) (drop (l * slot) b))))

  -- ALL PAIRS

  abbrev pub all_x : List ℕ → List ℕ → ℕ → ℕ → ℕ → Computation → List Structure
  all_x w b l r i K = each (λ S. each (intersect K S) (standing_from n e K w b l r)) (standing n (full K) i w b)

  abbrev pub all_y : List ℕ → List ℕ → ℕ → ℕ → ℕ → Computation → ℕ
  all_y w b l r i K = sum (λ S. sum (rounds_of_pair K S) (standing_from n e K w b l r)) (standing n (full K) i w b)

  pub all_none : (P : Computation → Type 0) (o l r : ℕ) (w b : List ℕ) → Put n e o 0 P w w b b (all_x w b l r 0) (all_y w b l r 0) 0
  unfolding standing each sum
  all_none P o l r w b = put-none P o w b (all_x w b l r 0) (all_y w b l r 0) (λ K. refl) (λ K. refl)

  pub all_more : 0 < n → (P P' : Computation → Type 0) → ((K : Computation) → P K → event_count K ≡ e) → ((K : Computation) → P K → P' K) → (o c k l r i : ℕ) (w w₁ w₂ b b₁ b₂ : List ℕ) (s s' : ℕ) → i < o → l + r ≤ o
      → Put n e o c P w w₁ b b₁ (all_x w b l r i) (all_y w b l r i) s
      → Put n e (o + c) k P' w₁ w₂ b₁ b₂ (row_x w₁ b₁ i l r) (row_y w₁ b₁ i l r) s'
      → Put n e o (c + k) P w w₂ b b₂ (all_x w b l r (i + 1)) (all_y w b l r (i + 1)) (s + s')
  all_more z P P' num known o c k l r i w w₁ w₂ b b₁ b₂ s s' hi hr p q =
      put-more z P P' num known o c k w w₁ w₂ b b₁ b₂ _ _ (all_x w b l r (i + 1)) _ _ (all_y w b l r (i + 1)) s s' p q
      (λ K h.
      let x = structure_kept z K (num K h) o w₁ w b₁ b p.cells_kept p.bars_kept i hi in
      let y = from_kept z K (num K h) o w₁ w b₁ b p.cells_kept p.bars_kept l r hr in
      ap₂ (λ (S : Structure) (R : List Structure). all_x w b l r i K ++ each (intersect K S) R) x y
      ∙ each-one (λ S. each (intersect K S) (standing_from n e K w b l r)) (standing n (full K) i w b) (structure_of n e K w b i)
      ∙ ap (each (λ S. each (intersect K S) (standing_from n e K w b l r))) (sym (snoc z K (num K h) i w b)))
      (λ K h.
      let x = structure_kept z K (num K h) o w₁ w b₁ b p.cells_kept p.bars_kept i hi in
      let y = from_kept z K (num K h) o w₁ w b₁ b p.cells_kept p.bars_kept l r hr in
      ap₂ (λ (S : Structure) (R : List Structure). all_y w b l r i K + sum (rounds_of_pair K S) R) x y
      ∙ sum_one (λ S. sum (rounds_of_pair K S) (standing_from n e K w b l r)) (standing n (full K) i w b) (structure_of n e K w b i)
      ∙ ap (sum (λ S. sum (rounds_of_pair K S) (standing_from n e K w b l r))) (sym (snoc z K (num K h) i w b)))

  -- Moved to the front.
  module _ (z : 0 < n) (P : Computation → Type 0) (num : (K : Computation) → P K → event_count K ≡ e) (o c : ℕ) (w w₁ w₂ b b₁ b₂ : List ℕ) (X : Computation → List Structure) (Y : Computation → ℕ) (s : ℕ)
      (hw : o * size + c * size ≤ length w₁) (hb : o * slot + c * slot ≤ length b₁) (p : Put n e o c P w w₁ b b₁ X Y s)
      (sw : w₂ ≡ paste w₁ 0 (drop (o * size) w₁) (c * size)) (sb : b₂ ≡ paste b₁ 0 (drop (o * slot) b₁) (c * slot)) where
    ew : take (c * size) w₂ ≡ take (c * size) (drop (o * size) w₁)
    ew = ap (take (c * size)) sw ∙ paste_part w₁ 0 (drop (o * size) w₁) (c * size) (omega arith) (omega (arith, length-drop (o * size) w₁))

    eb : take (c * slot) b₂ ≡ take (c * slot) (drop (o * slot) b₁)
    eb = ap (take (c * slot)) sb ∙ paste_part b₁ 0 (drop (o * slot) b₁) (c * slot) (omega arith) (omega (arith, length-drop (o * slot) b₁))

    pub moved-stands : (K : Computation) → P K → standing n (full K) c w₂ b₂ ≡ X K
    moved-stands K h =
        standing_same n (full K) c w₂ (drop (o * size) w₁) b₂ (drop (o * slot) b₁) z
        (ap (λ (x : ℕ). take (c * x) w₂) (cells_is z K (num K h)) ∙ ew ∙ ap (λ (x : ℕ). take (c * x) (drop (o * size) w₁)) (sym (cells_is z K (num K h)))) eb
        ∙ p.stands K h

    pub moved-least : Present size c w₂
    moved-least j h f =
        let q : 0 < size = omega (arith, one_more e n) in
        let k : j * size < c * size = omega (arith, next_fits j c size h) in
        p.least j h (ap (λ (x : ℕ). get_or w₁ x 0) (add-mul o j size) ∙ sym (get_or-drop (o * size) w₁ (j * size) 0) ∙ sym (cell_same (c * size) w₂ (drop (o * size) w₁) ew (j * size) k) ∙ f)

-- WHAT IS KNOWN

-- What stood before structure o still does.
module _ (x : Shape) (z : 0 < x.n) (first w w₁ b b₁ : List ℕ) (o : ℕ) (ew : take (o * ((x.e + 1) * x.n)) w₁ ≡ take (o * ((x.e + 1) * x.n)) w) (eb : take (o * (16 * x.n)) b₁ ≡ take (o * (16 * x.n)) b) where
  -- Structure j of those that stand from structure l on.
  module _ (K : Computation) (counted : event_count K ≡ x.e) (l r j : ℕ) where
    from_at : structure_at x.n (full K) (drop (j * cells x.n (full K)) (drop (l * ((x.e + 1) * x.n)) w)) (drop (j * bar_cells x.n) (drop (l * (16 * x.n)) b)) ≡ structure_of x.n x.e K w b (l + j)
    from_at =
        ap (λ (m : ℕ). structure_at x.n (full K) (drop (j * m) (drop (l * ((x.e + 1) * x.n)) w)) (drop (j * (16 * x.n)) (drop (l * (16 * x.n)) b))) (cells_is x.n x.e z K counted)
        ∙ at_sum x.n x.e z K counted l j w b

    good-at : j < r → All (Good K) (standing_from x.n x.e K w b l r) → Good K (structure_of x.n x.e K w b (l + j))
    good-at h a = subst (Good K) from_at (standing-each x.n (full K) (Good K) r (drop (l * ((x.e + 1) * x.n)) w) (drop (l * (16 * x.n)) b) a j h)

    mark_at : (marks : List (Option ℕ)) → j < r → Marked K (standing_from x.n x.e K w b l r) marks → Mark K (get_or marks j None) (structure_of x.n x.e K w b (l + j))
    mark_at marks h a = subst (Mark K (get_or marks j None)) from_at (standing_mark K x.n (full K) r (drop (l * ((x.e + 1) * x.n)) w) (drop (l * (16 * x.n)) b) marks a j h)

  pub row_knows : (q : Row) (left : List ℕ) (j c : ℕ) → j < q.many → q.left < o → q.right + q.many ≤ o
      → ((K : Computation) → RowPair x q first w b K → Slots K (row (structure_of x.n x.e K w b q.left)) left)
      → (K : Computation) → RowPair x q first w b K → OnePair x (record { left = q.left; right = q.right + j; to = c; leftmark = q.leftmark; rightmark = get_or q.marks j None }) left first w₁ b₁ K
  row_knows q left j c h hi hr s K g =
      let kept = structure_kept x.n x.e z K g.begun.counted o w₁ w b₁ b ew eb in
      record {
        begun = g.begun;
        good_left = subst (Good K) (sym (kept q.left hi)) g.good_left;
        slots_left = subst (λ (S : Structure). Slots K (row S) left) (sym (kept q.left hi)) (s K g);
        good_right = subst (Good K) (sym (kept (q.right + j) (omega arith))) (good-at K g.begun.counted q.right q.many j h g.good_right);
        mark_left = subst (Mark K q.leftmark) (sym (kept q.left hi)) g.mark_left;
        mark_right = subst (Mark K (get_or q.marks j None)) (sym (kept (q.right + j) (omega arith))) (mark_at K g.begun.counted q.right q.many j q.marks h g.marked_right);
      }

  pub all_knows : (l r : Sets) (i c : ℕ) → i < l.count → l.count + r.count ≤ o → (K : Computation) → AllPairs x l r first w b K
      → RowPair x (record { left = i; right = l.count; many = r.count; to = c; leftmark = get_or l.stations i None; marks = r.stations }) first w₁ b₁ K
  all_knows l r i c h hr K g =
      let cells_are = cells_is x.n x.e z K g.begun.counted in
      let kept = structure_kept x.n x.e z K g.begun.counted o w₁ w b₁ b ew eb i (omega arith) in
      let from = from_kept x.n x.e z K g.begun.counted o w₁ w b₁ b ew eb l.count r.count hr in
      let good = standing-each x.n (full K) (Good K) l.count w b g.bases.good_left i h in
      let mark = standing_mark K x.n (full K) l.count w b l.stations g.bases.marked_left i h in
      record {
        begun = g.begun;
        good_left = subst (Good K) (sym kept) (subst (λ (m : ℕ). Good K (structure_at x.n (full K) (drop (i * m) w) (drop (i * (16 * x.n)) b))) cells_are good);
        good_right = subst (All (Good K)) (sym from) g.bases.good_right;
        mark_left = subst (Mark K (get_or l.stations i None)) (sym kept) (subst (λ (m : ℕ). Mark K (get_or l.stations i None) (structure_at x.n (full K) (drop (i * m) w) (drop (i * (16 * x.n)) b))) cells_are mark);
        marked_right = subst (λ (L : List Structure). Marked K L r.stations) (sym from) g.bases.marked_right;
      }
