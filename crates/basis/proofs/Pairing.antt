-- The second operand of 03 and 04: it is worked out behind the first, and both are joined.
use mathlib.Core.Path.{◌≡◌, refl, sym, ap, ap₂, subst, ◌∙◌}
use Prim.Native.Nat.{ℕ, zero, suc, ◌+◌, ◌-◌, ◌*◌, ◌≤◌, ◌<◌}
use native.Mathlib.Omega.{arith}
use native.Mathlib.Nat.{mul-le-mul, mul-le-mul_right, suc-mul, zero-mul, add-mul, not-suc-le-zero, le_of_suc-le-suc}
use mathlib.Core.List.{List, [], ◌++◌}
use mathlib.Core.Bool.{Bool, true, false, beq}
use lib.Dec.{ltb}
use lib.ListN.{length, get_or, take, drop, length-drop, length-append, get_or-append}
use lib.Seq.{take_at, drop_at, length-take-le, get_or-take, get_or-append-add, drop-drop}
use borrow.Author.Tests.{ltb-true, ltb-false}
use borrow.Rule.Slice.PartMut.{put_mid, same_len_mid}
use Rattle.model.specs.Lists.{total}
use Rattle.model.specs.Formula.{Formula, prefix, sound, tokens}
use Rattle.model.specs.Computation.{Computation, full}
use Rattle.model.specs.Rules.{workable}
use Rattle.model.specs.Rules.Normal.{both}
use Rattle.model.specs.Size.{width, bars, held, narrow}
use Rattle.model.specs.Structure.{Structure}
use Rattle.model.specs.Basis.{basis}
use Rattle.model.specs.Rounds.{rounds}
use Rattle.structure.specs.Layout.{structure_at, standing, bars_at, cells, bar_cells}
use Rattle.structure.specs.declared.Shape.{Shape}
use Rattle.structure.specs.declared.Run.{Run}
use Rattle.structure.specs.declared.Sets.{Sets}
use Rattle.structure.specs.Marks.{Marked, Within}
use Rattle.structure.specs.Laid.{Laid, Given}
use Rattle.lattice.proofs.Signed as signed
use Rattle.lattice.specs.Signed.{normal, two, joined_form}
use Rattle.lattice.proofs.Tests.{and-true}
use Rattle.lattice.proofs.Theorem.{basis-good}
use Rattle.lattice.proofs.Size.{basis-bars-at, narrow_both}
use Rattle.lattice.proofs.Held.{held_both}
use Rattle.structure.proofs.Places.{one_more, cells_are}
use Rattle.structure.proofs.Standing.{standing_same, length-standing}
use Rattle.modal.specs.Post.{Present}
use Rattle.cells.proofs.Parts.{put_end}
use Rattle.modal.proofs.Laws.{part_room}
use Rattle.token.specs.Signed.{two_token, joined_basis, rounds_of_joined}
use Rattle.token.specs.Contract.{rounds_most, Ready, Made}
use Rattle.joining.specs.Combined.{Combined}
use Rattle.pairs.specs.Post.{Bases, PairsReady}
use Rattle.token.proofs.Tokens as tokens
use Rattle.token.proofs.Normals as normals
use Rattle.token.proofs.Operands.{Done, done_at, question-some}

-- The bars of structure i.
bars-at : (n : ℕ) (counts : List ℕ) (k : ℕ) (w b : List ℕ) (S : Structure) (i : ℕ) → i < k → (get_or (standing n counts k w b) i S).bars ≡ bars_at n 16 (drop (i * (16 * n)) b)
unfolding standing
bars-at n counts zero w b S i h = absurd (not-suc-le-zero h)
bars-at n counts (suc k) w b S zero h = ap (λ (x : ℕ). bars_at n 16 (drop x b)) (sym (zero-mul (16 * n)))
bars-at n counts (suc k) w b S (suc i) h =
    let e : bar_cells n + i * (16 * n) ≡ suc i * (16 * n) = omega (arith, suc-mul i (16 * n)) in
    bars-at n counts k (drop (cells n counts) w) (drop (bar_cells n) b) S i (le_of_suc-le-suc h)
    ∙ ap (bars_at n 16) (drop-drop (i * (16 * n)) (bar_cells n) b ∙ ap (λ (x : ℕ). drop x b) e)

-- The numbers that the code works with once the first operand stands.
pub record Left (n e c u v l mw mb : ℕ) : Type 0 where
  pub few : c ≤ 16
  pub short : u ≤ 192
  pub small : v ≤ rounds_most
  pub within : u ≤ l
  pub cells_fit : c * ((e + 1) * n) ≤ mw
  pub bars_fit : c * (16 * n) ≤ mb
  pub bars-small : c * (16 * n) ≤ 2048

-- Once the second operand stands behind the first, both can be joined.
pub record Second (shape : Shape) (l r : Sets) (u v : ℕ) (w b : List ℕ) (pair : Bool) : Type 0 where
  pub few : r.count ≤ 16
  pub short : u ≤ 192
  pub small : v ≤ rounds_most
  pub present : Present ((shape.e + 1) * shape.n) (l.count + r.count) w
  pub within_left : Within shape.n l.stations
  pub within_right : Within shape.n r.stations
  pub ready : pair ≡ true → PairsReady shape l r w b

module _ {s : Bool} (b : Bool) {run : Run} {q q' : List ℕ} {mw mb : ℕ}
    (r : Ready s run q mw mb) (k : get_or q 0 0 ≡ two_token b) (d : q' ≡ drop 1 q)
    {sets : Sets} {u v : ℕ} {w bs : List ℕ} (lw : length w ≡ mw) (lb : length bs ≡ mb) (m : Made s run q' sets u v w bs) where
  abbrev c : ℕ
  c = sets.count

  f₁ : Formula
  f₁ = (tokens.behind-two q r.formula r.rest r.reads b k).0

  f₂ : Formula
  f₂ = (tokens.behind-two q r.formula r.rest r.reads b k).1

  abbrev size : ℕ
  size = (run.x.e + 1) * run.x.n

  abbrev slot : ℕ
  slot = 16 * run.x.n

  is-two : r.formula ≡ two b f₁ f₂
  unfolding f₁ f₂
  is-two = (tokens.behind-two q r.formula r.rest r.reads b k).2

  reads_two : drop 1 q ≡ prefix f₁ ++ (prefix f₂ ++ r.rest)
  unfolding f₁ f₂
  reads_two = (tokens.behind-two q r.formula r.rest r.reads b k).3

  form : normal s r.formula ≡ joined_form (beq b s) (normal s f₁) (normal s f₂)
  form = ap (normal s) is-two ∙ signed.normal-two s b f₁ f₂

  slims : (narrow (normal s f₁) ≡ true) × (narrow (normal s f₂) ≡ true)
  slims = normals.narrow-joined (beq b s) (normal s f₁) (normal s f₂) (sym (ap narrow form) ∙ r.slim)

  left_done : Done c u v (normal s f₁) (length q')
  left_done =
      done_at m r.computation r.laid f₁ (prefix f₂ ++ r.rest) (d ∙ reads_two) slims.0
      (omega (arith, r.short, ap tokens is-two, signed.weigh-two 1 1 1 b f₁ f₂))

  sum-held : c + held (normal s f₂) ≤ held (normal s r.formula)
  sum-held =
      omega (arith, left_done.wide, (normals.held-joined (beq b s) (normal s f₁) (normal s f₂)).1, ap held form)

  cells-two : c * size + held (normal s f₂) * size ≤ length w
  cells-two = omega (arith, mul-le-mul_right size sum-held, add-mul c (held (normal s f₂)) size, r.cells_fit, lw)

  bars-two : c * slot + held (normal s f₂) * slot ≤ length bs
  bars-two = omega (arith, mul-le-mul_right slot sum-held, add-mul c (held (normal s f₂)) slot, r.bars_fit, lb)

  pub left : Left run.x.n run.x.e c u v (length q') (length w) (length bs)
  left = record {
    few = left_done.few;
    short = left_done.short;
    small = left_done.small;
    within = left_done.within;
    cells_fit = omega (arith, cells-two);
    bars_fit = omega (arith, bars-two);
    bars-small = mul-le-mul {n₁ = c} {m₁ = 16 * run.x.n} {n₂ = 16} {m₂ = 128} left_done.few (omega (arith, run.x.few_stations));
  }

  module _ {q₂ : List ℕ} (d₂ : q₂ ≡ drop u q') where
    pub right_shorter : length q₂ < length q
    right_shorter = omega (arith, ap length d, ap length d₂, length-drop u q', length-drop 1 q, question-some r)

    -- The second operand is what stands behind the first.
    second_reads : (f g : Formula) (rest : List ℕ) → drop 1 q ≡ prefix f ++ (prefix g ++ rest) → q₂ ≡ prefix g ++ rest
    second_reads f g rest e =
        let h : q' ≡ prefix f ++ (prefix g ++ rest) = d ∙ e in
        d₂ ∙ ap (drop u) h ∙ drop_at (prefix f) (prefix g ++ rest) u (sym (m.passed f (prefix g ++ rest) h))

    pub right_ready : Ready s run q₂ (length (take (length w - c * size) (drop (c * size) w))) (length (take (length bs - c * slot) (drop (c * slot) bs)))
    right_ready = record {
      computation = r.computation;
      laid = r.laid;
      formula = f₂;
      rest = r.rest;
      reads = second_reads f₁ f₂ r.rest reads_two;
      known = ((and-true (sound run.x.n f₁) (sound run.x.n f₂)).0 (sym (ap (sound run.x.n) is-two ∙ signed.sound-two run.x.n b f₁ f₂) ∙ r.known)).1;
      slim = slims.1;
      works = ((and-true (workable (normal s f₁)) (workable (normal s f₂))).0 (sym (ap (λ (f : Formula). workable (normal s f)) is-two ∙ signed.workable-two s b f₁ f₂) ∙ r.works)).1;
      short = omega (arith, r.short, ap tokens is-two, signed.weigh-two 1 1 1 b f₁ f₂);
      cells_fit = part_room (c * size) (held (normal s f₂) * size) w cells-two;
      bars_fit = part_room (c * slot) (held (normal s f₂) * slot) bs bars-two;
    }

    module _ {sets₂ : Sets} {u₂ v₂ : ℕ} {p pb : List ℕ} (m₂ : Made s run q₂ sets₂ u₂ v₂ p pb)
        (lp : length p ≡ length (take (length w - c * size) (drop (c * size) w))) (lpb : length pb ≡ length (take (length bs - c * slot) (drop (c * slot) bs))) where
      abbrev c₂ : ℕ
      c₂ = sets₂.count

      abbrev w₃ : List ℕ
      w₃ = put_mid (c * size) (length w - c * size) w p

      abbrev b₃ : List ℕ
      b₃ = put_mid (c * slot) (length bs - c * slot) bs pb

      right_done : Done c₂ u₂ v₂ (normal s f₂) (length q₂)
      right_done =
          done_at m₂ r.computation r.laid f₂ r.rest (second_reads f₁ f₂ r.rest reads_two) slims.1
          (omega (arith, r.short, ap tokens is-two, signed.weigh-two 1 1 1 b f₁ f₂))

      w_is : w₃ ≡ take (c * size) w ++ p
      w_is = put_end (c * size) w p left.cells_fit

      b_is : b₃ ≡ take (c * slot) bs ++ pb
      b_is = put_end (c * slot) bs pb left.bars_fit

      lw₁ : length (take (c * size) w) ≡ c * size
      lw₁ = length-take-le (c * size) w left.cells_fit

      lb₁ : length (take (c * slot) bs) ≡ c * slot
      lb₁ = length-take-le (c * slot) bs left.bars_fit

      module _ (K : Computation) (laid : Laid K run.x run.starts.now) where
        cells_is : suc (total (full K)) * run.x.n ≡ size
        cells_is = cells_are run.x.n run.x.e (full K) laid.counted

        left-stands : standing run.x.n (full K) c w₃ b₃ ≡ standing run.x.n (full K) c w bs
        left-stands =
            let x : take (c * cells run.x.n (full K)) w₃ ≡ take (c * cells run.x.n (full K)) w =
            ap (λ (y : ℕ). take (c * y) w₃) cells_is ∙ ap (take (c * size)) w_is ∙ take_at (take (c * size) w) p (c * size) lw₁ ∙ ap (λ (y : ℕ). take (c * y) w) (sym cells_is) in
            standing_same run.x.n (full K) c w₃ w b₃ bs run.x.some_station x (ap (take (c * slot)) b_is ∙ take_at (take (c * slot) bs) pb (c * slot) lb₁)

        right-stands : standing run.x.n (full K) c₂ (drop (c * size) w₃) (drop (c * slot) b₃) ≡ standing run.x.n (full K) c₂ p pb
        right-stands =
            ap₂ (standing run.x.n (full K) c₂) (ap (drop (c * size)) w_is ∙ drop_at (take (c * size) w) p (c * size) lw₁) (ap (drop (c * slot)) b_is ∙ drop_at (take (c * slot) bs) pb (c * slot) lb₁)

      least-both : Present size (c + c₂) w₃
      least-both i h f = go (ltb i c) refl
        where
          z : 0 < size
          z = omega (arith, one_more run.x.e run.x.n, run.x.some_station)

          go : (t : Bool) → ltb i c ≡ t → ⊥
          go true g =
              let a : i < c = ltb-true i c g in
              let j : i * size < c * size = omega (arith, mul-le-mul_right size a, suc-mul i size, z) in
              m.least i a
              (sym (get_or-take (c * size) w (i * size) 0 j) ∙ sym (get_or-append (take (c * size) w) p 0 (i * size) (omega (arith, lw₁))) ∙ ap (λ (x : List ℕ). get_or x (i * size) 0) (sym w_is) ∙ f)
          go false g =
              let a : i ≡ c + (i - c) = omega (arith, ltb-false i c g) in
              let o : i * size ≡ length (take (c * size) w) + (i - c) * size = ap (λ (x : ℕ). x * size) a ∙ add-mul c (i - c) size ∙ ap (λ (x : ℕ). x + (i - c) * size) (sym lw₁) in
              m₂.least (i - c) (omega (arith, ltb-false i c g))
              (sym (get_or-append-add (take (c * size) w) p ((i - c) * size) 0) ∙ ap₂ (λ (x : List ℕ) (y : ℕ). get_or x y 0) (sym w_is) (sym o) ∙ f)

      -- What stands for whatever two formulas are read.
      module _ (K : Computation) (f g : Formula) (rest : List ℕ) (laid : Given K run) (e : drop 1 q ≡ prefix f ++ (prefix g ++ rest)) where
        left_is : standing run.x.n (full K) c w₃ b₃ ≡ basis K (normal s f)
        left_is = left-stands K laid.0 ∙ m.stands K f (prefix g ++ rest) laid (d ∙ e)

        right_is : standing run.x.n (full K) c₂ (drop (c * size) w₃) (drop (c * slot) b₃) ≡ basis K (normal s g)
        right_is = right-stands K laid.0 ∙ m₂.stands K g rest laid (second_reads f g rest e)

        bases_are : Bases run.x sets sets₂ w₃ b₃ K
        bases_are = record {
          good_left = basis-good K laid.0.valid (normal s f) _ left_is;
          good_right = basis-good K laid.0.valid (normal s g) _ right_is;
          marked_left = subst (λ (X : List Structure). Marked K X sets.stations) (sym left_is) (m.marked K f (prefix g ++ rest) laid (d ∙ e));
          marked_right = subst (λ (X : List Structure). Marked K X sets₂.stations) (sym right_is) (m₂.marked K g rest laid (second_reads f g rest e));
        }

      module _ {t : Bool} (flag : t ≡ beq b s) where
        joined_is : (K : Computation) (f f₃ f₄ : Formula) → f ≡ two b f₃ f₄ → joined_basis t K (basis K (normal s f₃)) (basis K (normal s f₄)) ≡ basis K (normal s f)
        joined_is K f f₃ f₄ e =
            ap (λ (g : Bool). joined_basis g K (basis K (normal s f₃)) (basis K (normal s f₄))) flag
            ∙ sym (normals.basis-joined (beq b s) K (normal s f₃) (normal s f₄)) ∙ ap (basis K) (sym (ap (normal s) e ∙ signed.normal-two s b f₃ f₄))

        pairs_ready : t ≡ true → PairsReady run.x sets sets₂ w₃ b₃
        unfolding width
        pairs_ready g =
            let pair : normal s r.formula ≡ both (normal s f₁) (normal s f₂) = form ∙ ap (λ (x : Bool). joined_form x (normal s f₁) (normal s f₂)) (sym flag ∙ g) in
            let nb = narrow_both (normal s f₁) (normal s f₂) (sym (ap narrow pair) ∙ r.slim) in
            let prod : c * c₂ ≤ width (normal s f₁) * width (normal s f₂) = mul-le-mul left_done.wide right_done.wide in
            let tot : c + c₂ + c * c₂ ≤ held (normal s r.formula) = omega (arith, (held_both (normal s f₁) (normal s f₂)).2, ap held pair, left_done.wide, right_done.wide, prod) in
            let len : length w₃ ≡ mw = same_len_mid (c * size) (length w - c * size) w p lp ∙ lw in
            let lenb : length b₃ ≡ mb = same_len_mid (c * slot) (length bs - c * slot) bs pb lpb ∙ lb in
            let L = left_is r.computation f₁ f₂ r.rest r.laid reads_two in
            let R = right_is r.computation f₁ f₂ r.rest r.laid reads_two in
            record {
              few = omega (arith, prod, nb.0);
              left = left_done.few;
              right = right_done.few;
              cells_fit = omega (arith, mul-le-mul_right size tot, r.cells_fit, len);
              bars_fit = omega (arith, mul-le-mul_right slot tot, r.bars_fit, lenb);
              bars = λ i j hi hj.
                  let x : length (bars_at run.x.n 16 (drop (i * slot) b₃)) ≤ bars (normal s f₁) =
                  omega (
                    arith,
                    ap length (sym (bars-at run.x.n (full r.computation) c w₃ b₃ (structure_at run.x.n [] [] []) i hi)),
                    ap (λ (l : List Structure). length (get_or l i (structure_at run.x.n [] [] [])).bars) L,
                    basis-bars-at r.computation (normal s f₁) (structure_at run.x.n [] [] []) i (omega (arith, ap length (sym L), length-standing run.x.n (full r.computation) c w₃ b₃)),
                  ) in
                  let o : drop ((c + j) * slot) b₃ ≡ drop (j * slot) (drop (c * slot) b₃) = ap (λ (a : ℕ). drop a b₃) (add-mul c j slot) ∙ sym (drop-drop (j * slot) (c * slot) b₃) in
                  let y : length (bars_at run.x.n 16 (drop ((c + j) * slot) b₃)) ≤ bars (normal s f₂) =
                  omega (
                    arith,
                    ap (λ (l : List ℕ). length (bars_at run.x.n 16 l)) o,
                    ap length (sym (bars-at run.x.n (full r.computation) c₂ (drop (c * size) w₃) (drop (c * slot) b₃) (structure_at run.x.n [] [] []) j hj)),
                    ap (λ (l : List Structure). length (get_or l j (structure_at run.x.n [] [] [])).bars) R,
                    basis-bars-at r.computation (normal s f₂) (structure_at run.x.n [] [] []) j (omega (arith, ap length (sym R), length-standing run.x.n (full r.computation) c₂ (drop (c * size) w₃) (drop (c * slot) b₃))),
                  ) in
                  omega (arith, nb.1);
              within_left = m.within;
              within_right = m₂.within;
            }

        pub second : Second run.x sets sets₂ u₂ v₂ w₃ b₃ t
        second = record {
          few = right_done.few;
          short = right_done.short;
          small = right_done.small;
          present = least-both;
          within_left = m.within;
          within_right = m₂.within;
          ready = pairs_ready;
        }

        pub made_two : {sets₃ : Sets} {u₃ v₃ : ℕ} {w₄ b₄ : List ℕ} → u₃ ≡ u + 1 + u₂ → Combined t run.x sets sets₂ v v₂ run.starts.now w₃ w₄ b₃ b₄ sets₃ v₃
            → Made s run q sets₃ u₃ v₃ w₄ b₄
        made_two {sets₃ = sets₃} eu C = record {
          passed = λ f rest rd.
              let h = tokens.behind-two q f rest rd b k in
              let x : u ≡ length (prefix h.0) = m.passed h.0 (prefix h.1 ++ rest) (d ∙ h.3) in
              let y : u₂ ≡ length (prefix h.1) = m₂.passed h.1 rest (second_reads h.0 h.1 rest h.3) in
              let z : length (prefix f) ≡ suc (length (prefix h.0 ++ prefix h.1)) = ap (λ (g : Formula). length (prefix g)) h.2 ∙ ap length (tokens.prefix-two b h.0 h.1) in
              omega (arith, eu, length-append (prefix h.0) (prefix h.1));
          stands = λ K f rest laid rd.
              let h = tokens.behind-two q f rest rd b k in
              C.joined.stands K laid.0 (bases_are K h.0 h.1 rest laid h.3)
              ∙ ap₂ (joined_basis t K) (left_is K h.0 h.1 rest laid h.3) (right_is K h.0 h.1 rest laid h.3)
              ∙ joined_is K f h.0 h.1 h.2;
          counted = λ K f rest laid rd.
              let h = tokens.behind-two q f rest rd b k in
              let j : C.joined_rounds ≡ rounds_of_joined (beq b s) K (basis K (normal s h.0)) (basis K (normal s h.1)) =
              C.joined.summed K laid.0 (bases_are K h.0 h.1 rest laid h.3)
              ∙ ap₂ (rounds_of_joined t K) (left_is K h.0 h.1 rest laid h.3) (right_is K h.0 h.1 rest laid h.3)
              ∙ ap (λ (g : Bool). rounds_of_joined g K (basis K (normal s h.0)) (basis K (normal s h.1))) flag in
              let z : rounds K (normal s f) ≡ rounds K (normal s h.0) + rounds K (normal s h.1) + rounds_of_joined (beq b s) K (basis K (normal s h.0)) (basis K (normal s h.1)) =
              ap (rounds K) (ap (normal s) h.2 ∙ signed.normal-two s b h.0 h.1) ∙ normals.rounds-joined (beq b s) K (normal s h.0) (normal s h.1) in
              omega (arith, C.summed, m.counted K h.0 (prefix h.1 ++ rest) laid (d ∙ h.3), m₂.counted K h.1 rest laid (second_reads h.0 h.1 rest h.3));
          least = C.joined.least;
          marked = λ K f rest laid rd.
              let h = tokens.behind-two q f rest rd b k in
              subst (λ (X : List Structure). Marked K X sets₃.stations) (joined_is K f h.0 h.1 h.2)
              (C.joined.marked K (basis K (normal s h.0)) (basis K (normal s h.1))
              (sym (ap length (left_is K h.0 h.1 rest laid h.3)) ∙ length-standing run.x.n (full K) c w₃ b₃)
              (m.marked K h.0 (prefix h.1 ++ rest) laid (d ∙ h.3)) (m₂.marked K h.1 rest laid (second_reads h.0 h.1 rest h.3)));
          within = C.joined.within;
        }
