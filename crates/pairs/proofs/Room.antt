-- The room that each step of the pairs has.
use Rattle.std.specs.Prelude.{None}
use mathlib.Core.Path.{◌≡◌, ap}
use Prim.Native.Nat.{ℕ, ◌+◌, ◌*◌, ◌≤◌, ◌<◌}
use native.Mathlib.Omega.{arith}
use native.Mathlib.Nat.{suc-mul, add-mul, mul-le-mul, mul-le-mul_right}
use mathlib.Core.List.{List}
use lib.ListN.{length, get_or, take, drop}
use Rattle.model.specs.Computation.{Computation}
use Rattle.model.specs.Structure.{Structure}
use Rattle.structure.specs.declared.Shape.{Shape}
use Rattle.structure.specs.declared.Sets.{Sets}
use Rattle.structure.specs.Layout.{bars_at}
use Rattle.cells.proofs.Parts.{part_same}
use Rattle.structure.proofs.Places.{one_more, next_fits}
use Rattle.structure.proofs.Standing.{bars_same}
use Rattle.pair.specs.Post.{Put, OneReady}
use Rattle.pairs.specs.declared.Row.{Row}
use Rattle.pairs.specs.Post.{RowReady, PairsReady}

-- What stands before structure o, where that has been kept.
module _ (n e o : ℕ) (z : 0 < n) (w v b d : List ℕ) (ew : take (o * ((e + 1) * n)) w ≡ take (o * ((e + 1) * n)) v) (eb : take (o * (16 * n)) b ≡ take (o * (16 * n)) d) where
  pub bars_kept : (i : ℕ) → i < o → bars_at n 16 (drop (i * (16 * n)) b) ≡ bars_at n 16 (drop (i * (16 * n)) d)
  bars_kept i h =
      bars_same n 16 (drop (i * (16 * n)) b) (drop (i * (16 * n)) d) z (part_same (o * (16 * n)) b d eb (i * (16 * n)) (16 * n) (next_fits i o (16 * n) h))

pub one_ready : (x : Shape) (q : Row) (c j : ℕ) (P : Computation → Type 0) (w₀ w b₀ b : List ℕ) (X : Computation → List Structure) (Y : Computation → ℕ) (s : ℕ) → 0 < x.n
    → RowReady x q w₀ b₀ → Put x.n x.e q.to c P w₀ w b₀ b X Y s → length w ≡ length w₀ → length b ≡ length b₀ → j < q.many → c ≤ j
    → OneReady x (record { left = q.left; right = q.right + j; to = q.to + c; leftmark = q.leftmark; rightmark = get_or q.marks j None }) w b
one_ready x q c j P w₀ w b₀ b X Y s z R p lw lb h k =
    let t : q.to + c + 1 ≤ q.to + q.many = omega arith in
    let y : q.right + j < q.to = omega (arith, R.right) in
    let kept = bars_kept x.n x.e q.to z w w₀ b b₀ p.cells_kept p.bars_kept in
    record {
      placed = record {
        left = omega (arith, R.left);
        right = omega arith;
        cells_fit = omega (arith, mul-le-mul_right ((x.e + 1) * x.n) t, R.cells_fit);
        small = omega (arith, R.small);
        within_left = R.within_left;
        within_right = R.within_right j;
      };
      bars_fit = omega (arith, mul-le-mul_right (16 * x.n) t, R.bars_fit);
      bars = omega (arith, ap length (kept q.left R.left), ap length (kept (q.right + j) y), R.bars j h);
    }

-- The left structure of a row.
pub row_room : (x : Shape) (q : Row) (w b : List ℕ) → RowReady x q w b → q.left * ((x.e + 1) * x.n) + (x.e + 1) * x.n ≤ length w
row_room x q w b R =
    let t : q.left + 1 ≤ q.to + q.many = omega (arith, R.left) in
    omega (arith, mul-le-mul_right ((x.e + 1) * x.n) t, one_more q.left ((x.e + 1) * x.n), R.cells_fit)

pub row_ready : (x : Shape) (l r : Sets) (i c : ℕ) (P : Computation → Type 0) (w₀ w b₀ b : List ℕ) (X : Computation → List Structure) (Y : Computation → ℕ) (s : ℕ) → 0 < x.n
    → PairsReady x l r w₀ b₀ → Put x.n x.e (l.count + r.count) c P w₀ w b₀ b X Y s → length w ≡ length w₀ → length b ≡ length b₀ → i < l.count → c ≤ i * r.count
    → RowReady x (record { left = i; right = l.count; many = r.count; to = l.count + r.count + c; leftmark = get_or l.stations i None; marks = r.stations }) w b
row_ready x l r i c P w₀ w b₀ b X Y s z R p lw lb h k =
    let u : c + r.count ≤ l.count * r.count = omega (arith, mul-le-mul_right r.count h, suc-mul i r.count) in
    let t : l.count + r.count + c + r.count ≤ l.count + r.count + l.count * r.count = omega arith in
    record {
      left = omega arith;
      right = omega arith;
      few = R.right;
      cells_fit = omega (arith, mul-le-mul_right ((x.e + 1) * x.n) t, R.cells_fit);
      bars_fit = omega (arith, mul-le-mul_right (16 * x.n) t, R.bars_fit);
      small = omega (arith, R.few, R.left, R.right);
      bars = λ j q.
          omega (arith, ap length (bars_kept x.n x.e (l.count + r.count) z w w₀ b b₀ p.cells_kept p.bars_kept i (omega arith)), ap length (bars_kept x.n x.e (l.count + r.count) z w w₀ b b₀ p.cells_kept p.bars_kept (l.count + j) (omega arith)), R.bars i j h q);
      within_left = R.within_left i;
      within_right = R.within_right;
    }

-- The rounds of a row and of all rows, m being the most that a pair takes.
pub pair_small : (e : ℕ) → e ≤ 254 → (e + 1) * (e + 5) ≤ 66045
pair_small e h = mul-le-mul {n₁ = e + 1} {m₁ = e + 5} {n₂ = 255} {m₂ = 259} (omega arith) (omega arith)

pub rows_fit : (j r m : ℕ) → j < r → r ≤ 16 → m ≤ 66045 → (j + 1) * m ≤ 1056720
rows_fit j r m h k l = mul-le-mul {n₁ = j + 1} {m₁ = m} {n₂ = 16} {m₂ = 66045} (omega arith) l

pub row-rounds : (m s j v : ℕ) → s ≤ j * m → v ≤ m → s + v ≤ (j + 1) * m
row-rounds m s j v h k = omega (arith, one_more j m)

pub all_rounds : (m s i r v : ℕ) → s ≤ i * r * m → v ≤ r * m → s + v ≤ (i + 1) * r * m
all_rounds m s i r v h k =
    let q : (i + 1) * r ≡ i * r + r = one_more i r in
    omega (arith, ap (λ (x : ℕ). x * m) q, add-mul (i * r) r m)

pub all_counts : (c i r v : ℕ) → c ≤ i * r → v ≤ r → c + v ≤ (i + 1) * r
all_counts c i r v h k = omega (arith, one_more i r)

pub rows-small : (i l r : ℕ) → i < l → l * r ≤ 16 → (i + 1) * r ≤ 16
rows-small i l r h k = omega (arith, mul-le-mul_right r h, suc-mul i r, one_more i r)

pub rounds-fit : (m s x : ℕ) → s ≤ x * m → x ≤ 16 → s ≤ 16 * m
rounds-fit m s x h k = omega (arith, mul-le-mul_right m k)

pub end_room : (l r c s m : ℕ) → c ≤ l * r → (l + r + l * r) * s ≤ m → (l + r) * s + c * s ≤ m
end_room l r c s m h k =
    let t : l + r + c ≤ l + r + l * r = omega arith in
    omega (arith, mul-le-mul_right s t, add-mul (l + r) c s)
