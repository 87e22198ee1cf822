-- The rows of all events fit in what is lent for them. Assumes nothing.
use Prim.Native.Nat.{ℕ, suc, ◌+◌, ◌*◌, ◌≤◌}
use native.Mathlib.Omega.{arith}
use native.Mathlib.Nat.{add-mul, mul-le-mul_right}
use Rattle.model.specs.Limits.{limits, starts_size}

-- x + 1 rows of n cells
pub rows_fit : (x n : ℕ) → x ≤ limits.events → n ≤ limits.stations → (x + 1) * n ≤ starts_size
rows_fit x n a b =
    let h : x + 1 ≤ suc limits.events = omega arith in
    omega (arith, mul-le-mul_right {m = x + 1} {n = suc limits.events} n h)

-- the rows of m events behind those of b
pub station-fits : (b m n : ℕ) → b + m ≤ limits.events → n ≤ limits.stations → (b + 1) * n + m * n ≤ starts_size
station-fits b m n a h = omega (arith, rows_fit (b + m) n a h, add-mul b m n, add-mul b 1 n, add-mul (b + m) 1 n)
