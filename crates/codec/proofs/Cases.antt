-- Cases: a test that was passed or not, a result that is there, a property of each of a list.
use mathlib.Core.Path.{◌≡◌, refl}
use mathlib.Core.Bool.{Bool, true, false, cond, ◌&&◌, ◌||◌}
use mathlib.Core.Option.{none, some}
use Prim.Native.Nat.{ℕ, ◌≤◌}
use native.Mathlib.Omega.{arith}
use Rattle.model.specs.Lists.{between}
use Rattle.lattice.proofs.Tests as tests
-- Each of the list has the property P.
pub use Rattle.lattice.proofs.Lists.{All as Each}
pub use Rattle.lattice.proofs.Lists.All.{done as e-none, also as e-more}

-- Where a result is there, it is not missing.
pub none-some : {A B : Type 0} {a : A} → none ≡ some a → B
none-some e = let z : ◌≡◌ {A = ℕ} 0 1 = cc in absurd (omega arith)

-- What a test came to, and what it gave then.
pub cases : {A B : Type 0} {x y z : A} (b : Bool) → cond b x y ≡ z → (b ≡ true → x ≡ z → B) → (b ≡ false → y ≡ z → B) → B
cases true e f g = f refl e
cases false e f g = g refl e

pub and-true : (a b : Bool) → (a && b) ≡ true → (a ≡ true) × (b ≡ true)
and-true a b = (tests.and-true a b).0

pub or-false : (a b : Bool) → (a || b) ≡ false → (a ≡ false) × (b ≡ false)
or-false true b h = tests.clash refl h
or-false false b h = (refl, h)

pub between-true : (lo hi v : ℕ) → between lo hi v ≡ true → (lo ≤ v) × (v ≤ hi)
between-true lo hi v = (tests.between_iff lo hi v).0

pub between_in : (lo hi v : ℕ) → lo ≤ v → v ≤ hi → between lo hi v ≡ true
between_in lo hi v h g = (tests.between_iff lo hi v).1 (h, g)
