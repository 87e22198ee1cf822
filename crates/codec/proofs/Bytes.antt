-- Lists of bytes: numbers below 256.

use Prim.Native.Nat.{ℕ, zero, suc, ◌+◌, ◌<◌}
use mathlib.Core.List.{List, [], ◌∷◌, ◌++◌}
use native.Mathlib.Omega.{arith}
use lib.ListN.{get_or, drop}
use lib.Seq.{get_or-drop}
use Rattle.model.specs.Cut.{empty}
use Rattle.lattice.proofs.Cuts.{empty-at}

-- Each number is a byte.
abbrev pub Bytes : List ℕ → Type 0
Bytes l = (i : ℕ) → get_or l i 0 < 256

pub bytes-none : Bytes []
bytes-none i = omega arith

pub bytes-cons : (x : ℕ) (l : List ℕ) → x < 256 → Bytes l → Bytes (x ∷ l)
bytes-cons x l h g zero = h
bytes-cons x l h g (suc i) = g i

pub bytes_tail : (x : ℕ) (l : List ℕ) → Bytes (x ∷ l) → Bytes l
bytes_tail x l h i = h (suc i)

pub bytes-append : (l m : List ℕ) → Bytes l → Bytes m → Bytes (l ++ m)
bytes-append [] m h g = g
bytes-append (x ∷ l) m h g = bytes-cons x (l ++ m) (h 0) (bytes-append l m (bytes_tail x l h) g)

pub bytes_left : (l m : List ℕ) → Bytes (l ++ m) → Bytes l
bytes_left [] m h = bytes-none
bytes_left (x ∷ l) m h = bytes-cons x l (h 0) (bytes_left l m (bytes_tail x (l ++ m) h))

pub bytes-right : (l m : List ℕ) → Bytes (l ++ m) → Bytes m
bytes-right [] m h = h
bytes-right (x ∷ l) m h = bytes-right l m (bytes_tail x (l ++ m) h)

pub bytes_drop : (n : ℕ) (l : List ℕ) → Bytes l → Bytes (drop n l)
bytes_drop n l h i = rw get_or-drop (h (n + i))

pub bytes_zeros : (n : ℕ) → Bytes (empty n)
bytes_zeros n i = omega (arith, empty-at n i)
