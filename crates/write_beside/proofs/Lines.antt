-- What was put at the front, read back; and the line of a frame that is known by another name. Assumes nothing.
use mathlib.Core.Path.{◌≡◌, sym, ap, ◌∙◌}
use mathlib.Core.List.{List}
use Prim.Native.Nat.{ℕ, ◌+◌, ◌*◌, ◌≤◌}
use native.Mathlib.Omega.{arith}
use lib.ListN.{length, take, drop}
use lib.Seq.{take_at}
use Rattle.model.specs.Bytes.{line}
use Rattle.codec.proofs.Lines.{length-line}
use Rattle.cells.specs.Put.{put_of}
use Rattle.cells.proofs.Puts.{put_front}

pub put_taken : (d s : List ℕ) (r : ℕ) → r ≡ length s → take r (put_of d 0 s) ≡ s
put_taken d s r e = ap (take r) (put_front d s) ∙ take_at s (drop (length s) d) r (sym e)

module _ (f g : List ℕ) (e : f ≡ g) (at : ℕ) where
  pub line-room : (n : ℕ) → at + length (line g) ≤ n → at + 2 * length f + 3 ≤ n
  line-room n h = omega (arith, length-line g, ap length e)

  pub line-put : (out x : List ℕ) (r : ℕ) → r ≡ at + length (line f) → x ≡ put_of out at (line f) → (r ≡ at + length (line g)) × (x ≡ put_of out at (line g))
  line-put out x r n u = (rw (← e) n, rw (← e) u)
