-- The frame's line.
use mathlib.Core.Path.{◌≡◌, refl}
use Prim.Native.Nat.{◌/◌, ◌%◌}
use native.Mathlib.Omega.{arith}
use Rattle.model.specs.Answer.{refusal_line}
use Rattle.line.proofs.Frames.{written}
use Rattle.line.proofs.put_refusal.Goals as goal

pub returns : goal.returns
unfolding refusal_line
returns c =
    let high : c.args.line / 256 % 256 ≡ c.args.line / 256 = omega (arith, c.requires.0) in
    written _ _ _ _ _ (rw (c.to_be_bytes.ensures, high) refl) c.put_line.ensures.0 c.put_line.ensures.1
