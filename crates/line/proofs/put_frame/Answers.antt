-- Three bytes, the cuts, and the rounds in four.
use mathlib.Core.Path.{◌≡◌, refl, ap, ◌∙◌}
use mathlib.Core.Bool.{true, false}
use mathlib.Core.List.{List}
use Prim.Native.Nat.{ℕ, ◌+◌, ◌*◌, ◌≤◌}
use native.Mathlib.Nat.{mul-le-mul}
use native.Mathlib.Omega.{arith}
use lib.ListN.{length, take}
use lib.Seq.{length-take-le}
use Rattle.model.specs.Answer.{yes_no, four_bytes}
use Rattle.cells.specs.Put.{put_of}
use Rattle.line.proofs.Frames.{framed}
use Rattle.line.proofs.put_frame.Goals as goal

pub returns : goal.returns
unfolding four_bytes
returns c =
    let a = c.args in
    let m = a.count * a.n in
    let s : List ℕ = take m a.cuts.now in
    let r = c.to_be_bytes in
    let fits : m ≤ 16 * 8 = mul-le-mul c.requires.0 c.requires.1 in
    let start : c.from.result ≡ yes_no a.start = c.from.ensures ∙ (elim a.start [ true ↦ refl | false ↦ refl ]) in (
      omega (arith, fits),
      ap (take (m + 7)) (c.put-3.ensures ∙ ap (λ (t : List ℕ). put_of t (m + 3) r.result) (c.put-2.ensures ∙ ap (λ (t : List ℕ). put_of t 3 s) c.put.ensures))
          ∙ framed a.frame.now s r.result 64 c.from.result a.count m (omega arith) (length-take-le m a.cuts.now c.requires.2) (ap length r.ensures)
          ∙ rw (start, r.ensures) refl,
    )
