use Rattle.std.proofs.Common.{ℕ, ◌+◌, ◌*◌, List, [], ◌∷◌, get_or, sym, ap, ◌∙◌, arith}
use Rattle.model.specs.Bytes.{hex}
use Rattle.cells.specs.Put.{put_of}
use Rattle.cells.proofs.Puts.{put-nil}
use Rattle.wire.proofs.Hexes.{put-hex-step}
use Rattle.wire.proofs.put_hex.Goals as goal

pub loop-k-init : goal.loop-k-init
unfolding hex
loop-k-init c = sym (put-nil _ _)

pub loop-k-preserved : goal.loop-k-preserved
loop-k-preserved c =
    let a = c.args in
    c.put_byte.ensures
    ∙ ap (λ (l : List ℕ). put_of l (a.at + 2 * c.loop-k.k) (hex (get_or a.src.now c.loop-k.k 0 ∷ []))) c.loop-k.invariant
    ∙ put-hex-step _ _ _ _ c.loop-k-test.true (omega arith)
