use Rattle.std.proofs.Common.{sym, subst, arith}
use Rattle.std.specs.Io.KnownBytes.{Consumes}
use Rattle.std.proofs.KnownBytes.{Consumes-trans}
use Rattle.host.proofs.Fronts.{take-part}
use Rattle.host.proofs.read_full.Goals as goal

pub loop-done-preserved : goal.loop-done-preserved
loop-done-preserved g c =
    let l = c.loop-done in
    let known = g.R.Read.remaining in
    let within = c.in_ok-n.ensures.bound.0 in (
      omega (arith, within, c.read.auto.buf),
      subst (Consumes (known c.args.input.now) (known c.read.new.self)) (sym (take-part l.done c.in_ok-n.n l.buf c.read.new.buf _ l.invariant.0 within))
          (Consumes-trans (known c.args.input.now) (known l.input) (known c.read.new.self) _ _ l.invariant.1 c.in_ok-n.ensures.bytes.0),
    )
