-- `round::right_half` meets its contract.
use Rattle.std.proofs.Common.{rules}
use Rattle.round.proofs.Reading as laws
use Rattle.round.proofs.right_half.Goals as goal

pub returns-in_err-last : goal.returns-in_err-last
returns-in_err-last c K T x o s g t h w a = let e = rw c.in_err-last.was at (c.raise.ensures K T o s t w) in rw c.from_residual.ensures (laws.half_lost K T x o e)

pub returns : goal.returns
returns c K T x o s g t h w a =
    let v = rw c.in_ok-last.was at (c.raise.ensures K T o s t w) in
    laws.half_came K T x o c.args.cut.now c.args.middle.now c.in_ok-last.last s g h w a v.0 v.1 v.2 (search rules) (search rules) (search rules) c.same.result c.same-2.result c.same.ensures c.same-2.ensures
