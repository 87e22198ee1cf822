-- `chains::intersect_right` meets its contract: the row of the left structure is what a start looks up, and the rows go to their place.
use mathlib.Core.Path.{◌≡◌, sym, ap, subst, ◌∙◌}
use Prim.Native.Nat.{ℕ, ◌≤◌}
use native.Mathlib.Omega.{arith}
use mathlib.Core.List.{List}
use lib.ListN.{length, take, drop}
use lib.Seq.{drop_at, length-take-le}
use Rattle.cells.proofs.Parts.{put_end}
use Rattle.slots.specs.Pair.{Intersected}
use Rattle.chains.proofs.Finding.{right_given, right-found, zeros}
use Rattle.chains.proofs.intersect_right.Goals as goal

pub fill-requires : goal.fill-requires
fill-requires c = λ i. omega (arith, zeros 256 i)

pub returns-clause-intersected : goal.returns-clause-intersected
returns-clause-intersected c = λ K S T k.
    let a = c.args in
    let w = a.ws.now in
    let r = c.all_starts in
    let room : a.at ≤ length w = omega (arith, c.requires.fits.1) in
    let long : length (take a.at w) ≡ a.at = length-take-le a.at w room in
    let p = c.pick_counts-picks.result in
    let picks = c.pick_counts-picks.ensures K T k.formed k.rows_right in
    subst (λ (l : List ℕ). Intersected K S T a.x.n l r.result) (sym (ap (drop a.at) (put_end a.at w r.new.ws room) ∙ drop_at (take a.at w) r.new.ws a.at long))
    (r.ensures.intersected K S T k.formed (right-found K S T a.x a.s a.from w a.left.now a.first.now k p c.fill.new.chain picks
    (c.fill.ensures.chained K T S k.formed (right_given K S T a.x a.s a.from w a.left.now a.first.now k p picks))))
