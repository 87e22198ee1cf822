-- `slots::same` meets its contract: equal numbers are equal bytes.
use Rattle.std.proofs.Common.{rules, sym, ap, ◌∙◌}
use Rattle.std.proofs.lemmas.Bool.{eqb-true, eq-eqb}
use Rattle.std.proofs.lemmas.Nat.{le_bytes_8}
use Rattle.std.specs.Int.{w64, to_le_bytes, from_le_bytes}
use Rattle.slots.proofs.same.Goals as goal

pub returns : goal.returns
returns c =
    let a = c.args.a.now in
    let b = c.args.b.now in
    let x = c.from_le_bytes.result in
    let y = c.from_le_bytes-2.result in (
      λ t. sym (le_bytes_8 a x (search rules) (search rules) c.from_le_bytes.ensures) ∙ ap (to_le_bytes w64) (eqb-true x y t) ∙ le_bytes_8 b y (search rules) (search rules) c.from_le_bytes-2.ensures,
      λ e. eq-eqb x y (c.from_le_bytes.ensures ∙ ap (from_le_bytes w64) e ∙ sym c.from_le_bytes-2.ensures),
    )
