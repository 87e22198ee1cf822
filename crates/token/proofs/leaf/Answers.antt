-- Each atom's token by its function; no other token stands there.
use mathlib.Core.Path.{◌≡◌, sym, ap, ◌∙◌}
use Prim.Native.Nat.{ℕ, ◌<◌}
use native.Mathlib.Omega.{arith}
use mathlib.Core.List.{List}
use mathlib.Core.Bool.{Bool, true}
use lib.ListN.{get_or}
use Rattle.model.specs.Atom.{range_token}
use Rattle.model.specs.Codes.{token_byte}
use Rattle.model.specs.declared.Aspect.TheVariants.{Value, Panel}
use Rattle.model.specs.declared.Token.TheVariants.{Range, Clear}
use Rattle.structure.specs.declared.Run.{Run}
use Rattle.token.specs.Contract.{Ready}
use Rattle.token.proofs.Atoms.{head_is, token-is, at_clear, clear-sign}
use Rattle.token.proofs.Operands as laws
use Rattle.token.proofs.leaf.Goals as goal

-- The token is an atom's.
token-there : {s : Bool} {run : Run} {q : List ℕ} {mw mb : ℕ} → Ready s run q mw mb → (1 < get_or q 0 0 → get_or q 0 0 < 7 → ⊥)
    → (get_or q 0 0 ≡ 1 → ⊥) → (get_or q 0 0 ≡ 7 → ⊥) → (get_or q 0 0 ≡ 8 → ⊥) → ⊥
token-there r k f g h =
    let a = laws.ready_atom r k in
    let e = ap (λ (l : List ℕ). get_or l 0 0) a.1 ∙ head_is a.0 r.rest in
    token-is a.0 (λ z. f (e ∙ z)) (λ z. g (e ∙ z)) (λ z. h (e ∙ z))

-- 07 is worked out as true.
as-true : {s : Bool} {run : Run} {q : List ℕ} {mw mb : ℕ} → Ready s run q mw mb → get_or q 0 0 ≡ 7 → s ≡ true
as-true {s = s} {q = q} r k =
    let h = laws.ready_atom r (λ a b. omega (arith, k)) in
    clear-sign q h.0 s (at_clear q h.0 r.rest h.1 k) h.3

pub bounds-q-0 : goal.bounds-q-0
bounds-q-0 c = laws.question-some c.requires.ready

pub range-requires : goal.range-requires
range-requires c = record { ready = c.requires.ready; range_there = sym c.in-Ok.ensures ∙ ap token_byte c.in-Range.is }

pub clear-requires : goal.clear-requires
clear-requires c =
    let r = c.requires.ready in
    let k = sym c.in-Ok.ensures ∙ ap token_byte c.in-Clear.is in
    record { ready = rw (sym (as-true r k)) r; clear_there = k }

pub returns-in-Clear : goal.returns-in-Clear
returns-in-Clear c = rw (as-true c.requires.ready (sym c.in-Ok.ensures ∙ ap token_byte c.in-Clear.is)) c.clear.ensures

pub returns-in_default : goal.returns-in_default
unfolding range_token
returns-in_default c =
    let none = c.in_default.ensures.1 in
    absurd (token-there c.requires.ready c.requires.not_sign (λ e. none (Range Value) (sym e)) (λ e. none Clear (sym e)) (λ e. none (Range Panel) (sym e)))
