-- The recursion over a question's bytes: each arm is one law. Assumes nothing.
use mathlib.Core.Path.{◌≡◌, sym, ap, ◌∙◌}
use mathlib.Core.Bool.{Bool, true, false}
use mathlib.Core.Logic.{◌⊎◌, inl, inr}
use mathlib.Core.List.{List, ◌∷◌}
use Prim.Native.Nat.{ℕ, ◌≤◌, ◌<◌, ◌-◌}
use native.Mathlib.Omega.{arith}
use lib.ListN.{length, take, drop, length-drop}
use lib.Seq.{take_all}
use Rattle.std.proofs.lemmas.Bool.{true≢false}
use Rattle.model.specs.declared.Token.{Token}
use Rattle.model.specs.declared.Token.TheVariants.{Not, And, Or, Possibly, Always}
use Rattle.model.specs.Codes.{token_byte}
use Rattle.query.specs.Sizes.{pair_byte, modal_byte}
use Rattle.atoms.proofs.Tokens.{token_of, no_token, other_sign, nothing_unknown}
use Rattle.query.proofs.Measured as laws
use Rattle.query.proofs.+measure.Goals as goal
use Rattle.query.proofs.+measure.Goals.{In_ok-token, Then-matches, Then-matches-2, Then-matches-3, Else-matches-3, in-Not, in-And, in-Possibly, in_default, in_default-matches, in_default-matches-3}

-- The question is its token and what is after it, which is shorter.
front : {t : ℕ} (c : In_ok-token t) → c.args.q.now ≡ token_byte c.in_ok-token.token ∷ c.in_ok-t.rest.now
front c = c.in_ok-t.ensures.cases.0 ∙ ap (λ (b : ℕ). b ∷ c.in_ok-t.rest.now) (sym (token_of c.try_from.result c.try_from.ensures c.in_ok-token.ensures.value))

fall : {t : ℕ} (c : In_ok-token t) → length c.in_ok-t.rest.now ≤ 99
fall c = omega (arith, c.in_ok-t.ensures.cases.1, c.requires)

-- "and" and "or" have a byte each.
pair_of : {k : Token} → (k ≡ And) ⊎ (k ≡ Or) → (b : Bool) × (token_byte k ≡ pair_byte b)
pair_of (inl e) = (true, ap token_byte e)
pair_of (inr e) = (false, ap token_byte e)

-- So have possibly and always.
modal_of : {k : Token} → (k ≡ Possibly) ⊎ (k ≡ Always) → (b : Bool) × (token_byte k ≡ modal_byte b)
modal_of (inl e) = (true, ap token_byte e)
modal_of (inr e) = (false, ap token_byte e)

-- What each test found.
found-not : {t : ℕ} (c : Then-matches t) → c.in_ok-token.token ≡ Not
found-not c = elim c.match-matches.branch [ in-Not w ↦ w.in-Not.is | in_default w ↦ absurd (true≢false (sym c.if-matches.true ∙ w.matches-is)) ]

found_pair : {t : ℕ} (c : Then-matches-2 t) → (b : Bool) × (token_byte c.in_ok-token.token ≡ pair_byte b)
found_pair c =
    elim c.match-matches-2.branch [
      | in-And w ↦ pair_of w.in-And.is
      | in_default-matches w ↦ absurd (true≢false (sym c.if-matches-2.true ∙ w.matches-is))
    ]

found_modal : {t : ℕ} (c : Then-matches-3 t) → (b : Bool) × (token_byte c.in_ok-token.token ≡ modal_byte b)
found_modal c =
    elim c.match-matches-4.branch [
      | in-Possibly w ↦ modal_of w.in-Possibly.is
      | in_default-matches-3 w ↦ absurd (true≢false (sym c.if-matches-3.true ∙ w.matches-is))
    ]

all-after : (k : ℕ) (q : List ℕ) → take (length q - k) (drop k q) ≡ drop k q
all-after k q = take_all (length q - k) (drop k q) (omega (arith, length-drop k q))

pub returns-in_err-t : goal.returns-in_err-t
returns-in_err-t t c = rw c.from_residual.ensures (laws.nothing-empty c.args.q.now c.in_err-t.ensures.cases)

pub returns-in_err-token : goal.returns-in_err-token
returns-in_err-token t c = rw (c.from_residual-in_err-token.ensures, c.in_ok-t.ensures.cases.0) (nothing_unknown _ _ (no_token c.try_from.result c.try_from.ensures c.in_err-token.ensures.value))

pub returns-in_err-z : goal.returns-in_err-z
returns-in_err-z t c =
    let p = goal.at.returns-in_err-z t c in
    rw (c.from_residual-in_err-z.ensures, front p.In_ok-token, found-not p.Then-matches) (laws.nothing-not _ c.in_err-z.ensures)

pub longer-requires : goal.longer-requires
longer-requires t c = laws.sized-short (fall (goal.at.longer-requires t c).In_ok-token) c.in_ok-z.ensures

pub returns-then-matches : goal.returns-then-matches
returns-then-matches t c =
    let p = goal.at.returns-then-matches t c in
    rw (front p.In_ok-token, found-not p.Then-matches) (laws.sized-not c.in_ok-z.ensures c.longer.ensures)

pub returns-in_err-y : goal.returns-in_err-y
returns-in_err-y t c =
    let p = goal.at.returns-in_err-y t c in
    let b = found_pair p.Then-matches-2 in
    rw (c.from_residual-in_err-y.ensures, front p.In_ok-token, b.1) (laws.nothing_left b.0 _ c.in_err-y.ensures)

pub returns-in_err-z-2 : goal.returns-in_err-z-2
returns-in_err-z-2 t c =
    let p = goal.at.returns-in_err-z-2 t c in
    let b = found_pair p.Then-matches-2 in
    rw (c.from_residual-in_err-z-2.ensures, front p.In_ok-token, b.1) (laws.nothing_right b.0 _ c.in_ok-y.ensures (rw all-after at c.in_err-z-2.ensures))

pub paired-requires : goal.paired-requires
paired-requires t c =
    let f = fall (goal.at.paired-requires t c).In_ok-token in
    (laws.sized-short f c.in_ok-y.ensures, laws.sized-short (omega (arith, f, length-drop c.in_ok-y.y.used c.in_ok-t.rest.now)) (rw all-after at c.in_ok-z-2.ensures))

pub returns-in_err-z-3 : goal.returns-in_err-z-3
returns-in_err-z-3 t c =
    let p = goal.at.returns-in_err-z-3 t c in
    let b = found_modal p.Then-matches-3 in
    rw (c.from_residual-in_err-z-3.ensures, front p.In_ok-token, b.1) (laws.nothing-modal b.0 _ c.in_err-z-3.ensures)

pub modal-requires : goal.modal-requires
modal-requires t c = laws.sized-short (fall (goal.at.modal-requires t c).In_ok-token) c.in_ok-z-3.ensures

-- A token that is no sign.
other : {t : ℕ} (c : Else-matches-3 t) → 1 < token_byte c.in_ok-token.token → token_byte c.in_ok-token.token < 7 → ⊥
other c =
    elim c.match-matches.branch [
      | in-Not w ↦ absurd (true≢false (sym w.matches-is ∙ c.if-matches.false))
      | in_default w ↦
          elim c.match-matches-2.branch [
            | in-And x ↦ absurd (true≢false (sym x.matches-is ∙ c.if-matches-2.false))
            | in_default-matches x ↦
                elim c.match-matches-4.branch [
                  | in-Possibly y ↦ absurd (true≢false (sym y.matches-is ∙ c.if-matches-3.false))
                  | in_default-matches-3 y ↦
                      let d = x.in_default-matches in
                      let e = y.in_default-matches-3 in
                      other_sign _ w.in_default.not-Not d.not-And d.not-Or e.not-Possibly e.not-Always
                ]
          ]
    ]

pub leaf-requires : goal.leaf-requires
leaf-requires t c = rw (token_of c.try_from.result c.try_from.ensures c.in_ok-token.ensures.value) at (other c)
