-- What Holds comes to, refusal by refusal; demand 2 follows from the equality with the definition.
use mathlib.Core.Path.{◌≡◌, refl, sym, ◌∙◌}
use mathlib.Core.Bool.{Bool, true, false}
use mathlib.Core.List.{List, [], ◌∷◌}
use Prim.Native.Nat.{ℕ, ◌≤◌}
use lib.ListN.{length}
use Rattle.std.specs.Prelude.{Ok}
use Rattle.model.specs.Limits.{limits, barspace_size}
use Rattle.model.specs.Formula.{Formula}
use Rattle.model.specs.Cut.{Cut}
use Rattle.model.specs.Computation.{Computation, Consistent, is_consistent}
use Rattle.model.specs.Forecast.{forecast}
use Rattle.model.specs.Answer.{true_at, yes_no}
use Rattle.model.specs.Reply.{Reply, gives, refuses, holds_reply}
use Rattle.model.specs.Operations.{Kept, shut, poses, opening, cramped, holds_reply_to, holds_op}
use Rattle.model.specs.Promise.{Asked, Tested}
use Rattle.codec.proofs.Suited.{suitable}
use Rattle.codec.proofs.Demands.{asked-holds}
use Rattle.opening.proofs.Room.{kept}

module _ (log : List ℕ) (q : ℕ) (c : Cut) (ws bs : ℕ) where
  pub holds-shut : (k n : ℕ) → opening limits log q ≡ shut k n → holds_op limits log q c ws bs ≡ refuses k n
  unfolding holds_op holds_reply_to
  holds-shut k n e = rw e

  module _ (K : Computation) (f : Formula) (e : opening limits log q ≡ poses K f) where
    pub holds_inconsistent : is_consistent K c ≡ false → holds_op limits log q c ws bs ≡ refuses 13 0
    unfolding holds_op holds_reply_to
    holds_inconsistent p = rw (e, p)

    module _ (p : is_consistent K c ≡ true) where
      pub holds-cramped : cramped K f ws bs ≡ true → holds_op limits log q c ws bs ≡ refuses 11 0
      unfolding holds_op holds_reply_to
      holds-cramped h = rw (e, p, h)

      pub holds-told : cramped K f ws bs ≡ false → (b : Bool) → true_at K f c ≡ b → holds_op limits log q c ws bs ≡ gives (yes_no b ∷ [])
      unfolding holds_op holds_reply_to
      holds-told h b t = rw (e, p, h, t)

-- All that is promised of Holds: its reply, workspace and bar space, and demand 2.
abbrev pub Told : List ℕ → ℕ → Cut → List ℕ → List ℕ → Reply → List ℕ → List ℕ → Type 0
Told log q c ws bs reply ws' bs' =
    (reply ≡ holds_op limits log q c (length ws) (length bs))
    × ((Kept reply ws ws' × Kept reply bs bs')
    × ((K : Computation) (f : Formula) → Asked limits log q K f → Consistent K c → (forecast K f).cells ≤ length ws → barspace_size ≤ length bs → Tested K f c reply))

-- Yes is 1, no is 0.
yes-no : (b : Bool) → holds_reply (Ok b) ≡ gives (yes_no b ∷ [])
yes-no true = refl
yes-no false = refl

module _ (log : List ℕ) (q : ℕ) (c : Cut) (ws bs : List ℕ) where
  promised : (reply : Reply) → reply ≡ holds_op limits log q c (length ws) (length bs)
      → (K : Computation) (f : Formula) → Asked limits log q K f → Consistent K c → (forecast K f).cells ≤ length ws → barspace_size ≤ length bs → Tested K f c reply
  promised reply e K f a p hw hb = rw e (asked-holds suitable a (length ws) (length bs) hw hb c p)

  pub told-refused : (reply : Reply) (k n : ℕ) → reply ≡ refuses k n → holds_op limits log q c (length ws) (length bs) ≡ refuses k n → Told log q c ws bs reply ws bs
  told-refused reply k n r e = (r ∙ sym e, ((kept reply ws, kept reply bs), promised reply (r ∙ sym e)))

  pub told_given : (b : Bool) → holds_op limits log q c (length ws) (length bs) ≡ gives (yes_no b ∷ []) → (ws' bs' : List ℕ) → Told log q c ws bs (holds_reply (Ok b)) ws' bs'
  told_given b e ws' bs' = let r : holds_reply (Ok b) ≡ gives (yes_no b ∷ []) = yes-no b in (r ∙ sym e, ((rw r tt, rw r tt), promised _ (r ∙ sym e)))
