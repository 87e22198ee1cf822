-- What a walked line brings, for the callers of `walk_line`.
use Rattle.std.proofs.Common.{◌≡◌, ℕ, ◌+◌, ◌-◌, ◌%◌, ◌≤◌, Result, Ok, Err, List, [], ◌∷◌, length, take, drop, sym, ◌∙◌, arith, drop_of_length-le, length-take-le, take-take, eq-eqb, ne_eqb}
use mathlib.Core.Option.{some}
use Rattle.model.specs.Lists.{total}
use Rattle.model.specs.Bytes.{lines_of, frame, bad, carried, items}
use Rattle.codec.proofs.Cases.{between_in}
use Rattle.walk.specs.Walked.{Framed, Spoilt, Walked}
use Rattle.walk.specs.declared.Frame.{Frame}
use Rattle.walk.specs.declared.Malformed.{Malformed}

-- The two cases of an answer.
pub walked_frame : {log out : List ℕ} {at : ℕ} {f : Frame} → (r : Result Frame Malformed) → Walked log at r out → r ≡ Ok f → Framed log at f.length f.sum (at + f.looks) out
walked_frame r w e = rw e at w

pub walked_malformed : {log : List ℕ} {at : ℕ} {m : Malformed} → (out : List ℕ) (r : Result Frame Malformed) → Walked log at r out → r ≡ Err m → Spoilt log at
walked_malformed out r w e = rw e at w

module _ {log out : List ℕ} {at k s next : ℕ} (w : Framed log at k s next out) where
  carried-line : items (lines_of (drop at log)) ≡ carried (some (take k out)) ∷ items (lines_of (drop next log))
  unfolding items
  carried-line = rw (w.is, w.carries)

  pub length-line : length (take k out) ≡ k
  length-line = length-take-le k out w.room

  -- The bytes add up to zero: a frame without its check byte.
  pub items-frame : s ≡ 0 → items (lines_of (drop at log)) ≡ frame (take (k - 1) out) ∷ items (lines_of (drop next log))
  unfolding carried
  items-frame e =
      carried-line
      ∙ rw (length-line, between_in 2 100 k w.low w.high, eq-eqb (total (take k out) % 256) 0 (sym w.adds ∙ e), take-take (k - 1) k out (omega arith))

  -- They do not.
  pub items-check : (s ≡ 0 → ⊥) → items (lines_of (drop at log)) ≡ bad 3 ∷ items (lines_of (drop next log))
  unfolding carried
  items-check n =
      carried-line
      ∙ rw (length-line, between_in 2 100 k w.low w.high, ne_eqb (total (take k out) % 256) 0 (λ e. n (w.adds ∙ e)))

-- No line is left.
pub items_end : (log : List ℕ) (at : ℕ) → length log ≤ at → items (lines_of (drop at log)) ≡ []
unfolding items lines_of
items_end log at h = rw (drop_of_length-le log h)
