-- Logs: the log of some frames brings them, and a log that brings frames alone is their log.
use mathlib.Core.Path.{◌≡◌, refl, sym, ap, ◌∙◌}
use mathlib.Core.Bool.{Bool, true, false, cond}
use mathlib.Core.List.{List, [], ◌∷◌, ◌++◌, map, append_assoc}
use Prim.Native.Nat.{ℕ}
use native.Mathlib.Omega.{arith}
use lib.Dec.{eqb}
use borrow.Author.Tests.{eqb-true}
use Rattle.model.specs.Bytes.{Lines, more, rest, push, lines_of, bytes, Item, frame, carried, items}
use Rattle.model.specs.Frames.{log_of}
use Rattle.codec.proofs.Cases.{Each, e-none, e-more}
use Rattle.codec.proofs.Lines.{IsFrame, items-line, line_frame}

-- The log of some frames brings them.
pub items-log : (fs : List (List ℕ)) → Each IsFrame fs → items (lines_of (log_of fs)) ≡ map frame fs
unfolding log_of lines_of items
items-log [] h = refl
items-log (f ∷ fs) (e-more h r) = items-line f (log_of fs) h ∙ ap (λ (l : List Item). frame f ∷ l) (items-log fs r)

-- The log that falls into these lines.
unfoldable pub joined : Lines → List ℕ
joined (more l ls) = l ++ (0x0A ∷ joined ls)
joined (rest l) = l

joined-push : (b : ℕ) (ls : Lines) → joined (push b ls) ≡ b ∷ joined ls
unfolding joined push
joined-push b (more l ls) = refl
joined-push b (rest l) = refl

-- A log falls into lines that make it up again.
pub joined-lines : (s : List ℕ) → joined (lines_of s) ≡ s
unfolding joined lines_of
joined-lines [] = refl
joined-lines (b ∷ s) = go (eqb b 0x0A) refl (joined-lines s)
  where
    go : (t : Bool) → eqb b 0x0A ≡ t → joined (lines_of s) ≡ s → joined (cond t (more [] (lines_of s)) (push b (lines_of s))) ≡ b ∷ s
    go true e ih = rw (ih, eqb-true b 0x0A e)
    go false e ih = rw (joined-push b (lines_of s), ih)

clash : {B : Type 0} {x : Item} {l : List Item} → [] ≡ x ∷ l → B
clash e = let z : ◌≡◌ {A = ℕ} 0 1 = cc in absurd (omega arith)

log-lines : (ls : Lines) (fs : List (List ℕ)) → items ls ≡ map frame fs → (joined ls ≡ log_of fs) × Each IsFrame fs
unfolding joined items log_of
log-lines (more l ls) [] e = clash (sym e)
log-lines (more l ls) (f ∷ fs) e =
    let c : carried (bytes l) ≡ frame f = cc in
    let r : items ls ≡ map frame fs = cc in
    let x = line_frame l f c in
    let ih = log-lines ls fs r in
    (sym (append_assoc l (0x0A ∷ []) (joined ls)) ∙ rw (x.0, ih.0), e-more x.1 ih.1)
log-lines (rest []) [] e = (refl, e-none)
log-lines (rest []) (f ∷ fs) e = clash e
log-lines (rest (b ∷ l)) [] e = clash (sym e)
log-lines (rest (b ∷ l)) (f ∷ fs) e = let z : ◌≡◌ {A = ℕ} 0 1 = cc in absurd (omega arith)

-- A log that brings frames alone is their log.
pub log-items : (log : List ℕ) (fs : List (List ℕ)) → items (lines_of log) ≡ map frame fs → (log ≡ log_of fs) × Each IsFrame fs
log-items log fs e = let x = log-lines (lines_of log) fs e in (sym (joined-lines log) ∙ x.0, x.1)
