-- The bytes that a walk looks at are the line's own.
use Rattle.std.proofs.Common.{◌≡◌, ℕ, suc, ◌+◌, ◌*◌, ◌≤◌, Result, Ok, Err, Bool, true, false, cond, eqb, List, [], ◌∷◌, length, take, drop, refl, ap, ◌∙◌, arith}
use mathlib.Core.Option.{Option, none, some}
use Rattle.model.specs.Bytes.{Lines, more, rest, push, lines_of, digit, items}
use Rattle.model.specs.Looks.{own, well_formed, Looks}
use Rattle.codec.proofs.Hex.{length-hex, hex-bytes}
use Rattle.walk.specs.Pairs.{first_digit, joined, pair_of, second, to_tell}
use Rattle.walk.specs.Walked.{Framed, Spoilt, Walked, looked}
use Rattle.walk.specs.declared.Pair.TheVariants.{Byte, End}
use Rattle.walk.specs.declared.Frame.{Frame}
use Rattle.walk.specs.declared.Malformed.{Malformed}
use Rattle.walk.proofs.Carried.{length-line}
use Rattle.walk.proofs.Digits.{digit_no_end}
use Rattle.walk.proofs.Fronts.{Front, not_end, joined_no_end, pushes}

-- ---- how many bytes tell what stands at the front
second-byte : (s : List ℕ) (v : ℕ) (h l : Option ℕ) → first_digit s ≡ l → joined h l ≡ Byte v → second h s ≡ 1
second-byte s v none l f e = let z : ◌≡◌ {A = ℕ} 0 1 = cc in absurd (omega arith)
second-byte s v (some h) none f e = let z : ◌≡◌ {A = ℕ} 0 1 = cc in absurd (omega arith)
second-byte [] v (some h) (some l) f e = let z : ◌≡◌ {A = ℕ} 0 1 = cc in absurd (omega arith)
second-byte (b ∷ s) v (some h) (some l) f e = refl

pub tell_byte : (s : List ℕ) (v : ℕ) → pair_of s ≡ Byte v → to_tell s ≡ 2
unfolding pair_of to_tell
tell_byte [] v e = let z : ◌≡◌ {A = ℕ} 0 1 = cc in absurd (omega arith)
tell_byte (a ∷ s) v e = ap suc (second-byte s v (digit a) (first_digit s) refl (not_end (eqb a 0x0A) (joined (digit a) (first_digit s)) v e))

second_end : (a : ℕ) (s : List ℕ) (h : Option ℕ) → digit a ≡ h → cond (eqb a 0x0A) End (joined h (first_digit s)) ≡ End → second h s ≡ 0
second_end a s none d e = refl
second_end a s (some h) d e = absurd (joined_no_end (some h) (first_digit s) (rw (digit_no_end a h d) at e))

pub tell_end : (s : List ℕ) → pair_of s ≡ End → to_tell s ≡ 1
unfolding pair_of to_tell
tell_end [] e = let z : ◌≡◌ {A = ℕ} 0 1 = cc in absurd (omega arith)
tell_end (a ∷ s) e = ap suc (second_end a s (digit a) refl e)

-- ---- the line's own bytes
own-push : (b : ℕ) (ls : Lines) → own (push b ls) ≡ suc (own ls)
unfolding own push
own-push b (more l ls) = omega arith
own-push b (rest l) = refl

own-pushes : (p : List ℕ) (ls : Lines) → own (pushes p ls) ≡ length p + own ls
unfolding pushes
own-pushes [] ls = omega arith
own-pushes (b ∷ p) ls = own-push b (pushes p ls) ∙ omega (arith, own-pushes p ls)

own-some : (b : ℕ) (s : List ℕ) → 1 ≤ own (lines_of (b ∷ s))
unfolding own lines_of
own-some b s = first (eqb b 0x0A) where
  first : (t : Bool) → 1 ≤ own (cond t (more [] (lines_of s)) (push b (lines_of s)))
  first true = omega arith
  first false = rw (own-push b (lines_of s)) (omega arith)

own-second : (h : Option ℕ) (s : List ℕ) → second h s ≤ own (lines_of s)
own-second none s = omega arith
own-second (some h) [] = omega arith
own-second (some h) (b ∷ s) = own-some b s

pub tell_own : (s : List ℕ) → to_tell s ≤ own (lines_of s)
unfolding to_tell own lines_of
tell_own [] = omega arith
tell_own (a ∷ s) = first (eqb a 0x0A) refl where
  first : (t : Bool) → eqb a 0x0A ≡ t → suc (second (digit a) s) ≤ own (cond t (more [] (lines_of s)) (push a (lines_of s)))
  first true e = omega (arith, second_end a s (digit a) refl (rw e refl))
  first false e = rw (own-push a (lines_of s)) (omega (arith, own-second (digit a) s))

pub own-front : {f s t : List ℕ} → Front f s t → own (lines_of s) ≡ 2 * length f + own (lines_of t)
own-front {t = t} r = ap own r.lines ∙ own-pushes r.passed (lines_of t) ∙ ap (λ (n : ℕ). n + own (lines_of t)) r.two

-- ---- exactly these, where the line is well formed
own_framed : {log out : List ℕ} {at k s next : ℕ} → Framed log at k s next out → own (lines_of (drop at log)) ≡ 2 * k + 1
unfolding own
own_framed {out = out} {k = k} w = rw w.is (omega (arith, ap length (hex-bytes w.text (take k out) w.carries).0, length-hex (take k out), length-line w))

spoilt_form : {log : List ℕ} {at : ℕ} → Spoilt log at → well_formed (items (lines_of (drop at log))) ≡ true → ⊥
unfolding well_formed
spoilt_form w e = let z : false ≡ true = rw w.is at e in let y : ◌≡◌ {A = ℕ} 0 1 = cc in omega arith

-- What a walk tells, with no more looks than the line has, makes `Looks`.
pub looks_told : (log out : List ℕ) (at : ℕ) (r : Result Frame Malformed) → Walked log at r out → looked r ≤ own (lines_of (drop at log)) → Looks (lines_of (drop at log)) (looked r)
looks_told log out at (Ok f) w h = record { exact = λ f. omega (arith, w.after, own_framed w); most = h }
looks_told log out at (Err m) w h = record { exact = λ f. absurd (spoilt_form w f); most = h }

-- ---- what `Looks` leaves out, and what it comes to
own-formed : (ls : Lines) → well_formed (items ls) ≡ true → 1 ≤ own ls
unfolding own items well_formed
own-formed (more l ls) f = omega arith
own-formed (rest []) f = let z : ◌≡◌ {A = ℕ} 0 1 = cc in absurd (omega arith)
own-formed (rest (b ∷ l)) f = omega arith

-- A walk that seeks 0A first and then goes over the line again makes twice the line's own looks.
pub not_twice : (ls : Lines) → well_formed (items ls) ≡ true → Looks ls (own ls + own ls) → ⊥
not_twice ls f w = omega (arith, w.exact f, own-formed ls f)

-- The own bytes of all lines.
unfoldable pub owns : Lines → ℕ
owns (more l ls) = own (more l ls) + owns ls
owns (rest l) = own (rest l)

owns-push : (b : ℕ) (ls : Lines) → owns (push b ls) ≡ suc (owns ls)
unfolding owns own push
owns-push b (more l ls) = omega arith
owns-push b (rest l) = refl

-- They are the log: each byte is one line's own.
pub owns_all : (s : List ℕ) → owns (lines_of s) ≡ length s
unfolding owns own lines_of
owns_all [] = refl
owns_all (b ∷ s) = first (eqb b 0x0A) (owns_all s) where
  first : (t : Bool) → owns (lines_of s) ≡ length s → owns (cond t (more [] (lines_of s)) (push b (lines_of s))) ≡ suc (length s)
  first true e = omega (arith, e)
  first false e = owns-push b (lines_of s) ∙ ap suc e
