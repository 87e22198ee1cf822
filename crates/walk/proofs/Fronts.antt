-- A text that starts with pairs of digits: its first line, and that line's bytes, by what stands behind them.
use Rattle.std.proofs.Common.{◌≡◌, ℕ, ◌+◌, ◌*◌, Bool, true, false, cond, eqb, List, [], ◌∷◌, ◌++◌, length, drop, sym, refl, ap, ◌∙◌, append_assoc, arith, length-append}
use mathlib.Core.Option.{Option, none, some}
use Rattle.model.specs.Bytes.{Lines, more, rest, push, lines_of, digit, byte, bytes}
use Rattle.walk.specs.Pairs.{first_digit, joined, pair_of}
use Rattle.walk.specs.declared.Pair.{Pair}
use Rattle.walk.specs.declared.Pair.TheVariants.{Byte, End}
use Rattle.walk.proofs.Digits.{digit_no_end}

-- Bytes in front of the first line.
unfoldable pub pushes : List ℕ → Lines → Lines
pushes [] ls = ls
pushes (b ∷ p) ls = push b (pushes p ls)

pub pushes-append : (p q : List ℕ) (ls : Lines) → pushes (p ++ q) ls ≡ pushes p (pushes q ls)
unfolding pushes
pushes-append [] q ls = refl
pushes-append (b ∷ p) q ls = ap (push b) (pushes-append p q ls)

pub pushes-more : (p l : List ℕ) (ls : Lines) → pushes p (more l ls) ≡ more (p ++ l) ls
unfolding pushes push
pushes-more [] l ls = refl
pushes-more (b ∷ p) l ls = ap (push b) (pushes-more p l ls)

pub pushes-rest : (p l : List ℕ) → pushes p (rest l) ≡ rest (p ++ l)
unfolding pushes push
pushes-rest [] l = refl
pushes-rest (b ∷ p) l = ap (push b) (pushes-rest p l)

-- Bytes in front of those of a line.
unfoldable pub ahead : List ℕ → Option (List ℕ) → Option (List ℕ)
ahead f none = none
ahead f (some g) = some (f ++ g)

ahead_none : (o : Option (List ℕ)) → o ≡ ahead [] o
unfolding ahead
ahead_none none = refl
ahead_none (some g) = refl

ahead-ahead : (f g : List ℕ) (o : Option (List ℕ)) → ahead f (ahead g o) ≡ ahead (f ++ g) o
unfolding ahead
ahead-ahead f g none = refl
ahead-ahead f g (some u) = ap some (sym (append_assoc f g u))

-- s is the digits of the bytes f, and t behind them.
pub record Front (f s t : List ℕ) : Type 0 where
  pub passed : List ℕ
  pub lines : lines_of s ≡ pushes passed (lines_of t)
  pub brings : (l : List ℕ) → bytes (passed ++ l) ≡ ahead f (bytes l)
  pub two : length passed ≡ 2 * length f
  pub long : length s ≡ length passed + length t

pub front-none : (s : List ℕ) → Front [] s s
unfolding pushes
front-none s = record { passed = []; lines = refl; brings = λ l. ahead_none (bytes l); two = refl; long = omega arith }

pub front-join : {f g s t u : List ℕ} → Front f s t → Front g t u → Front (f ++ g) s u
front-join {f} {g} {s} {t} {u} a b = record {
  passed = a.passed ++ b.passed;
  lines = a.lines ∙ ap (pushes a.passed) b.lines ∙ sym (pushes-append a.passed b.passed (lines_of u));
  brings = λ l. ap bytes (append_assoc a.passed b.passed l) ∙ a.brings (b.passed ++ l) ∙ ap (ahead f) (b.brings l) ∙ ahead-ahead f g (bytes l);
  two = simp length-append (omega (arith, a.two, b.two));
  long = simp length-append (omega (arith, a.long, b.long));
}

-- ---- one pair
lines-digit : (a d : ℕ) (s : List ℕ) → digit a ≡ some d → lines_of (a ∷ s) ≡ push a (lines_of s)
unfolding lines_of
lines-digit a d s e = rw (digit_no_end a d e)

ahead-byte : (h l : ℕ) (o : Option (List ℕ)) → byte (some h) (some l) o ≡ ahead ((16 * h + l) ∷ []) o
unfolding ahead byte
ahead-byte h l none = refl
ahead-byte h l (some f) = refl

pair-front : (a b h l : ℕ) (s : List ℕ) → digit a ≡ some h → digit b ≡ some l → Front ((16 * h + l) ∷ []) (a ∷ b ∷ s) s
unfolding pushes bytes
pair-front a b h l s ea eb = record {
  passed = a ∷ b ∷ [];
  lines = lines-digit a h (b ∷ s) ea ∙ ap (push a) (lines-digit b l s eb);
  brings = λ t. rw (ea, eb) (ahead-byte h l (bytes t));
  two = refl;
  long = omega arith;
}

joined-front : (a v : ℕ) (s : List ℕ) (h l : Option ℕ) → digit a ≡ h → first_digit s ≡ l → joined h l ≡ Byte v → Front (v ∷ []) (a ∷ s) (drop 1 s)
joined-front a v s none l ea eb e = let z : ◌≡◌ {A = ℕ} 0 1 = cc in absurd (omega arith)
joined-front a v s (some h) none ea eb e = let z : ◌≡◌ {A = ℕ} 0 1 = cc in absurd (omega arith)
joined-front a v [] (some h) (some l) ea eb e = let z : ◌≡◌ {A = ℕ} 0 1 = cc in absurd (omega arith)
joined-front a v (b ∷ s) (some h) (some l) ea eb e = let x : 16 * h + l ≡ v = cc in rw (← x) (pair-front a b h l s ea eb)

pub not_end : (t : Bool) (p : Pair) (v : ℕ) → cond t End p ≡ Byte v → p ≡ Byte v
not_end true p v e = let z : ◌≡◌ {A = ℕ} 0 1 = cc in absurd (omega arith)
not_end false p v e = e

pub front-pair : (s : List ℕ) (v : ℕ) → pair_of s ≡ Byte v → Front (v ∷ []) s (drop 2 s)
unfolding pair_of
front-pair [] v e = let z : ◌≡◌ {A = ℕ} 0 1 = cc in absurd (omega arith)
front-pair (a ∷ s) v e = joined-front a v s (digit a) (first_digit s) refl refl (not_end (eqb a 0x0A) (joined (digit a) (first_digit s)) v e)

-- ---- the end of a line
more_end : (s : List ℕ) (a : ℕ) (p : Pair) (t : Bool) → eqb a 0x0A ≡ t → cond t End p ≡ End → (p ≡ End → ⊥) → lines_of (a ∷ s) ≡ more [] (lines_of s)
unfolding lines_of
more_end s a p true t e n = rw t
more_end s a p false t e n = absurd (n e)

pub joined_no_end : (h l : Option ℕ) → joined h l ≡ End → ⊥
joined_no_end none l e = let z : ◌≡◌ {A = ℕ} 0 1 = cc in omega arith
joined_no_end (some h) none e = let z : ◌≡◌ {A = ℕ} 0 1 = cc in omega arith
joined_no_end (some h) (some l) e = let z : ◌≡◌ {A = ℕ} 0 1 = cc in omega arith

pub lines_end : (s : List ℕ) → pair_of s ≡ End → lines_of s ≡ more [] (lines_of (drop 1 s))
unfolding pair_of
lines_end [] e = let z : ◌≡◌ {A = ℕ} 0 1 = cc in absurd (omega arith)
lines_end (a ∷ s) e = more_end s a (joined (digit a) (first_digit s)) (eqb a 0x0A) refl e (joined_no_end (digit a) (first_digit s))
