-- An atom at the front of some bytes: its token, its length, and what its bytes say.
use mathlib.Core.Path.{◌≡◌, refl, sym, ap, ◌∙◌}
use Prim.Native.Nat.{ℕ, ◌+◌, ◌*◌, ◌≤◌, ◌<◌}
use native.Mathlib.Omega.{arith}
use native.Mathlib.Nat.{div-add-mod'}
use mathlib.Core.List.{List, ◌++◌}
use mathlib.Core.Bool.{Bool, true}
use lib.Dec.{ltb}
use lib.ListN.{length, get_or}
use borrow.Author.Tests.{ltb-true}
use Rattle.model.specs.declared.Aspect.{Aspect}
use Rattle.model.specs.declared.Aspect.TheVariants.{Value, Panel}
use Rattle.model.specs.declared.Token.{Token}
use Rattle.model.specs.declared.Token.TheVariants as token
use Rattle.model.specs.Codes.{token_byte}
use Rattle.model.specs.Atom.{Atom, range_token, atom_bytes, sound_atom, askable}
use Rattle.model.specs.Atom.Atom.{in_range, clear}
use Rattle.lattice.proofs.Tests.{and-true}

-- TOKENS

pub head_is : (a : Atom) (rest : List ℕ) → get_or (atom_bytes a ++ rest) 0 0 ≡ get_or (atom_bytes a) 0 0
unfolding atom_bytes
head_is (in_range x s lo hi) rest = refl
head_is (clear i j) rest = refl

-- A range's token is 01 or 08.
range-token : (x : Aspect) → (range_token x ≡ 1 → ⊥) → (range_token x ≡ 8 → ⊥) → ⊥
unfolding range_token
range-token Value f g = f refl
range-token Panel f g = g refl

-- It is no sign's.
pub range_no_sign : (x : Aspect) → 1 < range_token x → range_token x < 7 → ⊥
range_no_sign x h l = range-token x (λ e. omega arith) (λ e. omega arith)

range_no_clear : (x : Aspect) → range_token x ≡ 7 → ⊥
range_no_clear x k = range-token x (λ e. omega arith) (λ e. omega arith)

-- It tells what is looked at.
range_same : (x y : Aspect) → range_token x ≡ range_token y → x ≡ y
unfolding range_token
range_same Value Value e = refl
range_same Value Panel e = absurd (omega arith)
range_same Panel Value e = absurd (omega arith)
range_same Panel Panel e = refl

-- A token that is no sign has no sign's byte.
pub other_sign : (k : Token) → (k ≡ token.Not → ⊥) → (k ≡ token.And → ⊥) → (k ≡ token.Or → ⊥) → (k ≡ token.Possibly → ⊥) → (k ≡ token.Always → ⊥) → 1 < token_byte k → token_byte k < 7 → ⊥
other_sign (token.Range x) n a o p l = range_no_sign x
other_sign token.Clear n a o p l = λ h g. omega arith
other_sign token.Not n a o p l = absurd (n refl)
other_sign token.And n a o p l = absurd (a refl)
other_sign token.Or n a o p l = absurd (o refl)
other_sign token.Possibly n a o p l = absurd (p refl)
other_sign token.Always n a o p l = absurd (l refl)

-- The token of an atom.
pub token_of : (a : Atom) → (t : Token) × (token_byte t ≡ get_or (atom_bytes a) 0 0)
unfolding atom_bytes
token_of (in_range x s lo hi) = (token.Range x, refl)
token_of (clear i j) = (token.Clear, refl)

-- It is a range's or 07.
pub token-is : (a : Atom) → (get_or (atom_bytes a) 0 0 ≡ 1 → ⊥) → (get_or (atom_bytes a) 0 0 ≡ 7 → ⊥) → (get_or (atom_bytes a) 0 0 ≡ 8 → ⊥) → ⊥
unfolding atom_bytes
token-is (in_range x s lo hi) f g h = range-token x f h
token-is (clear i j) f g h = g refl

pub no_sign : (a : Atom) → 1 < get_or (atom_bytes a) 0 0 → get_or (atom_bytes a) 0 0 < 7 → ⊥
no_sign a h l = token-is a (λ e. omega arith) (λ e. omega arith) (λ e. omega arith)

pub some_bytes : (a : Atom) → (0 < length (atom_bytes a)) × (length (atom_bytes a) ≤ 6)
unfolding atom_bytes
some_bytes (in_range x s lo hi) = (omega arith, omega arith)
some_bytes (clear i j) = (omega arith, omega arith)

-- 01 AND 08

pub record Range (x : Aspect) (q : List ℕ) (a : Atom) : Type 0 where
  pub station : ℕ
  pub low : ℕ
  pub high : ℕ
  pub is : a ≡ in_range x station low high
  pub station-is : get_or q 1 0 ≡ station
  pub low-is : 256 * get_or q 2 0 + get_or q 3 0 ≡ low
  pub high_is : 256 * get_or q 4 0 + get_or q 5 0 ≡ high
  pub long : 6 ≤ length q
  pub bytes : length (atom_bytes a) ≡ 6

pub at-range : (x : Aspect) (q : List ℕ) (a : Atom) (rest : List ℕ) → q ≡ atom_bytes a ++ rest → get_or q 0 0 ≡ range_token x → Range x q a
unfolding atom_bytes
at-range x q (clear i j) rest e k = absurd (range_no_clear x (sym k ∙ ap (λ (l : List ℕ). get_or l 0 0) e))
at-range x q (in_range y s lo hi) rest e k =
    let at : (i : ℕ) → get_or q i 0 ≡ get_or (atom_bytes (in_range y s lo hi) ++ rest) i 0 = λ i. ap (λ (l : List ℕ). get_or l i 0) e in
    record {
      station = s;
      low = lo;
      high = hi;
      is = ap (λ (z : Aspect). in_range z s lo hi) (range_same y x (sym (at 0) ∙ k));
      station-is = at 1;
      low-is = omega (arith, at 2, at 3, div-add-mod' lo 256);
      high_is = omega (arith, at 4, at 5, div-add-mod' hi 256);
      long = omega (arith, ap length e);
      bytes = refl;
    }

pub range-station : (x : Aspect) (n : ℕ) (q : List ℕ) (a : Atom) → Range x q a → sound_atom n a ≡ true → get_or q 1 0 < n
unfolding sound_atom
range-station x n q a r h =
    let g : ltb r.station n ≡ true = sym (ap (sound_atom n) r.is) ∙ h in
    omega (arith, r.station-is, ltb-true r.station n g)

-- 07

pub record Clear (q : List ℕ) (a : Atom) : Type 0 where
  pub sender : ℕ
  pub receiver : ℕ
  pub is : a ≡ clear sender receiver
  pub sender-is : get_or q 1 0 ≡ sender
  pub receiver-is : get_or q 2 0 ≡ receiver
  pub long : 3 ≤ length q
  pub bytes : length (atom_bytes a) ≡ 3

pub at_clear : (q : List ℕ) (a : Atom) (rest : List ℕ) → q ≡ atom_bytes a ++ rest → get_or q 0 0 ≡ 7 → Clear q a
unfolding atom_bytes
at_clear q (in_range x s lo hi) rest e k = absurd (range_no_clear x (sym (ap (λ (l : List ℕ). get_or l 0 0) e) ∙ k))
at_clear q (clear i j) rest e k =
    let at : (n : ℕ) → get_or q n 0 ≡ get_or (atom_bytes (clear i j) ++ rest) n 0 = λ n. ap (λ (l : List ℕ). get_or l n 0) e in
    record { sender = i; receiver = j; is = refl; sender-is = at 1; receiver-is = at 2; long = omega (arith, ap length e); bytes = refl }

pub clear-stations : (n : ℕ) (q : List ℕ) (a : Atom) → Clear q a → sound_atom n a ≡ true → (get_or q 1 0 < n) × (get_or q 2 0 < n)
unfolding sound_atom
clear-stations n q a r h =
    let g = (and-true (ltb r.sender n) (ltb r.receiver n)).0 (sym (ap (sound_atom n) r.is) ∙ h) in
    (omega (arith, r.sender-is, ltb-true r.sender n g.0), omega (arith, r.receiver-is, ltb-true r.receiver n g.1))

-- It is worked out as true alone.
pub clear-sign : (q : List ℕ) (a : Atom) (s : Bool) → Clear q a → askable s a ≡ true → s ≡ true
unfolding askable
clear-sign q a s r h = sym (ap (askable s) r.is) ∙ h
