-- Atoms and their bytes: an atom is read back from its bytes, and bytes that are read as an atom are its bytes.
use mathlib.Core.Path.{◌≡◌, refl, ap₂, ◌∙◌}
use mathlib.Core.Logic.{◌⊎◌, inl, inr}
use mathlib.Core.List.{List, [], ◌∷◌, ◌++◌}
use mathlib.Core.Option.{none, some}
use Prim.Native.Nat.{ℕ, zero, suc, ◌+◌, ◌*◌, ◌/◌, ◌%◌, ◌<◌, ◌≤◌}
use native.Mathlib.Omega.{arith}
use lib.Dec.{eqb}
use lib.ListN.{length, take}
use borrow.Author.Tests.{eqb-true, ne_eqb}
use Rattle.model.specs.Frames.{word}
use Rattle.model.specs.declared.Aspect.{Aspect}
use Rattle.model.specs.declared.Aspect.TheVariants.{Value, Panel}
use Rattle.model.specs.Atom.{Atom, range_token, atom_bytes, operands, range_of, atom_of}
use Rattle.model.specs.Atom.Atom.{in_range, clear}
use Rattle.codec.proofs.Bytes.{Bytes}
use Rattle.codec.proofs.Cases.{none-some, cases}

-- TOKENS

-- The tokens of atoms, each with its bytes.
token-some : (t k : ℕ) → operands t ≡ some k → ((a : Aspect) × (t ≡ range_token a) × (k ≡ 5)) ⊎ ((t ≡ 7) × (k ≡ 2))
unfolding operands range_token
token-some t k e =
    cases (eqb t 1) e (λ h e. inl (Value, eqb-true t 1 h, cc)) (λ h e.
    cases (eqb t 7) e (λ h e. inr (eqb-true t 7 h, cc)) (λ h e.
    cases (eqb t 8) e (λ h e. inl (Panel, eqb-true t 8 h, cc)) (λ h e.
    none-some e)))

-- Any other token is no atom's, a sign's for one.
pub token-none : (t : ℕ) → (t ≡ 1 → ⊥) → (t ≡ 7 → ⊥) → (t ≡ 8 → ⊥) → operands t ≡ none
unfolding operands
token-none t h g k = rw (ne_eqb t 1 h, ne_eqb t 7 g, ne_eqb t 8 k)

pub sign-none : (t : ℕ) → 1 < t → t < 7 → operands t ≡ none
sign-none t h l = token-none t (λ e. omega arith) (λ e. omega arith) (λ e. omega arith)

pub operands-small : (t k : ℕ) → operands t ≡ some k → k ≤ 5
operands-small t k e =
    elim (token-some t k e) [
      | inl x ↦ omega (arith, x.2)
      | inr x ↦ omega (arith, x.1)
    ]

-- FROM AN ATOM TO ITS BYTES

-- Its token byte, the bytes that follow, and itself read back from these, whatever is behind them.
pub record Spelling (a : Atom) : Type 0 where
  pub token : ℕ
  pub bytes : List ℕ
  pub are : atom_bytes a ≡ token ∷ bytes
  pub many : operands token ≡ some (length bytes)
  pub back : (q : List ℕ) → atom_of token (bytes ++ q) ≡ a

-- The token of a range tells what is looked at.
pub range-operands : (a : Aspect) → operands (range_token a) ≡ some 5
unfolding operands range_token
range-operands Value = refl
range-operands Panel = refl

pub range-of : (a : Aspect) (q : List ℕ) → atom_of (range_token a) q ≡ range_of a q
unfolding atom_of range_token
range-of Value q = refl
range-of Panel q = refl

pub spelling : (a : Atom) → Spelling a
unfolding atom_bytes operands atom_of range_of word
spelling (in_range a s lo hi) = record {
  token = range_token a;
  bytes = s ∷ (lo / 256) ∷ (lo % 256) ∷ (hi / 256) ∷ (hi % 256) ∷ [];
  are = refl;
  many = range-operands a;
  back = λ q. range-of a (s ∷ (lo / 256) ∷ (lo % 256) ∷ (hi / 256) ∷ (hi % 256) ∷ q) ∙ whole;
}
  where
    whole : in_range a s (256 * (lo / 256) + lo % 256) (256 * (hi / 256) + hi % 256) ≡ in_range a s lo hi
    whole = ap₂ (in_range a s) (omega arith) (omega arith)
spelling (clear i j) = record { token = 7; bytes = i ∷ j ∷ []; are = refl; many = refl; back = λ q. refl }

-- FROM BYTES TO AN ATOM

-- What an atom names fits its bytes.
abbrev pub SmallAtom : Atom → Type 0
SmallAtom (in_range a s lo hi) = (s < 256) × (lo < 256 * 256) × (hi < 256 * 256)
SmallAtom (clear i j) = (i < 256) × (j < 256)

range-bytes : (x : Aspect) (q : List ℕ) → 5 ≤ length q → Bytes q → (atom_bytes (range_of x q) ≡ range_token x ∷ take 5 q) × SmallAtom (range_of x q)
unfolding atom_bytes range_of word
range-bytes x [] h g = absurd (omega arith)
range-bytes x (s ∷ []) h g = absurd (omega arith)
range-bytes x (s ∷ a ∷ []) h g = absurd (omega arith)
range-bytes x (s ∷ a ∷ b ∷ []) h g = absurd (omega arith)
range-bytes x (s ∷ a ∷ b ∷ c ∷ []) h g = absurd (omega arith)
range-bytes x (s ∷ a ∷ b ∷ c ∷ d ∷ q) h g =
    let hs : s < 256 = g 0 in
    let ha : a < 256 = g 1 in
    let hb : b < 256 = g 2 in
    let hc : c < 256 = g 3 in
    let hd : d < 256 = g 4 in
    let ea : (256 * a + b) / 256 ≡ a = omega arith in
    let eb : (256 * a + b) % 256 ≡ b = omega arith in
    let ec : (256 * c + d) / 256 ≡ c = omega arith in
    let ed : (256 * c + d) % 256 ≡ d = omega arith in
    (rw (ea, eb, ec, ed), (hs, omega arith, omega arith))

clear-bytes : (q : List ℕ) → 2 ≤ length q → Bytes q → (atom_bytes (atom_of 7 q) ≡ 7 ∷ take 2 q) × SmallAtom (atom_of 7 q)
unfolding atom_bytes atom_of
clear-bytes [] h g = absurd (omega arith)
clear-bytes (i ∷ []) h g = absurd (omega arith)
clear-bytes (i ∷ j ∷ q) h g = (refl, (g 0, g 1))

-- Bytes that are read as an atom are its bytes.
pub atom-bytes : (t k : ℕ) (q : List ℕ) → operands t ≡ some k → k ≤ length q → Bytes q → (atom_bytes (atom_of t q) ≡ t ∷ take k q) × SmallAtom (atom_of t q)
atom-bytes t k q e h g =
    elim (token-some t k e) [
      | inl x ↦ rw (x.1, x.2, range-of x.0 q) (range-bytes x.0 q (omega (arith, x.2)) g)
      | inr x ↦ rw (x.0, x.1) (clear-bytes q (omega (arith, x.1)) g)
    ]

-- The bytes of a small atom are bytes.
range-token : (a : Aspect) → range_token a < 256
unfolding range_token
range-token Value = omega arith
range-token Panel = omega arith

pub bytes-atom : (a : Atom) → SmallAtom a → Bytes (atom_bytes a)
unfolding atom_bytes
bytes-atom (in_range a s lo hi) (h, g, k) zero = range-token a
bytes-atom (in_range a s lo hi) (h, g, k) (suc zero) = h
bytes-atom (in_range a s lo hi) (h, g, k) (suc (suc zero)) = omega arith
bytes-atom (in_range a s lo hi) (h, g, k) (suc (suc (suc zero))) = omega arith
bytes-atom (in_range a s lo hi) (h, g, k) (suc (suc (suc (suc zero)))) = omega arith
bytes-atom (in_range a s lo hi) (h, g, k) (suc (suc (suc (suc (suc zero))))) = omega arith
bytes-atom (in_range a s lo hi) (h, g, k) (suc (suc (suc (suc (suc (suc i)))))) = omega arith
bytes-atom (clear i j) (h, g) zero = omega arith
bytes-atom (clear i j) (h, g) (suc zero) = h
bytes-atom (clear i j) (h, g) (suc (suc zero)) = g
bytes-atom (clear i j) (h, g) (suc (suc (suc k))) = omega arith
