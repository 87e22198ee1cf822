-- The sets that structures are built of: all cuts, the cuts contained in one, and those at which a station's count passes a test.
use mathlib.Core.Path.{◌≡◌, refl}
use Prim.Native.Nat.{ℕ, zero, suc, ◌+◌, ◌-◌, ◌≤◌, ◌<◌}
use native.Mathlib.Omega.{arith}
use native.Mathlib.Decide.{dec_le, ℕ_discrete}
use mathlib.Core.Bool.{Bool, true, false, cond}
use mathlib.Core.Option.{Option, none, some}
use Rattle.model.specs.Cut.{Cut, ◌!◌, ◌⊑◌, inside, join}
use Rattle.model.specs.Computation.{Computation, Consistent, count, clock}
use Rattle.model.specs.Atom.{next, up_to, raise_to}
use Rattle.model.specs.Basis.{below}
use Rattle.lattice.proofs.Valid.{Valid}
use Rattle.lattice.proofs.Tests.{clash}
use Rattle.lattice.proofs.Cuts.{refl⊑, trans⊑, join-at, join-left, join-least, inside_⊑, ⊑-inside}
use Rattle.lattice.proofs.Consistency.{join-consistent, clock-consistent, clock-own, clock-least}
use Rattle.lattice.proofs.Structures.{Least, Regular}

module _ (K : Computation) (ok : Valid K) where
  -- All cuts.
  pub all_regular : Regular K (Consistent K)
  all_regular = record { consistent = λ c p. p; join_in = join-consistent K ok }

  pub all_least : (c : Cut) → Consistent K c → Least (Consistent K) (λ e. c ⊑ e) (some c)
  all_least c p = (p, refl⊑ c, λ e u v. v)

  -- All cuts contained in g.
  abbrev pub Below : Cut → Cut → Type 0
  Below g c = Consistent K c × (c ⊑ g)

  pub below_regular : (g : Cut) → Regular K (Below g)
  below_regular g = record { consistent = λ c u. u.0; join_in = λ c d u v. (join-consistent K ok c d u.0 v.0, join-least c d g u.1 v.1) }

  pub below-least : (g c : Cut) → Consistent K c → Least (Below g) (λ e. c ⊑ e) (below g c)
  unfolding below
  below-least g c p = go (inside c g) refl
    where
      go : (b : Bool) → inside c g ≡ b → Least (Below g) (λ e. c ⊑ e) (cond b (some c) none)
      go true e = ((p, inside_⊑ c g e), refl⊑ c, λ d u v. v)
      go false e = λ d u v. clash (⊑-inside c g (trans⊑ c d g v u.1)) e

-- The first number that passes a test.
abbrev pub First : (ℕ → Bool) → ℕ → ℕ → Option ℕ → Type 0
First p m k none = (i : ℕ) → k ≤ i → i < k + m → p i ≡ true → ⊥
First p m k (some i) = (k ≤ i) × (i < k + m) × (p i ≡ true) × ((i' : ℕ) → k ≤ i' → p i' ≡ true → i ≤ i')

first_next : (p : ℕ → Bool) (m k : ℕ) → p k ≡ false → (o : Option ℕ) → First p m (suc k) o → First p (suc m) k o
first_next p m k e none h = λ i a b q. skip i a b q (ℕ_discrete i k)
  where
    skip : (i : ℕ) → k ≤ i → i < k + suc m → p i ≡ true → Dec (i ≡ k) → ⊥
    skip i a b q (yes s) = clash q (rw s e)
    skip i a b q (no s) = h i (omega arith) (omega arith) q
first_next p m k e (some i) h = (omega (arith, h.0), omega (arith, h.1), h.2, λ i' a q. skip i' a q (ℕ_discrete i' k))
  where
    skip : (i' : ℕ) → k ≤ i' → p i' ≡ true → Dec (i' ≡ k) → i ≤ i'
    skip i' a q (yes s) = clash q (rw s e)
    skip i' a q (no s) = h.3 i' (omega arith) q

pub next-first : (p : ℕ → Bool) (m k : ℕ) → First p m k (next p m k)
unfolding next
next-first p zero k = λ i a b q. omega arith
next-first p (suc m) k = go (p k) refl (next-first p m (suc k))
  where
    go : (b : Bool) → p k ≡ b → First p m (suc k) (next p m (suc k)) → First p (suc m) k (cond b (some k) (next p m (suc k)))
    go true e h = (omega arith, omega arith, e, λ i a q. a)
    go false e h = first_next p m k e (next p m (suc k)) h

-- Raising to an event of station s, for a set P in which the test tells each such cut:
-- a cut of P that contains c stays one if all but c and what its last event of s counts is left out.
module _ (K : Computation) (ok : Valid K) (P : Cut → Type 0) (reg : Regular K P) (s : ℕ) (c : Cut) (q : Consistent K c) (p : ℕ → Bool)
    (tells : (k : ℕ) → c ! s ≤ k → k ≤ count K s → p k ≡ true → P (join c (clock K s k)))
    (told : (e : Cut) → P e → c ⊑ e → p (e ! s) ≡ true) where
  pub raise_to-least : Least P (λ e. c ⊑ e) (raise_to K s p c)
  unfolding raise_to up_to
  raise_to-least = go (next p (suc (count K s) - c ! s) (c ! s)) (next-first p (suc (count K s) - c ! s) (c ! s))
    where
      go : (o : Option ℕ) → First p (suc (count K s) - c ! s) (c ! s) o → Least P (λ e. c ⊑ e) (up_to K s c o)
      go none h = λ e u v. h (e ! s) (v s) (omega (arith, (reg.consistent e u).within s, v s)) (told e u v)
      go (some k) h =
          let w : k ≤ count K s = omega (arith, q.within s, h.0, h.1) in (
            tells k h.0 w h.2,
            join-left c (clock K s k),
            λ e u v. join-least c (clock K s k) e v (clock-least K ok s k e (reg.consistent e u) (h.3 (e ! s) (v s) (told e u v))),
          )

-- The count of s in c joined with the clock of a later event of s.
pub join-own : (K : Computation) → Valid K → (s : ℕ) (c : Cut) (k : ℕ) → c ! s ≤ k → k ≤ count K s → join c (clock K s k) ! s ≡ k
join-own K ok s c k h w = omega (arith, join-at c (clock K s k) s, clock-own K ok s k w)

-- The cuts at which the count of station s passes the test p.
module _ (K : Computation) (ok : Valid K) (s : ℕ) (p : ℕ → Bool) where
  abbrev pub Passes : Cut → Type 0
  Passes c = Consistent K c × (p (c ! s) ≡ true)

  pub passes_regular : Regular K Passes
  passes_regular = record { consistent = λ c u. u.0; join_in = λ c d u v. (join-consistent K ok c d u.0 v.0, at c d u v (dec_le (c ! s) (d ! s))) }
    where
      at : (c d : Cut) → Passes c → Passes d → Dec (c ! s ≤ d ! s) → p (join c d ! s) ≡ true
      at c d u v (yes h) = let e : join c d ! s ≡ d ! s = omega (arith, join-at c d s) in rw e v.1
      at c d u v (no h) = let e : join c d ! s ≡ c ! s = omega (arith, join-at c d s) in rw e u.1

  pub passes-least : (c : Cut) → Consistent K c → Least Passes (λ e. c ⊑ e) (raise_to K s p c)
  passes-least c q = raise_to-least K ok Passes passes_regular s c q p
      (λ k h w t. (join-consistent K ok c (clock K s k) q (clock-consistent K ok s k w), rw (join-own K ok s c k h w) t))
      (λ e u v. u.1)
