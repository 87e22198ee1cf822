-- Laws of the clock rule. Assumes nothing.
use mathlib.Core.Path.{◌≡◌, refl, sym, ◌∙◌}
use mathlib.Core.Bool.{Bool, true, false, not, ◌&&◌, and-false}
use mathlib.Core.List.{List}
use Prim.Native.Nat.{ℕ, zero, suc, ◌+◌, ◌<◌, ◌≤◌}
use native.Mathlib.Omega.{arith}
use native.Mathlib.Numerals.{add-one}
use lib.Dec.{eqb}
use lib.ListN.{length, drop, take, get_or}
use borrow.Author.Tests.{eq-eqb, ne_eqb, le-leb, lt-leb, eqb-true, eqb-false, not-true, not-false}
use Rattle.model.specs.Limits.{stored_report}
use Rattle.model.specs.Lists.{every}
use Rattle.model.specs.Cut.{inside}
use Rattle.model.specs.Computation.{Computation, stations, count, clock, known, counted, clock_ok}
use Rattle.table.specs.Table.{slot, Stored}

-- every: a number that fails, one more that passes
pub every_fails : (p : ℕ → Bool) (j n : ℕ) → j < n → p j ≡ false → every n p ≡ false
unfolding every
every_fails p j zero h e = absurd (omega arith)
every_fails p j (suc n) h e = split (eqb j n) refl (λ l. every_fails p j n l e) where
  split : (b : Bool) → eqb j n ≡ b → (j < n → every n p ≡ false) → (every n p && p n) ≡ false
  split true q f = rw (← eqb-true j n q, e) (and-false (every j p))
  split false q f = rw (f (omega (arith, eqb-false j n q)))

pub every_more : (p : ℕ → Bool) (j : ℕ) → every j p ≡ true → p j ≡ true → every (j + 1) p ≡ true
unfolding every
every_more p j a b = rw (add-one j, a, b)

-- ONE EVENT: m is the count of station j as the code has it
module _ {K : Computation} (v : List ℕ) {counts t : List ℕ} (g : Stored K (length v) counts t) (j k m : ℕ) (has : m ≡ get_or counts j 0) where
  pub event_missing : m < k → false ≡ known K v j k
  unfolding known
  event_missing h = sym (rw (lt-leb k (count K j) (omega (arith, g.each j))))

  pub event-there : k ≤ m → j < length v → (a : ℕ) → a ≡ slot j k → (b : Bool) → b ≡ inside (take (length v) (drop (a + stored_report) t)) v → b ≡ known K v j k
  unfolding known
  event-there h l a n b i =
      let p : take (stations K) (drop (slot j k + stored_report) t) ≡ clock K j k = g.table.clocks j k (rw g.size l) (omega (arith, g.each j)) in
      i ∙ sym (rw (le-leb k (count K j) (omega (arith, g.each j)), ← p, g.size, n))

-- b is what the test of event k says, and k is the event that a rule asks for
module _ (K : Computation) (v : List ℕ) (j k asked : ℕ) (is : k ≡ asked) (b : Bool) (says : b ≡ known K v j k) where
  pub known-not : not b ≡ true → known K v j asked ≡ false
  known-not e = rw (← is, ← says) (not-true b e)

  pub known_yes : not b ≡ false → known K v j asked ≡ true
  known_yes e = rw (← is, ← says) (not-false b e)

-- ALL ENTRIES: w and m are entry and count of the station as the code has them
module _ {K : Computation} (v : List ℕ) {counts t : List ℕ} (g : Stored K (length v) counts t) (s w m : ℕ) (is : w ≡ get_or v s 0) (has : m ≡ get_or counts s 0) where
  pub own-wrong : (w ≡ m + 1 → ⊥) → false ≡ clock_ok K s v
  unfolding clock_ok
  own-wrong h = sym (rw (ne_eqb (get_or v s 0) (suc (count K s)) (λ e. h (omega (arith, g.each s)))))

  own : w ≡ m + 1 → eqb (get_or v s 0) (suc (count K s)) ≡ true
  own h = eq-eqb (get_or v s 0) (suc (count K s)) (omega (arith, g.each s))

  pub entry-wrong : w ≡ m + 1 → (j : ℕ) → j < length v → known K v j (counted s v j) ≡ false → false ≡ clock_ok K s v
  unfolding clock_ok
  entry-wrong h j l e = sym (rw (own h) (every_fails (λ i. known K v i (counted s v i)) j (stations K) (rw g.size l) e))

  pub all_right : w ≡ m + 1 → (j : ℕ) → j ≤ length v → length v ≤ j → every j (λ i. known K v i (counted s v i)) ≡ true → true ≡ clock_ok K s v
  unfolding clock_ok
  all_right h j a b e =
      let n : stations K ≡ j = g.size ∙ omega arith in
      sym (rw (own h, n) e)
