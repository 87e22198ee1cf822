-- All starts: what is known in the loop over them, and how one of them is looked up.
use mathlib.Core.Path.{◌≡◌, ap, ◌∙◌}
use Prim.Native.Nat.{ℕ, suc, ◌+◌, ◌*◌, ◌≤◌, ◌<◌}
use native.Mathlib.Omega.{arith}
use native.Mathlib.Decide.{ℕ_discrete}
use mathlib.Core.List.{List}
use mathlib.Core.Option.{Option}
use Rattle.std.specs.Prelude.{option_copied}
use lib.ListN.{length, take, drop}
use lib.Seq.{paste}
use Rattle.model.specs.Cut.{Cut, join}
use Rattle.model.specs.Computation.{Computation, stations, count, clock, event_count}
use Rattle.model.specs.Structure.{Structure}
use Rattle.model.specs.Basis as rule
use Rattle.model.specs.Basis.{run, start}
use Rattle.structure.specs.Layout.{decoded}
use Rattle.slots.specs.Slots.{number, Small, Offsets}
use Rattle.slots.specs.Reached.{Reached}
use Rattle.picking.specs.Rows.{row_of}
use Rattle.picking.proofs.Reading.{row_new, row_old}
use Rattle.lookups.specs.Found.{place_of, Joined, Found, AtEvent, Looked}
use Rattle.lookups.specs.declared.Step.{Step}
use Rattle.chaining.specs.declared.Chain.{Chain}
use Rattle.numbering.specs.declared.Code.{Code}

-- What is known in the loop over them.
pub record Begun (n e s : ℕ) (out last cuts first picks : List ℕ) (chain : Chain) (code : Code) (K : Computation) (S T : Structure) : Type 0 where
  pub stationed : stations K ≡ n
  pub counted : event_count K ≡ e
  pub offsets : Offsets K code
  pub found : Found K S T s cuts first picks chain
  pub reached : Joined e s picks cuts chain.above out
  pub before : Joined e s picks cuts chain.under last

module _ (n e s : ℕ) (out last cuts first picks : List ℕ) (chain : Chain) (code : Code) (K : Computation) (S T : Structure) (b : Begun n e s out last cuts first picks chain code K S T) (i j k : ℕ) (l : i ≤ e) (h : k ≤ count K j) (q : i ≡ number K j k) (r : Step) where
  run_is : start K S T (clock K j k) ≡ run S T (suc e) (clock K j k)
  unfolding start
  run_is = ap (λ (m : ℕ). run S T (suc m) (clock K j k)) b.counted

  -- One start, by its step and the row put.
  pub one-start : (AtEvent K S T s out last cuts first picks chain i j k → Looked K (start K S T (clock K j k)) r)
      → (ws : List ℕ) → ((o : Option Cut) → Small K → stations K ≡ n → Offsets K code → Reached K (option_copied r.cut) o → decoded (take n (drop (i * n) ws)) ≡ o)
      → (decoded (take n (drop (i * n) ws)) ≡ (run S T (suc e) (clock K j k)).reached) × (r.rounds ≡ (run S T (suc e) (clock K j k)).rounds)
  one-start look ws put =
      let o = look (record { found = b.found; there = h; numbered = q; reached = b.reached i l; before = b.before i l }) in
      (put _ b.found.small b.stationed b.offsets o.reached ∙ ap (λ (x : rule.Outcome). x.reached) run_is, o.rounds ∙ ap (λ (x : rule.Outcome). x.rounds) run_is)

-- A row more of cuts that are joined with what they look up.
pub joined-more : (s : ℕ) (picks cuts rows out out₂ row : List ℕ) (i p : ℕ) → length out ≡ 2048 → i < 256 → length row ≡ 8 → p ≡ place_of picks cuts s i
    → row ≡ join (row_of cuts i) (row_of rows p) → out₂ ≡ paste out (i * 8) row 8 → ((j : ℕ) → j < i → row_of out j ≡ join (row_of cuts j) (row_of rows (place_of picks cuts s j)))
    → (j : ℕ) → j < i + 1 → row_of out₂ j ≡ join (row_of cuts j) (row_of rows (place_of picks cuts s j))
joined-more s picks cuts rows out out₂ row i p l h m q r e f j k = go (ℕ_discrete j i)
  where
    below : (j : ℕ) → j < i + 1 → (j ≡ i → ⊥) → j < i
    below j k z = omega arith

    go : Dec (j ≡ i) → row_of out₂ j ≡ join (row_of cuts j) (row_of rows (place_of picks cuts s j))
    go (yes z) = rw z (ap (λ (y : List ℕ). row_of y i) e ∙ row_new out row i l h m ∙ r ∙ ap (λ (y : ℕ). join (row_of cuts i) (row_of rows y)) q)
    go (no z) = ap (λ (y : List ℕ). row_of y j) e ∙ row_old out row i l h m j z ∙ f j (below j k z)
