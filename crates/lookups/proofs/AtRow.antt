-- The start of a row: it comes to what its cells say, and takes the rounds of what it looks up.
use mathlib.Core.Path.{◌≡◌, refl, sym, ap, subst, ◌∙◌}
use Prim.Native.Nat.{ℕ, suc, ◌+◌, ◌*◌, ◌<◌}
use native.Mathlib.Omega.{arith}
use native.Mathlib.Decide.{ℕ_discrete}
use mathlib.Core.Bool.{Bool, true, cond}
use mathlib.Core.List.{List}
use mathlib.Core.Option.{Option, none, some}
use Rattle.std.specs.Prelude.{Some, None}
use lib.Dec.{eqb}
use lib.ListN.{length, get_or}
use Rattle.model.specs.Cut.{Cut, ◌!◌, join}
use Rattle.model.specs.Computation.{Computation, count, clock}
use Rattle.model.specs.Structure.{Structure}
use Rattle.model.specs.Basis as rule
use Rattle.model.specs.Basis.{start}
use Rattle.lattice.specs.OfStation.{own_row}
use Rattle.lattice.specs.Chains.{Entry, entries, lookup}
use Rattle.lattice.proofs.Cuts.{join-at}
use Rattle.lattice.proofs.Shortcuts.{came}
use Rattle.numbering.proofs.Numbers.{says_none, says_some}
use Rattle.slots.specs.Slots.{Coded, Says}
use Rattle.slots.specs.Reached.{Reached}
use Rattle.picking.specs.Rows.{row_of}
use Rattle.picking.proofs.Reading.{slot_row, row_cell, row_first, row-length}
use Rattle.chaining.specs.declared.Chain.{Chain}
use Rattle.chaining.specs.Table.{rounds_of, sought, Stands, Reaches}
use Rattle.chaining.proofs.Telling.{reach, come, seek}
use Rattle.lookups.specs.Found.{place_of, Found, AtEvent, Looked}
use Rattle.lookups.proofs.Looking.{outcome_by, found-is, reached-by, lost_by, raised_by}

module _ (K : Computation) (S T : Structure) (s : ℕ) (out last cuts first picks : List ℕ) (chain : Chain) (i j k : ℕ) (a : AtEvent K S T s out last cuts first picks chain i j k) where
  abbrev f : Found K S T s cuts first picks chain
  f = a.found

  abbrev c : Cut
  c = clock K j k

  abbrev E : ℕ → Entry
  E = entries K f.right s (own_row f.own s) f.other (suc (count K s))

  -- The outcome that the rule says.
  abbrev ruled : rule.Outcome
  ruled = start K S T c

  says : Says K (f.rows j k) (row_of cuts i)
  says = slot_row K f.rows cuts j k i f.cuts_are a.there a.numbered

  -- NO FIRST CUT

  ruled-none : get_or cuts (i * 8) 0 ≡ 255 → ruled ≡ came none 1
  unfolding lookup
  ruled-none e = f.starts j k a.there ∙ ap (lookup K f.right s (own_row f.own s) f.other E c) (says_none K f.small (f.rows j k) (row_of cuts i) says (row_first cuts i ∙ e))

  pub none-rounds : get_or cuts (i * 8) 0 ≡ 255 → 1 ≡ ruled.rounds
  none-rounds e = ap (λ (x : rule.Outcome). x.rounds) (sym (ruled-none e))

  -- A FIRST CUT

  -- A row that is a cut has one.
  first-there : get_or out (i * 8) 0 < 255 → get_or cuts (i * 8) 0 ≡ 255 → ⊥
  first-there h e =
      omega (arith, h, e, row_first out i, row_first cuts i, ap (λ (z : List ℕ). get_or z 0 0) a.reached, join-at (row_of cuts i) (row_of chain.above (place_of picks cuts s i)) 0)

  -- It looks up what stands at p.
  module _ (long : length cuts ≡ 2048) (few : i < 256) (l : s < 8) (p : ℕ) (q : p ≡ place_of picks cuts s i) where
    eight : length (row_of cuts i) ≡ 8
    eight = row-length cuts i long few

    module _ (there : get_or cuts (i * 8) 0 ≡ 255 → ⊥) where
      w : (x : Cut) × (f.rows j k ≡ some x) × Coded K x (row_of cuts i)
      w = says_some K f.small (f.rows j k) (row_of cuts i) says (λ e. there (sym (row_first cuts i) ∙ e))

      abbrev y : Option Entry
      y = sought f.right E (w.0 ! s) (own_row f.own s w.0)

      ruled-is : ruled ≡ outcome_by c w.0 y
      unfolding lookup
      ruled-is =
          f.starts j k a.there ∙ ap (lookup K f.right s (own_row f.own s) f.other E c) w.1
          ∙ found-is K f.right s (own_row f.own s) f.other E c w.0 (own_row f.own s w.0)

      stands : Stands K chain p y
      stands =
          subst (λ (z : ℕ). Stands K chain z y) (ap (λ (z : ℕ). get_or picks z 0) (row_cell cuts i s l) ∙ sym q)
          (seek K f.own f.right s E 1 picks chain f.of_station f.picks_are f.chained w.0 (row_of cuts i) w.2 (omega arith))

      reaches : Reaches K w.0 y (row_of out i)
      reaches = reach K f.small w.0 y chain (row_of cuts i) (row_of out i) p eight stands w.2 (a.reached ∙ ap (λ (z : ℕ). join (row_of cuts i) (row_of chain.above z)) (sym q))

      said : Says K ruled.reached (row_of out i)
      said = subst (λ (z : rule.Outcome). Says K z.reached (row_of out i)) (sym ruled-is) (reached-by K f.small c w.0 chain (row_of out i) p y reaches)

      pub lost-rounds : get_or out (i * 8) 0 ≡ 255 → rounds_of chain p + 1 ≡ ruled.rounds
      lost-rounds e = lost_by K f.small c w.0 chain (row_of out i) p y stands reaches (row_first out i ∙ e) ∙ ap (λ (z : rule.Outcome). z.rounds) (sym ruled-is)

    -- d is what the start was a round before, or its clock where there is nothing to look up.
    pub raised_rounds : (d : List ℕ) (same : Bool) → length out ≡ 2048 → length d ≡ 8 → (same ≡ true → row_of out i ≡ d) × (row_of out i ≡ d → same ≡ true)
        → d ≡ cond (eqb p 0) (row_of first i) (row_of last i) → get_or out (i * 8) 0 < 255 → rounds_of chain p + 1 + cond same 0 1 ≡ ruled.rounds
    raised_rounds d same m n t u h =
        let g = first-there h in
        let x = w g in
        raised_by K f.small c x.0 chain (row_of out i) p d same (f.above_clock j k a.there x.0 x.1) (row-length out i m few) n t (y g) (stands g) (reaches g)
        (come K f.small c x.0 (y g) chain (row_of first i) (row_of cuts i) d p eight (stands g) (slot_row K (λ j k. some (clock K j k)) first j k i f.clocks_are a.there a.numbered) x.2
        (u ∙ ap (cond (eqb p 0) (row_of first i)) (a.before ∙ ap (λ (z : ℕ). join (row_of cuts i) (row_of chain.under z)) (sym q)))) (omega (arith, h, row_first out i))
        ∙ ap (λ (z : rule.Outcome). z.rounds) (sym (ruled-is g))

  -- THE OUTCOME

  module _ (long : length cuts ≡ 2048) (few : i < 256) (l : s < 8) (r : ℕ) (count : r ≡ ruled.rounds) where
    none-reached : get_or out (i * 8) 0 ≡ 255 → ruled.reached ≡ none
    none-reached h = go (ℕ_discrete (get_or cuts (i * 8) 0) 255)
      where
        go : Dec (get_or cuts (i * 8) 0 ≡ 255) → ruled.reached ≡ none
        go (yes e) = ap (λ (x : rule.Outcome). x.reached) (ruled-none e)
        go (no e) = says_none K f.small ruled.reached (row_of out i) (said long few l (place_of picks cuts s i) refl e) (row_first out i ∙ h)

    pub looked-lost : get_or out (i * 8) 0 ≡ 255 → Looked K ruled (record { cut = None; rounds = r })
    looked-lost h = record { rounds = count; reached = none-reached h }

    pub raised-reached : get_or out (i * 8) 0 < 255 → Reached K (Some (row_of out i)) ruled.reached
    raised-reached h = says_some K f.small ruled.reached (row_of out i) (said long few l (place_of picks cuts s i) refl (first-there h)) (λ e. omega (arith, h, e, row_first out i))
