-- Laws of one entry: what a cut is joined to by it, what it was before, and the entry that is made of it.
use mathlib.Core.Path.{◌≡◌, refl, sym, ap, ◌∙◌, subst}
use Prim.Native.Nat.{ℕ, suc, ◌+◌, ◌≤◌, ◌<◌}
use native.Mathlib.Omega.{arith}
use native.Mathlib.Decide.{ℕ_discrete}
use mathlib.Core.Bool.{Bool, true, false, cond, not}
use Rattle.std.specs.Int.{from_bool}
use mathlib.Core.List.{List}
use mathlib.Core.Option.{Option, none, some}
use lib.Dec.{eqb}
use lib.ListN.{length, get_or, take, replicate, get_or-replicate}
use lib.Seq.{ext_get_or, take_all}
use borrow.Author.Tests.{eqb-false, eq-eqb, ne_eqb}
use Rattle.model.specs.Cut.{Cut, ◌!◌, ◌⊑◌, join}
use Rattle.model.specs.Computation.{Computation, count, clock}
use Rattle.model.specs.Structure.{Structure, row, joined}
use Rattle.lattice.specs.OfStation.{own_row, OfOwnRows}
use Rattle.lattice.specs.Chains.{Entry, climbed, entry_from_row, at_row, entry_at}
use Rattle.lattice.specs.Chains.Entry.{lost, moved}
use Rattle.lattice.proofs.Structures.{Least}
use Rattle.lattice.proofs.Cuts.{join-at, length-join}
use Rattle.lattice.proofs.Consistency.{clock-zero, clock-own}
use Rattle.lattice.proofs.Bases.{In, Good}
use Rattle.cells.proofs.Cuts.{join_zeros, join_comm}
use Rattle.slots.specs.Slots.{number, Small, Coded, Says}
use Rattle.numbering.proofs.Numbers.{number-le, says_none, says_some, join-says}
use Rattle.picking.specs.Formed.{pick_of, Picks}
use Rattle.chaining.specs.Table.{above_of, under_of, rounds_of, sought, Tells, Stands, Reaches, Comes, Chained, Given}
use Rattle.chaining.specs.declared.Chain.{Chain}

-- JOINS

zeros_join : (c : List ℕ) → length c ≡ 8 → join c (replicate 8 0) ≡ c
zeros_join c l = join_comm c (replicate 8 0) ∙ go (take_all 8 c (omega arith)) (join_zeros 8 8 c (omega arith) (omega arith))
  where
    go : take 8 c ≡ c → join (replicate 8 0) (take 8 c) ≡ take 8 c → join (replicate 8 0) c ≡ c
    go e h = ap (join (replicate 8 0)) (sym e) ∙ h ∙ e

none-join : (K : Computation) → Small K → (x : Cut) (c : List ℕ) → Coded K x c → length c ≡ 8 → join c (replicate 8 255) ≡ replicate 8 255
none-join K m x c h l = ext_get_or 0 (join c (replicate 8 255)) (replicate 8 255) long each
  where
    long : length (join c (replicate 8 255)) ≡ 8
    long = omega (arith, length-join c (replicate 8 255))

    each : (j : ℕ) → j < length (join c (replicate 8 255)) → get_or (join c (replicate 8 255)) j 0 ≡ get_or (replicate 8 255) j 0
    each j q = omega (arith, join-at c (replicate 8 255) j, get_or-replicate {A = ℕ} 8 j 255 0 (omega (arith, long)), h.cells j, number-le K j (x ! j) (h.consistent.within j), m.few_events)

coded-join : (K : Computation) → Small K → (x y : Cut) (c d : List ℕ) → Coded K x c → Coded K y d → Coded K (join x y) (join c d)
unfolding joined
coded-join K m x y c d h k = join-says K m (some x) (some y) c d h k

-- A CUT AND WHAT IT LOOKS UP

pub reach : (K : Computation) → Small K → (x : Cut) (o : Option Entry) (chain : Chain) (c out : List ℕ) (p : ℕ) → length c ≡ 8 → Stands K chain p o → Coded K x c → out ≡ join c (above_of chain p) → Reaches K x o out
reach K m x none chain c out p l t h e = subst (Coded K x) (sym (e ∙ ap (join c) t.1.0 ∙ zeros_join c l)) h
reach K m x (some (lost n)) chain c out p l t h e = e ∙ ap (join c) t.1.0 ∙ none-join K m x c h l
reach K m x (some (moved a u n)) chain c out p l t h e = subst (Coded K (join x a)) (sym e) (coded-join K m x a c (above_of chain p) h t.1.0)

come_first : (K : Computation) (c x : Cut) (o : Option Entry) (chain : Chain) (out : List ℕ) (p : ℕ) → p ≡ 0 → Stands K chain p o → Coded K c out → Comes K c x o out
come_first K c x none chain out p e t h = h
come_first K c x (some (lost n)) chain out p e t h = absurd (t.0 e)
come_first K c x (some (moved a u n)) chain out p e t h = absurd (t.0 e)

come_joined : (K : Computation) → Small K → (c x : Cut) (o : Option Entry) (chain : Chain) (d out : List ℕ) (p : ℕ) → length d ≡ 8 → (p ≡ 0 → ⊥) → Stands K chain p o → Coded K x d → out ≡ join d (under_of chain p) → Comes K c x o out
come_joined K m c x none chain d out p l f t h e = absurd (f t.0)
come_joined K m c x (some (lost n)) chain d out p l f t h e = e ∙ ap (join d) t.1.1 ∙ none-join K m x d h l
come_joined K m c x (some (moved a u n)) chain d out p l f t h e = subst (Coded K (join x u)) (sym e) (coded-join K m x u d (under_of chain p) h t.1.1)

pub come : (K : Computation) → Small K → (c x : Cut) (o : Option Entry) (chain : Chain) (b d out : List ℕ) (p : ℕ) → length d ≡ 8 → Stands K chain p o → Coded K c b → Coded K x d
    → out ≡ cond (eqb p 0) b (join d (under_of chain p)) → Comes K c x o out
come K m c x o chain b d out p l t g h e = go (ℕ_discrete p 0)
  where
    go : Dec (p ≡ 0) → Comes K c x o out
    go (yes z) = come_first K c x o chain out p z t (subst (Coded K c) (sym (e ∙ rw (eq-eqb p 0 z) refl)) g)
    go (no z) = come_joined K m c x o chain d out p l z t h (e ∙ rw (ne_eqb p 0 z) refl)

-- What a cut looks up stands where its count of s points to, if the table has the entries of all later events.
pub seek : (K : Computation) (A : Structure) (b : Bool) (s : ℕ) (E : ℕ → Entry) (least : ℕ) (pick : List ℕ) (chain : Chain) → OfOwnRows K s A → Picks K s A pick → Chained K b s E least chain
    → (x : Cut) (c : List ℕ) → Coded K x c → least ≤ suc (x ! s) → Stands K chain (get_or pick (get_or c s 0) 0) (sought b E (x ! s) (own_row A s x))
unfolding sought
seek K A b s E least pick chain of picks ch x c h l = subst (λ (p : ℕ). Stands K chain p (sought b E (x ! s) (own_row A s x))) (sym place) (go (own_row A s x) refl)
  where
    place : get_or pick (get_or c s 0) 0 ≡ pick_of K s (x ! s) (own_row A s x)
    place = ap (λ (y : ℕ). get_or pick y 0) (h.cells s) ∙ picks (x ! s) (h.consistent.within s)

    go : (o : Option ℕ) → own_row A s x ≡ o → Stands K chain (pick_of K s (x ! s) o) (sought b E (x ! s) o)
    go none q = ch.finds_none
    go (some i) q = by_test (eqb i (x ! s)) refl
      where
        n : (x ! s ≤ i) × (i ≤ count K s)
        n = of.onward x i h.consistent q

        by_test : (t : Bool) → eqb i (x ! s) ≡ t → Stands K chain (cond t 0 (number K s i)) (cond t none (some (E i)))
        by_test true z = ch.rests
        by_test false z = ch.events i (let u : i ≡ x ! s → ⊥ = eqb-false i (x ! s) z in later u) n.1
          where
            later : (i ≡ x ! s → ⊥) → least ≤ i
            later u = omega (arith, n.0)

-- THE NEXT ENTRY

-- The entry of event k with row w, if w looks this up.
unfoldable pub following : Computation → Bool → ℕ → ℕ → Cut → Option Entry → Entry
following K b s k w none = moved w (clock K s (cond b k 0)) 2
following K b s k w (some e) = climbed w e

from_row : (K : Computation) (b : Bool) (s : ℕ) (f : Cut → Option ℕ) (B : Structure) (E : ℕ → Entry) (k : ℕ) (w : Cut) (o : Option ℕ) → entry_from_row K b s f B E k w o ≡ following K b s k w (sought b E (w ! s) o)
unfolding entry_from_row following sought climbed
from_row K b s f B E k w none = ap lost (go b)
  where
    go : (b : Bool) → cond b 2 3 ≡ suc (cond b 1 2)
    go true = refl
    go false = refl
from_row K b s f B E k w (some i) = go (eqb i (w ! s))
  where
    go : (t : Bool) → cond t (moved w (clock K s (cond b k 0)) 2) (climbed w (E i)) ≡ following K b s k w (cond t none (some (E i)))
    go true = refl
    go false = refl

tells_next : (K : Computation) (b : Bool) (s k : ℕ) (w : Cut) (o : Option Entry) (chain : Chain) (above under : List ℕ) (p r : ℕ) → Stands K chain p o → Reaches K w o above → Comes K (clock K s (cond b k 0)) w o under
    → clock K s (cond b k 0) ⊑ w → r ≡ rounds_of chain p + 1 → Tells K (some (following K b s k w o)) above under r
unfolding following climbed
tells_next K b s k w none chain above under p r t h g i e = (h, g, i, omega (arith, t.1.2))
tells_next K b s k w (some (lost n)) chain above under p r t h g i e = (h, g, omega (arith, t.1.2))
tells_next K b s k w (some (moved a u n)) chain above under p r t h g i e = (h, g, λ j. omega (arith, t.1.2 j, join-at w a j, join-at w u j), omega (arith, t.1.3))

-- The clock below a row.
under-row : (K : Computation) (B : Structure) (s k : ℕ) (w : Cut) → Good K B → k ≤ count K s → row B s k ≡ some w → (clock K s k ⊑ w)
under-row K B s k w g h e = let l : Least (In K B) (λ x. clock K s k ⊑ x) (some w) = rw e at (g.rows-least s k h) in l.1

under_base : (K : Computation) (s k : ℕ) (w : Cut) (b : Bool) → clock K s k ⊑ w → clock K s (cond b k 0) ⊑ w
under_base K s k w true h = h
under_base K s k w false h = clock-zero K s w

-- The entry of an event, from what the code reads.
module _ (K : Computation) (A B : Structure) (b : Bool) (s : ℕ) (E : ℕ → Entry) (k : ℕ) (pick table first : List ℕ) (chain : Chain) (c : List ℕ) (given : Given K A B s pick table first)
    (ch : Chained K b s E (suc k) chain) (h : k ≤ count K s) (says : Says K (row B s k) c) where
  pub entry-none : (above under : List ℕ) (r : ℕ) → get_or c 0 0 ≡ 255 → above ≡ replicate 8 255 → under ≡ replicate 8 255 → r ≡ 1 → Tells K (some (entry_at K b s (own_row A s) B E k)) above under r
  unfolding at_row
  entry-none above under r e f g i = let q : row B s k ≡ none = says_none K given.small (row B s k) c says e in rw q (f, g, ap suc i)

  module _ (there : get_or c 0 0 ≡ 255 → ⊥) where
    w : (w : Cut) × (row B s k ≡ some w) × Coded K w c
    w = says_some K given.small (row B s k) c says there

    pub entry-some : (above under : List ℕ) (p r : ℕ) → p ≡ get_or pick (get_or c s 0) 0
        → ((x : Cut) (o : Option Entry) → Stands K chain p o → Coded K x c → Reaches K x o above)
        → ((x : Cut) (o : Option Entry) → Stands K chain p o → Coded K x c → Comes K (clock K s (cond b k 0)) x o under)
        → r ≡ rounds_of chain p + 1 → Tells K (some (entry_at K b s (own_row A s) B E k)) above under r
    unfolding at_row
    entry-some above under p r q f g e =
        let below = under-row K B s k w.0 given.good h w.1 in
        let grown : k ≤ w.0 ! s = omega (arith, below s, clock-own K given.small.valid s k h) in
        let o : Option Entry = sought b E (w.0 ! s) (own_row A s w.0) in
        let t : Stands K chain p o = rw q (seek K A b s E (suc k) pick chain given.of_station given.picks_are ch w.0 c w.2 (omega arith)) in
        rw (w.1, from_row K b s (own_row A s) B E k w.0 (own_row A s w.0))
        (tells_next K b s k w.0 o chain above under p r t (f w.0 o t w.2) (g w.0 o t w.2) (under_base K s k w.0 b below) e)

-- The number of the event whose clock is read.
pub base_number : (K : Computation) (s v k : ℕ) (b : Bool) → v ≡ number K s k → cond b v 0 ≡ number K s (cond b k 0)
unfolding number
base_number K s v k true e = e
base_number K s v k false e = refl

pub base_le : (b : Bool) (v : ℕ) → cond b v 0 ≤ v
base_le true v = omega arith
base_le false v = omega arith

pub least-le : (b : Bool) → cond b 0 1 ≤ 1
least-le true = omega arith
least-le false = omega arith

-- One more unless b holds.
pub unless : (b : Bool) (r : ℕ) → r ≡ from_bool (not b) → r ≡ cond b 0 1
unless true r e = e
unless false r e = e
