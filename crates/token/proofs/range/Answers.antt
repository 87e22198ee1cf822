-- The bytes of a range are its station, lo and hi; its set is of that station.
use mathlib.Core.Path.{◌≡◌, sym, ap, ap₂, subst, ◌∙◌}
use Prim.Native.Nat.{ℕ, ◌+◌, ◌*◌, ◌≤◌, ◌<◌}
use native.Mathlib.Omega.{arith}
use mathlib.Core.List.{List, [], ◌∷◌, ◌++◌}
use mathlib.Core.Bool.{Bool}
use lib.ListN.{length, get_or, replicate}
use Rattle.std.specs.Prelude.{Some, None}
use Rattle.model.specs.declared.Aspect.{Aspect}
use Rattle.model.specs.Computation.{Computation, full}
use Rattle.model.specs.Atom.{Atom, range_token, atom_bytes, raise_atom}
use Rattle.model.specs.Atom.Atom.{in_range}
use Rattle.model.specs.Structure.{build}
use Rattle.lattice.proofs.OfStation.{literal-station}
use Rattle.structure.specs.Layout.{standing}
use Rattle.structure.specs.declared.Run.{Run}
use Rattle.structure.specs.declared.Sets.{Sets}
use Rattle.structure.specs.Laid.{Given}
use Rattle.structure.specs.Marks.{Marked, Within}
use Rattle.structure.proofs.Marks.{one-marked, one-within}
use Rattle.token.specs.Contract.{Ready, Made}
use Rattle.token.proofs.Atoms.{range_no_sign, at-range, range-station}
use Rattle.token.proofs.Operands as laws
use borrow.Author.Rules.{rules}
use Rattle.token.proofs.range.Goals as goal

module _ (s : Bool) (run : Run) (q : List ℕ) (p : Aspect) (k : get_or q 0 0 ≡ range_token p) where
  no_sign : 1 < get_or q 0 0 → get_or q 0 0 < 7 → ⊥
  no_sign h l = range_no_sign p (omega (arith, k)) (omega (arith, k))

  bytes-there : (mw mb : ℕ) → Ready s run q mw mb → (6 ≤ length q) × (get_or q 1 0 < run.x.n)
  bytes-there mw mb r =
      let h = laws.ready_atom r no_sign in
      let g = at-range p q h.0 r.rest h.1 k in
      (g.long, range-station p run.x.n q h.0 g h.2)

  module _ (sets : Sets) (w b : List ℕ) (i lo hi : ℕ) (ei : i ≡ get_or q 1 0) (el : lo ≡ 256 * get_or q 2 0 + get_or q 3 0) (eh : hi ≡ 256 * get_or q 4 0 + get_or q 5 0)
      (few : get_or q 1 0 < run.x.n) (marks-are : sets.stations ≡ Some (get_or q 1 0) ∷ replicate 15 None) where
    -- Whatever atom is read there.
    atom-is : (a : Atom) (rest : List ℕ) → q ≡ atom_bytes a ++ rest → in_range p (get_or q 1 0) lo hi ≡ a
    atom-is a rest r =
        let g = at-range p q a rest r k in
        ap (λ (j : ℕ). in_range p j lo hi) g.station-is ∙ ap₂ (in_range p g.station) (el ∙ g.low-is) (eh ∙ g.high_is) ∙ sym g.is

    made_range : sets.count ≤ 1 → (0 < sets.count → get_or w 0 0 ≡ 255 → ⊥)
        → ((K : Computation) → Given K run → standing run.x.n (full K) sets.count w b ≡ build K (raise_atom K s (in_range p i lo hi)) [])
        → Made s run q sets 6 0 w b
    made_range h first stands =
        laws.made_atom no_sign h first (λ a rest r. sym (at-range p q a rest r k).bytes)
        (λ K a rest laid r. stands K laid ∙ ap (λ (j : ℕ). build K (raise_atom K s (in_range p j lo hi)) []) ei ∙ ap (λ (z : Atom). build K (raise_atom K s z) []) (atom-is a rest r))
        (λ K a rest laid r.
        subst (λ (z : Atom). Marked K (build K (raise_atom K s z) []) sets.stations) (atom-is a rest r)
        (subst (Marked K (build K (raise_atom K s (in_range p (get_or q 1 0) lo hi)) [])) (sym marks-are)
        (one-marked K (build K (raise_atom K s (in_range p (get_or q 1 0) lo hi)) []) (get_or q 1 0) 15 (literal-station K laid.0.valid s p (get_or q 1 0) lo hi))))
        (subst (Within run.x.n) (sym marks-are) (one-within run.x.n (get_or q 1 0) 15 few))

pub bounds-q-1 : goal.bounds-q-1
bounds-q-1 c = let p = c.requires in omega (arith, bytes-there _ _ _ _ p.range_there _ _ p.ready)

pub bounds-q-2 : goal.bounds-q-2
bounds-q-2 c = let p = c.requires in omega (arith, bytes-there _ _ _ _ p.range_there _ _ p.ready)

pub bounds-q-3 : goal.bounds-q-3
bounds-q-3 c = let p = c.requires in omega (arith, bytes-there _ _ _ _ p.range_there _ _ p.ready)

pub bounds-q-4 : goal.bounds-q-4
bounds-q-4 c = let p = c.requires in omega (arith, bytes-there _ _ _ _ p.range_there _ _ p.ready)

pub bounds-q-5 : goal.bounds-q-5
bounds-q-5 c = let p = c.requires in omega (arith, bytes-there _ _ _ _ p.range_there _ _ p.ready)

pub range-count-requires : goal.range-count-requires
range-count-requires c =
    let p = c.requires in
    record { laid = (p.ready.computation, p.ready.laid); station_lt_n = (omega (arith, (bytes-there _ _ _ _ p.range_there _ _ p.ready).1, c.from.ensures), laws.atom-cells p.ready, laws.atom-bars p.ready) }

pub returns : goal.returns
returns c =
    let a = c.args in
    let r = c.range-count in
    let o = c.of_station.ensures in
    let n = (bytes-there _ _ _ _ c.requires.range_there _ _ c.requires.ready).1 in
    made_range a.sign a.run.now a.q.now a.aspect c.requires.range_there c.of_station.result _ _ c.from.result c.from_be_bytes.result c.from_be_bytes-2.result c.from.ensures (search (rules, c.from_be_bytes.ensures)) (search (rules, c.from_be_bytes-2.ensures)) n o.1
    (omega (arith, o.0, r.ensures.0)) (λ h. r.ensures.1 (omega (arith, o.0, h))) (λ K g. ap (λ (m : ℕ). standing a.run.now.x.n (full K) m r.new.ws r.new.bs) o.0 ∙ r.ensures.2 K g)
