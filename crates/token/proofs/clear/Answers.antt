-- 07's bytes are its two stations; its set is said to be of none.
use mathlib.Core.Path.{◌≡◌, sym, ap, ap₂, subst, ◌∙◌}
use Prim.Native.Nat.{ℕ, ◌≤◌, ◌<◌}
use native.Mathlib.Omega.{arith}
use mathlib.Core.List.{List, [], ◌++◌}
use mathlib.Core.Bool.{true}
use lib.ListN.{length, get_or, replicate}
use Rattle.std.specs.Prelude.{None}
use Rattle.model.specs.Computation.{Computation, full}
use Rattle.model.specs.Atom.{Atom, atom_bytes, raise_atom}
use Rattle.model.specs.Atom.Atom.{clear}
use Rattle.model.specs.Structure.{build}
use Rattle.structure.specs.Layout.{standing}
use Rattle.structure.specs.declared.Run.{Run}
use Rattle.structure.specs.declared.Sets.{Sets}
use Rattle.structure.specs.Laid.{Given}
use Rattle.structure.specs.Marks.{Marked, Within}
use Rattle.structure.proofs.Marks.{none-marked, none_within}
use Rattle.token.specs.Contract.{Ready, Made}
use Rattle.token.proofs.Atoms.{at_clear, clear-stations}
use Rattle.token.proofs.Operands as laws
use Rattle.token.proofs.clear.Goals as goal

module _ (run : Run) (q : List ℕ) where
  bytes-there : (mw mb : ℕ) → Ready true run q mw mb → get_or q 0 0 ≡ 7 → (3 ≤ length q) × (get_or q 1 0 < run.x.n) × (get_or q 2 0 < run.x.n)
  bytes-there mw mb r k =
      let h = laws.ready_atom r (λ a b. omega (arith, k)) in
      let g = at_clear q h.0 r.rest h.1 k in
      (g.long, (clear-stations run.x.n q h.0 g h.2).0, (clear-stations run.x.n q h.0 g h.2).1)

  module _ (sets : Sets) (w b : List ℕ) (i j : ℕ) (k : get_or q 0 0 ≡ 7) (ei : i ≡ get_or q 1 0) (ej : j ≡ get_or q 2 0) (marks : sets.stations ≡ replicate 16 None) where
    -- Whatever atom is read there.
    atom-is : (a : Atom) (rest : List ℕ) → q ≡ atom_bytes a ++ rest → clear i j ≡ a
    atom-is a rest r = let g = at_clear q a rest r k in ap₂ clear (ei ∙ g.sender-is) (ej ∙ g.receiver-is) ∙ sym g.is

    made-clear : sets.count ≤ 1 → (0 < sets.count → get_or w 0 0 ≡ 255 → ⊥)
        → ((K : Computation) → Given K run → standing run.x.n (full K) sets.count w b ≡ build K (raise_atom K true (clear i j)) [])
        → Made true run q sets 3 0 w b
    made-clear h first stands =
        laws.made_atom (λ a b. omega (arith, k)) h first (λ a rest r. sym (at_clear q a rest r k).bytes)
        (λ K a rest laid r. stands K laid ∙ ap (λ (z : Atom). build K (raise_atom K true z) []) (atom-is a rest r))
        (λ K a rest laid r. subst (Marked K (build K (raise_atom K true a) [])) (sym marks) (none-marked K (build K (raise_atom K true a) []) 16))
        (subst (Within run.x.n) (sym marks) (none_within run.x.n 16))

pub bounds-q-1 : goal.bounds-q-1
bounds-q-1 c = let p = c.requires in omega (arith, (bytes-there _ _ _ _ p.ready p.clear_there).0)

pub bounds-q-2 : goal.bounds-q-2
bounds-q-2 c = let p = c.requires in omega (arith, (bytes-there _ _ _ _ p.ready p.clear_there).0)

pub clear-count-requires : goal.clear-count-requires
clear-count-requires c =
    let p = c.requires in
    let h = bytes-there _ _ _ _ p.ready p.clear_there in
    record { laid = (p.ready.computation, p.ready.laid); i_lt_n = (omega (arith, h.1, c.from.ensures), omega (arith, h.2, c.from-2.ensures), laws.atom-cells p.ready, laws.atom-bars p.ready) }

pub returns : goal.returns
returns c =
    let a = c.args in
    let r = c.clear-count in
    let u = c.unmarked.ensures in
    rw (u.2, u.3) (made-clear a.run.now a.q.now c.unmarked.result.sets _ _ _ _ c.requires.clear_there c.from.ensures c.from-2.ensures u.1
    (omega (arith, u.0, r.ensures.0)) (λ h. r.ensures.1 (omega (arith, u.0, h))) (λ K g. ap (λ (m : ℕ). standing a.run.now.x.n (full K) m r.new.ws r.new.bs) u.0 ∙ r.ensures.2 K g))
