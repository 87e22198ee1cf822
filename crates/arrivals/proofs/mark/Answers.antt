-- A message of the pair is marked, any other passed over.
use Prim.Native.Nat.{ℕ, suc, ◌+◌, ◌-◌, ◌<◌, max}
use mathlib.Core.Path.{◌≡◌, sym, ap, ◌∙◌}
use native.Mathlib.Omega.{arith}
use mathlib.Core.List.{List}
use lib.ListN.{length, get_or, drop, length-set}
use Rattle.model.specs.Computation.{Message}
use Rattle.structure.specs.Laid.{message_at, AllFiled}
use Rattle.arrivals.specs.Table.{latest}
use Rattle.arrivals.proofs.Marks as marks
use Rattle.arrivals.proofs.mark.Goals as goal
use Rattle.arrivals.proofs.mark.Goals.{In-loop-q}

pub loop-q-init : goal.loop-q-init
loop-q-init c = record { long = c.told-table; marks = λ l n. marks.no_marks _ l _ (sym n.number ∙ sym c.from-q.ensures) _ c.requires.0 }

-- The message that is looked at is one of the list.
below : (c : In-loop-q) (l : List Message) → AllFiled l c.args.facts.now → c.loop-q.q - 1 < length l
below c l n = omega (arith, n.number, c.from-q.ensures, c.loop-q.auto.q, c.loop-q-test.true)

sent : (c : In-loop-q) → get_or c.args.facts.now (message_at (c.loop-q.q - 1) + 1) 0 < 256
sent c = let p = c.requires.1 in marks.sent_low p.0 _ p.1 _ (below c p.0 p.1)

pub bounds-table-x : goal.bounds-table-x
bounds-table-x c = omega (arith, sent (goal.at.bounds-table-x c).In-loop-q, c.from-x.ensures)

pub receipt-requires : goal.receipt-requires
receipt-requires c = let p = c.requires.1 in marks.received_low p.0 _ p.1 _ (below (goal.at.receipt-requires c).In-loop-q p.0 p.1)

pub bounds-table-x-then-facts-at : goal.bounds-table-x-then-facts-at
bounds-table-x-then-facts-at c = omega (arith, sent (goal.at.bounds-table-x-then-facts-at c).In-loop-q, c.from-x.ensures)

pub loop-q-preserved-then-facts-at : goal.loop-q-preserved-then-facts-at
loop-q-preserved-then-facts-at c =
    let v = c.loop-q in
    let e : v.q ≡ suc (v.q - 1) = omega (arith, c.loop-q-test.true) in record {
      long = simp length-set v.invariant.long;
      marks = λ l n. rw c.from-x.ensures (marks.marked l _ n (v.q - 1) (below (goal.at.loop-q-preserved-then-facts-at c).In-loop-q l n) _ v.q e v.table (v.invariant.marks l n) v.invariant.long c.if-facts-at.true _ (rw c.from-x.ensures at (c.max.ensures ∙ ap (max _) c.receipt.ensures)));
    }

pub loop-q-preserved : goal.loop-q-preserved
loop-q-preserved c =
    let v = c.loop-q in
    let e : v.q ≡ suc (v.q - 1) = omega (arith, c.loop-q-test.true) in
    record { long = v.invariant.long; marks = λ l n. marks.passed l _ n (v.q - 1) (below (goal.at.loop-q-preserved c).In-loop-q l n) _ v.q e v.table (v.invariant.marks l n) c.if-facts-at.false }

pub returns : goal.returns
returns c =
    let e : c.loop-q.q ≡ 0 = omega arith in
    λ l n x h. c.loop-q.invariant.marks l n x h ∙ ap (λ (p : ℕ). latest c.args.pair x (drop p l)) e
