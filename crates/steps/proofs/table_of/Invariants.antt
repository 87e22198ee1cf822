-- From the last event down: the entries behind k are filled, and `last` is the entry after k.
use Rattle.std.proofs.Common.{◌≡◌, ℕ, ◌+◌, ◌<◌, length, get_or}
use Rattle.model.specs.Atom.{passes}
use Rattle.steps.specs.Rows.{entry}
use Rattle.steps.proofs.table_of.Given as goal

abbrev pub invariant-loop-k : goal.invariant-loop-k
invariant-loop-k l =
    (length l.table ≡ 256) × (l.last ≡ entry (λ j. passes l.sign l.r.aspect l.r.lo l.r.hi (get_or l.values (l.at + j) 0)) l.count (l.k + 1))
    × ((j : ℕ) → l.k < j → j < 256 → get_or l.table j 0 ≡ entry (λ i. passes l.sign l.r.aspect l.r.lo l.r.hi (get_or l.values (l.at + i) 0)) l.count j)
