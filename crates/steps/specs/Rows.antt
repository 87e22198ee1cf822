-- Rows of cells, and what the steps write into them.
use Rattle.std.specs.Prelude.{ℕ, suc, ◌+◌, ◌-◌, ◌*◌, ◌≤◌, ◌<◌, ◌≡◌, Bool, cond, List, eqb, get_or, take, drop, replicate}
use Rattle.std.proofs.Math.Option.{Option}
use Rattle.model.specs.Limits.{limits}
use Rattle.model.specs.Cut.{Cut, inside, join}
use Rattle.model.specs.Atom.{next}
use Rattle.structure.specs.Layout.{decoded, coded, event_row}

-- Row i: the n cells from i * n on.
abbrev pub row_at : ℕ → ℕ → List ℕ → List ℕ
row_at n i ws = take n (drop (i * n) ws)

-- A row that is none.
abbrev pub absent : ℕ → List ℕ
absent n = replicate n 255

-- Entry k of a station's table: the first count from k on that passes the test, of count events.
unfoldable pub entry : (ℕ → Bool) → ℕ → ℕ → ℕ
entry p count k = coded (next p (suc count - k) k)

-- A start joined with the clock of event k, or none.
unfoldable pub joined_row : ℕ → ℕ → List ℕ → ℕ → ℕ → List ℕ
joined_row n off starts i k = cond (eqb k 255) (absent n) (join (row_at n i starts) (row_at n (event_row off k) starts))

-- Row i of an atom whose table goes by the counts of station s.
unfoldable pub atom_row : ℕ → ℕ → ℕ → List ℕ → List ℕ → ℕ → List ℕ
atom_row n s off table starts i = joined_row n off starts i (get_or table (get_or starts (i * n + s) 0) 0)

-- Row i of all cuts that are contained in g.
unfoldable pub below_row : ℕ → List ℕ → List ℕ → ℕ → List ℕ
below_row n g starts i = cond (inside (row_at n i starts) g) (row_at n i starts) (absent n)

-- A table that leads to rows that stand there: it goes by the counts of station s, and names events of a station that off events stand before.
pub record Tabled (n e s off : ℕ) (table : List ℕ) (m : ℕ) : Type 0 where
  pub station : s < n
  pub few_stations : n ≤ limits.stations
  pub few_events : e ≤ limits.events
  pub before : off ≤ e
  pub starts_fit : (e + 1) * n ≤ m
  pub reach : (k : ℕ) → k < 256 → (get_or table k 0 ≡ 255 → ⊥) → off + get_or table k 0 ≤ e

-- The table leads each start to where f raises it.
abbrev pub Leads : (n e s off : ℕ) (table starts : List ℕ) → (Cut → Option Cut) → Type 0
Leads n e s off table starts f = (i : ℕ) → i ≤ e → decoded (atom_row n s off table starts i) ≡ f (row_at n i starts)

-- count bars at a place, and the first slot behind them not used; all other cells are as before.
pub record Ended (at count n : ℕ) (b b₂ : List ℕ) : Type 0 where
  pub front : take (at + count * n) b₂ ≡ take (at + count * n) b
  pub ends : count < 16 → get_or b₂ (at + count * n) 0 ≡ 255
  pub behind : drop (at + count * n + 1) b₂ ≡ drop (at + count * n + 1) b
