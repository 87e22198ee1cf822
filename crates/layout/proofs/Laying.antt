-- What is laid out is what the basis wants: offsets, starts and values of the computation that the store holds. Assumes nothing.
use mathlib.Core.Path.{◌≡◌, refl, sym, ap, ◌∙◌}
use mathlib.Core.Bool.{true}
use mathlib.Core.List.{List, [], ◌∷◌, ◌++◌, map, append_assoc}
use mathlib.Core.Option.{some}
use Prim.Native.Nat.{ℕ, suc, ◌+◌, ◌-◌, ◌*◌, ◌≤◌, ◌<◌}
use native.Mathlib.Omega.{arith}
use native.Mathlib.Numerals.{add-one}
use native.Mathlib.Nat.{add-zero}
use lib.ListN.{length, take, drop, get_or, length-drop, length-map, length-replicate, take-append-drop, get_or-map}
use lib.Seq.{ext_get_or, get_or-take, get_or-drop, drop-drop, length-take-le, take_all, take-length, take_at, drop_at}
use Rattle.model.specs.Frames.{word}
use Rattle.model.specs.Lists.{sum, total}
use Rattle.model.specs.Cut.{empty}
use Rattle.model.specs.Computation.{Computation, Event, no_event, stations, history, count, full, clock, report}
use Rattle.model.specs.Atom.{seen}
use Rattle.model.specs.Reading.{report_of}
use Rattle.structure.specs.Layout.{stations_at}
use Rattle.structure.specs.declared.Shape.{Shape}
use Rattle.structure.specs.Laid.{message_at, Laid, aspect_at, Facts}
use Rattle.model.specs.declared.Aspect.{Aspect}
use Rattle.model.specs.declared.Aspect.TheVariants.{Value, Panel}
use Rattle.model.specs.Limits.{limits, stored_report, reports_size, values_size, starts_size, facts_size, store_size}
use Rattle.table.specs.Table.{slot, message_slot}
use Rattle.layout.specs.Rows.{in_turn, clock_in, clocks_in, starts_in, byte_of, values_of, values_in}
use Rattle.layout.specs.Messages.{Filled}
use Rattle.layout.specs.StoredValid.{StoredValid}
use Rattle.lattice.proofs.Lists.{some_below}
use Rattle.offsets.proofs.Totals.{sum_next, sum_few}
use Rattle.layout.proofs.Room.{rows_fit}
use Rattle.layout.proofs.Turns.{spread, turns, turn_at, turn_total}
use Rattle.layout.proofs.Cells.{Rows, clocks, stations_are}
use Rattle.layout.proofs.Filling.{front_same, filed}

in_report : (a : Aspect) (i : ℕ) (t : List ℕ) → word (drop (i + byte_of a) t) ≡ seen a (report_of true (drop i t))
unfolding seen report_of
in_report Value i t = ap (λ (x : ℕ). word (drop x t)) (add-zero i)
in_report Panel i t = ap word (sym (drop-drop 2 i t))

-- Values and panels are before the messages.
aspect_room : (a : Aspect) → aspect_at a + reports_size ≤ values_size
aspect_room Value = omega arith
aspect_room Panel = omega arith

-- the counts of a loaded log
module _ {K : Computation} {n m : ℕ} {counts t : List ℕ} (g : StoredValid K n m counts t) (fit : n ≤ length counts) where
  pub counts-full : take n counts ≡ full K
  counts-full =
      let x : length (take n counts) ≡ n = length-take-le n counts fit in
      let y : length (full K) ≡ n = length-map K.events length ∙ g.valid.sizes ∙ g.stored.size in
      ext_get_or 0 (take n counts) (full K) (x ∙ sym y) (λ i h.
      get_or-take n counts i 0 (omega arith) ∙ g.stored.each i ∙ sym (get_or-map length K.events i []))

  -- the clocks and the values of the store
  module _ (few : total (take n counts) ≤ limits.events) (small : n ≤ limits.stations) (long : length t ≡ store_size) where
    count-few : (j : ℕ) → j < n → count K j ≤ limits.events
    count-few j h = omega (arith, sum_few counts n j h, g.stored.each j)

    clock-at : (j k : ℕ) → j < n → k ≤ count K j → clock_in t n j k ≡ clock K j k
    unfolding clock_in
    clock-at j k h b =
        let s : j < stations K = rw g.stored.size h in
        rw g.stored.size at (g.stored.table.clocks j k s b)

    clock-long : (j k : ℕ) → j < n → k ≤ count K j → length (clock K j k) ≡ n
    unfolding clock_in
    clock-long j k h b =
        let f : n ≤ length (drop (slot j k + stored_report) t) = simp length-drop (omega (arith, count-few j h)) in
        ap length (sym (clock-at j k h b)) ∙ length-take-le n (drop (slot j k + stored_report) t) f

    good-rows : (j : ℕ) → j < n → 0 < n → Rows n (history K j)
    unfolding clock
    good-rows j h z k b = record { long = clock-long j (suc k) h (omega arith); there = omega (arith, (g.valid.clocks j k b).within 0, count-few 0 z) }

    station-clocks : (j : ℕ) → j < n → clocks_in t n j (get_or counts j 0) ≡ clocks (history K j)
    unfolding clocks_in clock
    station-clocks j h =
        rw (g.stored.each j) (turns (λ (v : Event). v.clock) (λ k. clock_in t n j (suc k)) (history K j) no_event (λ k b. clock-at j (suc k) h (omega arith)) (count K j) (omega arith)
        ∙ ap clocks (take-length (history K j)))

    all_clocks : 0 < n → starts_in t n counts n ≡ empty n ++ spread clocks K.events
    unfolding starts_in clock
    all_clocks z =
        let m : length K.events ≡ n = g.valid.sizes ∙ g.stored.size in
        let first : clock_in t n 0 0 ≡ empty n = clock-at 0 0 z (omega arith) ∙ ap empty g.stored.size in
        let rest : in_turn (λ i. clocks_in t n i (get_or counts i 0)) n ≡ spread clocks (take n K.events) = turns clocks (λ i. clocks_in t n i (get_or counts i 0)) K.events [] (λ j b. station-clocks j (omega arith)) n (omega arith) in
        rw (first, rest, take_all n K.events (omega arith))

    -- starts: the empty cut, the clocks, and what stands behind them
    module _ (starts : List ℕ) (z : 0 < n) (p : take ((total (take n counts) + 1) * n) starts ≡ starts_in t n counts n) where
      abbrev behind : List ℕ
      behind = drop ((total (take n counts) + 1) * n) starts

      empty-long : length (empty n) ≡ n
      empty-long = length-replicate {A = ℕ} n 0

      whole : starts ≡ empty n ++ (spread clocks K.events ++ behind)
      whole =
          sym (take-append-drop ((total (take n counts) + 1) * n) starts) ∙ ap (λ (x : List ℕ). x ++ behind) (p ∙ all_clocks z)
          ∙ append_assoc (empty n) (spread clocks K.events) behind

      pub least-laid : take n starts ≡ empty n
      least-laid = ap (take n) whole ∙ take_at (empty n) (spread clocks K.events ++ behind) n empty-long

      pub rows-laid : stations_at n (full K) (drop n starts) ≡ map (map (λ (v : Event). some v.clock)) K.events
      rows-laid =
          let m : length K.events ≡ n = g.valid.sizes ∙ g.stored.size in
          let d : drop n starts ≡ spread clocks K.events ++ behind = ap (drop n) whole ∙ drop_at (empty n) (spread clocks K.events ++ behind) n empty-long in
          rw d (stations_are n K.events behind (λ j b. good-rows j (omega arith) z))

    value-at : (a : Aspect) (j k : ℕ) → j < n → k ≤ count K j → word (drop (slot j k + byte_of a) t) ≡ seen a (report K j k)
    value-at a j k h b = in_report a (slot j k) t ∙ ap (seen a) (g.stored.table.reports j k (rw g.stored.size h) b)

    values_long : (i j m : ℕ) → length (values_of i t j m) ≡ m
    unfolding values_of
    values_long i j m = turn_total (λ k. word (drop (slot j k + i) t) ∷ []) (λ k. k) refl m (λ k h. omega arith) m (omega arith)

    station-value : (i j k m : ℕ) → k < m → get_or (values_of i t j m) k 0 ≡ word (drop (slot j k + i) t)
    unfolding values_of
    station-value i j k m h =
        let e : k ≡ length (values_of i t j k) + 0 = omega (arith, values_long i j k) in
        ap (λ (x : ℕ). get_or (values_of i t j m) x 0) e ∙ turn_at (λ x. word (drop (slot j x + i) t) ∷ []) k m 0 h (omega arith)

    before-length : (i j : ℕ) → j ≤ n → length (values_in i t counts j) ≡ total (take j (take n counts)) + j
    unfolding values_in sum
    before-length i = turn_total (λ x. values_of i t x (suc (get_or counts x 0))) (λ j. total (take j (take n counts)) + j) refl n
        (λ j h. rw (← add-one j) (omega (arith, sum_next counts n j h, values_long i j (suc (get_or counts j 0)))))

    pub values_laid : (a : Aspect) (values : List ℕ) → take (total (take n counts) + n) values ≡ values_in (byte_of a) t counts n
        → (j k : ℕ) → j < n → k ≤ count K j → get_or values (total (take j (take n counts)) + j + k) 0 ≡ seen a (report K j k)
    unfolding values_in
    values_laid a values p j k h b =
        let q : k < suc (get_or counts j 0) = omega (arith, g.stored.each j) in
        let i : total (take j (take n counts)) + j + k < total (take n counts) + n = omega (arith, sum_few counts n j h) in
        let o : total (take j (take n counts)) + j + k ≡ length (values_in (byte_of a) t counts j) + k = omega (arith, before-length (byte_of a) j (omega arith)) in
        sym (get_or-take (total (take n counts) + n) values (total (take j (take n counts)) + j + k) 0 i)
        ∙ ap (λ (x : List ℕ). get_or x (total (take j (take n counts)) + j + k) 0) p ∙ ap (λ (x : ℕ). get_or (values_in (byte_of a) t counts n) x 0) o
        ∙ turn_at (λ x. values_of (byte_of a) t x (suc (get_or counts x 0))) j n k h (omega (arith, values_long (byte_of a) j (suc (get_or counts j 0))))
        ∙ station-value (byte_of a) j k (suc (get_or counts j 0)) q ∙ value-at a j k h b

-- THE SHAPE
module _ {K : Computation} {m : ℕ} {t : List ℕ} (x : Shape) (g : StoredValid K x.n m x.counts t) (fit : x.n ≤ length x.counts) (long : length t ≡ store_size) where
  few : total (take x.n x.counts) ≤ limits.events
  few = omega (arith, x.events_are, x.few_events)

  pub laid : (starts : List ℕ) → starts_size ≤ length starts → take ((x.e + 1) * x.n) starts ≡ starts_in t x.n x.counts x.n → Laid K x starts
  laid starts a p =
      let q : take ((total (take x.n x.counts) + 1) * x.n) starts ≡ starts_in t x.n x.counts x.n = rw x.events_are p in
      record {
        valid = g.valid;
        stationed = g.stored.size;
        counted = ap total (sym (counts-full g fit)) ∙ x.events_are;
        counts_are = counts-full g fit;
        starts_fit = omega (arith, rows_fit x.e x.n x.few_events x.few_stations);
        starts_least = least-laid g fit few x.few_stations long starts x.some_station q;
        starts_rows = rows-laid g fit few x.few_stations long starts x.some_station q;
      }

  pub faced : (d₀ d : List ℕ) → facts_size ≤ length d₀ → length d ≡ length d₀ → m ≤ limits.messages → ((a : Aspect) → take (x.e + x.n) (drop (aspect_at a) d₀) ≡ values_in (byte_of a) t x.counts x.n) → (get_or d values_size 0 ≡ m) × Filled t m d₀ d → Facts K x d
  faced d₀ d b l few-m p f = record {
    shown = λ a j k h o. sym (get_or-drop (aspect_at a) d _ 0) ∙ rw (← counts-full g fit) (values_laid g fit few x.few_stations long a (drop (aspect_at a) d) (rw x.events_are (sym (same a) ∙ p a)) j k h o);
    filed = record {
      fit = omega arith;
      few = rw g.messages few-m;
      number = f.0 ∙ sym g.messages;
      each = λ q y h. filed y (message_slot q) (message_at q) (g.posted.at q y h) (f.1.each q (rw g.messages at (some_below K.messages q y h)));
    };
  }
    where
      same : (a : Aspect) → take (x.e + x.n) (drop (aspect_at a) d₀) ≡ take (x.e + x.n) (drop (aspect_at a) d)
      same a = front_same (drop (aspect_at a) d₀) (drop (aspect_at a) d) (x.e + x.n)
          (simp length-drop (omega (arith, aspect_room a, x.few_events, x.few_stations)))
          (simp length-drop (ap (λ (y : ℕ). y - aspect_at a) (sym l)))
          (λ i h. get_or-drop (aspect_at a) d₀ i 0 ∙ sym (f.1.before (aspect_at a + i) (omega (arith, aspect_room a, x.few_events, x.few_stations))) ∙ sym (get_or-drop (aspect_at a) d i 0))
