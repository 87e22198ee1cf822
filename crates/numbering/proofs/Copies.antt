-- Laws of rows that are copied into a table, numbered, and of cuts that are copied back as counts.
use mathlib.Core.Path.{◌≡◌, refl, sym, ap, ◌∙◌, subst}
use Prim.Native.Nat.{ℕ, zero, suc, ◌+◌, ◌*◌, ◌-◌, ◌≤◌, ◌<◌}
use native.Mathlib.Omega.{arith}
use native.Mathlib.Decide.{ℕ_discrete, dec_lt}
use mathlib.Core.List.{List}
use mathlib.Core.Option.{Option, none, some}
use lib.ListN.{length, get_or, take, drop, length-take, length-drop, get_or-eq_default}
use lib.Seq.{paste, length-paste, ext_get_or, get_or-take, get_or-drop, length-take-le}
use Rattle.model.specs.Lists.{total, sum}
use Rattle.model.specs.Cut.{Cut, ◌!◌}
use Rattle.model.specs.Computation.{Computation, Consistent, stations, count, full, event_count}
use Rattle.structure.specs.Layout.{decoded}
use Rattle.cells.proofs.Parts.{cell_same, paste_front, paste_part}
use Rattle.structure.proofs.Rows.{decoded-some, decoded-is, is_none}
use Rattle.lattice.proofs.Sums.{total-take}
use Rattle.lattice.proofs.Consistency.{full_at}
use Rattle.numbering.specs.declared.Code.{Code}
use Rattle.numbering.specs.Rows.{number, numbered, Small, Coded, Says, Slots, Rows, Coding, Offsets, Put, Copied}
use Rattle.numbering.proofs.Numbers.{number-le, number-zero, number-first, past-zero, first_some}

-- EIGHT CELLS

-- What stands where cells were copied to.
pub copied_cells : (d s d₂ : List ℕ) (at m : ℕ) → at ≤ length d → m ≤ length s → d₂ ≡ paste d at (drop 0 s) m → (i : ℕ) → i < m → get_or d₂ (at + i) 0 ≡ get_or s i 0
copied_cells d s d₂ at m h l e i q =
    ap (λ (x : List ℕ). get_or x (at + i) 0) e ∙ sym (get_or-drop at (paste d at (drop 0 s) m) i 0) ∙ sym (get_or-take m (drop at (paste d at (drop 0 s) m)) i 0 q)
    ∙ ap (λ (x : List ℕ). get_or x i 0) (paste_part d at (drop 0 s) m h l) ∙ get_or-take m s i 0 q

pub copied_front : (d s d₂ : List ℕ) (at m : ℕ) → at ≤ length d → m ≤ length s → d₂ ≡ paste d at (drop 0 s) m → take at d₂ ≡ take at d
copied_front d s d₂ at m h l e = ap (take at) e ∙ paste_front d at (drop 0 s) m h l

-- One row more: of its cells, those past n are not looked at.
pub copied_more : (code : Code) (n : ℕ) (ws : List ℕ) (at k : ℕ) (t t₂ row : List ℕ) → Coding n code → Copied code n ws at k t → take n row ≡ take n (drop (at + k * n) ws)
    → Put code (k * 8) row t t₂ → Copied code n ws at (k + 1) t₂
copied_more code n ws at k t t₂ row g h e p i c q l = go (ℕ_discrete i k)
  where
    past : Dec (c < n) → numbered (get_or code.room c 0) (get_or code.before c 0) (get_or row c 0) ≡ numbered (get_or code.room c 0) (get_or code.before c 0) (get_or ws (at + k * n + c) 0)
    past (yes b) =
        ap (numbered (get_or code.room c 0) (get_or code.before c 0))
        (sym (get_or-take n row c 0 b) ∙ ap (λ (x : List ℕ). get_or x c 0) e ∙ get_or-take n (drop (at + k * n) ws) c 0 b ∙ get_or-drop (at + k * n) ws c 0)
    past (no b) = let x : get_or code.room c 0 ≡ 0 = (g.past c (omega arith) l).0 in rw x (omega arith)

    go : Dec (i ≡ k) → get_or t₂ (i * 8 + c) 0 ≡ numbered (get_or code.room c 0) (get_or code.before c 0) (get_or ws (at + i * n + c) 0)
    go (yes s) = rw s (p.cells c l ∙ past (dec_lt c n))
    go (no s) = cell_same (k * 8) t₂ t p.front (i * 8 + c) (omega arith) ∙ h i c (omega arith) l

-- A TABLE

decoded-first : (x : List ℕ) → decoded x ≡ none → get_or x 0 0 ≡ 255
decoded-first x e = go (ℕ_discrete (get_or x 0 0) 255)
  where
    go : Dec (get_or x 0 0 ≡ 255) → get_or x 0 0 ≡ 255
    go (yes p) = p
    go (no p) = let z : some x ≡ none = sym (decoded-some x p) ∙ e in let y : ◌≡◌ {A = ℕ} 0 1 = cc in absurd (omega arith)

module _ (K : Computation) (code : Code) (m : Small K) (c : Coding (stations K) code) (o : Offsets K code) where
  -- The number of a count.
  numbered_is : (j k : ℕ) → j < stations K → k ≤ count K j → numbered (get_or code.room j 0) (get_or code.before j 0) k ≡ number K j k
  unfolding number
  numbered_is j zero h l = omega arith
  numbered_is j (suc k) h l =
      let t : total (take j (full K)) + count K j ≤ 254 = omega (arith, total-take (full K) j, full_at K j, m.few_events) in
      omega (arith, c.sums j h, o j h)

  numbered-past : (j v : ℕ) → stations K ≤ j → j < 8 → numbered (get_or code.room j 0) (get_or code.before j 0) v ≡ 0
  numbered-past j v h l = let x : get_or code.room j 0 ≡ 0 = (c.past j h l).0 in rw x (omega arith)

  -- 255 stays 255 in the first cell.
  numbered-none : numbered (get_or code.room 0 0) (get_or code.before 0 0) 255 ≡ 255
  unfolding sum
  numbered-none = let z : get_or code.before 0 0 ≡ 0 = o 0 m.some_station in omega (arith, c.sums 0 m.some_station, z)

  module _ (R : ℕ → ℕ → Option Cut) (ws : List ℕ) (at : ℕ) (r : Rows K R (stations K) at ws) (room : at + (event_count K + 1) * stations K ≤ length ws)
      (table : List ℕ) (t : Copied code (stations K) ws at (event_count K + 1) table) where
    module _ (j k : ℕ) (h : k ≤ count K j) where
      abbrev i : ℕ
      i = number K j k

      abbrev place : ℕ
      place = at + i * stations K

      in_table : (p : ℕ) → p < 8 → get_or (take 8 (drop (8 * i) table)) p 0 ≡ numbered (get_or code.room p 0) (get_or code.before p 0) (get_or ws (place + p) 0)
      in_table p q =
          let e : 8 * i + p ≡ i * 8 + p = omega arith in
          get_or-take 8 (drop (8 * i) table) p 0 q ∙ get_or-drop (8 * i) table p 0 ∙ ap (λ (x : ℕ). get_or table x 0) e ∙ t i p (omega (arith, number-le K j k h)) q

      in_ws : (p : ℕ) → p < stations K → get_or (take (stations K) (drop place ws)) p 0 ≡ get_or ws (place + p) 0
      in_ws p q = get_or-take (stations K) (drop place ws) p 0 q ∙ get_or-drop place ws p 0

      slot-says : (x : Option Cut) → R j k ≡ x → decoded (take (stations K) (drop place ws)) ≡ x → Says K x (take 8 (drop (8 * i) table))
      slot-says none f e =
          let z : get_or ws (place + 0) 0 ≡ 255 = sym (in_ws 0 m.some_station) ∙ decoded-first (take (stations K) (drop place ws)) e in
          in_table 0 (omega arith) ∙ rw z numbered-none
      slot-says (some d) f e = record { consistent = r.consistent j k h d f; cells = λ p. go p (dec_lt p (stations K)) }
        where
          is : take (stations K) (drop place ws) ≡ d
          is = decoded-is (take (stations K) (drop place ws)) d e

          q : Consistent K d
          q = r.consistent j k h d f

          past : (p : ℕ) → stations K ≤ p → Dec (p < 8) → get_or (take 8 (drop (8 * i) table)) p 0 ≡ 0
          past p l (yes s) = in_table p s ∙ numbered-past p (get_or ws (place + p) 0) l s
          past p l (no s) = get_or-eq_default (take 8 (drop (8 * i) table)) 0 {n = p} (short p (omega arith))
            where
              short : (p : ℕ) → 8 ≤ p → length (take 8 (drop (8 * i) table)) ≤ p
              short p u = omega (arith, length-take 8 (drop (8 * i) table))

          go : (p : ℕ) → Dec (p < stations K) → get_or (take 8 (drop (8 * i) table)) p 0 ≡ number K p (d ! p)
          go p (yes l) =
              let v : get_or ws (place + p) 0 ≡ d ! p = sym (in_ws p l) ∙ ap (λ (x : List ℕ). get_or x p 0) is in
              in_table p (omega (arith, m.few_stations)) ∙ rw v (numbered_is p (d ! p) l (q.within p))
          go p (no l) = past p (omega arith) (dec_lt p 8) ∙ sym (number-zero K p (d ! p) (past-zero K d q p (omega arith)))

    pub slots_are : Slots K R table
    slots_are j k h = slot-says j k h (R j k) refl (r.says j k h)

-- The same where the numbers of stations and events are told.
pub table_is : (K : Computation) (code : Code) (n e : ℕ) (R : ℕ → ℕ → Option Cut) (ws : List ℕ) (at : ℕ) (table : List ℕ) → Small K → stations K ≡ n → event_count K ≡ e → Coding n code
    → Offsets K code → Rows K R n at ws → at + (e + 1) * n ≤ length ws → Copied code n ws at (e + 1) table → Slots K R table
table_is K code n e R ws at table m p q c o r room t =
    slots_are K code m (subst (λ x. Coding x code) (sym p) c) o R ws at (subst (λ x. Rows K R x at ws) (sym p) r) (rw (p, q) room) table (rw (p, q) t)

-- BACK

module _ (K : Computation) (code : Code) (m : Small K) (o : Offsets K code) where
  number_back : (j k : ℕ) → j < stations K → number K j k - get_or code.before j 0 ≡ k
  unfolding number
  number_back j zero h = omega arith
  number_back j (suc k) h = omega (arith, o j h)

  coded-counts : (x : Cut) (cut t ws₂ : List ℕ) (at : ℕ) → Coded K x cut → length t ≡ 8 → ((i : ℕ) → i < 8 → get_or t i 0 ≡ get_or cut i 0 - get_or code.before i 0)
      → ((i : ℕ) → i < stations K → get_or ws₂ (at + i) 0 ≡ get_or t i 0) → at + stations K ≤ length ws₂ → decoded (take (stations K) (drop at ws₂)) ≡ some x
  coded-counts x cut t ws₂ at h l f g room = ap decoded is ∙ decoded-some x (λ e. omega (arith, e, h.consistent.within 0, number-le K 0 (x ! 0) (h.consistent.within 0), first_some K m x cut h, h.cells 0, number-first K (x ! 0)))
    where
      long : length (take (stations K) (drop at ws₂)) ≡ stations K
      long = length-take-le (stations K) (drop at ws₂) (omega (arith, length-drop at ws₂))

      is : take (stations K) (drop at ws₂) ≡ x
      is = ext_get_or 0 (take (stations K) (drop at ws₂)) x (long ∙ sym h.consistent.size) (λ i q.
          let s : i < stations K = omega (arith, long) in
          get_or-take (stations K) (drop at ws₂) i 0 s ∙ get_or-drop at ws₂ i 0 ∙ g i s ∙ f i (omega (arith, m.few_stations))
          ∙ ap (λ (y : ℕ). y - get_or code.before i 0) (h.cells i) ∙ number_back i (x ! i) s)

  -- Of none the first cell stays 255.
  pub counts_are : (x : Option Cut) (cut t ws₂ : List ℕ) (at : ℕ) → Says K x cut → length t ≡ 8 → ((i : ℕ) → i < 8 → get_or t i 0 ≡ get_or cut i 0 - get_or code.before i 0)
      → ((i : ℕ) → i < stations K → get_or ws₂ (at + i) 0 ≡ get_or t i 0) → at + stations K ≤ length ws₂ → decoded (take (stations K) (drop at ws₂)) ≡ x
  unfolding sum
  counts_are none cut t ws₂ at h l f g room =
      let z : get_or code.before 0 0 ≡ 0 = o 0 m.some_station in
      let first : get_or ws₂ (at + 0) 0 ≡ 255 = omega (arith, g 0 m.some_station, f 0 (omega arith), z, h) in
      is_none (stations K) (drop at ws₂) m.some_station (get_or-drop at ws₂ 0 0 ∙ first)
  counts_are (some x) cut t ws₂ at h l f g room = coded-counts x cut t ws₂ at h l f g room

  -- They stand where len cells were written, n of them or eight.
  pub counts_put : (x : Option Cut) (cut t ws ws₂ : List ℕ) (at n len : ℕ) → Says K x cut → stations K ≡ n → n ≤ len → at + len ≤ length ws → length t ≡ 8
      → ((i : ℕ) → i < 8 → get_or t i 0 ≡ get_or cut i 0 - get_or code.before i 0) → ws₂ ≡ paste ws at (drop 0 t) len → len ≤ 8 → decoded (take n (drop at ws₂)) ≡ x
  counts_put x cut t ws ws₂ at n len h e q room l f p v =
      rw (← e) (counts_are x cut t ws₂ at h l f (λ i u. copied_cells ws t ws₂ at len (omega arith) (omega arith) p i (omega arith)) (omega (arith, e, q, room, long)))
    where
      long : length ws₂ ≡ length ws
      long = ap length p ∙ length-paste ws at t len room (omega arith)
