-- The walk over a line: what holds before each pair, and what each thing that it meets comes to.
use Rattle.std.proofs.Common.{◌≡◌, ℕ, zero, suc, ◌+◌, ◌-◌, ◌*◌, ◌%◌, ◌<◌, ◌≤◌, Result, Ok, Err, List, [], ◌∷◌, ◌++◌, length, take, drop, set, sym, refl, ap, ◌∙◌, append_assoc, append-nil, add-one, arith, length-append, length-drop, length-set, take-append-drop, drop_of_length-le, length-take-le, drop-drop, take-suc-set, drop-set-lt}
use mathlib.Core.Option.{some}
use Rattle.model.specs.Lists.{sum, total}
use Rattle.model.specs.Bytes.{more, lines_of, bytes}
use Rattle.lattice.proofs.Sums.{sum-snoc}
use Rattle.model.specs.Looks.{own, Looks}
use Rattle.walk.specs.Pairs.{pair_of, to_tell}
use Rattle.walk.specs.Walked.{Framed, Spoilt, Walked, looked, onto, lead, looks_of}
use Rattle.walk.specs.declared.Frame.{Frame}
use Rattle.walk.specs.declared.Malformed.{Malformed}
use Rattle.cells.specs.Put.{put_of}
use Rattle.walk.specs.declared.Pair.{Pair}
use Rattle.walk.specs.declared.Pair.TheVariants.{Byte, End, Broken}
use Rattle.walk.proofs.Fronts.{Front, front-none, front-join, front-pair, lines_end, pushes, pushes-more, ahead}
use Rattle.cells.proofs.Puts.{put_front}
use Rattle.walk.proofs.Looks.{tell_byte, tell_end, tell_own, own-front, looks_told}
use Rattle.walk.proofs.Refusals.{Refused, refused_faulty, refused_many, refused-few, refused_broken}

-- ---- the pairs at the front
lead-byte : (m : ℕ) (s : List ℕ) (b : ℕ) → pair_of s ≡ Byte b → lead (suc m) s ≡ b ∷ lead m (drop 2 s)
unfolding lead
lead-byte m s b e = rw e

lead_last : (m : ℕ) (s : List ℕ) (p : Pair) → pair_of s ≡ p → ((l : List ℕ) → onto p l ≡ []) → lead m s ≡ []
unfolding lead
lead_last zero s p e h = refl
lead_last (suc m) s p e h = rw e (h (lead m (drop 2 s)))

-- ---- before each pair: the first k of out are the bytes from `at` to i, s is their sum, and n bytes were looked at
pub record Walking (log : List ℕ) (at : ℕ) (out₀ out : List ℕ) (k s n i : ℕ) : Type 0 where
  pub starts : at < length log
  pub place : i ≡ at + 2 * k
  pub count : n ≡ 2 * k
  pub inside : i ≤ length log
  pub few : k ≤ 100
  pub room : length out ≡ 100
  pub adds : s ≡ total (take k out) % 256
  pub front : Front (take k out) (drop at log) (drop i log)
  pub leads : lead 100 (drop at log) ≡ take k out ++ lead (100 - k) (drop i log)
  pub behind : drop k out ≡ drop k out₀

pub walk_start : (log : List ℕ) (at : ℕ) (out : List ℕ) → at < length log → length out ≡ 100 → Walking log at out out 0 0 0 at
unfolding sum
walk_start log at out h r = record {
  starts = h;
  place = omega arith;
  count = refl;
  inside = omega arith;
  few = omega arith;
  room = r;
  adds = refl;
  front = front-none (drop at log);
  leads = refl;
  behind = refl;
}

-- one pair more in front
pair-more : {log out₀ out : List ℕ} {at k s n i v : ℕ} → Walking log at out₀ out k s n i → pair_of (drop i log) ≡ Byte v
    → Front (take k out ++ (v ∷ [])) (drop at log) (drop (i + 2) log)
pair-more {log} {i = i} {v = v} w e = front-join w.front (rw (drop-drop 2 i log) at (front-pair (drop i log) v e))

next-behind : {log out₀ out : List ℕ} {at k s n i : ℕ} → Walking log at out₀ out k s n i → drop (k + 1) out ≡ drop (k + 1) out₀
next-behind {out₀ = out₀} {out = out} {k = k} w = sym (drop-drop 1 k out) ∙ ap (drop 1) w.behind ∙ drop-drop 1 k out₀

pub walk_byte : {log out₀ out : List ℕ} {at k s n i v m : ℕ} → Walking log at out₀ out k s n i → m ≡ n + to_tell (drop i log) → pair_of (drop i log) ≡ Byte v → (k ≡ 100 → ⊥)
    → Walking log at out₀ (set out k v) (k + 1) ((s + v) % 256) m (i + 2)
walk_byte {log} {out₀} {out} {at} {k} {s} {n} {i} {v} w c e h =
    let few : k < 100 = omega (arith, w.few, h) in
    let more : lead (100 - k) (drop i log) ≡ lead (suc (100 - (k + 1))) (drop i log) = ap (λ (m : ℕ). lead m (drop i log)) (omega arith) in
    let t : take (k + 1) (set out k v) ≡ take k out ++ (v ∷ []) = rw add-one (take-suc-set out k v (omega (arith, w.room))) in
    record {
      starts = w.starts;
      place = omega (arith, w.place);
      count = omega (arith, w.count, c, tell_byte (drop i log) v e);
      inside = omega (arith, length-drop i log, length-drop 2 (drop i log), (front-pair (drop i log) v e).long, (front-pair (drop i log) v e).two);
      few = omega arith;
      room = length-set out k v ∙ w.room;
      adds = rw (t, sum-snoc (λ x. x) (take k out) v) (omega (arith, w.adds));
      front = rw t (pair-more w e);
      leads = w.leads ∙ rw t (ap (λ (l : List ℕ). take k out ++ l) (more ∙ lead-byte (100 - (k + 1)) (drop i log) v e ∙ rw (drop-drop 2 i log)) ∙ sym (append_assoc (take k out) (v ∷ []) (lead (100 - (k + 1)) (drop (i + 2) log))));
      behind = drop-set-lt (k + 1) out k v (omega arith) ∙ next-behind w;
    }

-- ---- the end of a line
end_at : (log : List ℕ) (i : ℕ) → pair_of (drop i log) ≡ End → lines_of (drop i log) ≡ more [] (lines_of (drop (i + 1) log))
end_at log i e = lines_end (drop i log) e ∙ ap (λ (s : List ℕ). more [] (lines_of s)) (drop-drop 1 i log)

framed : {log out₀ out : List ℕ} {at k s n i : ℕ} → Walking log at out₀ out k s n i → i < length log → pair_of (drop i log) ≡ End → 2 ≤ k
    → Framed log at k s (i + 1) out
unfolding bytes ahead
framed {log} {out₀} {out} {at} {k} {s} {n} {i} w h e two =
    let r = w.front in
    record {
      text = r.passed ++ [];
      is = r.lines ∙ ap (pushes r.passed) (end_at log i e) ∙ pushes-more r.passed [] (lines_of (drop (i + 1) log));
      carries = r.brings [] ∙ ap some (append-nil (take k out));
      low = two;
      high = w.few;
      room = omega (arith, w.few, w.room);
      adds = w.adds;
      after = omega (arith, w.place);
      inside = omega arith;
    }

-- ---- what is refused
length-bytes : {log out₀ out : List ℕ} {at k s n i : ℕ} → Walking log at out₀ out k s n i → length (take k out) ≡ k
length-bytes {out = out} {k = k} w = length-take-le k out (omega (arith, w.few, w.room))

spoilt : {log f t : List ℕ} {at : ℕ} → Front f (drop at log) t → Refused f (lines_of t) → Spoilt log at
spoilt r h = let x = refused_faulty r h in record { others = x.0; is = x.1 }

-- the log ends before 0A
over : (f t : List ℕ) → 1 ≤ length f → t ≡ [] → Refused f (lines_of t)
unfolding lines_of
over f t h e = rw e (omega arith)

-- ---- the answers
abbrev pub frame : ℕ → ℕ → ℕ → Result Frame Malformed
frame k s n = Ok (record { length = k; sum = s; looks = n })

abbrev pub malformed : ℕ → Result Frame Malformed
malformed n = Err (record { looks = n })

-- ---- where the walk ends: the looks, what they told, and what it leaves
abbrev Told : List ℕ → ℕ → List ℕ → Result Frame Malformed → List ℕ → Type 0
Told log at out₀ r out = (looked r ≡ looks_of (drop at log)) × (Looks (lines_of (drop at log)) (looked r) × (Walked log at r out × (out ≡ put_of out₀ 0 (lead 100 (drop at log)))))

module _ {log out₀ out : List ℕ} {at k s n i m : ℕ} (w : Walking log at out₀ out k s n i) (c : m ≡ n + to_tell (drop i log)) where
  passed : lead (100 - k) (drop i log) ≡ [] → lead 100 (drop at log) ≡ take k out
  passed e = w.leads ∙ ap (λ (x : List ℕ). take k out ++ x) e ∙ append-nil (take k out)

  leaves : lead 100 (drop at log) ≡ take k out → out ≡ put_of out₀ 0 (lead 100 (drop at log))
  leaves l = sym (take-append-drop k out) ∙ ap (λ (x : List ℕ). take k out ++ x) w.behind ∙ ap (λ (n : ℕ). take k out ++ drop n out₀) (sym (length-bytes w)) ∙ sym (put_front out₀ (take k out)) ∙ ap (put_of out₀ 0) (sym l)

  looks : lead 100 (drop at log) ≡ take k out → looks_of (drop at log) ≡ m
  unfolding looks_of
  looks l =
      let b : drop (2 * k) (drop at log) ≡ drop i log = drop-drop (2 * k) at log ∙ ap (λ (j : ℕ). drop j log) (sym w.place) in
      rw (l, length-bytes w, b) (omega (arith, c, w.count))

  within-own : m ≤ own (lines_of (drop at log))
  within-own = omega (arith, c, w.count, own-front w.front, length-bytes w, tell_own (drop i log))

  told : lead (100 - k) (drop i log) ≡ [] → (r : Result Frame Malformed) → looked r ≡ m → Walked log at r out → Told log at out₀ r out
  told e r q x = let l = passed e in (q ∙ sym (looks l), (looks_told log out at r x (rw q within-own), (x, leaves l)))

  many : (v : ℕ) → pair_of (drop i log) ≡ Byte v → k ≡ 100 → Spoilt log at
  many v e h = spoilt (pair-more w e) (refused_many (take k out ++ (v ∷ [])) (lines_of (drop (i + 2) log)) (simp length-append (omega (arith, length-bytes w))))

  pub told_many : {v : ℕ} → pair_of (drop i log) ≡ Byte v → k ≡ 100 → Told log at out₀ (malformed m) out
  unfolding lead
  told_many {v} e h = told (rw h) (malformed m) refl (many v e h)

  few : pair_of (drop i log) ≡ End → k < 2 → Spoilt log at
  few e h = spoilt w.front (rw (end_at log i e) (refused-few (take k out) (lines_of (drop (i + 1) log)) (omega (arith, length-bytes w))))

  pub told-few : pair_of (drop i log) ≡ End → k < 2 → Told log at out₀ (malformed m) out
  told-few e h = told (lead_last (100 - k) (drop i log) End e (λ l. refl)) (malformed m) refl (few e h)

  pub told-frame : i < length log → pair_of (drop i log) ≡ End → 2 ≤ k → Told log at out₀ (frame k s m) out
  told-frame h e two =
      let next : i + 1 ≡ at + m = omega (arith, w.place, w.count, c, tell_end (drop i log) e) in
      told (lead_last (100 - k) (drop i log) End e (λ l. refl)) (frame k s m) refl (rw next at (framed w h e two))

  broken : i < length log → pair_of (drop i log) ≡ Broken → Spoilt log at
  broken h e = spoilt w.front (refused_broken (take k out) (drop i log) (simp length-drop (omega arith)) e)

  pub told_broken : i < length log → pair_of (drop i log) ≡ Broken → Told log at out₀ (malformed m) out
  told_broken h e = told (lead_last (100 - k) (drop i log) Broken e (λ l. refl)) (malformed m) refl (broken h e)

pub told_over : {log out₀ out : List ℕ} {at k s n i : ℕ} → Walking log at out₀ out k s n i → length log ≤ i → Told log at out₀ (malformed n) out
unfolding pair_of to_tell
told_over {log} {out = out} {k = k} {n = n} {i = i} w h =
    let z : drop i log ≡ [] = drop_of_length-le log h in
    told w (rw z (omega arith)) (lead_last (100 - k) (drop i log) Broken (rw z) (λ l. refl)) (malformed n) refl (spoilt w.front (over (take k out) (drop i log) (omega (arith, length-bytes w, w.starts, w.place)) z))
