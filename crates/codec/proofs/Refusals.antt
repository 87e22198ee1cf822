-- What is said of a refusal: its number is above 0, and its line at most one more than a log has bytes or a frame list; and what 16 means.
use mathlib.Core.Path.{◌≡◌, refl, ap}
use mathlib.Core.Logic.{◌↔◌}
use mathlib.Core.Bool.{Bool, true, false, cond}
use mathlib.Core.List.{List, [], ◌∷◌, map}
use mathlib.Core.Option.{Option, none, some}
use Prim.Native.Nat.{ℕ, ◌+◌, suc, ◌-◌, ◌%◌, ◌≤◌, ◌<◌}
use native.Mathlib.Omega.{arith}
use lib.ListN.{length, take, get_elem?, length-append, length-map}
use lib.Dec.{leb, ltb, eqb}
use borrow.Author.Tests.{leb-true}
use Rattle.model.specs.declared.Limits.{Limits}
use Rattle.model.specs.Lists.{total, between}
use Rattle.model.specs.Bytes.{Lines, more, rest, push, lines_of, Item, frame, bad, bytes, carried, items}
use Rattle.model.specs.Frames.{list_of, frames_of}
use Rattle.model.specs.Formula.{Formula, formula_of, sound}
use Rattle.model.specs.Rules.{as_true, workable}
use Rattle.model.specs.Size.{fits}
use Rattle.model.specs.Reading.{Reading, nothing, Step, go, fault, check, admit_header, admit_event, admit_message, asked, admit_question, admit, Result, refused, accepted, begun, finish, proceed, read_items, read_log, read_frames, read_list}
use Rattle.model.specs.Computation.{Computation, stations}
use Rattle.model.specs.Operations.{shut, posing, opening_of, opening}
use Rattle.lattice.proofs.Tests.{clash}
use Rattle.codec.proofs.Cases.{Each, e-none, e-more}
use Rattle.codec.proofs.Frames.{list-frames}

-- A FRAME

abbrev Numbered : Step → Type 0
Numbered (go r) = Unit {0}
Numbered (fault k) = 0 < k

either : (b : Bool) (s t : Step) → Numbered s → Numbered t → Numbered (cond b s t)
either true s t p q = p
either false s t p q = q

checked : (k : ℕ) (b : Bool) (s : Step) → 0 < k → Numbered s → Numbered (check k b s)
unfolding check
checked k true s h p = p
checked k false s h p = h

asked-numbered : (r : Reading) (f : List ℕ) (o : Option Formula) → Numbered (asked r f o)
unfolding asked
asked-numbered r f none = omega arith
asked-numbered r f (some φ) = checked 8 _ _ (omega arith) (checked 9 _ _ (omega arith) (checked 16 _ _ (omega arith) tt))

-- A LINE

abbrev Marked : Item → Type 0
Marked (frame f) = Unit {0}
Marked (bad k) = 0 < k

carried-marked : (o : Option (List ℕ)) → Marked (carried o)
unfolding carried
carried-marked none = omega arith
carried-marked (some f) = by (between 2 100 (length f)) (eqb (total f % 256) 0) (take (length f - 1) f)
  where
    by : (a b : Bool) (g : List ℕ) → Marked (cond a (cond b (frame g) (bad 3)) (bad 2))
    by true true g = tt
    by true false g = omega arith
    by false b g = omega arith

items-marked : (ls : Lines) → Each Marked (items ls)
unfolding items
items-marked (more l ls) = e-more (carried-marked (bytes l)) (items-marked ls)
items-marked (rest []) = e-none
items-marked (rest (b ∷ l)) = e-more {x = bad 2} (omega arith) e-none

frames-marked : (fs : List (List ℕ)) → Each Marked (map frame fs)
frames-marked [] = e-none
frames-marked (f ∷ fs) = e-more tt (frames-marked fs)

-- No more items than bytes.

length_push : (b : ℕ) (ls : Lines) → length (items (push b ls)) ≤ suc (length (items ls))
unfolding push items
length_push b (more l ls) = omega arith
length_push b (rest []) = omega arith
length_push b (rest (a ∷ l)) = omega arith

length-items : (log : List ℕ) → length (items (lines_of log)) ≤ length log
unfolding lines_of items
length-items [] = omega arith
length-items (b ∷ s) = by (eqb b 0x0A) (length-items s)
  where
    by : (t : Bool) → length (items (lines_of s)) ≤ length s → length (items (cond t (more [] (lines_of s)) (push b (lines_of s)))) ≤ suc (length s)
    by true h = omega arith
    by false h = omega (arith, length_push b (lines_of s))

-- No more frames than bytes.
frames-few : (fs : List (List ℕ)) → length fs ≤ length (list_of fs)
unfolding list_of
frames-few [] = omega arith
frames-few (f ∷ fs) = omega (arith, frames-few fs, length-append f (list_of fs))

module _ (m : Limits) where
  admit-numbered : (r : Reading) (f : List ℕ) → Numbered (admit m r f)
  unfolding admit admit_header admit_event admit_message admit_question
  admit-numbered r [] = omega arith
  admit-numbered r (kind ∷ f) =
      either (eqb kind 0x10) _ _ (checked 4 _ _ (omega arith) (checked 5 _ _ (omega arith) tt))
      (either (eqb kind 0x11) _ _ (checked 4 _ _ (omega arith) (checked 5 _ _ (omega arith) tt))
      (either (eqb kind 0x20) _ _ (checked 4 _ _ (omega arith) (checked 6 _ _ (omega arith) (checked 7 _ _ (omega arith) tt)))
      (either (eqb kind 0x25) _ _ (checked 4 _ _ (omega arith) (checked 15 _ _ (omega arith) tt))
      (either (eqb kind 0x30) _ _ (checked 4 _ _ (omega arith) (asked-numbered r f _)) (omega arith)))))

  -- A question that passes 4, 8 and 9 is refused with 16 exactly if an atom comes under a sign in which it cannot be worked out.
  pub sixteen :
      (r : Reading) (f : List ℕ) (φ : Formula)
      → begun r ≡ true
      → ltb (length r.questions) m.questions ≡ true
      → formula_of f ≡ some φ
      → sound (stations r.computation) φ ≡ true
      → fits φ ≡ true
      → (admit m r (0x30 ∷ f) ≡ fault 16) ↔ (workable (as_true φ) ≡ false)
  unfolding admit admit_question asked check
  sixteen r f φ h g p t u = rw (h, g, p, t, u) (by (workable (as_true φ)) _)
    where
      by : (b : Bool) (s : Reading) → (check 16 b (go s) ≡ fault 16) ↔ (b ≡ false)
      by true s = (λ e. let z : ◌≡◌ {A = ℕ} 0 1 = cc in absurd (omega arith), λ e. clash refl e)
      by false s = (λ e. refl, λ e. refl)

  -- ALL LINES

  refused-number : (n : ℕ) (r : Reading) (l : List Item) (k i : ℕ) → Each Marked l → read_items m n r l ≡ refused k i → 0 < k
  unfolding read_items finish proceed
  refused-number n r [] k i p e = by (begun r) e
    where
      by : (t : Bool) → cond t (accepted r) (refused 4 1) ≡ refused k i → 0 < k
      by true e = let z : ◌≡◌ {A = ℕ} 0 1 = cc in absurd (omega arith)
      by false e = let z : 4 ≡ k = cc in omega arith
  refused-number n r (bad j ∷ l) k i (e-more h p) e = let z : j ≡ k = cc in omega arith
  refused-number n r (frame f ∷ l) k i (e-more h p) e = by (admit m r f) (admit-numbered r f) (λ s. refused-number (suc n) s l k i p) e
    where
      by : (t : Step) → Numbered t → ((s : Reading) → read_items m (suc n) s l ≡ refused k i → 0 < k) → proceed (λ s. read_items m (suc n) s l) n t ≡ refused k i → 0 < k
      by (go s) q on e = on s e
      by (fault j) q on e = let z : j ≡ k = cc in omega arith

  -- From line n on.
  refused_item : (n : ℕ) (r : Reading) (l : List Item) (k i : ℕ) → 1 ≤ n → read_items m n r l ≡ refused k i → i ≤ n + length l
  unfolding read_items finish proceed
  refused_item n r [] k i h e = by (begun r) e
    where
      by : (t : Bool) → cond t (accepted r) (refused 4 1) ≡ refused k i → i ≤ n + 0
      by true e = let z : ◌≡◌ {A = ℕ} 0 1 = cc in absurd (omega arith)
      by false e = let z : 1 ≡ i = cc in omega arith
  refused_item n r (bad j ∷ l) k i h e = let z : n ≡ i = cc in omega arith
  refused_item n r (frame f ∷ l) k i h e = by (admit m r f) (λ s. refused_item (suc n) s l k i (omega arith)) e
    where
      by : (t : Step) → ((s : Reading) → read_items m (suc n) s l ≡ refused k i → i ≤ suc n + length l) → proceed (λ s. read_items m (suc n) s l) n t ≡ refused k i → i ≤ n + suc (length l)
      by (go s) on e = omega (arith, on s e)
      by (fault j) on e = let z : n ≡ i = cc in omega arith

  -- A LOG AND A FRAME LIST

  pub log-named : (log : List ℕ) (k n : ℕ) → read_log m log ≡ refused k n → (0 < k) × (n ≤ m.bytes + 1)
  unfolding read_log
  log-named log k n e = by (leb (length log) m.bytes) refl e
    where
      by : (t : Bool) → leb (length log) m.bytes ≡ t → cond t (read_items m 1 nothing (items (lines_of log))) (refused 1 0) ≡ refused k n → (0 < k) × (n ≤ m.bytes + 1)
      by true h e = (
        refused-number 1 nothing (items (lines_of log)) k n (items-marked (lines_of log)) e,
        omega (arith, refused_item 1 nothing (items (lines_of log)) k n (omega arith) e, length-items log, leb-true (length log) m.bytes h),
      )
      by false h e = let z : 1 ≡ k = cc in let w : 0 ≡ n = cc in (omega arith, omega arith)

  -- A log that is shut for a question: none of that number has no line.
  pub opening-named : (log : List ℕ) (q k n : ℕ) → opening m log q ≡ shut k n → (0 < k) × (n ≤ m.bytes + 1)
  unfolding opening opening_of posing
  opening-named log q k n e = by (read_log m log) refl e
    where
      none_named : (K : Computation) (o : Option Formula) → posing K o ≡ shut k n → (0 < k) × (n ≤ m.bytes + 1)
      none_named K none e = let z : 10 ≡ k = cc in let w : 0 ≡ n = cc in (omega arith, omega arith)
      none_named K (some f) e = let z : ◌≡◌ {A = ℕ} 0 1 = cc in absurd (omega arith)

      by : (o : Result) → read_log m log ≡ o → opening_of o q ≡ shut k n → (0 < k) × (n ≤ m.bytes + 1)
      by (refused i j) h e = let z : i ≡ k = cc in let w : j ≡ n = cc in log-named log k n (rw (z, w) at h)
      by (accepted r) h e = none_named r.computation (get_elem? r.questions q) e

  pub list-named : (l : List ℕ) (k n : ℕ) → read_list m l ≡ refused k n → (0 < k) × (n ≤ m.list + 1)
  unfolding read_list read_frames
  list-named l k n e = by (leb (length l) m.list) refl (frames_of l) refl e
    where
      by : (t : Bool) → leb (length l) m.list ≡ t → (o : Option (List (List ℕ))) → frames_of l ≡ o → cond t (read_frames m o) (refused 14 0) ≡ refused k n → (0 < k) × (n ≤ m.list + 1)
      by true h (some fs) f e = (
        refused-number 1 nothing (map frame fs) k n (frames-marked fs) e,
        omega (arith, refused_item 1 nothing (map frame fs) k n (omega arith) e, length-map fs frame, frames-few fs, ap length (list-frames l fs f).0, leb-true (length l) m.list h),
      )
      by true h none f e = let z : 14 ≡ k = cc in let w : 0 ≡ n = cc in (omega arith, omega arith)
      by false h o f e = let z : 14 ≡ k = cc in let w : 0 ≡ n = cc in (omega arith, omega arith)
