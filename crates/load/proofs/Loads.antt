-- Laws of loading: one frame, one line, the start and the end. Assumes nothing.
use mathlib.Core.Path.{◌≡◌, refl, sym, ap, ◌∙◌}
use mathlib.Core.List.{List, [], ◌∷◌, ◌++◌, append_assoc, append-nil}
use Prim.Native.Nat.{ℕ, ◌+◌, ◌-◌, ◌≤◌}
use native.Mathlib.Omega.{arith}
use native.Mathlib.Numerals.{add-one}
use borrow.Author.Tests.{le-leb}
use lib.ListN.{length, take, drop}
use lib.Seq.{length-take-le, drop-drop}
use Rattle.std.proofs.Common as std
use Rattle.std.proofs.Common.{Ok, Err}
use Rattle.model.specs.declared.Limits.{Limits}
use Rattle.model.specs.Limits.{limits, print_limits}
use Rattle.model.specs.Bytes.{lines_of, Item, frame, bad, items}
use Rattle.model.specs.Lists.{sum}
use Rattle.model.specs.Frames.{list_of}
use Rattle.model.specs.Reading.{Reading, nothing, Result, refused, accepted, admit, go, fault, finish, proceed, read_items, read_log}
use Rattle.model.specs.Reply.{number}
use Rattle.model.specs.declared.Fault.{Fault}
use Rattle.model.specs.declared.Fault.TheVariants.{LineForm, CheckByte}
use Rattle.codec.specs.Limits.{NoLarger}
use Rattle.codec.proofs.Suited.{print_within}
use Rattle.cells.specs.Put.{put_of}
use Rattle.walk.specs.Walked.{Framed, Spoilt}
use Rattle.cells.proofs.Puts.{take_put, drop-put}
use Rattle.walk.proofs.Carried.{items-frame, items-check, items_end}
use Rattle.frame.specs.declared.State.{State}
use Rattle.load.specs.declared.Position.{Position}
use Rattle.frame.specs.State.{fresh, Bounded, Represents, Goes, Admitted, Faulty}
use Rattle.load.specs.declared.Loaded.{Loaded}
use Rattle.load.specs.declared.Unread.{Unread}
use Rattle.load.specs.Loading.{first, Sofar, Left, Ends, Passes, Tries, Within, Reads, Accepts, Loads}
use Rattle.frame.proofs.Steps.{begun-not, begun_yes}
use Rattle.frame.proofs.Headers.{zero-at}

-- ITEMS

-- a frame list with one frame more
list-more : (fs : List (List ℕ)) (f : List ℕ) → list_of (fs ++ (f ∷ [])) ≡ list_of fs ++ (length f ∷ f)
unfolding list_of
list-more [] f = ap (λ (l : List ℕ). length f ∷ l) (append-nil f)
list-more (g ∷ fs) f = ap (λ (l : List ℕ). length g ∷ l) (ap (λ (l : List ℕ). g ++ l) (list-more fs f) ∙ sym (append_assoc g (list_of fs) (length f ∷ f)))

module _ (m : Limits) (n : ℕ) (r : Reading) where
  read_bad : (k : ℕ) (l : List Item) → read_items m n r (bad k ∷ l) ≡ refused k n
  unfolding read_items
  read_bad k l = refl

  pub read_fault : (f : List ℕ) (l : List Item) (k : ℕ) → admit m r f ≡ fault k → read_items m n r (frame f ∷ l) ≡ refused k n
  unfolding read_items proceed
  read_fault f l k e = rw e

  pub read_next : (f : List ℕ) (l : List Item) (s : Reading) → admit m r f ≡ go s → read_items m n r (frame f ∷ l) ≡ read_items m (n + 1) s l
  unfolding read_items proceed
  read_next f l s e = rw (e, add-one n)

  read_end : read_items m n r [] ≡ finish r
  unfolding read_items
  read_end = refl

pub sofar_of : {m : Limits} {whole : Result} {l l' : List Item} {p : Position} {list t : List ℕ} → l ≡ l' → Sofar m whole l p list t → Sofar m whole l' p list t
sofar_of {m} {p = p} e so = record { reading = so.reading; is = so.is ∙ ap (read_items m p.line so.reading) e; holds = so.holds; listed = so.listed }

-- ONE FRAME

module _ {m : Limits} {p : Position} {f list t : List ℕ} (t' : List ℕ) where
  -- the frame is admitted, and the list has it
  module _ {s : State} (d : Admitted m p.state f t s t') where
    pub sofar-more : (next k : ℕ) (list' : List ℕ) → take k list' ≡ take p.length list ++ (length f ∷ f) → {whole : Result} {left : List Item}
        → Sofar m whole (frame f ∷ left) p list t → Sofar m whole left (record { at = next; line = p.line + 1; length = k; state = s }) list' t'
    sofar-more next k list' u {whole} {left} so =
        let g : Goes m so.reading f s t' = d.goes so.reading so.holds in
        record {
          reading = g.after;
          is = so.is ∙ read_next m p.line so.reading f left g.after g.step;
          holds = g.holds;
          listed = u ∙ ap (λ (x : List ℕ). x ++ (length f ∷ f)) so.listed ∙ sym (list-more so.reading.frames f) ∙ ap list_of (sym g.frames);
        }

    pub tries_next : (next : ℕ) (list' : List ℕ) → p.length + length f + 1 ≤ length list → list' ≡ put_of list p.length (length f ∷ f)
        → Passes m p f next list t (record { at = next; line = p.line + 1; length = p.length + length f + 1; state = s }) list' t'
    tries_next next list' l u =
        let n : p.length + length f + 1 ≡ p.length + length (length f ∷ f) = omega arith in
        let k : take (p.length + length f + 1) list' ≡ take p.length list ++ (length f ∷ f) = rw (u, n) (take_put list (length f ∷ f) p.length (omega arith)) in
        record {
          bounded = d.bounded;
          at = refl;
          line = refl;
          longer = omega arith;
          left = record { behind = rw (u, n) (drop-put list (length f ∷ f) p.length (omega arith)) };
          onward = λ whole rest so. sofar-more next (p.length + length f + 1) list' k so;
        }

  -- it is not
  module _ {x : Fault} (d : Faulty m p.state f t x t') where
    pub sofar-ends : {whole : Result} {left : List Item} → Sofar m whole (frame f ∷ left) p list t → whole ≡ refused (number x) p.line
    sofar-ends {whole} {left} so = so.is ∙ read_fault m p.line so.reading f left (number x) (d.is so.reading so.holds)

    pub tries_faulty : (rest : List Item) → Ends m (frame f ∷ rest) p list t x list
    tries_faulty rest = record { left = record { behind = refl }; ends = λ whole so. sofar-ends so }

-- what is left after one step and another
pub left_more : {k k' : ℕ} {a b c : List ℕ} → Left k a b → Left k' b c → k ≤ k' → Left k' a c
left_more {k} {k'} {a} {b} x y h =
    let n : k + (k' - k) ≡ k' = omega arith in
    record { behind = y.behind ∙ rw (← n) (sym (drop-drop (k' - k) k b) ∙ ap (drop (k' - k)) x.behind ∙ drop-drop (k' - k) k a) }

-- ONE LINE
module _ {m : Limits} {log : List ℕ} {p : Position} (w : Within m log p) (list t : List ℕ) where
  pub reads_malformed : Spoilt log p.at → Ends m (items (lines_of (drop p.at log))) p list t LineForm list
  reads_malformed s = record { left = record { behind = refl }; ends = λ whole so. so.is ∙ ap (read_items m p.line so.reading) s.is ∙ read_bad m p.line so.reading 2 s.others }

  module _ {k sum next : ℕ} {out : List ℕ} (g : Framed log p.at k sum next out) where
    pub reads_check : (sum ≡ 0 → ⊥) → Ends m (items (lines_of (drop p.at log))) p list t CheckByte list
    reads_check n = record { left = record { behind = refl }; ends = λ whole so. so.is ∙ ap (read_items m p.line so.reading) (items-check g n) ∙ read_bad m p.line so.reading 3 (items (lines_of (drop next log))) }

    size : length (take (k - 1) out) + 1 ≡ k
    size = omega (arith, length-take-le (k - 1) out (omega (arith, g.room)), g.low)

    -- the line carries a frame
    carried : sum ≡ 0 → (whole : Result) → Sofar m whole (items (lines_of (drop p.at log))) p list t → Sofar m whole (frame (take (k - 1) out) ∷ items (lines_of (drop next log))) p list t
    carried e whole so = sofar_of (items-frame g e) so

    pub reads_frame : sum ≡ 0 → (r : std.Result Position Fault) (list' t' : List ℕ) → Tries m p (take (k - 1) out) next list t r list' t' → Reads m log p list t r list' t'
    reads_frame e (Ok q) list' t' d = record {
      within = record {
        bounded = d.bounded;
        inside = omega (arith, d.at, g.inside);
        half = omega (arith, d.at, d.longer, size, g.after, w.half);
        low = omega (arith, d.at, d.line, g.after, w.low);
      };
      further = omega (arith, d.at, g.after);
      longer = omega (arith, d.longer);
      left = d.left;
      onward = λ whole so. sofar_of (ap (λ (a : ℕ). items (lines_of (drop a log))) (sym d.at)) (d.onward whole (items (lines_of (drop next log))) (carried e whole so));
    }
    reads_frame e (Err x) list' t' d = let n = d (items (lines_of (drop next log))) in record { left = n.left; ends = λ whole so. n.ends whole (carried e whole so) }

-- THE WHOLE

pub bounded-fresh : {m : Limits} → Bounded m fresh
bounded-fresh = record { few_stations = omega arith; few_events = omega arith; few_messages = omega arith; few_questions = omega arith; eight = refl; each = λ j. rw (zero-at j) (omega arith) }

holds-nothing : (t : List ℕ) → Represents nothing fresh t
unfolding sum
holds-nothing t = record {
  panelled = refl;
  stored = record { size = refl; each = zero-at; table = record { reports = λ j k l m. absurd (omega arith); clocks = λ j k l m. absurd (omega arith) } };
  posted = record { at = λ q m e. let z : ◌≡◌ {A = ℕ} 0 1 = cc in absurd (omega arith) };
  sizes = refl;
  events = refl;
  messages = refl;
  questions = refl;
}

pub sofar-first : {m : Limits} {whole : Result} {l : List Item} (list t : List ℕ) → whole ≡ read_items m 1 nothing l → Sofar m whole l first list t
unfolding list_of
sofar-first list t e = record { reading = nothing; is = e; holds = holds-nothing t; listed = refl }

pub read-items : (m : Limits) (log : List ℕ) → length log ≤ m.bytes → read_log m log ≡ read_items m 1 nothing (items (lines_of log))
unfolding read_log
read-items m log h = rw (le-leb (length log) m.bytes h)

pub within_first : {m : Limits} (log : List ℕ) → Within m log first
within_first log = record { bounded = bounded-fresh; inside = omega arith; half = omega arith; low = omega arith }

module _ {m : Limits} {whole : Result} {p : Position} {list t : List ℕ} (so : Sofar m whole [] p list t) where
  pub end_empty : p.state.stations ≡ 0 → whole ≡ refused 4 1
  unfolding finish
  end_empty e = so.is ∙ read_end m p.line so.reading ∙ rw (begun-not so.holds e)

  pub end_all : (p.state.stations ≡ 0 → ⊥) → whole ≡ accepted so.reading
  unfolding finish
  end_all e = so.is ∙ read_end m p.line so.reading ∙ rw (begun_yes so.holds e)

module _ {m : Limits} (log : List ℕ) {p : Position} {list t : List ℕ} (w : Within m log p) (l : length log ≤ p.at) (so : Sofar m (read_log m log) (items (lines_of (drop p.at log))) p list t) where
  pub loads_empty : p.state.stations ≡ 0 → read_log m log ≡ refused 4 1
  loads_empty e = end_empty (sofar_of (items_end log p.at l) so) e

  pub loads_all : length log ≤ limits.bytes → (p.state.stations ≡ 0 → ⊥) → Accepts m log p.state p.length list t
  unfolding sofar_of
  loads_all short n = record {
    reading = so.reading;
    is = end_all (sofar_of (items_end log p.at l) so) n;
    holds = so.holds;
    listed = so.listed;
    short = omega (arith, w.half, w.inside);
    bounded = w.bounded;
    some_stations = omega arith;
  }

-- as the code hands them over
pub loading_first : {m : Limits} (log list t : List ℕ) (p : Position) → p ≡ first → length log ≤ m.bytes → Within m log p × Left p.length list list × Sofar m (read_log m log) (items (lines_of (drop p.at log))) p list t
loading_first {m} log list t p e h = rw e (within_first log, record { behind = refl }, sofar-first list t (read-items m log h))

-- a log is accepted where loading it comes to a state
pub to_accepts : {m : Limits} {r : std.Result Loaded Unread} {log list t : List ℕ} (l : Loaded) → r ≡ Ok l → Loads m log r list t → Accepts m log l.state l.length list t
to_accepts l e h = rw e at h

-- the limits as the code hands them over
pub print_no_larger : (m : Limits) → m ≡ print_limits → NoLarger m limits
print_no_larger m e = rw e print_within
