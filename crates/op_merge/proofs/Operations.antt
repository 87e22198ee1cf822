-- Laws of Merge: what is handed back and written follows from what reading the two logs comes to. Assumes nothing.
use mathlib.Core.Path.{◌≡◌, refl, sym, ap, ◌∙◌}
use mathlib.Core.Bool.{Bool, true, false, ◌||◌}
use mathlib.Core.List.{List, [], ◌∷◌}
use Prim.Native.Nat.{ℕ, ◌+◌, ◌<◌, ◌≤◌}
use borrow.Author.Tests.{lt-ltb, le-ltb}
use Rattle.std.proofs.lemmas.Bool.{ltb-false}
use lib.Dec.{ltb}
use lib.ListN.{length, take}
use Rattle.model.specs.Limits.{limits}
use Rattle.model.specs.Reading.{Reading, Result, refused, accepted, read_log}
use Rattle.model.specs.Reply.{Reply, gives, refuses}
use Rattle.model.specs.Operations.{merged_log, too_wide_together, too_many_together, merge_effect, merge_op}
use Rattle.model.specs.Promise.{Merges}
use Rattle.codec.proofs.Cases.{or-false}
use Rattle.codec.proofs.Suited.{suitable}
use Rattle.codec.proofs.MergeLog.{merge_kept}
use Rattle.cells.specs.Put.{put_of}
use Rattle.cells.proofs.Puts.{put_front}
use Rattle.frame.specs.declared.State.{State}
use Rattle.load.specs.Loading.{Accepts}
use Rattle.op_merge.specs.Opened.{Opened, Fitting, Merging}

-- A log that was loaded is opened, with its state and its frame list.
pub accepts_opened : {log : List ℕ} {s : State} {k : ℕ} {list t : List ℕ} (a : Accepts limits log s k list t) → Opened a.reading s (take k list)
accepts_opened {log} a = record {
  log = log;
  is = a.is;
  listed = a.listed;
  panelled = a.holds.panelled;
  stations = sym a.holds.stored.size;
  events = a.holds.events;
  messages = a.holds.messages;
}

-- WHAT THE TESTS SAY

pub not_wide : {b : Bool} {m n : ℕ} → b ≡ ltb m n → b ≡ false → n ≤ m
not_wide {b} {m} {n} e f = ltb-false m n (sym e ∙ f)

pub few : {b : Bool} {m n k l : ℕ} → b ≡ (ltb m n || ltb k l) → b ≡ false → (n ≤ m) × (l ≤ k)
few {b} {m} {n} {k} {l} e f = let p = or-false (ltb m n) (ltb k l) (sym e ∙ f) in (ltb-false m n p.0, ltb-false k l p.1)

-- TWO ACCEPTED LOGS

module _ {x y : Reading} {s t : State} {list more : List ℕ} (a : Opened x s list) (b : Opened y t more) (out : List ℕ) where
  wide_is : too_wide_together limits x y ≡ ltb limits.stations (s.stations + t.stations)
  unfolding too_wide_together
  wide_is = rw (a.stations, b.stations) refl

  many_is : too_many_together limits x y ≡ (ltb limits.events (s.events + t.events) || ltb limits.messages (s.messages + t.messages))
  unfolding too_many_together
  many_is = rw (a.events, b.events, a.messages, b.messages) refl

  pub many_together : {b : Bool} → b ≡ (ltb limits.events (s.events + t.events) || ltb limits.messages (s.messages + t.messages)) → b ≡ true → too_many_together limits x y ≡ true
  many_together e h = many_is ∙ sym e ∙ h

  pub both_wide : limits.stations < s.stations + t.stations → Merging (accepted x) (accepted y) out (refuses 17 0) out
  unfolding merge_effect
  both_wide h = let z = wide_is ∙ lt-ltb limits.stations (s.stations + t.stations) h in (rw z refl, rw z refl)

  module _ (narrow : s.stations + t.stations ≤ limits.stations) where
    narrow_is : too_wide_together limits x y ≡ false
    narrow_is = wide_is ∙ le-ltb limits.stations (s.stations + t.stations) narrow

    pub both_many : too_many_together limits x y ≡ true → Merging (accepted x) (accepted y) out (refuses 18 0) out
    unfolding merge_effect
    both_many i = let z = narrow_is in (rw (z, i) refl, rw (z, i) refl)

    pub many_events : limits.events < s.events + t.events → Merging (accepted x) (accepted y) out (refuses 18 0) out
    many_events h = both_many (many_is ∙ rw (lt-ltb limits.events (s.events + t.events) h) refl)

    module _ (events : s.events + t.events ≤ limits.events) where
      pub many_messages : limits.messages < s.messages + t.messages → Merging (accepted x) (accepted y) out (refuses 18 0) out
      many_messages h = both_many (many_is ∙ rw (le-ltb limits.events (s.events + t.events) events, lt-ltb limits.messages (s.messages + t.messages) h) refl)

      module _ (messages : s.messages + t.messages ≤ limits.messages) where
        few_is : too_many_together limits x y ≡ false
        few_is = many_is ∙ rw (le-ltb limits.events (s.events + t.events) events, le-ltb limits.messages (s.messages + t.messages) messages) refl

        pub both_full : length out < limits.bytes → Merging (accepted x) (accepted y) out (refuses 12 0) out
        unfolding merge_effect
        both_full h = let z = narrow_is in let i = few_is in let o = lt-ltb (length out) limits.bytes h in (rw (z, i, o) refl, rw (z, i, o) refl)

        pub both_fits : Fitting s list t more
        both_fits = record { first = x; second = y; opens = a; opens_second = b; few_stations = narrow_is; few_others = few_is }

        pub both_done : limits.bytes ≤ length out → {k : ℕ} {out' : List ℕ} → (k ≡ length (merged_log x y)) × (out' ≡ put_of out 0 (merged_log x y)) → Merging (accepted x) (accepted y) out (gives (k ∷ [])) out'
        unfolding merge_effect
        both_done h (e, u) =
            let z = narrow_is in
            let i = few_is in
            let o = le-ltb (length out) limits.bytes h in
            (ap (λ (n : ℕ). gives (n ∷ [])) e ∙ rw (z, i, o) refl, u ∙ put_front out (merged_log x y) ∙ rw (z, i, o) refl)

-- A LOG REFUSED

second_refused : (x : Reading) {y : Result} (out : List ℕ) {k n : ℕ} → y ≡ refused k n → Merging (accepted x) y out (refuses k n) out
unfolding merge_effect
second_refused x out e = (rw e refl, rw e refl)

first_refused : {x : Result} (y : Result) (out : List ℕ) {k n : ℕ} → x ≡ refused k n → Merging x y out (refuses k n) out
unfolding merge_effect
first_refused y out e = (rw e refl, rw e refl)

-- ALL THAT IS PROMISED: reply, output, and the merged log's meaning

abbrev pub MergeMet : List ℕ → List ℕ → List ℕ → Reply → List ℕ → Type 0
MergeMet first second out reply out' = (reply ≡ (merge_op limits first second out).reply) × ((out' ≡ (merge_op limits first second out).output) × Merges limits first second reply out')

module _ (first second out : List ℕ) where
  pub merge_met : {reply : Reply} {out' : List ℕ} → Merging (read_log limits first) (read_log limits second) out reply out' → MergeMet first second out reply out'
  unfolding merge_op
  merge_met (e, u) = (e, (u, rw (e, u) (merge_kept suitable first second out)))

  pub met_first_refused : {k n : ℕ} → read_log limits first ≡ refused k n → MergeMet first second out (refuses k n) out
  met_first_refused e = merge_met (first_refused (read_log limits second) out e)

  pub met_second_refused : {k n : ℕ} (x : Reading) → read_log limits first ≡ accepted x → read_log limits second ≡ refused k n → MergeMet first second out (refuses k n) out
  met_second_refused x a e = merge_met (rw a (second_refused x out e))

  pub met : (x y : Reading) → read_log limits first ≡ accepted x → read_log limits second ≡ accepted y → {reply : Reply} {out' : List ℕ} → Merging (accepted x) (accepted y) out reply out' → MergeMet first second out reply out'
  met x y a b h = merge_met (rw (a, b) h)
