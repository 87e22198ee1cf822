-- Laws of Read and Write: what is handed back and written follows from what the reading comes to. Assumes nothing.
use mathlib.Core.Path.{◌≡◌, sym, ap, ◌∙◌}
use mathlib.Core.Bool.{Bool, true, false, not, cond}
use mathlib.Core.List.{List, [], ◌∷◌}
use Prim.Native.Nat.{ℕ, ◌<◌, ◌≤◌}
use native.Mathlib.Omega.{arith}
use borrow.Author.Tests.{lt-ltb, le-ltb, leb-true, leb-false, not-true, not-false}
use lib.Dec.{leb, ltb}
use lib.ListN.{length, take}
use lib.Seq.{length-take-le}
use Rattle.model.specs.Limits.{limits}
use Rattle.model.specs.Frames.{list_of, log_of}
use Rattle.model.specs.Computation.{stations, event_count}
use Rattle.model.specs.Reading.{refused, read_log, read_list}
use Rattle.model.specs.Reply.{Reply, gives, refuses}
use Rattle.model.specs.Operations.{read_effect, read_op, write_effect, write_op}
use Rattle.model.specs.Promise.{Rewritten, Reread}
use Rattle.codec.proofs.Bytes.{Bytes}
use Rattle.codec.proofs.Suited.{suitable}
use Rattle.codec.proofs.Operations.{write_read, read_write}
use Rattle.cells.specs.Put.{put_of}
use Rattle.cells.proofs.Puts.{put_front}
use Rattle.frame.specs.declared.State.{State}
use Rattle.load.specs.Loading.{Accepts}
use Rattle.codec.specs.Entries.{entries}
use Rattle.entries.specs.Entries.{Allowed}

-- READ

-- All that is promised of Read: its reply, the output, and the way back.
abbrev pub ReadMet : List ℕ → List ℕ → Reply → List ℕ → Type 0
ReadMet log out reply out' = (reply ≡ (read_op limits log out).reply) × ((out' ≡ (read_op limits log out).output) × Rewritten limits log reply out')

read_met : (log out : List ℕ) (reply : Reply) (out' : List ℕ) → reply ≡ (read_op limits log out).reply → out' ≡ (read_op limits log out).output → ReadMet log out reply out'
read_met log out reply out' e o = (e, (o, λ s v q m g buf h. rw o (read_write suitable log out buf s v q m (sym e ∙ g) h)))

pub read_refused : (log out : List ℕ) {k n : ℕ} → read_log limits log ≡ refused k n → ReadMet log out (refuses k n) out
unfolding read_op read_effect
read_refused log out {k} {n} e = read_met log out (refuses k n) out (rw e) (rw e)

module _ {log : List ℕ} {s : State} {k : ℕ} {list t : List ℕ} (a : Accepts limits log s k list t) (out : List ℕ) where
  size : length list ≡ limits.list → k ≡ length (list_of a.reading.frames)
  size l = sym (length-take-le k list (omega (arith, a.short))) ∙ ap length a.listed

  -- b is what `put_list` hands back
  module _ (b : Bool) (is : b ≡ leb limits.list (length out)) (out' : List ℕ) (put : out' ≡ cond (leb limits.list (length out)) (put_of out 0 (take k list)) out) where
    pub read_no_room : not b ≡ true → ReadMet log out (refuses 12 0) out'
    unfolding read_op read_effect
    read_no_room n =
        let f : leb limits.list (length out) ≡ false = sym is ∙ not-true b n in
        let h : ltb (length out) limits.list ≡ true = lt-ltb (length out) limits.list (leb-false limits.list (length out) f) in
        read_met log out (refuses 12 0) out' (rw (a.is, h)) (put ∙ rw (f, a.is, h))

    pub read_done : not b ≡ false → length list ≡ limits.list → ReadMet log out (gives (s.stations ∷ s.events ∷ s.questions ∷ k ∷ [])) out'
    unfolding read_op read_effect
    read_done n l =
        let f : leb limits.list (length out) ≡ true = sym is ∙ not-false b n in
        let h : ltb (length out) limits.list ≡ false = le-ltb (length out) limits.list (leb-true limits.list (length out) f) in
        read_met log out (gives (s.stations ∷ s.events ∷ s.questions ∷ k ∷ [])) out'
        (rw (a.is, h, a.holds.stored.size, a.holds.events, a.holds.questions, size l))
        (put ∙ rw (f, put_front out (take k list), a.is, h, a.listed))

-- WRITE

-- All that is promised of Write: its reply, the output, and the way back.
abbrev pub WriteMet : List ℕ → List ℕ → Reply → List ℕ → Type 0
WriteMet list out reply out' = (reply ≡ (write_op limits list out).reply) × ((out' ≡ (write_op limits list out).output) × Reread limits list reply out')

write_met : (list out : List ℕ) → Bytes list → (reply : Reply) (out' : List ℕ) → reply ≡ (write_op limits list out).reply → out' ≡ (write_op limits list out).output → WriteMet list out reply out'
write_met list out b reply out' e o = (e, (o, λ m g buf h. let x = write_read suitable list out buf m b (sym e ∙ g) h in let r = x.0.computation in (stations r, event_count r, length x.0.questions, rw o x.2)))

pub write-refused : (list out : List ℕ) → Bytes list → {k n : ℕ} → read_list limits list ≡ refused k n → WriteMet list out (refuses k n) out
unfolding write_op write_effect
write-refused list out b {k} {n} e = write_met list out b (refuses k n) out (rw e) (rw e)

module _ {list : List ℕ} (a : Allowed limits list) (out : List ℕ) (b : Bytes list) where
  pub write_no_room : length out < limits.bytes → WriteMet list out (refuses 12 0) out
  unfolding write_op write_effect
  write_no_room h = write_met list out b (refuses 12 0) out (rw (a.is, lt-ltb (length out) limits.bytes h)) (rw (a.is, lt-ltb (length out) limits.bytes h))

  pub write_done : a.reading.frames ≡ entries list → limits.bytes ≤ length out → (out' : List ℕ) (n : ℕ) → n ≡ length (log_of (entries list)) → out' ≡ put_of out 0 (log_of (entries list))
      → WriteMet list out (gives (n ∷ [])) out'
  unfolding write_op write_effect
  write_done f h out' n e u =
      write_met list out b (gives (n ∷ [])) out'
      (rw (a.is, le-ltb (length out) limits.bytes h, f, e))
      (u ∙ put_front out (log_of (entries list)) ∙ rw (a.is, le-ltb (length out) limits.bytes h, f))
