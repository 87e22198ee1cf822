-- The round trip over the operations: Read after Write leaves the frame list, and Write after Read leaves the log.
use mathlib.Core.Path.{◌≡◌, refl, ap, ◌∙◌}
use mathlib.Core.Bool.{Bool, true, false, cond}
use mathlib.Core.List.{List, [], ◌∷◌}
use Prim.Native.Nat.{ℕ, ◌≤◌}
use native.Mathlib.Omega.{arith}
use lib.Dec.{ltb}
use lib.ListN.{length, take, drop}
use lib.Seq.{take_at}
use borrow.Author.Tests.{le-ltb}
use Rattle.model.specs.declared.Limits.{Limits}
use Rattle.model.specs.Frames.{log_of, list_of}
use Rattle.model.specs.Computation.{stations, event_count}
use Rattle.model.specs.Reading.{Reading, Result, refused, accepted, read_log, read_list}
use Rattle.model.specs.Reply.{gives, refuses}
use Rattle.model.specs.Operations.{Effect, refuse, write, read_effect, read_op, write_effect, write_op}
use Rattle.codec.specs.Limits.{Suitable}
use Rattle.codec.proofs.Bytes.{Bytes}
use Rattle.codec.proofs.RoundTrip.{write_then_read, read_then_write}

pub refuses-gives : {B : Type 0} {k n : ℕ} {values : List ℕ} → refuses k n ≡ gives values → B
refuses-gives e = let z : ◌≡◌ {A = ℕ} 0 1 = cc in absurd (omega arith)

-- Where values are given the output was long enough.
not-refused : (b : Bool) (out values : List ℕ) (w : Effect) → (cond b (refuse 12 0 out) w).reply ≡ gives values → cond b (refuse 12 0 out) w ≡ w
not-refused true out values w e = refuses-gives e
not-refused false out values w e = refl

-- What was written stands at the front.
front : (w : Effect) (values bytes out : List ℕ) (m : ℕ) → w ≡ write values bytes out → length bytes ≡ m → take m w.output ≡ bytes
front w values bytes out m e n = ap (λ (x : Effect). take m x.output) e ∙ take_at bytes (drop (length bytes) out) m n

-- The values that Read gives, with the list's length k.
abbrev pub counts : Reading → ℕ → List ℕ
counts r k = stations r.computation ∷ event_count r.computation ∷ length r.questions ∷ k ∷ []

-- What Read does with an accepted log, and Write with an accepted list.
abbrev listed : Reading → List ℕ → Effect
listed r out = write (counts r (length (list_of r.frames))) (list_of r.frames) out

abbrev logged : Reading → List ℕ → Effect
logged r out = write (length (log_of r.frames) ∷ []) (log_of r.frames) out

-- WHERE VALUES ARE GIVEN, THE INPUT WAS ACCEPTED

read_gives : (lim : Limits) (o : Result) (out values : List ℕ) → (read_effect lim o out).reply ≡ gives values → (r : Reading) × (o ≡ accepted r) × (read_effect lim o out ≡ listed r out)
unfolding read_effect
read_gives lim (refused k n) out values e = refuses-gives e
read_gives lim (accepted r) out values e = (r, refl, not-refused (ltb (length out) lim.list) out values (listed r out) e)

write-gives : (lim : Limits) (o : Result) (out values : List ℕ) → (write_effect lim o out).reply ≡ gives values → (r : Reading) × (o ≡ accepted r) × (write_effect lim o out ≡ logged r out)
unfolding write_effect
write-gives lim (refused k n) out values e = refuses-gives e
write-gives lim (accepted r) out values e = (r, refl, not-refused (ltb (length out) lim.bytes) out values (logged r out) e)

-- AN ACCEPTED INPUT AND A LONG OUTPUT

read_accepted : (lim : Limits) (log out : List ℕ) (r : Reading) → read_log lim log ≡ accepted r → lim.list ≤ length out → read_op lim log out ≡ listed r out
unfolding read_op read_effect
read_accepted lim log out r e h = rw (e, le-ltb (length out) lim.list h)

write-accepted : (lim : Limits) (l out : List ℕ) (r : Reading) → read_list lim l ≡ accepted r → lim.bytes ≤ length out → write_op lim l out ≡ logged r out
unfolding write_op write_effect
write-accepted lim l out r e h = rw (e, le-ltb (length out) lim.bytes h)

-- THE TWO WAYS ROUND

-- Reading the log that Write left gives the list's length and leaves the list.
pub write_read :
    {lim : Limits} → Suitable lim → (l out buf : List ℕ) (m : ℕ)
    → Bytes l
    → (write_op lim l out).reply ≡ gives (m ∷ [])
    → lim.list ≤ length buf
    → (r : Reading) × (read_list lim l ≡ accepted r) × (read_op lim (take m (write_op lim l out).output) buf ≡ write (counts r (length l)) l buf)
unfolding write_op
write_read {lim} fit l out buf m b g h =
    let x = write-gives lim (read_list lim l) out (m ∷ []) g in
    let r = x.0 in
    let t = write_then_read fit l r b x.1 in
    let n : length (log_of r.frames) ≡ m = cc (ap (λ (w : Effect). w.reply) x.2) in
    let k = front (write_effect lim (read_list lim l) out) _ _ out m x.2 n in
    (r, x.1, rw k (read_accepted lim (log_of r.frames) buf r t.0 h ∙ rw t.1))

-- Writing the list that Read left gives the log's length and leaves the log.
pub read_write :
    {lim : Limits} → Suitable lim → (log out buf : List ℕ) (s e q m : ℕ)
    → (read_op lim log out).reply ≡ gives (s ∷ e ∷ q ∷ m ∷ [])
    → lim.bytes ≤ length buf
    → write_op lim (take m (read_op lim log out).output) buf ≡ write (length log ∷ []) log buf
unfolding read_op
read_write {lim} fit log out buf s e q m g h =
    let x = read_gives lim (read_log lim log) out (s ∷ e ∷ q ∷ m ∷ []) g in
    let r = x.0 in
    let t = read_then_write fit log r x.1 in
    let n : length (list_of r.frames) ≡ m = cc (ap (λ (w : Effect). w.reply) x.2) in
    let k = front (read_effect lim (read_log lim log) out) _ _ out m x.2 n in
    rw k (write-accepted lim (list_of r.frames) buf r t.0 h ∙ rw t.1)
