-- Reading what was written gives the frame list again, and writing what was read gives the log again.
use mathlib.Core.Path.{◌≡◌, sym}
use mathlib.Core.List.{List, map}
use Prim.Native.Nat.{ℕ}
use native.Mathlib.Omega.{arith}
use lib.ListN.{length}
use borrow.Author.Tests.{le-leb}
use Rattle.model.specs.declared.Limits.{Limits}
use Rattle.model.specs.Bytes.{lines_of, frame, items}
use Rattle.model.specs.Frames.{log_of, list_of}
use Rattle.model.specs.Reading.{Reading, accepted, read_log, read_frames, read_list}
use Rattle.lattice.proofs.Lists.{all_map}
use Rattle.codec.specs.Limits.{Suitable}
use Rattle.codec.proofs.Bytes.{Bytes}
use Rattle.codec.proofs.Frames.{frames-list, list-frames}
use Rattle.codec.proofs.Logs.{items-log, log-items}
use Rattle.codec.proofs.Accepted.{accepted-log, accepted-list}
use Rattle.codec.proofs.Readings.{log-frames, log_are_frames, list_are_frames}
use Rattle.codec.proofs.Sizes.{short-list, short-log}

-- An accepted list is that of its frames, and their log is read the same.
pub write_then_read : {m : Limits} → Suitable m → (l : List ℕ) (r : Reading) → Bytes l → read_list m l ≡ accepted r → (read_log m (log_of r.frames) ≡ accepted r) × (list_of r.frames ≡ l)
unfolding read_log
write_then_read {m} fit l r b e =
    let x = accepted-list m l r e in
    let i = items-log r.frames (list_are_frames m l r e b) in
    let s = short-log fit r (map frame r.frames) x.1 in
    (rw (le-leb (length (log_of r.frames)) m.bytes (omega arith), i) x.1, (list-frames l r.frames x.0).0)

-- An accepted log is that of its frames, and their list is read the same.
pub read_then_write : {m : Limits} → Suitable m → (log : List ℕ) (r : Reading) → read_log m log ≡ accepted r → (read_list m (list_of r.frames) ≡ accepted r) × (log_of r.frames ≡ log)
unfolding read_list read_frames
read_then_write {m} fit log r e =
    let x = accepted-log m log r e in
    let i = log-frames m log r e in
    let s = short-list fit r (items (lines_of log)) x in
    let f = frames-list r.frames (all_map (λ f h. h.sized) (log_are_frames m log r e)) in
    (rw (le-leb (length (list_of r.frames)) m.list (omega arith), f, ← i) x, sym (log-items log r.frames i).0)
