-- The merged log part by part, for a program that writes one part behind the other: each part's lines, and what a walk over a side's frames meets.
use mathlib.Core.Path.{◌≡◌, refl, sym, ap, ◌∙◌}
use mathlib.Core.Logic.{◌≢◌}
use Prim.Native.Nat.{ℕ, ◌≤◌}
use native.Mathlib.Omega.{arith}
use mathlib.Core.List.{List, [], ◌∷◌, ◌++◌, map, append_assoc}
use lib.ListN.{length, drop}
use borrow.Author.Tests.{eq-eqb, ne_eqb}
use Rattle.model.specs.Bytes.{line}
use Rattle.model.specs.Frames.{log_of}
use Rattle.model.specs.Computation.{stations}
use Rattle.model.specs.Reading.{Reading}
use Rattle.model.specs.Merge.{of_kind, carries, header_frame, event_frames, message_frames, merged_frames}
use Rattle.model.specs.Operations.{merged_log}
use Rattle.codec.proofs.QuestionFrames.{kind_of}

pub log-append : (fs gs : List (List ℕ)) → log_of (fs ++ gs) ≡ log_of fs ++ log_of gs
unfolding log_of
log-append [] gs = refl
log-append (f ∷ fs) gs = ap (λ (l : List ℕ). line f ++ l) (log-append fs gs) ∙ sym (append_assoc (line f) (log_of fs) (log_of gs))

-- The header, the events of both, the messages of both, the questions of the first.
pub merged-parts : (r s : Reading) → merged_log r s ≡ line (header_frame r s)
    ++ (log_of (event_frames (carries r s) 0 (stations s.computation) r)
    ++ (log_of (event_frames (carries r s) (stations r.computation) 0 s)
    ++ (log_of (message_frames 0 r)
    ++ (log_of (message_frames (stations r.computation) s)
    ++ log_of (map (λ f. 0x30 ∷ f) (of_kind 0x30 r.frames))))))
unfolding merged_frames log_of
merged-parts r s =
    let E = event_frames (carries r s) 0 (stations s.computation) r in
    let F = event_frames (carries r s) (stations r.computation) 0 s in
    let M = message_frames 0 r in
    let N = message_frames (stations r.computation) s in
    let Q = map (λ (f : List ℕ). 0x30 ∷ f) (of_kind 0x30 r.frames) in
    ap (λ (l : List ℕ). line (header_frame r s) ++ l) (
    log-append E (F ++ (M ++ (N ++ Q)))
    ∙ ap (λ (l : List ℕ). log_of E ++ l) (log-append F (M ++ (N ++ Q))
    ∙ ap (λ (l : List ℕ). log_of F ++ l) (log-append M (N ++ Q)
    ∙ ap (λ (l : List ℕ). log_of M ++ l) (log-append N Q)))
    )

-- A frame of the kind, and one of another.
pub kind-here : (k : ℕ) (f : List ℕ) (fs : List (List ℕ)) → 1 ≤ length f → kind_of f ≡ k → of_kind k (f ∷ fs) ≡ drop 1 f ∷ of_kind k fs
unfolding of_kind
kind-here k [] fs h e = absurd (omega arith)
kind-here k (x ∷ f) fs h e = rw (eq-eqb x k e) refl

pub kind-past : (k : ℕ) (f : List ℕ) (fs : List (List ℕ)) → 1 ≤ length f → kind_of f ≢ k → of_kind k (f ∷ fs) ≡ of_kind k fs
unfolding of_kind
kind-past k [] fs h e = absurd (omega arith)
kind-past k (x ∷ f) fs h e = rw (ne_eqb x k e) refl
