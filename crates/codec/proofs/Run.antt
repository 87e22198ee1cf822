-- Frames let in one after another.
use mathlib.Core.Path.{◌≡◌, refl}
use Prim.Native.Nat.{ℕ, suc}
use mathlib.Core.Bool.{true}
use mathlib.Core.List.{List, [], ◌∷◌, ◌++◌, map}
use Rattle.model.specs.declared.Limits.{Limits}
use Rattle.model.specs.Bytes.{frame}
use Rattle.model.specs.Reading.{Reading, begun, accepted, finish, proceed, read_items}
use Rattle.codec.proofs.Accepted.{Admission, admission_go}

pub data Run (m : Limits) : Reading → List (List ℕ) → Reading → Type 0 where
  run_none : {r : Reading} → Run m r [] r
  run_more : {r s t : Reading} {f : List ℕ} {fs : List (List ℕ)} → Admission m r f s → Run m s fs t → Run m r (f ∷ fs) t

pub run-append : {m : Limits} {r s t : Reading} {fs gs : List (List ℕ)} → Run m r fs s → Run m s gs t → Run m r (fs ++ gs) t
run-append run_none q = q
run-append (run_more a p) q = run_more a (run-append p q)

-- What is let in is read.
pub run_read : {m : Limits} {r s : Reading} {fs : List (List ℕ)} (n : ℕ) → Run m r fs s → begun s ≡ true → read_items m n r (map frame fs) ≡ accepted s
unfolding read_items proceed finish
run_read n run_none b = rw b refl
run_read n (run_more a p) b = rw (admission_go a) (run_read (suc n) p b)
