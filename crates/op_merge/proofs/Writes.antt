-- Lists put one behind the other at the front of an output, until the whole stands there. Assumes nothing.
use mathlib.Core.Path.{◌≡◌, refl, sym, ap, ◌∙◌}
use mathlib.Core.List.{List, [], ◌++◌, append_assoc, append-nil}
use Prim.Native.Nat.{ℕ, ◌+◌, ◌≤◌}
use native.Mathlib.Omega.{arith}
use lib.ListN.{length, length-append}
use Rattle.cells.specs.Put.{put_of}
use Rattle.cells.proofs.Puts.{length-put, put-put}

-- Of the whole, w is put and the rest is left.
pub record Wrote (whole w rest out₀ out : List ℕ) (end : ℕ) : Type 0 where
  pub split : whole ≡ w ++ rest
  pub is : out ≡ put_of out₀ 0 w
  pub ends : end ≡ length w
  pub room : length whole ≤ length out₀

pub wrote_first : (w rest out₀ out : List ℕ) (end : ℕ) → length (w ++ rest) ≤ length out₀ → out ≡ put_of out₀ 0 w → end ≡ length w → Wrote (w ++ rest) w rest out₀ out end
wrote_first w rest out₀ out end r u e = record { split = refl; is = u; ends = e; room = r }

module _ {whole w rest out₀ out : List ℕ} {end : ℕ} (h : Wrote whole w rest out₀ out end) where
  within : 0 + length w ≤ length out₀
  within = omega (arith, h.room, ap length h.split, length-append w rest)

  pub wrote_length : length out ≡ length out₀
  wrote_length = ap length h.is ∙ length-put out₀ w 0 within

  -- p is next, and then the others.
  module _ (p others : List ℕ) (next : rest ≡ p ++ others) where
    pub wrote_room : end + length p ≤ length out
    wrote_room = omega (arith, h.room, h.ends, wrote_length, ap length h.split, length-append w rest, ap length next, length-append p others)

    pub wrote_more : (out' : List ℕ) (end' : ℕ) → out' ≡ put_of out end p → end' ≡ end + length p → Wrote whole (w ++ p) others out₀ out' end'
    wrote_more out' end' u e =
        let z : end ≡ 0 + length w = omega (arith, h.ends) in
        record {
          split = h.split ∙ ap (λ (l : List ℕ). w ++ l) next ∙ sym (append_assoc w p others);
          is = u ∙ rw (h.is, z) (put-put out₀ w p 0 (omega arith));
          ends = omega (arith, e, h.ends, length-append w p);
          room = h.room;
        }

-- Nothing is left.
pub wrote_all : {whole w out₀ out : List ℕ} {end : ℕ} → Wrote whole w [] out₀ out end → (end ≡ length whole) × (out ≡ put_of out₀ 0 whole)
wrote_all {whole} {w} {out₀} h =
    let z : whole ≡ w = h.split ∙ append-nil w in
    (h.ends ∙ ap length (sym z), h.is ∙ ap (put_of out₀ 0) (sym z))
