-- Two bases joined are what the two operands come to.
use Rattle.std.specs.Prelude.{None}
use mathlib.Core.Path.{◌≡◌, refl, sym, ap, subst, ◌∙◌}
use Prim.Native.Nat.{ℕ, ◌+◌, ◌-◌, ◌*◌, ◌≤◌}
use native.Mathlib.Omega.{arith}
use mathlib.Core.List.{List, ◌++◌}
use mathlib.Core.Bool.{Bool, true, false}
use lib.ListN.{length, drop, replicate}
use lib.Seq.{paste}
use Rattle.model.specs.Computation.{full}
use Rattle.structure.specs.Layout.{standing, bar_cells}
use Rattle.structure.proofs.Places.{cells_are}
use Rattle.structure.proofs.Standing.{standing-add}
use Rattle.modal.specs.Post.{Present}
use Rattle.token.specs.Signed.{joined_basis}
use Rattle.structure.specs.declared.Shape.{Shape}
use Rattle.structure.specs.declared.Sets.{Sets}
use Rattle.structure.specs.Marks.{Marked, Within}
use Rattle.structure.proofs.Marks.{none-marked, none_within, both-marked, both-within}
use Rattle.joining.specs.Combined.{Combined}
use Rattle.pairs.specs.Post.{Paired}

module _ (shape : Shape) (l r : Sets) (u v : ℕ) (starts w w₂ b b₂ : List ℕ) (sets : Sets) (sum : ℕ) (t : Bool) where
  -- The pairs: none is marked.
  pub combined_pairs : (c j : ℕ) → t ≡ true → sets.count ≡ c → sets.stations ≡ replicate 16 None → sum ≡ u + v + j → Paired shape l r starts w w₂ b b₂ c j → Combined t shape l r u v starts w w₂ b b₂ sets sum
  combined_pairs c j f g z e d = rw f (record {
    joined_rounds = j;
    joined = record {
      stands = λ K laid a. ap (λ (x : ℕ). standing shape.n (full K) x w₂ b₂) g ∙ d.stands K laid a;
      summed = d.summed;
      least = subst (λ (x : ℕ). Present ((shape.e + 1) * shape.n) x w₂) (sym g) d.least;
      marked = λ K L R h p q. subst (Marked K (joined_basis true K L R)) (sym z) (none-marked K (joined_basis true K L R) 16);
      within = subst (Within shape.n) (sym z) (none_within shape.n 16);
    };
    summed = e;
  })

-- One basis behind the other: nothing is moved.
pub combined_all : (shape : Shape) (l r : Sets) (u v : ℕ) (starts w b : List ℕ) (sets : Sets) (sum : ℕ) (t : Bool) → t ≡ false → sets.count ≡ l.count + r.count → sum ≡ u + v
    → Present ((shape.e + 1) * shape.n) (l.count + r.count) w → length l.stations ≡ 16 → length r.stations ≡ 16 → l.count ≤ 16 → Within shape.n l.stations × Within shape.n r.stations
    → sets.stations ≡ paste l.stations l.count r.stations (16 - l.count) → Combined t shape l r u v starts w w b b sets sum
combined_all shape l r u v starts w b sets sum t f g h least ll lr few within e = rw f (record {
  joined_rounds = 0;
  joined = record {
    stands = λ K laid a.
        let n : ℕ = shape.n in
        let x = cells_are n shape.e (full K) laid.counted in
        ap (λ (y : ℕ). standing n (full K) y w b) g ∙ standing-add n (full K) l.count r.count w b
        ∙ ap (λ (y : ℕ). standing n (full K) l.count w b ++ standing n (full K) r.count (drop (l.count * y) w) (drop (l.count * bar_cells n) b)) x;
    summed = λ K laid a. refl;
    least = subst (λ (x : ℕ). Present ((shape.e + 1) * shape.n) x w) (sym g) least;
    marked = λ K L R n p q. rw e (both-marked l.stations r.stations l.count few ll lr K L R n p q);
    within = rw e (both-within l.stations r.stations l.count few ll lr shape.n within.0 within.1);
  };
  summed = omega arith;
})
