-- What formulas mean at a cut: when one is true, and when it is false. Where a station is silent a formula may be neither.
use Rattle.std.specs.Prelude.{◌⊎◌, ◌≡◌, true}
use Rattle.model.specs.Formula.{Formula}
use Rattle.model.specs.Formula.Formula.{atom, not, and, or, possibly, always}
use Rattle.model.specs.Cut.{Cut, ◌⊑◌}
use Rattle.model.specs.Computation.{Computation, Consistent}
use Rattle.model.specs.Atom.{atom_is_true, atom_is_false}

-- P holds at some consistent cut that contains c.
abbrev pub Possibly : Computation → (Cut → Type 0) → Cut → Type 0
Possibly K P c = (d : Cut) × Consistent K d × (c ⊑ d) × P d

abbrev mutual
  -- The formula is true at the cut c.
  pub True : Computation → Formula → Cut → Type 0
  True K (atom a) c = atom_is_true K a c ≡ true
  True K (not f) c = False K f c
  True K (and f g) c = True K f c × True K g c
  True K (or f g) c = True K f c ⊎ True K g c
  True K (possibly f) c = Possibly K (λ d. True K f d) c
  True K (always f) c = Possibly K (λ d. False K f d) c → ⊥

  -- The formula is false at the cut c.
  pub False : Computation → Formula → Cut → Type 0
  False K (atom a) c = atom_is_false K a c ≡ true
  False K (not f) c = True K f c
  False K (and f g) c = False K f c ⊎ False K g c
  False K (or f g) c = False K f c × False K g c
  False K (possibly f) c = Possibly K (λ d. True K f d) c → ⊥
  False K (always f) c = Possibly K (λ d. False K f d) c
