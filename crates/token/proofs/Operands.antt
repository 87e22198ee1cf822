-- What the calls of the two rules ask and leave, token by token; q' is what stands behind the token.
use mathlib.Core.Path.{◌≡◌, sym, ap, subst, ◌∙◌}
use Prim.Native.Nat.{ℕ, suc, ◌+◌, ◌*◌, ◌≤◌, ◌<◌}
use native.Mathlib.Omega.{arith}
use native.Mathlib.Nat.{mul-le-mul_right, zero-mul, one-mul}
use mathlib.Core.List.{List, [], ◌++◌}
use mathlib.Core.Bool.{Bool, true, beq, not as flip}
use lib.ListN.{length, get_or, drop, replicate, length-drop, length-append}
use lib.Seq.{get_or-take}
use Rattle.model.specs.Atom.{Atom, atom_bytes, sound_atom, askable, raise_atom}
use Rattle.model.specs.Formula.{Formula, prefix, sound, weigh, tokens}
use Rattle.model.specs.Computation.{Computation, full}
use Rattle.model.specs.Rules.{Normal, workable}
use Rattle.model.specs.Size.{width, held, narrow}
use Rattle.model.specs.Structure.{Structure, build}
use Rattle.model.specs.Basis.{basis}
use Rattle.model.specs.Rounds.{rounds}
use Rattle.structure.specs.Layout.{standing}
use Rattle.lattice.proofs.Signed as signed
use Rattle.lattice.specs.Signed.{normal, joined_form, lifted_form}
use Rattle.lattice.proofs.Tests.{and-true}
use Rattle.lattice.proofs.Theorem.{basis_ascend}
use Rattle.lattice.proofs.Size.{basis-width, narrow_to, width_pos}
use Rattle.lattice.proofs.Held.{width-held}
use Rattle.steps.specs.Rows.{row_at}
use Rattle.steps.proofs.Parts.{row_zero}
use Rattle.steps.proofs.Built.{first-row, start-there}
use Rattle.structure.proofs.Standing.{length-standing}
use Rattle.token.specs.Signed.{two_token, modal_token, lifted_basis}
use Rattle.structure.specs.declared.Run.{Run}
use Rattle.structure.specs.declared.Shape.{Shape}
use Rattle.structure.specs.declared.Sets.{Sets}
use Rattle.structure.specs.Marks.{Marked, Within}
use Rattle.structure.proofs.Marks.{none-marked, none_within}
use Rattle.token.specs.Contract.{rounds_most, Ready, Made, Lifted}
use Rattle.structure.specs.Laid.{Given}
use Rattle.token.proofs.Tokens as tokens
use Rattle.token.proofs.Normals as normals

-- A COMPUTATION LAID OUT

module _ {s : Bool} {run : Run} {q : List ℕ} {mw mb : ℕ} (r : Ready s run q mw mb) where
  pub question-some : 0 < length q
  question-some = omega (arith, ap length r.reads, length-append (prefix r.formula) r.rest, tokens.prefix-some r.formula)

  pub starts-room : (run.x.e + 1) * run.x.n ≤ length run.starts.now
  starts-room = r.laid.0.starts_fit

  pub first-start : row_at run.x.n 0 run.starts.now ≡ replicate run.x.n 0
  first-start = first-row r.computation run.x run.starts.now r.laid.0

  pub first_cell : get_or run.starts.now 0 0 ≡ 255 → ⊥
  first_cell f =
      start-there r.computation run.x run.starts.now r.laid.0 0 (omega arith)
      (ap (λ (x : List ℕ). get_or x 0 0) (row_zero run.x.n run.starts.now) ∙ get_or-take run.x.n run.starts.now 0 0 run.x.some_station ∙ f)

  -- ATOMS

  pub ready_atom : (1 < get_or q 0 0 → get_or q 0 0 < 7 → ⊥) → (a : Atom) × (q ≡ atom_bytes a ++ r.rest) × (sound_atom run.x.n a ≡ true) × (askable s a ≡ true)
  unfolding sound
  ready_atom k =
      let h = tokens.at-atom q r.formula r.rest r.reads k in
      (h.0, h.2, sym (ap (sound run.x.n) h.1) ∙ r.known, sym (ap (λ (f : Formula). workable (normal s f)) h.1 ∙ signed.workable-atom s h.0) ∙ r.works)

  -- There is room for one structure, and for its bars.
  one-fits : (c m : ℕ) → held (normal s r.formula) * c ≤ m → c ≤ m
  one-fits c m h =
      let o : 1 ≤ held (normal s r.formula) = omega (arith, width-held (normal s r.formula), width_pos (normal s r.formula)) in
      omega (arith, mul-le-mul_right c o, one-mul c)

  pub atom-cells : (run.x.e + 1) * run.x.n ≤ mw
  atom-cells = one-fits ((run.x.e + 1) * run.x.n) mw r.cells_fit

  pub atom-bars : 16 * run.x.n ≤ mb
  atom-bars = one-fits (16 * run.x.n) mb r.bars_fit

  -- OPERANDS

  module _ {q' : List ℕ} (d : q' ≡ drop 1 q) where
    pub shorter : length q' < length q
    shorter = omega (arith, ap length d, length-drop 1 q, question-some)

    pub ready_not : get_or q 0 0 ≡ 2 → Ready (flip s) run q' mw mb
    unfolding sound weigh
    ready_not k =
        let h = tokens.behind-not q r.formula r.rest r.reads k in
        let m : normal s r.formula ≡ normal (flip s) h.0 = ap (normal s) h.1 ∙ signed.normal-not s h.0 in
        record {
          computation = r.computation;
          laid = r.laid;
          formula = h.0;
          rest = r.rest;
          reads = d ∙ h.2;
          known = sym (ap (sound run.x.n) h.1) ∙ r.known;
          slim = sym (ap narrow m) ∙ r.slim;
          works = sym (ap workable m) ∙ r.works;
          short = omega (arith, r.short, ap tokens h.1);
          cells_fit = subst (λ (p : Normal). held p * ((run.x.e + 1) * run.x.n) ≤ mw) m r.cells_fit;
          bars_fit = subst (λ (p : Normal). held p * (16 * run.x.n) ≤ mb) m r.bars_fit;
        }

    pub ready_modal : (b : Bool) → get_or q 0 0 ≡ modal_token b → Ready b run q' mw mb
    ready_modal b k =
        let h = tokens.behind-modal q r.formula r.rest r.reads b k in
        let m : normal s r.formula ≡ lifted_form (beq b s) (normal b h.0) = ap (normal s) h.1 ∙ signed.normal-modal s b h.0 in
        let g = normals.held-lifted (beq b s) (normal b h.0) in
        let x : held (lifted_form (beq b s) (normal b h.0)) * ((run.x.e + 1) * run.x.n) ≤ mw = subst (λ (p : Normal). held p * ((run.x.e + 1) * run.x.n) ≤ mw) m r.cells_fit in
        let y : held (lifted_form (beq b s) (normal b h.0)) * (16 * run.x.n) ≤ mb = subst (λ (p : Normal). held p * (16 * run.x.n) ≤ mb) m r.bars_fit in
        record {
          computation = r.computation;
          laid = r.laid;
          formula = h.0;
          rest = r.rest;
          reads = d ∙ h.2;
          known = sym (ap (sound run.x.n) h.1 ∙ signed.sound-modal run.x.n b h.0) ∙ r.known;
          slim = (normals.narrow-lifted (beq b s) (normal b h.0) (sym (ap narrow m) ∙ r.slim)).1;
          works = sym (ap (λ (f : Formula). workable (normal s f)) h.1 ∙ signed.workable-modal s b h.0) ∙ r.works;
          short = omega (arith, r.short, ap tokens h.1, signed.weigh-modal 1 1 1 b h.0);
          cells_fit = omega (arith, mul-le-mul_right ((run.x.e + 1) * run.x.n) g.0, x);
          bars_fit = omega (arith, mul-le-mul_right (16 * run.x.n) g.0, y);
        }

    pub ready_left : (b : Bool) → get_or q 0 0 ≡ two_token b → Ready s run q' mw mb
    ready_left b k =
        let h = tokens.behind-two q r.formula r.rest r.reads b k in
        let m : normal s r.formula ≡ joined_form (beq b s) (normal s h.0) (normal s h.1) = ap (normal s) h.2 ∙ signed.normal-two s b h.0 h.1 in
        let g = normals.held-joined (beq b s) (normal s h.0) (normal s h.1) in
        let x : held (joined_form (beq b s) (normal s h.0) (normal s h.1)) * ((run.x.e + 1) * run.x.n) ≤ mw = subst (λ (p : Normal). held p * ((run.x.e + 1) * run.x.n) ≤ mw) m r.cells_fit in
        let y : held (joined_form (beq b s) (normal s h.0) (normal s h.1)) * (16 * run.x.n) ≤ mb = subst (λ (p : Normal). held p * (16 * run.x.n) ≤ mb) m r.bars_fit in
        record {
          computation = r.computation;
          laid = r.laid;
          formula = h.0;
          rest = prefix h.1 ++ r.rest;
          reads = d ∙ h.3;
          known = ((and-true (sound run.x.n h.0) (sound run.x.n h.1)).0 (sym (ap (sound run.x.n) h.2 ∙ signed.sound-two run.x.n b h.0 h.1) ∙ r.known)).0;
          slim = (normals.narrow-joined (beq b s) (normal s h.0) (normal s h.1) (sym (ap narrow m) ∙ r.slim)).0;
          works = ((and-true (workable (normal s h.0)) (workable (normal s h.1))).0 (sym (ap (λ (f : Formula). workable (normal s f)) h.2 ∙ signed.workable-two s b h.0 h.1) ∙ r.works)).0;
          short = omega (arith, r.short, ap tokens h.2, signed.weigh-two 1 1 1 b h.0 h.1);
          cells_fit = omega (arith, mul-le-mul_right ((run.x.e + 1) * run.x.n) g.0, x);
          bars_fit = omega (arith, mul-le-mul_right (16 * run.x.n) g.0, y);
        }

-- WHAT A CALL LEAVES

-- The numbers of a basis made.
pub record Done (count used sum : ℕ) (p : Normal) (l : ℕ) : Type 0 where
  pub wide : count ≤ width p
  pub few : count ≤ 16
  pub short : used ≤ 192
  pub small : sum ≤ rounds_most
  pub within : used ≤ l

module _ {s : Bool} {run : Run} {q : List ℕ} {sets : Sets} {u v : ℕ} {w b : List ℕ} (d : Made s run q sets u v w b) where
  abbrev c : ℕ
  c = sets.count

  pub done_at : (K : Computation) → Given K run → (f : Formula) (rest : List ℕ) → q ≡ prefix f ++ rest → narrow (normal s f) ≡ true → tokens f ≤ 32
      → Done c u v (normal s f) (length q)
  done_at K laid f rest reads slim short =
      let k : c ≡ length (basis K (normal s f)) = sym (length-standing run.x.n (full K) c w b) ∙ ap length (d.stands K f rest laid reads) in
      let i : c ≤ width (normal s f) = omega (arith, basis-width K (normal s f)) in
      record {
        wide = i;
        few = omega (arith, narrow_to (normal s f) slim);
        short = omega (arith, d.passed f rest reads, tokens.prefix-short f);
        small = omega (arith, d.counted K f rest laid reads, normals.rounds-small K s f slim short (omega (arith, laid.0.counted, run.x.few_events)));
        within = omega (arith, d.passed f rest reads, ap length reads, length-append (prefix f) rest);
      }

  pub done : {mw mb : ℕ} (r : Ready s run q mw mb) → Done c u v (normal s r.formula) (length q)
  done r = done_at r.computation r.laid r.formula r.rest r.reads r.slim r.short

module _ {s : Bool} {run : Run} {q : List ℕ} where
  pub made_atom : {sets : Sets} {u : ℕ} {w b : List ℕ} → (1 < get_or q 0 0 → get_or q 0 0 < 7 → ⊥) → sets.count ≤ 1 → (0 < sets.count → get_or w 0 0 ≡ 255 → ⊥)
      → ((a : Atom) (rest : List ℕ) → q ≡ atom_bytes a ++ rest → u ≡ length (atom_bytes a))
      → ((K : Computation) (a : Atom) (rest : List ℕ) → Given K run → q ≡ atom_bytes a ++ rest → standing run.x.n (full K) sets.count w b ≡ build K (raise_atom K s a) [])
      → ((K : Computation) (a : Atom) (rest : List ℕ) → Given K run → q ≡ atom_bytes a ++ rest → Marked K (build K (raise_atom K s a) []) sets.stations) → Within run.x.n sets.stations
      → Made s run q sets u 0 w b
  unfolding prefix
  made_atom {sets} {u} {w} {b} k h first long stands marked within = record {
    passed = λ f rest r. let g = tokens.at-atom q f rest r k in rw g.1 (long g.0 rest g.2);
    stands = λ K f rest laid r. let g = tokens.at-atom q f rest r k in rw g.1 (stands K g.0 rest laid g.2 ∙ normals.basis-atom s K g.0);
    counted = λ K f rest laid r. let g = tokens.at-atom q f rest r k in rw g.1 (normals.rounds-atom s K g.0);
    least = λ i g f. first (omega arith) (ap (λ (x : ℕ). get_or w x 0) (sym (ap (λ (x : ℕ). x * ((run.x.e + 1) * run.x.n)) (let o : i ≡ 0 = omega arith in o) ∙ zero-mul ((run.x.e + 1) * run.x.n))) ∙ f);
    marked = λ K f rest laid r.
        let g = tokens.at-atom q f rest r k in
        subst (λ (L : List Structure). Marked K L sets.stations) (normals.basis-atom s K g.0 ∙ ap (λ (x : Formula). basis K (normal s x)) (sym g.1)) (marked K g.0 rest laid g.2);
    within = within;
  }

  module _ {q' : List ℕ} (d : q' ≡ drop 1 q) where
    pub made_not : {c : Sets} {u v : ℕ} {c₂ : Sets} {u₂ v₂ : ℕ} {w b : List ℕ} → get_or q 0 0 ≡ 2 → c₂ ≡ c → u₂ ≡ u + 1 → v₂ ≡ v
        → Made (flip s) run q' c u v w b → Made s run q c₂ u₂ v₂ w b
    unfolding prefix
    made_not {c} k ec eu ev m = rw (ec, eu, ev) (record {
      passed = λ f rest r. let h = tokens.behind-not q f rest r k in rw h.1 (omega (arith, m.passed h.0 rest (d ∙ h.2)));
      stands = λ K f rest laid r. let h = tokens.behind-not q f rest r k in m.stands K h.0 rest laid (d ∙ h.2) ∙ ap (basis K) (sym (ap (normal s) h.1 ∙ signed.normal-not s h.0));
      counted = λ K f rest laid r. let h = tokens.behind-not q f rest r k in m.counted K h.0 rest laid (d ∙ h.2) ∙ ap (rounds K) (sym (ap (normal s) h.1 ∙ signed.normal-not s h.0));
      least = m.least;
      marked = λ K f rest laid r.
          let h = tokens.behind-not q f rest r k in
          subst (λ (L : List Structure). Marked K L c.stations) (ap (basis K) (sym (ap (normal s) h.1 ∙ signed.normal-not s h.0))) (m.marked K h.0 rest laid (d ∙ h.2));
      within = m.within;
    })

    pub made_modal : (t : Bool) {c : Sets} {u v : ℕ} {c₂ : Sets} {u₂ v₂ : ℕ} {w b w₂ b₂ : List ℕ} → get_or q 0 0 ≡ modal_token t → u₂ ≡ u + 1 → v₂ ≡ v
        → Made t run q' c u v w b → Lifted (beq t s) run.x c.count run.starts.now w w₂ b b₂ c₂ → Made s run q c₂ u₂ v₂ w₂ b₂
    made_modal t k eu ev m l = rw (eu, ev) (record {
      passed = λ f rest r.
          let h = tokens.behind-modal q f rest r t k in
          let g : length (prefix f) ≡ suc (length (prefix h.0)) = ap (λ (x : Formula). length (prefix x)) h.1 ∙ ap length (tokens.prefix-modal t h.0) in
          omega (arith, m.passed h.0 rest (d ∙ h.2));
      stands = λ K f rest laid r.
          let h = tokens.behind-modal q f rest r t k in
          let e = m.stands K h.0 rest laid (d ∙ h.2) in
          l.stands K laid.0 (basis_ascend K laid.0.valid (normal t h.0) _ e) ∙ ap (lifted_basis (beq t s) K) e ∙ sym (normals.basis-lifted (beq t s) K (normal t h.0))
          ∙ ap (basis K) (sym (ap (normal s) h.1 ∙ signed.normal-modal s t h.0));
      counted = λ K f rest laid r.
          let h = tokens.behind-modal q f rest r t k in
          m.counted K h.0 rest laid (d ∙ h.2) ∙ sym (normals.rounds-lifted (beq t s) K (normal t h.0)) ∙ ap (rounds K) (sym (ap (normal s) h.1 ∙ signed.normal-modal s t h.0));
      least = l.least;
      marked = λ K f rest laid r. subst (Marked K (basis K (normal s f))) (sym l.unmarked) (none-marked K (basis K (normal s f)) 16);
      within = subst (Within run.x.n) (sym l.unmarked) (none_within run.x.n 16);
    })

-- What a step for possibly or not possibly is given.
pub record LiftRoom (shape : Shape) (c u : ℕ) (starts w b : List ℕ) : Type 0 where
  pub few : c ≤ 16
  pub cells_fit : c * ((shape.e + 1) * shape.n) ≤ length w
  pub bars_fit : c * (16 * shape.n) ≤ length b
  pub one-cells : (shape.e + 1) * shape.n ≤ length w
  pub one-bars : 16 * shape.n ≤ length b
  pub short : u ≤ 192

pub lift_room : {s t : Bool} {run : Run} {q q' : List ℕ} {mw mb : ℕ} (r : Ready s run q mw mb) (d : q' ≡ drop 1 q)
    → get_or q 0 0 ≡ modal_token t → {sets : Sets} {u v : ℕ} {w b : List ℕ} → length w ≡ mw → length b ≡ mb → Made t run q' sets u v w b → LiftRoom run.x sets.count u run.starts.now w b
lift_room {t = t} {run = run} r d k {sets = sets} lw lb m =
    let r' = ready_modal r d t k in
    let z = done m r' in
    let h : sets.count ≤ held (normal t r'.formula) = omega (arith, z.wide, width-held (normal t r'.formula)) in
    record {
      few = z.few;
      cells_fit = omega (arith, mul-le-mul_right ((run.x.e + 1) * run.x.n) h, r'.cells_fit);
      bars_fit = omega (arith, mul-le-mul_right (16 * run.x.n) h, r'.bars_fit);
      one-cells = omega (arith, atom-cells r');
      one-bars = omega (arith, atom-bars r');
      short = z.short;
    }
