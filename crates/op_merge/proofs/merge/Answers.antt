-- What loading each log comes to decides, and then the tests of both together, in their order. Assumes nothing.
use mathlib.Core.Path.{◌≡◌, sym, ◌∙◌}
use mathlib.Core.Bool.{false}
use mathlib.Core.List.{List}
use Prim.Native.Nat.{ℕ}
use borrow.Author.Rules.{rules}
use Rattle.std.proofs.lemmas.Bool.{ltb-true}
use Rattle.std.proofs.lemmas.Result.{err_from_is_err_and}
use Rattle.model.specs.Limits.{limits}
use Rattle.frame.specs.declared.State.{State}
use Rattle.load.specs.Loading.{Accepts}
use Rattle.op_merge.specs.Opened.{Within}
use Rattle.op_merge.proofs.Operations.{accepts_opened, not_wide, few, many_together, both_wide, both_many, both_full, both_fits, both_done, met_first_refused, met_second_refused, met}
use Rattle.op_merge.proofs.merge.Goals as goal
use Rattle.op_merge.proofs.merge.Goals.{In_ok-one, In_ok-two}

-- The first log is accepted, and the second.
first : (c : In_ok-one) → Accepts limits c.args.first.now c.in_ok-one.one.state c.in_ok-one.one.length c.load.new.list c.load.new.store
first c = rw c.limits.ensures at c.in_ok-one.ensures.loads

second : (c : In_ok-two) → Accepts limits c.args.second.now c.in_ok-two.two.state c.in_ok-two.two.length c.load-2.new.list c.load-2.new.store
second c = rw c.limits-2.ensures at c.in_ok-two.ensures.loads

pub returns-in_err-one : goal.returns-in_err-one
returns-in_err-one c = let r = err_from_is_err_and c.from_residual.result c.from_residual.ensures.1 in
    let m = met_first_refused c.args.first.now c.args.second.now c.args.out.now (rw c.limits.ensures at c.in_err-one.ensures.loads) in
    rw (r.1, r.2) (record { result_value = m.0; out_after = m.1.0; merges = m.1.1 })

pub returns-in_err-two : goal.returns-in_err-two
returns-in_err-two c = let r = err_from_is_err_and c.from_residual-in_err-two.result c.from_residual-in_err-two.ensures.1 in
    let a = first (goal.at.returns-in_err-two c).In_ok-one in
    let m = met_second_refused c.args.first.now c.args.second.now c.args.out.now a.reading a.is (rw c.limits-2.ensures at c.in_err-two.ensures.loads) in
    rw (r.1, r.2) (record { result_value = m.0; out_after = m.1.0; merges = m.1.1 })

-- The numbers of both keep the limits.
within : {log : List ℕ} {s : State} {k : ℕ} {list t : List ℕ} → Accepts limits log s k list t → Within s
within a = let b = a.bounded in (b.few_stations, b.few_events, b.few_messages)

pub too_wide-wide-requires : goal.too_wide-wide-requires
too_wide-wide-requires c = let p = goal.at.too_wide-wide-requires c in (within (first p.In_ok-one), within (second p.In_ok-two))

pub too_many-many-requires : goal.too_many-many-requires
too_many-many-requires c = let p = goal.at.too_many-many-requires c in (within (first p.In_ok-one), within (second p.In_ok-two))

-- That the logs are not too wide together is sought and not named: so it is looked for where the tests stand in another order, too.
pub returns-then-many : goal.returns-then-many
returns-then-many c =
    let a = first (goal.at.returns-then-many c).In_ok-one in
    let b = second (goal.at.returns-then-many c).In_ok-two in
    let x = accepts_opened a in
    let y = accepts_opened b in
    let narrow : c.too_wide-wide.result ≡ false = search rules in
    let m = met c.args.first.now c.args.second.now c.args.out.now a.reading b.reading a.is b.is
    (both_many x y c.args.out.now (not_wide c.too_wide-wide.ensures narrow) (many_together x y c.args.out.now c.too_many-many.ensures c.if-many.true)) in
    rw c.into-then-many.ensures (record { result_value = m.0; out_after = m.1.0; merges = m.1.1 })

pub returns-then-wide : goal.returns-then-wide
returns-then-wide c =
    let a = first (goal.at.returns-then-wide c).In_ok-one in
    let b = second (goal.at.returns-then-wide c).In_ok-two in
    let m = met c.args.first.now c.args.second.now c.args.out.now a.reading b.reading a.is b.is (both_wide (accepts_opened a) (accepts_opened b) c.args.out.now (ltb-true _ _ (sym c.too_wide-wide.ensures ∙ c.if-wide.true))) in
    rw c.into.ensures (record { result_value = m.0; out_after = m.1.0; merges = m.1.1 })

pub returns-then-out-lt-BYTES : goal.returns-then-out-lt-BYTES
returns-then-out-lt-BYTES c =
    let a = first (goal.at.returns-then-out-lt-BYTES c).In_ok-one in
    let b = second (goal.at.returns-then-out-lt-BYTES c).In_ok-two in
    let f = few c.too_many-many.ensures c.if-many.false in
    let m = met c.args.first.now c.args.second.now c.args.out.now a.reading b.reading a.is b.is
    (both_full (accepts_opened a) (accepts_opened b) c.args.out.now (not_wide c.too_wide-wide.ensures c.if-wide.false) f.0 f.1 c.if-out-lt-BYTES.true) in
    rw c.into-then-out-lt-BYTES.ensures (record { result_value = m.0; out_after = m.1.0; merges = m.1.1 })

pub put_frames-requires-clause-fitting : goal.put_frames-requires-clause-fitting
put_frames-requires-clause-fitting c =
    let a = first (goal.at.put_frames-requires-clause-fitting c).In_ok-one in
    let b = second (goal.at.put_frames-requires-clause-fitting c).In_ok-two in
    let f = few c.too_many-many.ensures c.if-many.false in
    both_fits (accepts_opened a) (accepts_opened b) c.args.out.now (not_wide c.too_wide-wide.ensures c.if-wide.false) f.0 f.1

pub returns : goal.returns
returns c =
    let a = first (goal.at.returns c).In_ok-one in
    let b = second (goal.at.returns c).In_ok-two in
    let x = accepts_opened a in
    let y = accepts_opened b in
    let f = few c.too_many-many.ensures c.if-many.false in
    let m = met c.args.first.now c.args.second.now c.args.out.now a.reading b.reading a.is b.is
    (both_done x y c.args.out.now (not_wide c.too_wide-wide.ensures c.if-wide.false) f.0 f.1 c.if-out-lt-BYTES.false (c.put_frames.ensures a.reading b.reading x y)) in
    record { result_value = m.0; out_after = m.1.0; merges = m.1.1 }
