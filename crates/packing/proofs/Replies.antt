-- The replies that occur are small, so that their numbers tell them apart.
use mathlib.Core.Path.{◌≡◌, refl, sym, ap, ◌∙◌}
use mathlib.Core.Bool.{Bool, true, false, cond}
use mathlib.Core.List.{List, [], ◌∷◌}
use Prim.Native.Nat.{ℕ, ◌/◌, ◌%◌, ◌^◌, ◌≤◌, ◌<◌}
use native.Mathlib.Omega.{arith}
use native.Mathlib.Nat.{mul_comm, mul-le-mul_right, suc-mul}
use lib.ListN.{length}
use lib.Dec.{ltb}
use lib.Pow.{pow-add, high, low}
use Rattle.model.specs.Limits.{limits, line_size}
use Rattle.model.specs.Lists.{sum, total}
use Rattle.model.specs.Cut.{Cut}
use Rattle.model.specs.Computation.{is_consistent}
use Rattle.model.specs.Answer.{true_at, yes_no}
use Rattle.model.specs.Reading.{Reading, Result, refused, accepted, read_log, read_list}
use Rattle.std.specs.Prelude.{Result as Outcome, Ok, Err}
use Rattle.model.specs.declared.Refusal.{Refusal}
use Rattle.model.specs.declared.Fault.{Fault}
use Rattle.model.specs.declared.Fault.TheVariants.{LongLog, LineForm, CheckByte, Kind, Header, Event, Clock, Formula, Size, NoQuestion, Workspace, Output, Cut as CutFault, FrameList, Message, Unworkable, TooWide, TooMany}
use Rattle.model.specs.Reply.{Reply, gives, refuses, number, write_reply, line_reply}
use Rattle.model.specs.Operations.{Effect, refuse, write, read_effect, read_op, Opening, shut, poses, opening, cramped, forecast_reply_to, forecast_op, line_effect, answer_effect, answer_op, holds_reply_to, holds_op, write_effect, write_op, merged_log, too_wide_together, too_many_together, merge_effect, merge_op}
use Rattle.codec.proofs.Accepted.{accepted-log, accepted-list}
use Rattle.codec.proofs.Suited.{suitable}
use Rattle.codec.proofs.Sizes.{short, short-list, short-log}
use Rattle.codec.proofs.Refusals.{log-named, list-named, opening-named}
use Rattle.codec.proofs.MergeLog.{merge_short}
use Rattle.codec.proofs.Demands.{opened-line-fits}
use Rattle.codec.proofs.Forecast.{opened-low}
use Rattle.packing.specs.Packed.{pack, packed, read_widths, write_widths, forecast_widths, answer_widths, holds_widths, Fits, Fair}

-- THE OPERATIONS

either : (widths : List ℕ) (b : Bool) (x y : Effect) → Fair widths x.reply → Fair widths y.reply → Fair widths (cond b x y).reply
either widths true x y p q = p
either widths false x y p q = q

pub read_fair : (log out : List ℕ) → Fair read_widths (read_op limits log out).reply
unfolding read_op read_effect
read_fair log out = by (read_log limits log) refl
  where
    by : (o : Result) → read_log limits log ≡ o → Fair read_widths (read_effect limits o out).reply
    by (refused k n) e = log-named limits log k n e
    by (accepted r) e =
        let a = accepted-log limits log r e in
        let s = short suitable r _ a in
        let l = short-list suitable r _ a in
        either read_widths (ltb (length out) limits.list) _ _ (omega arith, omega arith)
        (omega (arith, s.stations_are_few), (omega (arith, s.events_are_few), (omega (arith, s.questions_are_few), (omega arith, tt))))

pub write_fair : (list out : List ℕ) → Fair write_widths (write_op limits list out).reply
unfolding write_op write_effect
write_fair list out = by (read_list limits list) refl
  where
    by : (o : Result) → read_list limits list ≡ o → Fair write_widths (write_effect limits o out).reply
    by (refused k n) e = let h = list-named limits list k n e in (h.0, omega (arith, h.1))
    by (accepted r) e =
        let l = short-log suitable r _ (accepted-list limits list r e).1 in
        either write_widths (ltb (length out) limits.bytes) _ _ (omega arith, omega arith) (omega arith, tt)

pub merge_fair : (log second out : List ℕ) → Fair write_widths (merge_op limits log second out).reply
unfolding merge_op merge_effect
merge_fair log second out = by (read_log limits log) refl (read_log limits second) refl
  where
    low : (a b : Bool) (r s : Reading) → (a ≡ false → b ≡ false → length (merged_log r s) ≤ limits.bytes)
        → Fair write_widths (cond a (refuse 17 0 out) (cond b (refuse 18 0 out) (cond (ltb (length out) limits.bytes) (refuse 12 0 out) (write (length (merged_log r s) ∷ []) (merged_log r s) out)))).reply
    low true b r s h = (omega arith, omega arith)
    low false true r s h = (omega arith, omega arith)
    low false false r s h = let l = h refl refl in either write_widths (ltb (length out) limits.bytes) (refuse 12 0 out) (write (length (merged_log r s) ∷ []) (merged_log r s) out) (omega arith, omega arith) (omega arith, tt)

    by : (x : Result) → read_log limits log ≡ x → (y : Result) → read_log limits second ≡ y → Fair write_widths (merge_effect limits x y out).reply
    by (refused k n) e y e' = log-named limits log k n e
    by (accepted r) e (refused k n) e' = log-named limits second k n e'
    by (accepted r) e (accepted s) e' = low (too_wide_together limits r s) (too_many_together limits r s) r s (merge_short suitable log second r s e e')

pub forecast_fair : (log : List ℕ) (q : ℕ) → Fair forecast_widths (forecast_op limits log q)
unfolding forecast_op forecast_reply_to
forecast_fair log q = by (opening limits log q) refl
  where
    by : (o : Opening) → opening limits log q ≡ o → Fair forecast_widths (forecast_reply_to o)
    by (shut k n) e = opening-named limits log q k n e
    by (poses K f) e =
        let l = opened-low suitable log q K f e in
        (omega (arith, l.width), (omega (arith, l.bars), (omega (arith, l.held), (omega (arith, l.cells), (omega (arith, l.ceiling), tt)))))

pub answer_fair : (log : List ℕ) (q ws bs : ℕ) (out : List ℕ) → Fair answer_widths (answer_op limits log q ws bs out).reply
unfolding answer_op answer_effect line_effect
answer_fair log q ws bs out = by (opening limits log q) refl
  where
    by : (o : Opening) → opening limits log q ≡ o → Fair answer_widths (answer_effect o ws bs out).reply
    by (shut k n) e = opening-named limits log q k n e
    by (poses K f) e =
        let l = opened-line-fits suitable log q K f e in
        either answer_widths (cramped K f ws bs) _ _ (omega arith, omega arith)
        (either answer_widths (ltb (length out) line_size) _ _ (omega arith, omega arith) (omega arith, tt))

pub holds_fair : (log : List ℕ) (q : ℕ) (c : Cut) (ws bs : ℕ) → Fair holds_widths (holds_op limits log q c ws bs)
unfolding holds_op holds_reply_to
holds_fair log q c ws bs = by (opening limits log q) refl
  where
    told : (a b d : Bool) → Fair holds_widths (cond a (cond b (refuses 11 0) (gives (yes_no d ∷ []))) (refuses 13 0))
    told true true d = (omega arith, omega arith)
    told true false true = (omega arith, tt)
    told true false false = (omega arith, tt)
    told false b d = (omega arith, omega arith)

    by : (o : Opening) → opening limits log q ≡ o → Fair holds_widths (holds_reply_to o c ws bs)
    by (shut k n) e = opening-named limits log q k n e
    by (poses K f) e = told (is_consistent K c) (cramped K f ws bs) (true_at K f c)

-- WHAT THE CODE PACKS

-- A fault's number fits five bits.
pub few_faults : (x : Fault) → number x < 32
few_faults LongLog = omega arith
few_faults LineForm = omega arith
few_faults CheckByte = omega arith
few_faults Kind = omega arith
few_faults Header = omega arith
few_faults Event = omega arith
few_faults Clock = omega arith
few_faults Formula = omega arith
few_faults Size = omega arith
few_faults NoQuestion = omega arith
few_faults Workspace = omega arith
few_faults Output = omega arith
few_faults CutFault = omega arith
few_faults FrameList = omega arith
few_faults Message = omega arith
few_faults Unworkable = omega arith
few_faults TooWide = omega arith
few_faults TooMany = omega arith

-- Answer's reply is packed as Write's is: both have one length.
pub line_as_written : (r : Outcome ℕ Refusal) → line_reply r ≡ write_reply r
line_as_written (Ok n) = refl
line_as_written (Err r) = refl

-- TOLD APART

-- Values that fit stay below what their bits can say.
pack-low : (widths values : List ℕ) → Fits widths values → pack widths values < 2 ^ total widths
unfolding pack sum
pack-low (w ∷ widths) [] p = elim p [ ]
pack-low [] (v ∷ values) p = elim p [ ]
pack-low [] [] p = omega arith
pack-low (w ∷ widths) (v ∷ values) (p, q) =
    let l = pack-low widths values q in
    rw (pow-add 2 w (total widths), mul_comm (2 ^ w) (2 ^ total widths)) (omega (arith, p, mul-le-mul_right (2 ^ w) l, suc-mul (pack widths values) (2 ^ w)))

pack_same : (widths l m : List ℕ) → Fits widths l → Fits widths m → pack widths l ≡ pack widths m → l ≡ m
unfolding pack
pack_same (w ∷ widths) (v ∷ l) [] p q e = elim q [ ]
pack_same (w ∷ widths) [] m p q e = elim p [ ]
pack_same [] (v ∷ l) m p q e = elim p [ ]
pack_same [] [] (x ∷ m) p q e = elim q [ ]
pack_same [] [] [] p q e = refl
pack_same (w ∷ widths) (v ∷ l) (x ∷ m) (a, p) (b, q) e =
    let h : v ≡ x = sym (low (pack widths l) w a) ∙ ap (λ (n : ℕ). n % 2 ^ w) e ∙ low (pack widths m) w b in
    let z : pack widths l ≡ pack widths m = sym (high (pack widths l) w a) ∙ ap (λ (n : ℕ). n / 2 ^ w) e ∙ high (pack widths m) w b in
    let t : l ≡ m = pack_same widths l m p q z in
    cc

-- Replies whose values leave the highest five bits free.
same : (widths : List ℕ) → 2 ^ total widths ≤ 2 ^ 59 → (x y : Reply) → Fair widths x → Fair widths y → packed widths x ≡ packed widths y → x ≡ y
unfolding packed
same widths h (gives l) (gives k) p q e = let z : l ≡ k = pack_same widths l k p q e in cc
same widths h (gives l) (refuses k n) p q e = absurd (omega (arith, pack-low widths l p))
same widths h (refuses k n) (gives l) p q e = absurd (omega (arith, pack-low widths l q))
same widths h (refuses k n) (refuses i j) p q e =
    let z : k ≡ i = omega arith in
    let w : n ≡ j = omega arith in
    cc

-- Two replies of one operation that are packed in the same number are the same.

pub read_told : (log out log' out' : List ℕ) → packed read_widths (read_op limits log out).reply ≡ packed read_widths (read_op limits log' out').reply → (read_op limits log out).reply ≡ (read_op limits log' out').reply
unfolding sum
read_told log out log' out' e = same read_widths (omega arith) _ _ (read_fair log out) (read_fair log' out') e

pub write-told : (list out list' out' : List ℕ) → packed write_widths (write_op limits list out).reply ≡ packed write_widths (write_op limits list' out').reply → (write_op limits list out).reply ≡ (write_op limits list' out').reply
unfolding sum
write-told list out list' out' e = same write_widths (omega arith) _ _ (write_fair list out) (write_fair list' out') e

pub merge_told : (log second out log' second' out' : List ℕ) → packed write_widths (merge_op limits log second out).reply ≡ packed write_widths (merge_op limits log' second' out').reply → (merge_op limits log second out).reply ≡ (merge_op limits log' second' out').reply
unfolding sum
merge_told log second out log' second' out' e = same write_widths (omega arith) _ _ (merge_fair log second out) (merge_fair log' second' out') e

pub forecast-told : (log : List ℕ) (q : ℕ) (log' : List ℕ) (q' : ℕ) → packed forecast_widths (forecast_op limits log q) ≡ packed forecast_widths (forecast_op limits log' q') → forecast_op limits log q ≡ forecast_op limits log' q'
unfolding sum
forecast-told log q log' q' e = same forecast_widths (omega arith) _ _ (forecast_fair log q) (forecast_fair log' q') e

pub answer-told : (log : List ℕ) (q ws bs : ℕ) (out log' : List ℕ) (q' ws' bs' : ℕ) (out' : List ℕ)
    → packed answer_widths (answer_op limits log q ws bs out).reply ≡ packed answer_widths (answer_op limits log' q' ws' bs' out').reply
    → (answer_op limits log q ws bs out).reply ≡ (answer_op limits log' q' ws' bs' out').reply
unfolding sum
answer-told log q ws bs out log' q' ws' bs' out' e = same answer_widths (omega arith) _ _ (answer_fair log q ws bs out) (answer_fair log' q' ws' bs' out') e

pub holds-told : (log : List ℕ) (q : ℕ) (c : Cut) (ws bs : ℕ) (log' : List ℕ) (q' : ℕ) (c' : Cut) (ws' bs' : ℕ)
    → packed holds_widths (holds_op limits log q c ws bs) ≡ packed holds_widths (holds_op limits log' q' c' ws' bs')
    → holds_op limits log q c ws bs ≡ holds_op limits log' q' c' ws' bs'
unfolding sum
holds-told log q c ws bs log' q' c' ws' bs' e = same holds_widths (omega arith) _ _ (holds_fair log q c ws bs) (holds_fair log' q' c' ws' bs') e
