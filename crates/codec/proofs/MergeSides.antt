-- What of one log is needed where it is read beside another: its header's reports, its events' stations, its messages.
use mathlib.Core.Path.{◌≡◌, refl, sym, ap, ap₂, subst, ◌∙◌}
use mathlib.Core.Logic.{◌≢◌}
use Prim.Native.Nat.{ℕ, zero, suc, ◌+◌, ◌*◌, ◌<◌}
use native.Mathlib.Omega.{arith}
use mathlib.Core.Bool.{Bool, true, false}
use mathlib.Core.List.{List, [], ◌∷◌, ◌++◌, map, map-append}
use lib.ListN.{length, get_or, drop, length-drop, get_or-append}
use borrow.Author.Tests.{eqb-true}
use Rattle.model.specs.declared.Limits.{Limits}
use Rattle.model.specs.Bytes.{Item}
use Rattle.model.specs.Formula.{Formula}
use Rattle.model.specs.Computation.{Message, Computation, with_messages, stations, clock, message_ok}
use Rattle.model.specs.Reading.{Reading, nothing, begun, report_size, reports_of, header_kind, header_form, opened, station_of, event_of, extended, unsent, with_header, with_event, message_of, informed, with_message, with_question, accepted, read_items}
use Rattle.model.specs.Merge.{of_kind}
use Rattle.lattice.proofs.Lists.{All, all_append, all_map}
use Rattle.lattice.proofs.Lists.All.{done, also}
use Rattle.lattice.proofs.Histories.{stations-opened}
use Rattle.lattice.proofs.Reports.{header-kind}
use Rattle.codec.proofs.Snoc.{empty-list}
use Rattle.codec.proofs.Accepted.{Admission, a_header, a_event, a_message, a_question, begun-true, begun-false, unsent-true, header_true, event-true, read_items_invariant}
use Rattle.codec.proofs.Lawful.{Lawful, nothing_lawful, admitted_lawful}
use Rattle.codec.proofs.MergeRun.{kind_same, kind-other, no_frames, Joins, joins_nothing, joins_kept}

-- MESSAGES

-- The rule for a message looks at no other.
clock_any : (K : Computation) (l : List Message) (j k : ℕ) → clock (with_messages K l) j k ≡ clock K j k
unfolding clock
clock_any K l j zero = refl
clock_any K l j (suc k) = refl

pub message_any : (K : Computation) (l : List Message) (x : Message) → message_ok (with_messages K l) x ≡ message_ok K x
unfolding message_ok
message_any K l x = rw (clock_any K l x.receiver x.received) refl

-- A frame, without its kind, is one of a message that may be named.
abbrev pub Named : Computation → List ℕ → Type 0
Named K f = (length f ≡ 4) × (message_ok K (message_of f) ≡ true)

pub record Posted (r : Reading) : Type 0 where
  pub are : r.computation.messages ≡ map message_of (of_kind 0x25 r.frames)
  pub sound : All (Named r.computation) (of_kind 0x25 r.frames)

-- No messages, so no frames of any.
no_posts : {r : Reading} → Posted r → r.computation.messages ≡ [] → of_kind 0x25 r.frames ≡ []
no_posts {r} p e = none (of_kind 0x25 r.frames) (sym p.are ∙ e)
  where
    none : (l : List (List ℕ)) → map message_of l ≡ [] → l ≡ []
    none [] h = refl
    none (f ∷ l) h = let z : ◌≡◌ {A = ℕ} 0 1 = cc in absurd (omega arith)

-- THE HEADER, THE EVENTS AND THE MESSAGES

-- Behind the header's kind and its number of stations.
abbrev pub headed : Reading → List ℕ
headed r = drop 2 (get_or r.frames 0 [])

-- A frame, without its kind, is one of an event of n stations.
abbrev pub Placed : Bool → ℕ → List ℕ → Type 0
Placed p n f = (length f ≡ 1 + report_size p + n) × (station_of f < n)

pub record Filed (m : Limits) (r : Reading) : Type 0 where
  pub lawful : Lawful m r
  pub size : 0 < stations r.computation → length (headed r) ≡ stations r.computation * report_size r.panelled
  pub reports : 0 < stations r.computation → r.computation.initial ≡ reports_of r.panelled (stations r.computation) (headed r)
  pub placed : All (Placed r.panelled (stations r.computation)) (of_kind 0x20 r.frames)
  pub posted : Posted r
  pub joins : Joins m r

nothing-filed : (m : Limits) → Filed m nothing
unfolding of_kind
nothing-filed m = record { lawful = nothing_lawful m; size = λ h. absurd (omega arith); reports = λ h. absurd (omega arith); placed = done; posted = record { are = refl; sound = done }; joins = joins_nothing m }

module _ {m : Limits} {r : Reading} (filed : Filed m r) (f : List ℕ) where
  -- Nothing stands before the header.
  module _ (p : Bool) (first : begun r ≡ false) (form : header_form m p f ≡ true) where
    before : r.frames ≡ []
    before = ap (λ (x : Reading). x.frames) (filed.lawful.blank (begun-false r first))

    only : (k : ℕ) → k ≢ 0x10 → k ≢ 0x11 → of_kind k (r.frames ++ ((header_kind p ∷ f) ∷ [])) ≡ []
    only k h g = kind-other k (header_kind p) (header-kind k h g p) r.frames f ∙ no_frames k before

    many : stations (opened (reports_of p (get_or f 0 0) (drop 1 f))) ≡ get_or f 0 0
    many = stations-opened (reports_of p (get_or f 0 0) (drop 1 f)) ∙ (header_true m p f form).reports

    header_posted : Posted (with_header p r f)
    unfolding opened
    header_posted = record {
      are = ap (map message_of) (sym (only 0x25 (omega arith) (omega arith)));
      sound = subst (All (Named (opened (reports_of p (get_or f 0 0) (drop 1 f))))) (sym (only 0x25 (omega arith) (omega arith))) done;
    }

    header_placed : All (Placed p (stations (with_header p r f).computation)) (of_kind 0x20 (with_header p r f).frames)
    header_placed = subst (All (Placed p (stations (with_header p r f).computation))) (sym (only 0x20 (omega arith) (omega arith))) done

    is : headed (with_header p r f) ≡ drop 1 f
    is = ap (λ (l : List (List ℕ)). drop 2 (get_or (l ++ ((header_kind p ∷ f) ∷ [])) 0 [])) before

    header-size : length (headed (with_header p r f)) ≡ stations (with_header p r f).computation * report_size p
    header-size = rw (is, many) (omega (arith, length-drop 1 f, (header_true m p f form).size))

    header_reports : (with_header p r f).computation.initial ≡ reports_of p (stations (with_header p r f).computation) (headed (with_header p r f))
    unfolding opened
    header_reports = sym (ap₂ (reports_of p) many is)

  -- The header stands first, whatever follows.
  module _ (some : begun r ≡ true) (g : List ℕ) where
    still : drop 2 (get_or (r.frames ++ (g ∷ [])) 0 []) ≡ headed r
    still = ap (drop 2) (get_or-append r.frames (g ∷ []) [] 0 (omega (arith, filed.lawful.counted (begun-true r some))))

    still-size : length (drop 2 (get_or (r.frames ++ (g ∷ [])) 0 [])) ≡ stations r.computation * report_size r.panelled
    still-size = ap length still ∙ filed.size (begun-true r some)

    still-reports : r.computation.initial ≡ reports_of r.panelled (stations r.computation) (drop 2 (get_or (r.frames ++ (g ∷ [])) 0 []))
    still-reports = filed.reports (begun-true r some) ∙ ap (reports_of r.panelled (stations r.computation)) (sym still)

  -- An event comes before all messages.
  event-posted : unsent r ≡ true → Posted (with_event r f)
  unfolding extended
  event-posted silent =
      let K = r.computation in
      let quiet = empty-list K.messages (unsent-true r silent) in
      let none : of_kind 0x25 (r.frames ++ ((0x20 ∷ f) ∷ [])) ≡ [] = kind-other 0x25 0x20 (omega arith) r.frames f ∙ no_posts filed.posted quiet in
      record {
        are = quiet ∙ ap (map message_of) (sym none);
        sound = subst (All (Named (extended K (station_of f) (event_of r.panelled f)))) (sym none) done;
      }

  event-placed : Placed r.panelled (stations r.computation) f → All (Placed r.panelled (stations (with_event r f).computation)) (of_kind 0x20 (with_event r f).frames)
  unfolding extended
  event-placed h = subst (All (Placed r.panelled (stations r.computation))) (sym (kind_same 0x20 r.frames f)) (all_append filed.placed (also h done))

  message_posted : Named r.computation f → Posted (with_message r f)
  unfolding informed
  message_posted ok =
      let K = r.computation in
      let all = K.messages ++ (message_of f ∷ []) in
      let kept = all_append {G = Named (with_messages K all)} (all_map (λ g h. (h.0, message_any K all (message_of g) ∙ h.1)) filed.posted.sound) (also (ok.0, message_any K all (message_of f) ∙ ok.1) done) in
      record {
        are = ap (λ (l : List Message). l ++ (message_of f ∷ [])) filed.posted.are ∙ sym (map-append message_of (of_kind 0x25 r.frames) (f ∷ [])) ∙ ap (map message_of) (sym (kind_same 0x25 r.frames f));
        sound = subst (All (Named (with_messages K all))) (sym (kind_same 0x25 r.frames f)) kept;
      }

  message_placed : All (Placed r.panelled (stations (with_message r f).computation)) (of_kind 0x20 (with_message r f).frames)
  unfolding informed
  message_placed = subst (All (Placed r.panelled (stations r.computation))) (sym (kind-other 0x20 0x25 (omega arith) r.frames f)) filed.placed

  question-posted : (φ : Formula) → Posted (with_question r f φ)
  question-posted φ = record {
    are = filed.posted.are ∙ ap (map message_of) (sym (kind-other 0x25 0x30 (omega arith) r.frames f));
    sound = subst (All (Named r.computation)) (sym (kind-other 0x25 0x30 (omega arith) r.frames f)) filed.posted.sound;
  }

  question-placed : (φ : Formula) → All (Placed r.panelled (stations r.computation)) (of_kind 0x20 (with_question r f φ).frames)
  question-placed φ = subst (All (Placed r.panelled (stations r.computation))) (sym (kind-other 0x20 0x30 (omega arith) r.frames f)) filed.placed

filed_kept : {m : Limits} {r s : Reading} {f : List ℕ} → Filed m r → Admission m r f s → Filed m s
unfolding extended informed
filed_kept {m} {r} filed (a_header {p = p} {f = f} first form) = record {
  lawful = admitted_lawful filed.lawful (a_header first form);
  size = λ h. header-size filed f p first form;
  reports = λ h. header_reports filed f p first form;
  placed = header_placed filed f p first form;
  posted = header_posted filed f p first form;
  joins = joins_kept filed.lawful filed.joins (a_header first form);
}
filed_kept {m} {r} filed (a_event {f = f} some asked silent room form ok) = record {
  lawful = admitted_lawful filed.lawful (a_event some asked silent room form ok);
  size = λ h. still-size filed f some (0x20 ∷ f);
  reports = λ h. still-reports filed f some (0x20 ∷ f);
  placed = event-placed filed f (event-true r.panelled (stations r.computation) f form);
  posted = event-posted filed f silent;
  joins = joins_kept filed.lawful filed.joins (a_event some asked silent room form ok);
}
filed_kept {m} {r} filed (a_message {f = f} some asked room four ok) = record {
  lawful = admitted_lawful filed.lawful (a_message some asked room four ok);
  size = λ h. still-size filed f some (0x25 ∷ f);
  reports = λ h. still-reports filed f some (0x25 ∷ f);
  placed = message_placed filed f;
  posted = message_posted filed f (eqb-true (length f) 4 four, ok);
  joins = joins_kept filed.lawful filed.joins (a_message some asked room four ok);
}
filed_kept {m} {r} filed (a_question {f = f} {φ = φ} some room is named size works) = record {
  lawful = admitted_lawful filed.lawful (a_question some room is named size works);
  size = λ h. still-size filed f some (0x30 ∷ f);
  reports = λ h. still-reports filed f some (0x30 ∷ f);
  placed = question-placed filed f φ;
  posted = question-posted filed f φ;
  joins = joins_kept filed.lawful filed.joins (a_question some room is named size works);
}

-- What is accepted is so filed.
pub items-filed : (m : Limits) (l : List Item) (r : Reading) → read_items m 1 nothing l ≡ accepted r → Filed m r
items-filed m l r e = read_items_invariant m (Filed m) (λ r s f p a. filed_kept p a) 1 nothing r l (nothing-filed m) e
