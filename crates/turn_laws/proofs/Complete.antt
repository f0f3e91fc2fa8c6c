-- A controller whose node is gone, or away without power, is complete.
use Rattle.std.proofs.Common.{◌≡◌, ◌≢◌, ◌⊎◌, ℕ, suc, ◌+◌, ◌==◌, Bool, true, false, cond, List}
use Rattle.std.proofs.Common.{[]}
use Rattle.std.proofs.Common.{◌∷◌, ◌++◌, length, drop, None, inl, inr, refl}
use Rattle.std.proofs.Common.{sym, ap, ◌∙◌, arith, append-nil}
use Rattle.std.specs.Prelude.{if◌then◌else◌, not}
use Rattle.std.specs.List.{count_by, flat_map, range_with_len}
use Rattle.std.proofs.Math.Seq.{drop-append_seam}
use Rattle.std.proofs.lemmas.List.Sums.{sum_by-append}
use Rattle.std.proofs.lemmas.List.FromFn.{length-range_with_len}
use Rattle.plant_types.specs.declared.plan.ControllerPlan.{ControllerPlan}
use Rattle.scan_order.specs.declared.due.ScanStep.{ScanStep}
use Rattle.scan_order.specs.declared.due.ScanStep.TheVariants as steps
use Rattle.scan_order.specs.Due.{due, ends_scan}
use Rattle.controller_core.specs.declared.entry.Entry.{Entry}
use Rattle.controller_core.specs.declared.entry.Entry.TheVariants as entries
use Rattle.controller_core.specs.declared.fixed.Fixed.{Fixed}
use Rattle.controller_core.specs.Controller.{IsLegal, first_step, is_none, left_of}
use Rattle.controller_core.specs.Event.{scan_steps}
use Rattle.controller_core.specs.Replay.{replay}
use Rattle.controller_core.specs.Scans.{all_due}
use Rattle.ring_core.specs.declared.status.NodeStatus.{NodeStatus}
use Rattle.ring_core.specs.declared.status.NodeStatus.TheVariants.{In, Away, Asking, Gone}
use Rattle.tied_lists.specs.Waits.{status_at}
use Rattle.tied_lists.proofs.Boxes.{count-cons}
use Rattle.joint_history.specs.Complete.{StaysOff, is_scan_end}
use Rattle.joint_history.specs.Reading.{has_ended_at, is_off_at}
use Rattle.joint_history.proofs.Collected.{CallLaws}
use Rattle.turn_laws.specs.KeepsOn.{is_out_of_ring}
use Rattle.turn_laws.specs.Laws.{ControllersComplete}
use Rattle.turn_laws.proofs.Off.{off-stop}
use Rattle.turn_laws.proofs.OpenCalls.{none-open}
use Rattle.turn_laws.proofs.Rests.{each-ended}
use Rattle.whole_scan.proofs.ScanEnds.{NoEnds, due-once}

-- ---- the last steps of all scans

count-join : {X : Type 0} (p : X → Bool) (xs ys : List X)
    → count_by p (xs ++ ys) ≡ count_by p xs + count_by p ys
count-join p xs ys = sum_by-append (λ x. cond {A = ℕ} (p x) 1 0) xs ys

skip : {X : Type 0} (p : X → Bool) (x : X) (xs : List X) → p x ≡ false
    → count_by p (x ∷ xs) ≡ count_by p xs
skip p x xs quiet_e =
    let c = count-cons p x xs in
    let o : cond {A = ℕ} (p x) 1 0 ≡ 0 = ap (λ b. cond {A = ℕ} b 1 0) quiet_e in
    omega (arith, c, o)

one-more : {X : Type 0} (p : X → Bool) (x : X) (xs : List X) → p x ≡ true
    → count_by p (x ∷ xs) ≡ suc (count_by p xs)
one-more p x xs is_so =
    let c = count-cons p x xs in
    let o : cond {A = ℕ} (p x) 1 0 ≡ 1 = ap (λ b. cond {A = ℕ} b 1 0) is_so in
    omega (arith, c, o)

ends-steps : (h : List Entry) → count_by is_scan_end h ≡ count_by ends_scan (scan_steps h)
ends-steps [] = refl
ends-steps (entries.Begin ∷ h) = skip is_scan_end entries.Begin h refl ∙ ends-steps h
    ∙ sym (skip ends_scan steps.Begin (scan_steps h) refl)
ends-steps (entries.Input row ∷ h) = skip is_scan_end (entries.Input row) h refl ∙ ends-steps h
    ∙ sym (skip ends_scan (steps.In row) (scan_steps h) refl)
ends-steps (entries.Solve row ∷ h) = skip is_scan_end (entries.Solve row) h refl ∙ ends-steps h
    ∙ sym (skip ends_scan (steps.Solve row) (scan_steps h) refl)
ends-steps (entries.Output row words ∷ h) =
    skip is_scan_end (entries.Output row words) h refl ∙ ends-steps h
    ∙ sym (skip ends_scan (steps.Out row) (scan_steps h) refl)
ends-steps (entries.End ∷ h) = one-more is_scan_end entries.End h refl ∙ ap suc (ends-steps h)
    ∙ sym (one-more ends_scan steps.End (scan_steps h) refl)
ends-steps (entries.Fail ∷ h) = one-more is_scan_end entries.Fail h refl ∙ ap suc (ends-steps h)
    ∙ sym (one-more ends_scan steps.Fail (scan_steps h) refl)
ends-steps (entries.Dark ∷ h) = one-more is_scan_end entries.Dark h refl ∙ ap suc (ends-steps h)
    ∙ sym (one-more ends_scan steps.Dark (scan_steps h) refl)
ends-steps (entries.Collect calls ∷ h) =
    skip is_scan_end (entries.Collect calls) h refl ∙ ends-steps h
ends-steps (entries.Peer id request reply ∷ h) =
    skip is_scan_end (entries.Peer id request reply) h refl ∙ ends-steps h
ends-steps (entries.Off id request ∷ h) =
    skip is_scan_end (entries.Off id request) h refl ∙ ends-steps h
ends-steps (entries.Finish id result ∷ h) =
    skip is_scan_end (entries.Finish id result) h refl ∙ ends-steps h

-- each scan has one
none-count : (front : List ScanStep) → NoEnds front → count_by ends_scan front ≡ 0
none-count [] none = refl
none-count (step ∷ front) none = skip ends_scan step front none.0 ∙ none-count front none.1

one-scan : (plan : ControllerPlan) (scan : ℕ) → count_by ends_scan (due plan scan) ≡ 1
one-scan plan scan =
    let once = due-once plan scan in
    let front = none-count once.front once.none in
    let last = one-more ends_scan once.last [] once.ends in
    let none : count_by ends_scan [] ≡ 0 = refl in
    let all = count-join ends_scan once.front (once.last ∷ []) in
    ap (count_by ends_scan) once.is ∙ omega (arith, front, last, none, all)

each-scan : (plan : ControllerPlan) (scans : List ℕ)
    → count_by ends_scan (flat_map (due plan) scans) ≡ length scans
each-scan plan [] = refl
each-scan plan (scan ∷ scans) =
    let one = one-scan plan scan in
    let more = each-scan plan scans in
    let all = count-join ends_scan (due plan scan) (flat_map (due plan) scans) in
    all ∙ (λ i. one i + more i) ∙ omega arith

all-ends : (fixed : Fixed) → count_by ends_scan (all_due fixed) ≡ fixed.scans
all-ends fixed = each-scan fixed.plan (range_with_len 1 fixed.scans)
    ∙ length-range_with_len 1 fixed.scans

-- ---- where the scans have ended

none-left : (left : List ScanStep) → is_none (first_step left) ≡ true → left ≡ []
none-left [] is = refl
none-left (step ∷ left) is = absurd (let no' : false ≡ true = is in cc)

scans-ended : (fixed : Fixed) (h : List Entry) → IsLegal fixed h → has_ended_at fixed h ≡ true
    → (count_by is_scan_end h ≡ fixed.scans) ⊎ ((replay fixed h).stop ≢ 0)
scans-ended fixed h legal ended = at ((replay fixed h).stop == 0) refl ended
  where
    at : (b : Bool) → ((replay fixed h).stop == 0) ≡ b
        → is_none (if b then first_step (left_of fixed h) else None) ≡ true
        → (count_by is_scan_end h ≡ fixed.scans) ⊎ ((replay fixed h).stop ≢ 0)
    at false stop is = inr
        (λ none. let is_so = Rattle.std.proofs.lemmas.Bool.eq-eqb (replay fixed h).stop 0 none in
        let both : true ≡ false = sym is_so ∙ stop in cc)
    at true stop is =
        let rest = legal.due.0 in
        let left : left_of fixed h ≡ rest =
        ap (λ (l : List ScanStep). drop (length (scan_steps h)) l) (sym legal.due.1)
        ∙ drop-append_seam (scan_steps h) rest in
        let none : rest ≡ [] = sym left ∙ none-left (left_of fixed h) is in
        let all : scan_steps h ≡ all_due fixed =
        sym (ap (λ l. scan_steps h ++ l) none ∙ append-nil (scan_steps h)) ∙ legal.due.1 in
        inl (ends-steps h ∙ ap (count_by ends_scan) all ∙ all-ends fixed)

-- where there is no power they have, as nothing stops a controller then
scans-off : (fixed : Fixed) (h : List Entry) → IsLegal fixed h → has_ended_at fixed h ≡ true
    → is_off_at fixed h ≡ true → StaysOff fixed h
scans-off fixed h legal ended off =
    let dark : (replay fixed h).powered ≡ false = not-on (replay fixed h).powered off in
    record {
      scans = elim (scans-ended fixed h legal ended) [
        | inl scans ↦ scans
        | inr stop ↦ absurd (stop (off-stop fixed h legal dark))
      ];
      off = dark;
    }
  where
    not-on : (b : Bool) → not b ≡ true → b ≡ false
    not-on true is = absurd (let no' : false ≡ true = is in cc)
    not-on false is = refl

is-out : (fixed : Fixed) (h : List Entry) (status : NodeStatus) → IsLegal fixed h
    → has_ended_at fixed h ≡ true → is_out_of_ring (is_off_at fixed h) status ≡ true
    → (status ≡ Gone) ⊎ ((status ≡ Away) × StaysOff fixed h)
is-out fixed h In legal ended out = absurd (let no' : false ≡ true = out in cc)
is-out fixed h Away legal ended out = inr (refl, scans-off fixed h legal ended out)
is-out fixed h Asking legal ended out = absurd (let no' : false ≡ true = out in cc)
is-out fixed h Gone legal ended out = inl refl

pub complete : CallLaws → ControllersComplete
complete laws fixed net n entries ring st k ended collected out = (
  record {
    scans = scans-ended fixed entries st.legal ended;
    collected = collected;
    finished = each-ended laws fixed entries st.legal
        (none-open fixed net n entries ring st k.at_home (k.gone refl).idle);
  },
  is-out fixed entries (status_at net ring n) st.legal ended out,
  record { replied = k.replied; done = k.stays; noticed = λ m c. (k.noticed m c).noticed },
)
