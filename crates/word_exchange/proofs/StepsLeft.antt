-- A repetition leaves fewer steps.
use Rattle.std.proofs.Common.{◌≡◌, ◌<◌, ◌≤◌, ℕ, zero, suc, ◌+◌, Bool, true, false, List, []}
use Rattle.std.proofs.Common.{◌∷◌, ◌++◌, length, map, Some, refl, sym, ap, subst}
use Rattle.std.proofs.Common.{◌∙◌, append_assoc, arith, length-append, length-drop}
use Rattle.std.specs.Prelude.{◌&&◌, if◌then◌else◌, nat_eq, option_map, slice_get}
use Rattle.std.specs.List.{list_all, sum_by, zip, IsDistinct}
use Rattle.std.proofs.lemmas.List.Elements.{filter_map-append}
use Rattle.std.proofs.lemmas.List.Sums.{sum_by-cons}
use Rattle.std.proofs.lemmas.Option.{slice_get-map}
use Rattle.plant_types.specs.declared.plan.ControllerPlan.{ControllerPlan}
use Rattle.plant_types.specs.declared.plan.Plant.{Plant}
use Rattle.plant_types.specs.Plans.{controller_nodes, end_nodes, host_nodes, IsPlant}
use Rattle.scan_order.specs.declared.due.ScanStep.{ScanStep}
use Rattle.scan_order.specs.Due.{due, rows_from}
use Rattle.scan_order.specs.Power.{power_in}
use Rattle.controller_core.specs.declared.entry.Entry.{Entry}
use Rattle.controller_core.specs.declared.fixed.Fixed.{Fixed}
use Rattle.controller_core.specs.Controller.{first_step, has_ended, is_none, left_of, state_of}
use Rattle.controller_core.specs.Controller.{ControllerIs}
use Rattle.controller_core.specs.Event.{entry_of, scan_steps, step_of}
use Rattle.controller_core.specs.Replay.{apply}
use Rattle.controller_core.specs.Run.{entries_from}
use Rattle.controller_core.specs.Scans.{all_due}
use Rattle.controller_core.proofs.Keeping.{scan_steps-more}
use Rattle.whole_scan.specs.Scans.{scan_events, with_scan}
use Rattle.whole_scan.proofs.ScanEnds.{due-once}
use Rattle.whole_scan.proofs.ScanSteps.{entries-first, open-left, open-stop}
use Rattle.joint_history.specs.declared.joint.ControllerLog.{ControllerLog}
use Rattle.joint_history.specs.declared.joint.Joint.{Joint}
use Rattle.joint_history.specs.JointLaws.{fixed_of}
use Rattle.joint_history.specs.Reading.{controller_at, has_ended_at}
use Rattle.serial_feed.specs.SerialRuns.{log_has_ended, log_with_scan, scanned, IsRepetition}
use Rattle.serial_feed.proofs.SerialLemmas.{map-there, zip-there}
use Rattle.peer_cop.specs.declared.wire.Wire.{Wire}
use Rattle.word_exchange.specs.Exchange.{plan_exchanged, plant_exchanged}
use Rattle.word_exchange.specs.Exchanging.{steps_left, steps_of}
use Rattle.word_exchange.specs.Moments.{node_of_log}
use Rattle.word_exchange.specs.Words.{entries_if, entries_of}
use Rattle.word_exchange.proofs.Growing.{go-on, repetition-talks}
use Rattle.word_exchange.proofs.Matching.{find-own}

-- ---- the steps of a controller

steps-grow : (h more : List Entry)
    → length (scan_steps h) ≤ length (scan_steps (h ++ more))
steps-grow h more =
    let both = ap length (filter_map-append step_of h more) in
    let sum = length-append (scan_steps h) (scan_steps more) in
    omega (arith, both, sum)

scan-first : (v : ControllerIs) (step : ScanStep) (rest : List ScanStep)
    → has_ended v ≡ false → due v.fixed.plan ((state_of v).gone + 1) ≡ step ∷ rest
    → length (scan_steps v.history) < length (scan_steps (with_scan v))
scan-first v step rest goes is =
    let entry = entry_of v.fixed (state_of v) step in
    let more = entries_from v.fixed (apply v.fixed (state_of v) entry) rest in
    let events : scan_events v ≡ entry ∷ more =
    ap (entries_from v.fixed (state_of v)) is
    ∙ entries-first v.fixed (state_of v) step rest (open-stop v goes) in
    let made : with_scan v ≡ (v.history ++ entry ∷ []) ++ more =
    ap (λ (b : Bool). if b then v.history else v.history ++ scan_events v) goes
    ∙ ap (λ (l : List Entry). v.history ++ l) events
    ∙ sym (append_assoc v.history (entry ∷ []) more) in
    let all = ap (λ (l : List Entry). length (scan_steps l)) made in
    let one = ap length (scan_steps-more v.fixed (state_of v) v.history step) in
    let sum = length-append (scan_steps v.history) (step ∷ []) in
    let low = steps-grow (v.history ++ entry ∷ []) more in
    omega (arith, all, one, sum, low)

scan-by : (v : ControllerIs) (front : List ScanStep) (last : ScanStep) → has_ended v ≡ false
    → due v.fixed.plan ((state_of v).gone + 1) ≡ front ++ last ∷ []
    → length (scan_steps v.history) < length (scan_steps (with_scan v))
scan-by v [] last goes is = scan-first v last [] goes is
scan-by v (step ∷ front) last goes is = scan-first v step (front ++ last ∷ []) goes is

scan-adds : (v : ControllerIs) → has_ended v ≡ false
    → length (scan_steps v.history) < length (scan_steps (with_scan v))
scan-adds v goes =
    let once = due-once v.fixed.plan ((state_of v).gone + 1) in
    scan-by v once.front once.last goes once.is

some-left : (l : List ScanStep) → is_none (first_step l) ≡ false → 1 ≤ length l
some-left [] is = absurd cc
some-left (step ∷ l) is = omega arith

weakly : (f : Fixed) (h more new : List Entry) → new ≡ h ++ more
    → length (left_of f new) ≤ length (left_of f h)
weakly f h more new is =
    let one = length-drop (length (scan_steps h)) (all_due f) in
    let two = length-drop (length (scan_steps new)) (all_due f) in
    let low = steps-grow h more in
    let same = ap (λ (l : List Entry). length (scan_steps l)) is in
    omega (arith, one, two, low, same)

strictly : (f fed : Fixed) (h mid more new : List Entry) → all_due fed ≡ all_due f
    → has_ended_at fed h ≡ false → mid ≡ with_scan (controller_at fed h) → new ≡ mid ++ more
    → length (left_of f new) < length (left_of f h)
strictly f fed h mid more new same goes made is =
    let v = controller_at fed h in
    let one = length-drop (length (scan_steps h)) (all_due f) in
    let two = length-drop (length (scan_steps new)) (all_due f) in
    let its = length-drop (length (scan_steps h)) (all_due fed) in
    let dues = ap length same in
    let some = some-left (left_of fed h) (open-left v goes) in
    let adds = scan-adds v goes in
    let made_steps = ap (λ (l : List Entry). length (scan_steps l)) made in
    let low = steps-grow mid more in
    let all = ap (λ (l : List Entry). length (scan_steps l)) is in
    omega (arith, one, two, its, dues, some, adds, made_steps, low, all)

-- ---- sums

module _ {X : Type 0} (f g : X → ℕ) (each : (x : X) → g x ≤ f x) where
  sum-no-more : (xs : List X) → sum_by g xs ≤ sum_by f xs
  sum-no-more [] = omega arith
  sum-no-more (x ∷ xs) =
      let one = sum_by-cons f x xs in
      let two = sum_by-cons g x xs in
      let here = each x in
      let rest = sum-no-more xs in
      omega (arith, one, two, here, rest)

  sum-less : (xs : List X) (k : ℕ) (x : X) → slice_get xs k ≡ Some x → g x < f x
      → sum_by g xs < sum_by f xs
  sum-less [] k x there less = absurd cc
  sum-less (y ∷ xs) zero x there less =
      let same : y ≡ x = cc in
      let here : g y < f y = subst (λ (z : X). g z < f z) (sym same) less in
      let one = sum_by-cons f y xs in
      let two = sum_by-cons g y xs in
      let rest = sum-no-more xs in
      omega (arith, one, two, here, rest)
  sum-less (y ∷ xs) (suc k) x there less =
      let one = sum_by-cons f y xs in
      let two = sum_by-cons g y xs in
      let here = each y in
      let rest = sum-less xs k x there less in
      omega (arith, one, two, here, rest)

-- ---- a controller whose scans are not gone

record OpenAt (test : ControllerPlan × ControllerLog → Bool) (plans : List ControllerPlan)
    (logs : List ControllerLog) : Type 0 where
  k : ℕ
  plan : ControllerPlan
  log : ControllerLog
  plan_is : slice_get plans k ≡ Some plan
  log_is : slice_get logs k ≡ Some log
  goes : test (plan, log) ≡ false

open-by : (test : ControllerPlan × ControllerLog → Bool) (plan : ControllerPlan)
    (log : ControllerLog) (plans : List ControllerPlan) (logs : List ControllerLog)
    (b rest : Bool) → test (plan, log) ≡ b → (b && rest) ≡ false
    → (rest ≡ false → OpenAt test plans logs) → OpenAt test (plan ∷ plans) (log ∷ logs)
open-by test plan log plans logs true rest is some later =
    let it = later some in
    record {
      k = suc it.k;
      plan = it.plan;
      log = it.log;
      plan_is = it.plan_is;
      log_is = it.log_is;
      goes = it.goes;
    }
open-by test plan log plans logs false rest is some later =
    record { k = 0; plan = plan; log = log; plan_is = refl; log_is = refl; goes = is }

open-at : (test : ControllerPlan × ControllerLog → Bool) (plans : List ControllerPlan)
    (logs : List ControllerLog) → list_all test (zip plans logs) ≡ false → OpenAt test plans logs
open-at test [] logs some = absurd cc
open-at test (plan ∷ plans) [] some = absurd cc
open-at test (plan ∷ plans) (log ∷ logs) some =
    open-by test plan log plans logs (test (plan, log)) (list_all test (zip plans logs)) refl some
    (open-at test plans logs)

-- ---- a repetition

nodes-same : (f : ControllerPlan → ControllerPlan) (plans : List ControllerPlan)
    → ((plan : ControllerPlan) → (f plan).node ≡ plan.node)
    → map (λ (p : ControllerPlan). p.node) (map f plans)
    ≡ map (λ (p : ControllerPlan). p.node) plans
nodes-same f [] each = refl
nodes-same f (plan ∷ plans) each =
    let here = each plan in
    let rest = nodes-same f plans each in
    λ i. here i ∷ rest i

some-is : {X : Type 0} (x y : X) → Some x ≡ Some y → x ≡ y
some-is x y is = cc

module _ (plant : Plant) (wires : List Wire) (moments : List Joint) (scans : ℕ) where
  abbrev fed : Plant
  fed = plant_exchanged plant wires moments

  abbrev with_scripts : ControllerPlan → ControllerPlan
  with_scripts plan = plan_exchanged plant wires moments plan

  -- the fed plant has the nodes of the plant
  pub nodes-fed : controller_nodes fed ≡ controller_nodes plant
  nodes-fed = nodes-same with_scripts plant.controllers (λ plan. refl)

  pub same-due : (plan : ControllerPlan)
      → all_due (fixed_of fed scans (with_scripts plan)) ≡ all_due (fixed_of plant scans plan)
  unfolding rows_from power_in
  same-due plan = refl

  -- the list of a node in logs that have each node once
  pub entries-at : (joint : Joint) (k : ℕ) (log : ControllerLog)
      → map node_of_log joint.controllers ≡ controller_nodes plant → IsPlant plant
      → slice_get joint.controllers k ≡ Some log → entries_of log.node joint ≡ log.entries
  entries-at joint k log nodes sound there =
      ap entries_if (find-own node_of_log joint.controllers (host_nodes plant ++ end_nodes plant) k
      log
      (subst (λ (l : List ℕ). IsDistinct nat_eq (l ++ (host_nodes plant ++ end_nodes plant)))
      (sym nodes)
      (subst (λ (l : List ℕ). IsDistinct nat_eq l)
      (append_assoc (controller_nodes plant) (host_nodes plant) (end_nodes plant)) sound.once))
      there)

  node-at : (joint : Joint) (k : ℕ) (plan : ControllerPlan) (log : ControllerLog)
      → map node_of_log joint.controllers ≡ controller_nodes plant
      → slice_get plant.controllers k ≡ Some plan → slice_get joint.controllers k ≡ Some log
      → log.node ≡ plan.node
  node-at joint k plan log nodes plan-is log-is =
      some-is log.node plan.node
      (sym (slice_get-map node_of_log joint.controllers k ∙ ap (option_map node_of_log) log-is)
      ∙ ap (λ (l : List ℕ). slice_get l k) nodes
      ∙ slice_get-map (λ (p : ControllerPlan). p.node) plant.controllers k
      ∙ ap (option_map (λ (p : ControllerPlan). p.node)) plan-is)

  pub repetition-less : (old new : Joint) → IsPlant plant
      → map node_of_log old.controllers ≡ controller_nodes plant → IsRepetition fed scans old new
      → steps_left plant scans new < steps_left plant scans old
  repetition-less old new sound nodes r =
      let mid = scanned fed scans old in
      let on = go-on fed scans old new (nodes ∙ sym nodes-fed) r in
      let talks = repetition-talks fed scans old new r in
      let found = open-at (log_has_ended fed scans) fed.controllers old.controllers r.goes_on in
      let from = map-there with_scripts plant.controllers found.k found.plan found.plan_is in
      let plan = from.0 in
      let log = found.log in
      let made = log_with_scan fed scans (found.plan, log) in
      let mid_nodes : map node_of_log mid.controllers ≡ controller_nodes plant =
      sym talks.nodes ∙ on.nodes ∙ nodes in
      let made_there : slice_get mid.controllers found.k ≡ Some made =
      slice_get-map (log_with_scan fed scans) (zip fed.controllers old.controllers) found.k
      ∙ ap (option_map (log_with_scan fed scans))
      (zip-there fed.controllers old.controllers found.k found.plan log found.plan_is found.log_is)
      in
      let node : log.node ≡ plan.node =
      node-at old found.k plan log nodes from.1 found.log_is in
      let before : entries_of plan.node old ≡ log.entries =
      ap (λ n. entries_of n old) (sym node) ∙ entries-at old found.k log nodes sound found.log_is in
      let middle : entries_of plan.node mid ≡ made.entries =
      ap (λ n. entries_of n mid) (sym node)
      ∙ entries-at mid found.k made mid_nodes sound made_there in
      let later = talks.entries plan.node in
      let less : length (left_of (fixed_of plant scans plan) (entries_of plan.node new))
      < length (left_of (fixed_of plant scans plan) log.entries) =
      strictly (fixed_of plant scans plan) (fixed_of fed scans found.plan) log.entries made.entries
      later.more (entries_of plan.node new)
      (ap (λ (p : ControllerPlan). all_due (fixed_of fed scans p)) (sym from.2)
      ∙ same-due plan) found.goes refl
      (later.is ∙ ap (λ (l : List Entry). l ++ later.more) middle) in
      sum-less (steps_of plant scans old) (steps_of plant scans new)
      (λ p. let more = on.entries p.node in
      weakly (fixed_of plant scans p) (entries_of p.node old) more.0 (entries_of p.node new) more.1)
      plant.controllers found.k plan from.1
      (subst (λ (l : List Entry).
      length (left_of (fixed_of plant scans plan) (entries_of plan.node new))
      < length (left_of (fixed_of plant scans plan) l)) (sym before) less)
