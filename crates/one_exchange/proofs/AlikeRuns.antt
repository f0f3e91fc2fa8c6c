-- Repetitions of plants that are alike make one thing, where their fixed parts agree.
use Rattle.std.proofs.Common.{◌≡◌, ℕ, Bool, List, [], ◌∷◌, map, Some, refl, sym, ap, subst, ◌∙◌}
use Rattle.std.specs.Prelude.{◌&&◌, suc}
use Rattle.std.specs.List.{list_all, slice_get, zip, AllZip}
use Rattle.plant_types.specs.declared.plan.ControllerPlan.{ControllerPlan}
use Rattle.plant_types.specs.declared.plan.Plant.{Plant}
use Rattle.plant_types.specs.Plans.{first_net, IsPlant}
use Rattle.controller_core.specs.declared.entry.Entry.{Entry}
use Rattle.joint_history.specs.declared.joint.ControllerLog.{ControllerLog}
use Rattle.joint_history.specs.declared.joint.Joint.{Joint}
use Rattle.joint_history.specs.JointLaws.{logged}
use Rattle.joint_history.proofs.Collected.{CallLaws}
use Rattle.fed_turns.proofs.Agreements.{ended-same}
use Rattle.fed_turns.proofs.AgreedScans.{scans as scan-same}
use Rattle.word_exchange.specs.SerialRuns.{Visit, Away}
use Rattle.word_exchange.specs.SerialRuns.{all_have_ended, away_turns_of, log_has_ended, log_with_scan}
use Rattle.word_exchange.specs.SerialRuns.{scanned, visits_of, IsRepetition}
use Rattle.word_exchange.proofs.SerialLemmas.{zip-same-map}
use Rattle.one_run.proofs.Between.{Fine, Kept, OneJoint}
use Rattle.one_run.proofs.Places.{some-same}
use Rattle.one_exchange.proofs.Alike.{agrees-front, fine-alike, fixed_in_p, in_q, fixed_in_q}
use Rattle.one_exchange.proofs.Alike.{q as alike_plant, there-in_q, Agrees, Alike}
use Rattle.one_exchange.proofs.AlikeTurns.{turns-alike}
use Rattle.one_exchange.proofs.Parts.{many_times, parts-grow, parts-one, repetition-parts}
use Rattle.one_exchange.proofs.Parts.{repetition_parts, round_parts, scan-kept, MakesParts, Part}
use Rattle.one_exchange.proofs.Parts.{scanned-at}

-- ---- lists of plans and logs

-- a controller's plan and its log
abbrev Of : Type 0
Of = ControllerPlan × ControllerLog

-- a test that each passes alike passes for all alike
same-all : (g h : Of → Bool) (plans others : List ControllerPlan) (logs : List ControllerLog)
    → AllZip Alike plans others
    → ((k : ℕ) (plan other : ControllerPlan) (log : ControllerLog) → slice_get plans k ≡ Some plan
    → slice_get others k ≡ Some other → slice_get logs k ≡ Some log
    → h (other, log) ≡ g (plan, log))
    → list_all h (zip others logs) ≡ list_all g (zip plans logs)
same-all g h [] [] logs like each = refl
same-all g h [] (other ∷ others) logs like each = absurd like
same-all g h (plan ∷ plans) [] logs like each = absurd like
same-all g h (plan ∷ plans) (other ∷ others) [] like each = refl
same-all g h (plan ∷ plans) (other ∷ others) (log ∷ logs) like each =
    let here = each 0 plan other log refl refl refl in
    let rest = same-all g h plans others logs like.1 (λ k. each (suc k)) in
    λ i. here i && rest i

-- what is the same of each is the same of all
same-map : {X : Type 0} (g h : Of → X) (plans others : List ControllerPlan)
    (logs : List ControllerLog) → AllZip Alike plans others
    → ((k : ℕ) (plan other : ControllerPlan) (log : ControllerLog) → slice_get plans k ≡ Some plan
    → slice_get others k ≡ Some other → slice_get logs k ≡ Some log
    → h (other, log) ≡ g (plan, log))
    → map h (zip others logs) ≡ map g (zip plans logs)
same-map g h [] [] logs like each = refl
same-map g h [] (other ∷ others) logs like each = absurd like
same-map g h (plan ∷ plans) [] logs like each = absurd like
same-map g h (plan ∷ plans) (other ∷ others) [] like each = refl
same-map g h (plan ∷ plans) (other ∷ others) (log ∷ logs) like each =
    let here = each 0 plan other log refl refl refl in
    let rest = same-map g h plans others logs like.1 (λ k. each (suc k)) in
    λ i. here i ∷ rest i

module _ (p : Plant) (plans : List ControllerPlan) (scans : ℕ)
    (like : AllZip Alike p.controllers plans) where
  abbrev q : Plant
  q = alike_plant p plans scans like

  -- both fixed parts of each controller agree on its list
  abbrev AllAgree : Joint → Type 0
  AllAgree joint = Agrees p plans scans like joint

  -- the plan at a place of the other plant
  is-in_q : (k : ℕ) (plan other : ControllerPlan) (is : slice_get p.controllers k ≡ Some plan)
      → slice_get plans k ≡ Some other → in_q p plans scans like k plan is ≡ other
  is-in_q k plan other is at = some-same (sym (there-in_q p plans scans like k plan is) ∙ at)

  -- all have ended in both, or in neither
  pub ended-alike : (joint : Joint) → AllAgree joint
      → all_have_ended q scans joint ≡ all_have_ended p scans joint
  ended-alike joint agrees = same-all (log_has_ended p scans) (log_has_ended q scans)
      p.controllers plans joint.controllers like
      (λ k plan other log at-plan at-other at-log.
      ap (λ (x : ControllerPlan). log_has_ended q scans (x, log))
      (sym (is-in_q k plan other at-plan at-other))
      ∙ ended-same (fixed_in_p p plans scans like plan)
      (fixed_in_q p plans scans like k plan at-plan) log.entries
      (agrees k plan log (record { plan_is = at-plan; log_is = at-log })))

  -- all make the same scans
  scanned-alike : (joint : Joint) → AllAgree (scanned p scans joint)
      → scanned q scans joint ≡ scanned p scans joint
  scanned-alike joint agrees =
      let logs : map (log_with_scan q scans) (logged q joint)
      ≡ map (log_with_scan p scans) (logged p joint) =
      same-map (log_with_scan p scans) (log_with_scan q scans) p.controllers plans
      joint.controllers like
      (λ k plan other log at-plan at-other at-log.
      let there = scanned-at p scans joint k plan log
      (record { plan_is = at-plan; log_is = at-log }) in
      ap (λ (x : ControllerPlan). log_with_scan q scans (x, log))
      (sym (is-in_q k plan other at-plan at-other))
      ∙ ap (λ (l : List Entry). record { node = log.node; entries = l })
      (scan-same (fixed_in_p p plans scans like plan)
      (fixed_in_q p plans scans like k plan at-plan) log.entries
      (agrees k plan (log_with_scan p scans (plan, log))
      (record { plan_is = at-plan; log_is = there.log_is })))) in
      λ i. record joint { controllers = logs i }

  -- parts of a repetition of one plant are parts of the other
  parts-alike : IsPlant p → CallLaws → (parts : List Part) (old new : Joint) → AllAgree new
      → MakesParts p scans parts old new → MakesParts q scans parts old new
  parts-alike sound laws [] old new agrees m = m
  parts-alike sound laws (part ∷ parts) old new agrees m =
      let next = agrees-front p plans scans like m.0 new
      (parts-grow p scans sound laws parts m.0 new m.2) agrees in
      let before = agrees-front p plans scans like old new
      (parts-grow p scans sound laws (part ∷ parts) old new m) agrees in (
        m.0,
        turns-alike p plans scans like sound laws (part old) old m.0 before next m.1,
        parts-alike sound laws parts m.0 new agrees m.2,
      )

  -- both have the same parts
  order-alike : repetition_parts q ≡ repetition_parts p
  order-alike =
      let aways : away_turns_of q ≡ away_turns_of p =
      zip-same-map Alike (λ (x : ControllerPlan). Away x.node) (λ (y : ControllerPlan). Away y.node)
      p.controllers plans like (λ x y alike. ap (λ (z : ControllerPlan). Away z.node) alike.is) in
      let calls : visits_of q ≡ visits_of p =
      zip-same-map Alike (λ (x : ControllerPlan). Visit x.node)
      (λ (y : ControllerPlan). Visit y.node) p.controllers plans like
      (λ x y alike. ap (λ (z : ControllerPlan). Visit z.node) alike.is) in
      λ i. (λ (joint : Joint). aways i) ∷ (λ (joint : Joint). calls i)
      ∷ many_times (first_net p).rotations (round_parts p.nets)

  -- repetitions of both from one joint history make one thing
  pub repetition-one : IsPlant p → IsPlant q → CallLaws → (old new other : Joint)
      → AllAgree new → Kept q scans old → Fine p scans new → Fine q scans other
      → IsRepetition p scans old new → IsRepetition q scans old other
      → OneJoint q scans new other
  repetition-one sound sound' laws old new other agrees kept fine fine' r r' =
      let parts = repetition_parts p in
      let mid = scanned p scans old in
      let made = repetition-parts p scans old new r in
      let agrees_mid = agrees-front p plans scans like mid new
      (parts-grow p scans sound laws parts mid new made) agrees in
      let same = scanned-alike old agrees_mid in
      let made' : MakesParts q scans parts (scanned q scans old) other =
      subst (λ (order : List Part). MakesParts q scans order (scanned q scans old) other)
      order-alike (repetition-parts q scans old other r') in
      parts-one q scans sound' laws parts (scanned q scans old) new other
      (scan-kept q scans old kept) (fine-alike p plans scans like new agrees fine) fine'
      (subst (λ (j : Joint). MakesParts q scans parts j new) (sym same)
      (parts-alike sound laws parts mid new agrees made)) made'
