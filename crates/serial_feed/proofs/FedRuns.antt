-- Rounds and repetitions of a plant are those of the plant with a row more, where all lists agree.
use Rattle.std.proofs.Common.{◌≡◌, ℕ, suc, ◌+◌, Bool, true, false, List, [], ◌∷◌, ◌++◌, map, Some}
use Rattle.std.proofs.Common.{refl}
use Rattle.std.proofs.Common.{replicate, sym, ap, subst, ◌∙◌}
use Rattle.std.specs.Prelude.{◌&&◌, if◌then◌else◌, option_map}
use Rattle.std.specs.List.{list_all, slice_get, zip}
use Rattle.std.proofs.lemmas.Option.{slice_get-map}
use Rattle.plant_types.specs.declared.drops.ScriptRow.{ScriptRow}
use Rattle.plant_types.specs.declared.net.NetPlan.{NetPlan}
use Rattle.plant_types.specs.declared.plan.ControllerPlan.{ControllerPlan}
use Rattle.plant_types.specs.declared.plan.Plant.{Plant}
use Rattle.scan_order.specs.Due.{due}
use Rattle.controller_core.specs.declared.entry.Entry.{Entry}
use Rattle.controller_core.specs.declared.fixed.Fixed.{Fixed}
use Rattle.controller_core.specs.Replay.{replay}
use Rattle.controller_core.specs.Run.{entries_from}
use Rattle.joint_history.specs.declared.joint.ControllerLog.{ControllerLog}
use Rattle.joint_history.specs.declared.joint.Joint.{Joint}
use Rattle.joint_history.specs.JointLaws.{logged}
use Rattle.joint_history.specs.Nets.{noted_on}
use Rattle.joint_history.specs.Reading.{has_ended_at}
use Rattle.fed_turns.specs.Agreeing.{IsFront}
use Rattle.fed_turns.proofs.Agreements.{ended-same, front-all}
use Rattle.fed_turns.proofs.AgreedScans.{scans as scan-same}
use Rattle.serial_run.specs.declared.order.Turn.{Turn}
use Rattle.serial_run.specs.declared.order.Turn.TheVariants.{Hold, Visit, Away}
use Rattle.serial_run.specs.Serial.{all_have_ended, away_turns_of, log_has_ended, log_with_scan}
use Rattle.serial_run.specs.Serial.{members_on, scanned, visits_of, IsChain, IsRepetition}
use Rattle.serial_run.specs.Serial.{MakesRound, MakesRoundOfEach, MakesRounds}
use Rattle.serial_run.specs.Turns.{empty_log, nothing_made, IsControllerAt, MakesTurns}
use Rattle.serial_run.proofs.Lists.{zip-there}
use Rattle.serial_feed.specs.Feeding.{RowsKeepRuns}
use Rattle.serial_feed.proofs.FedTurns.{turns-fed, turns-go}
use Rattle.serial_feed.proofs.GoingOn.{agrees-front, agrees-last, fed, fixed_as, fixed_fed_as}
use Rattle.serial_feed.proofs.GoingOn.{goes-same, goes-then, with_row, Agrees, GoesOn}

-- ---- lists of plans and logs

abbrev Of : Type 0
Of = ControllerPlan × ControllerLog

same-all : (f : ControllerPlan → ControllerPlan) (g h : Of → Bool) (plans : List ControllerPlan)
    (logs : List ControllerLog)
    → ((k : ℕ) (plan : ControllerPlan) (log : ControllerLog) → slice_get plans k ≡ Some plan
    → slice_get logs k ≡ Some log → h (f plan, log) ≡ g (plan, log))
    → list_all h (zip (map f plans) logs) ≡ list_all g (zip plans logs)
same-all f g h [] logs each = refl
same-all f g h (plan ∷ plans) [] each = refl
same-all f g h (plan ∷ plans) (log ∷ logs) each =
    let here = each 0 plan log refl refl in
    let rest = same-all f g h plans logs (λ k. each (suc k)) in
    λ i. here i && rest i

same-map : {X : Type 0} (f : ControllerPlan → ControllerPlan) (g h : Of → X)
    (plans : List ControllerPlan) (logs : List ControllerLog)
    → ((k : ℕ) (plan : ControllerPlan) (log : ControllerLog) → slice_get plans k ≡ Some plan
    → slice_get logs k ≡ Some log → h (f plan, log) ≡ g (plan, log))
    → map h (zip (map f plans) logs) ≡ map g (zip plans logs)
same-map f g h [] logs each = refl
same-map f g h (plan ∷ plans) [] each = refl
same-map f g h (plan ∷ plans) (log ∷ logs) each =
    let here = each 0 plan log refl refl in
    let rest = same-map f g h plans logs (λ k. each (suc k)) in
    λ i. here i ∷ rest i

same-turns : {X : Type 0} (f : ControllerPlan → ControllerPlan) (g : ControllerPlan → X)
    (plans : List ControllerPlan) → ((plan : ControllerPlan) → g (f plan) ≡ g plan)
    → map g (map f plans) ≡ map g plans
same-turns f g [] each = refl
same-turns f g (plan ∷ plans) each = λ i. each plan i ∷ same-turns f g plans each i

-- a scan only adds
scan-front : (fixed : Fixed) (b : Bool) (h : List Entry)
    → IsFront h (if b then h
    else h ++ entries_from fixed (replay fixed h) (due fixed.plan ((replay fixed h).gone + 1)))
scan-front fixed true h = front-all h
scan-front fixed false h =
    (entries_from fixed (replay fixed h) (due fixed.plan ((replay fixed h).gone + 1)), refl)

module _ (plant : Plant) (scans node drop : ℕ) (row : ScriptRow) where
  abbrev Goes : Joint → Joint → Type 0
  Goes old new = GoesOn plant scans node drop row old new

  abbrev AllAgree : Joint → Type 0
  AllAgree joint = Agrees plant scans node drop row joint

  abbrev p : Plant
  p = fed plant scans node drop row

  abbrev as_fed : ControllerPlan → ControllerPlan
  as_fed plan = with_row plant scans node drop row plan

  abbrev old_fixed : ControllerPlan → Fixed
  old_fixed plan = fixed_as plant scans node drop row plan

  abbrev new_fixed : ControllerPlan → Fixed
  new_fixed plan = fixed_fed_as plant scans node drop row plan

  before : (old new : Joint) → Goes old new → AllAgree new → AllAgree old
  before old new goes agrees = agrees-front plant scans node drop row old new goes agrees

  onward : (old mid new : Joint) → Goes old mid → Goes mid new → Goes old new
  onward old mid new x y = goes-then plant scans node drop row old mid new x y

  -- ---- rounds

  each-goes : (nets : List NetPlan) (old new : Joint) → MakesRoundOfEach plant scans nets old new
      → Goes old new
  each-goes [] old new m = goes-same plant scans node drop row old new m
  each-goes (net ∷ nets) old new m = onward old m.0 new
      (turns-go plant scans node drop row (replicate (members_on net (noted_on net.number old))
      (Hold net.number)) old m.0 m.1)
      (each-goes nets m.0 new m.2)

  each-fed : (nets : List NetPlan) (old new : Joint) → AllAgree new
      → MakesRoundOfEach plant scans nets old new → MakesRoundOfEach p scans nets old new
  each-fed [] old new agrees m = m
  each-fed (net ∷ nets) old new agrees m = (
    m.0,
    turns-fed plant scans node drop row (replicate (members_on net (noted_on net.number old))
        (Hold net.number)) old m.0 (before m.0 new (each-goes nets m.0 new m.2) agrees) m.1,
    each-fed nets m.0 new agrees m.2,
  )

  -- ---- chains

  record Carries (Came CameFed : Joint → Joint → Type 0) : Type 0 where
    goes : (old new : Joint) → Came old new → Goes old new
    carries : (old new : Joint) → AllAgree new → Came old new → CameFed old new

  chain-goes : (Came CameFed : Joint → Joint → Type 0) → Carries Came CameFed
      → (after_each : List Joint) (old new : Joint) → IsChain Came old after_each new
      → Goes old new
  chain-goes Came CameFed c [] old new m = goes-same plant scans node drop row old new m
  chain-goes Came CameFed c (next ∷ after_each) old new m =
      onward old next new (c.goes old next m.0) (chain-goes Came CameFed c after_each next new m.1)

  chain-fed : (Came CameFed : Joint → Joint → Type 0) → Carries Came CameFed
      → (after_each : List Joint) (old new : Joint) → AllAgree new
      → IsChain Came old after_each new → IsChain CameFed old after_each new
  chain-fed Came CameFed c [] old new agrees m = m
  chain-fed Came CameFed c (next ∷ after_each) old new agrees m = (
    c.carries old next
        (before next new (chain-goes Came CameFed c after_each next new m.1) agrees) m.0,
    chain-fed Came CameFed c after_each next new agrees m.1,
  )

  round-carries : Carries (MakesRound plant scans) (MakesRound p scans)
  round-carries = record { goes = each-goes plant.nets; carries = each-fed plant.nets }

  rounds-goes : (count : ℕ) (old new : Joint) → MakesRounds plant scans count old new
      → Goes old new
  rounds-goes count old new m = chain-goes (MakesRound plant scans) (MakesRound p scans)
      round-carries m.behind_each old new m.rounds

  rounds-fed : (count : ℕ) (old new : Joint) → AllAgree new
      → MakesRounds plant scans count old new → MakesRounds p scans count old new
  rounds-fed count old new agrees m = record {
    behind_each = m.behind_each;
    many = m.many;
    rounds = chain-fed (MakesRound plant scans) (MakesRound p scans) round-carries m.behind_each
        old new agrees m.rounds;
  }

  -- ---- scans

  pub all-ended-same : (joint : Joint) → AllAgree joint
      → all_have_ended p scans joint ≡ all_have_ended plant scans joint
  all-ended-same joint agrees = same-all as_fed (log_has_ended plant scans) (log_has_ended p scans)
      plant.controllers joint.controllers
      (λ k plan log at-plan at-log. ended-same (old_fixed plan) (new_fixed plan) log.entries
      (agrees k plan log (record { plan_is = at-plan; log_is = at-log })))

  scanned-at : (joint : Joint) (k : ℕ) (plan : ControllerPlan) (log : ControllerLog)
      → slice_get plant.controllers k ≡ Some plan → slice_get joint.controllers k ≡ Some log
      → IsControllerAt plant (scanned plant scans joint) k plan
      (log_with_scan plant scans (plan, log))
  scanned-at joint k plan log at-plan at-log = record {
    plan_is = at-plan;
    log_is = slice_get-map (log_with_scan plant scans) (logged plant joint) k
        ∙ ap (option_map (log_with_scan plant scans))
        (zip-there plant.controllers joint.controllers k plan log at-plan at-log);
  }

  scanned-goes : (joint : Joint) → Goes joint (scanned plant scans joint)
  scanned-goes joint k plan log is = (
    log_with_scan plant scans (plan, log),
    (scanned-at joint k plan log is.plan_is is.log_is).log_is,
    scan-front (old_fixed plan) (has_ended_at (old_fixed plan) log.entries) log.entries,
  )

  scanned-same : (joint : Joint) → AllAgree (scanned plant scans joint)
      → scanned p scans joint ≡ scanned plant scans joint
  scanned-same joint agrees =
      let logs : map (log_with_scan p scans) (logged p joint)
      ≡ map (log_with_scan plant scans) (logged plant joint) =
      same-map as_fed (log_with_scan plant scans) (log_with_scan p scans) plant.controllers
      joint.controllers
      (λ k plan log at-plan at-log.
      ap (λ (l : List Entry). record { node = log.node; entries = l })
      (scan-same (old_fixed plan) (new_fixed plan) log.entries
      (agrees k plan (log_with_scan plant scans (plan, log))
      (scanned-at joint k plan log at-plan at-log)))) in
      λ i. record joint { controllers = logs i }

  -- ---- a repetition

  repetition-goes : (old new : Joint) → IsRepetition plant scans old new → Goes old new
  repetition-goes old new r =
      onward old (scanned plant scans old) new (scanned-goes old)
      (onward (scanned plant scans old) r.came_back new
      (turns-go plant scans node drop row (away_turns_of plant) (scanned plant scans old)
      r.came_back r.away_turns)
      (onward r.came_back r.visited new
      (turns-go plant scans node drop row (visits_of plant) r.came_back r.visited r.visits)
      (rounds-goes _ r.visited new r.rounds)))

  repetition-fed : (old new : Joint) → AllAgree new → IsRepetition plant scans old new
      → IsRepetition p scans old new
  repetition-fed old new agrees r =
      let at_visited = before r.visited new (rounds-goes _ r.visited new r.rounds) agrees in
      let at_back = before r.came_back r.visited
      (turns-go plant scans node drop row (visits_of plant) r.came_back r.visited r.visits)
      at_visited in
      let at_scans = before (scanned plant scans old) r.came_back
      (turns-go plant scans node drop row (away_turns_of plant) (scanned plant scans old)
      r.came_back r.away_turns) at_back in
      let at_old = before old (scanned plant scans old) (scanned-goes old) at_scans in
      let aways : away_turns_of p ≡ away_turns_of plant =
      same-turns as_fed (λ (plan : ControllerPlan). Away plan.node) plant.controllers
      (λ plan. refl) in
      let calls : visits_of p ≡ visits_of plant =
      same-turns as_fed (λ (plan : ControllerPlan). Visit plan.node) plant.controllers
      (λ plan. refl) in
      record {
        goes_on = all-ended-same old at_old ∙ r.goes_on;
        came_back = r.came_back;
        away_turns = subst (λ (j : Joint). MakesTurns p scans (away_turns_of p) j r.came_back)
            (sym (scanned-same old at_scans))
            (subst (λ (turns : List Turn). MakesTurns p scans turns (scanned plant scans old)
            r.came_back) (sym aways)
            (turns-fed plant scans node drop row (away_turns_of plant) (scanned plant scans old)
            r.came_back at_back r.away_turns));
        visited = r.visited;
        visits = subst (λ (turns : List Turn). MakesTurns p scans turns r.came_back r.visited)
            (sym calls)
            (turns-fed plant scans node drop row (visits_of plant) r.came_back r.visited at_visited
            r.visits);
        rounds = rounds-fed _ r.visited new agrees r.rounds;
      }

  repetition-carries : Carries (IsRepetition plant scans) (IsRepetition p scans)
  repetition-carries = record { goes = repetition-goes; carries = repetition-fed }

  nothing-same : nothing_made p ≡ nothing_made plant
  nothing-same =
      let logs : map empty_log p.controllers ≡ map empty_log plant.controllers =
      same-turns as_fed empty_log plant.controllers (λ plan. refl) in
      λ i. record (nothing_made plant) { controllers = logs i }

  pub run-fed : (after_each : List Joint) (joint : Joint) → AllAgree joint
      → IsChain (IsRepetition plant scans) (nothing_made plant) after_each joint
      → IsChain (IsRepetition p scans) (nothing_made p) after_each joint
  run-fed after_each joint agrees m =
      subst (λ (first : Joint). IsChain (IsRepetition p scans) first after_each joint)
      (sym nothing-same)
      (chain-fed (IsRepetition plant scans) (IsRepetition p scans) repetition-carries after_each
      (nothing_made plant) joint agrees m)

pub runs : RowsKeepRuns
runs plant scans node drop row after_each joint can m =
    run-fed plant scans node drop row after_each joint
    (agrees-last plant scans node drop row joint can) m
