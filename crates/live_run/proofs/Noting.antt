-- What controllers noted of their panels, beside their histories.
use Rattle.std.proofs.Common.{◌≡◌, ℕ, List, [], ◌∷◌, Result, Ok, Err, IfOk, map, refl, ◌∙◌}
use Rattle.std.specs.List.{zip}
use Rattle.plant_types.specs.declared.plan.ControllerPlan.{ControllerPlan}
use Rattle.plant_types.specs.declared.plan.Plant.{Plant}
use Rattle.controller_core.specs.Notes.{NotesAskNoScans}
use Rattle.joint_history.specs.JointLaws.{fixed_of, most_scans}
use Rattle.joint_history.specs.Noted.{notes_by_log}
use Rattle.live_workers.specs.declared.stations.NotedLog.{NotedLog}
use Rattle.live_workers.specs.Stations.{CameNoted}
use Rattle.live_run.specs.Homes.{Purse, RingGate}
use Rattle.live_run.specs.Runs.{AreBrought, log_part, notes_part}

-- what holds of each value of a kind holds of one that was answered
pub if-ok : {T X : Type 0} (r : Result T X) (P Q : T → Type 0) → IfOk r P
    → ((t : T) → P t → Q t) → IfOk r Q
if-ok (Ok t) P Q p f = f t p
if-ok (Err x) P Q p f = tt

-- the notes of controllers that came to their ends are those of their histories, whatever the
-- number of scans
pub notes-brought : (plant : Plant) (scans : ℕ) (gates : List RingGate) (purses : List Purse)
    → NotesAskNoScans → (plans : List ControllerPlan) (logs : List NotedLog)
    → AreBrought gates purses (λ (p : ControllerPlan). p.network) (λ (p : ControllerPlan). p.node)
    (CameNoted plant scans) plans logs
    → map notes_part logs ≡ map (notes_by_log plant) (zip plans (map log_part logs))
notes-brought plant scans gates purses law [] [] all = refl
notes-brought plant scans gates purses law [] (l ∷ logs) all = absurd all
notes-brought plant scans gates purses law (p ∷ plans) [] all = absurd all
notes-brought plant scans gates purses law (p ∷ plans) (l ∷ logs) all = λ i.
    (all.0.holds.notes ∙ law (fixed_of plant most_scans p) scans l.log.entries) i
    ∷ notes-brought plant scans gates purses law plans logs all.1 i
