use Rattle.std.proofs.Common.{◌≡◌, List, length, subst, sym}
use Rattle.std.specs.List.{AllByRecursion, zip}
use Rattle.std.proofs.lemmas.Slice.Zip.{AllZip-long}
use Rattle.joint_history.specs.declared.joint.ControllerLog.{ControllerLog}
use Rattle.joint_history.specs.JointLaws.{IsLegalLog, most_scans}
use Rattle.panel_text.specs.Panel.{CanShow}
use Rattle.panel_text.proofs.LogLemmas.{controller_logs, controllers_run}
use Rattle.panel_text.proofs.panel.panel_text.Goals as goal

pub notes_by_logs-requires-clause-count : goal.notes_by_logs-requires-clause-count
notes_by_logs-requires-clause-count c =
    let plant = c.args.plant.now in
    let P : List ControllerLog → Type 0 = λ logs. length logs ≡ length plant.controllers in
    subst P (sym c.as_slice.ensures)
    (AllZip-long (IsLegalLog plant most_scans) plant.controllers c.args.joint.now.controllers
    c.requires.joint.controllers)

pub notes_by_logs-requires-clause-logs : goal.notes_by_logs-requires-clause-logs
notes_by_logs-requires-clause-logs c =
    let plant = c.args.plant.now in
    let P : List ControllerLog → Type 0 =
    λ logs. AllByRecursion (CanShow plant) (zip plant.controllers logs) in
    subst P (sym c.as_slice.ensures)
    (controller_logs plant plant.controllers c.args.joint.now.controllers
    (controllers_run plant c.requires.plant) c.requires.joint.controllers)
