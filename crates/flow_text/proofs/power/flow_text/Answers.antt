use Rattle.std.proofs.Common.{◌≡◌, ◌+◌, ◌-◌, ℕ, List, length, ap, subst, sym, ◌∙◌}
use Rattle.std.specs.List.{AllByRecursion, flat_map, zip}
use Rattle.std.proofs.lemmas.Result.{IfOk-weaker}
use Rattle.std.proofs.lemmas.Slice.Zip.{AllZip-long}
use Rattle.joint_history.specs.declared.joint.ControllerLog.{ControllerLog}
use Rattle.joint_history.specs.JointLaws.{IsLegalLog, most_scans}
use Rattle.panel_text.specs.Panel.{CanShow}
use Rattle.panel_text.proofs.LogLemmas.{controller_logs, controllers_run}
use Rattle.flow_text.specs.Power.{flow, log_lines, plant_lines}
use Rattle.flow_text.specs.Window.{texts_of, told}
use Rattle.flow_text.proofs.Telling.{told_all}
use Rattle.flow_text.proofs.power.flow_text.Goals as goal

pub tell_logs-requires-clause-count : goal.tell_logs-requires-clause-count
tell_logs-requires-clause-count c =
    let plant = c.args.plant.now in
    let P : List ControllerLog → Type 0 = λ logs. length logs ≡ length plant.controllers in
    subst P (sym c.as_slice.ensures)
    (AllZip-long (IsLegalLog plant most_scans) plant.controllers c.args.joint.now.controllers
    c.requires.joint.controllers)

pub tell_logs-requires-clause-logs : goal.tell_logs-requires-clause-logs
tell_logs-requires-clause-logs c =
    let plant = c.args.plant.now in
    let P : List ControllerLog → Type 0 =
    λ logs. AllByRecursion (CanShow plant) (zip plant.controllers logs) in
    subst P (sym c.as_slice.ensures)
    (controller_logs plant plant.controllers c.args.joint.now.controllers
    (controllers_run plant c.requires.plant) c.requires.joint.controllers)

pub returns : goal.returns
returns c =
    let plant = c.args.plant.now in
    let joint = c.args.joint.now in
    let first = c.args.first in
    let many = c.args.last + 1 - first in
    let window = c.in_ok-window.window in
    let lines = plant_lines plant joint in
    let texts = c.in_ok-tell_logs.ensures.texts
    ∙ ap (λ (logs : List ControllerLog).
    told (λ scan. flat_map (log_lines plant scan) (zip plant.controllers logs)) window.first
    (texts_of window)) c.as_slice.ensures
    ∙ ap (λ n. told lines n (texts_of window)) c.in_ok-window.ensures.first
    ∙ ap (told lines first) c.in_ok-window.ensures.texts in
    IfOk-weaker c.joined.result
    (λ text. text.items ≡ flat_map (λ piece. piece) (texts_of c.tell_logs.new.window))
    (λ text. text.items ≡ flow plant first c.args.last joint)
    (λ text is. is ∙ ap (flat_map (λ (piece : List ℕ). piece)) texts ∙ told_all lines first many)
    c.joined.ensures
