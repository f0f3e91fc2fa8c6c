use Rattle.std.proofs.Common.{◌≡◌, ◌++◌, ◌∙◌, List, ap, length, map, subst, sym}
use Rattle.std.specs.List.{AllByRecursion, flat_map}
use Rattle.plant_types.specs.declared.plan.ControllerPlan.{ControllerPlan}
use Rattle.controller_core.specs.declared.notes.Notes.{Notes}
use Rattle.joint_history.specs.declared.joint.HostLog.{HostLog}
use Rattle.joint_history.specs.JointLaws.{logged}
use Rattle.panel_text.specs.Hosts.{host_lines}
use Rattle.panel_text.specs.Panel.{IsHostLog, log_lines}
use Rattle.panel_text.specs.Scans.{by_scan, runs_noted}
use Rattle.panel_text.proofs.LogLemmas.{host_logs, notes_long, notes_tell}
use Rattle.panel_text.proofs.panel.panel_from_notes.Goals as goal

pub push_scans-requires-clause-count : goal.push_scans-requires-clause-count
push_scans-requires-clause-count c =
    let plant = c.args.plant.now in
    ap length c.requires.notes
    ∙ notes_long plant plant.controllers c.args.joint.now.controllers c.requires.joint.controllers
    ∙ ap length (sym c.as_slice-plans.ensures)

pub push_hosts-requires : goal.push_hosts-requires
push_hosts-requires c =
    let P : List HostLog → Type 0 = λ logs. AllByRecursion IsHostLog logs in
    subst P (sym c.as_slice-2.ensures)
    (host_logs c.args.plant.now.hosts c.args.joint.now.hosts c.requires.joint.hosts)

pub returns : goal.returns
returns c =
    let plant = c.args.plant.now in
    let joint = c.args.joint.now in
    let notes = c.args.notes.now in
    let plans = c.as_slice-plans.result.now in
    let logs = c.as_slice-2.result.now in
    let hosts = λ (all : List HostLog). flat_map (λ log. host_lines log.node log.entries) all in
    let runs_are : runs_noted plans notes ≡ map (log_lines plant) (logged plant joint) =
    ap (λ (all : List ControllerPlan). runs_noted all notes) c.as_slice-plans.ensures
    ∙ ap (λ (all : List Notes). runs_noted plant.controllers all) c.requires.notes
    ∙ notes_tell c.notes_tell_the_lines.ensures plant plant.controllers joint.controllers
    c.requires.joint.controllers in
    (λ i. (c.into_bytes.ensures.value i).items) ∙ c.in_ok-push_hosts.ensures
    ∙ ap (λ text. text ++ hosts logs) (c.in_ok-push_scans.ensures
    ∙ ap (λ first. first ++ by_scan (runs_noted plans notes)) c.new-text.ensures.bytes)
    ∙ ap (λ runs. by_scan runs ++ hosts logs) runs_are
    ∙ ap (λ all. by_scan (map (log_lines plant) (logged plant joint)) ++ hosts all)
    c.as_slice-2.ensures
