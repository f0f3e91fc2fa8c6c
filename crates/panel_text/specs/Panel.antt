-- The panel of a plant, by what its controllers and its hosts noted. All of it is this project's
-- own.
use Rattle.std.specs.Prelude.{◌≡◌, ℕ, List, [], ◌∷◌, ◌++◌, map}
use Rattle.std.specs.List.{flat_map}
use Rattle.plant_types.specs.declared.plan.ControllerPlan.{ControllerPlan}
use Rattle.plant_types.specs.declared.plan.Plant.{Plant}
use Rattle.plant_types.specs.declared.net.HostPlan.{HostPlan}
use Rattle.controller_core.specs.declared.entry.Entry.{Entry}
use Rattle.controller_core.specs.Controller.{ControllerIs, IsLegal}
use Rattle.controller_core.specs.Machine.{IsRunnable}
use Rattle.controller_core.specs.Panel.{panel_lines}
use Rattle.host_port.specs.Legal.{IsHostHistory}
use Rattle.joint_history.specs.declared.joint.ControllerLog.{ControllerLog}
use Rattle.joint_history.specs.declared.joint.HostLog.{HostLog}
use Rattle.joint_history.specs.declared.joint.Joint.{Joint}
use Rattle.joint_history.specs.JointLaws.{fixed_of, logged, most_scans}
use Rattle.panel_text.specs.Hosts.{host_lines}
use Rattle.panel_text.specs.Scans.{by_scan}

-- A controller can be run, and its log is legal.
pub record CanShow (plant : Plant) (of : ControllerPlan × ControllerLog) : Type 0 where
  pub runs : IsRunnable (fixed_of plant most_scans of.0)
  pub legal : IsLegal (fixed_of plant most_scans of.0) of.1.entries

-- A controller made this event, whatever it keeps room for.
pub record HasMade (entry : Entry) (old new : ControllerIs) : Type 0 where
  pub fixed : new.fixed ≡ old.fixed
  pub history : new.history ≡ old.history ++ entry ∷ []

-- A log is a legal one of some host.
abbrev pub IsHostLog : HostLog → Type 0
IsHostLog log = (plan : HostPlan) × IsHostHistory plan log.entries

-- The panel lines of a controller by its log.
abbrev pub log_lines : Plant → ControllerPlan × ControllerLog → List (List ℕ)
log_lines plant of = panel_lines (fixed_of plant most_scans of.0) of.1.entries

-- The panel: scan by scan the lines of the controllers in rising address, and then those of the
-- hosts in rising address.
abbrev pub panel : Plant → Joint → List ℕ
panel plant joint =
    by_scan (map (log_lines plant) (logged plant joint))
    ++ flat_map (λ log. host_lines log.node log.entries) joint.hosts
