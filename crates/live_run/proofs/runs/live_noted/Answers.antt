use Rattle.std.proofs.Common.{◌≡◌, List, map, sym, ap, subst, ◌∙◌}
use Rattle.std.specs.List.{All, AllZip, zip}
use Rattle.std.proofs.lemmas.Bool.{and_parts}
use Rattle.std.proofs.lemmas.List.Elements.{All-weaker}
use Rattle.plant_types.specs.declared.net.NetPlan.{NetPlan}
use Rattle.plant_types.specs.declared.plan.Plant.{Plant}
use Rattle.plant_types.specs.Plans.{IsNetOf, IsNetPlan}
use Rattle.joint_history.specs.declared.noted.Noted.{Noted}
use Rattle.joint_history.specs.Complete.{IsComplete}
use Rattle.joint_history.specs.JointLaws.{IsJoint, IsLegalJoint, IsLegalRingLog}
use Rattle.joint_history.specs.Nets.{noted_on_rings}
use Rattle.joint_history.specs.Noted.{IsNoted, notes_by_log}
use Rattle.joint_history.specs.Runnable.{CanRunPlant}
use Rattle.route_laws.specs.Effects.{EffectsAreRight}
use Rattle.entry_causes.specs.Joint.{IsInOneOrder}
use Rattle.live_workers.specs.EndTimes.{AreBridgesInTime}
use Rattle.live_workers.specs.TurnLaws.{NoneSpent}
use Rattle.live_run.specs.Closing.{AllClosed, net_of_gate}
use Rattle.live_run.specs.Runs.{IsMadeOf, IsOutcome}
use Rattle.live_run.proofs.Closed.{closed-legal}
use Rattle.live_run.proofs.Noting.{if-ok, notes-brought}
use Rattle.live_run.proofs.Whole.{Closes, made-closes}
use Rattle.live_run.proofs.runs.live_noted.Goals as goal

pub open_all-requires : goal.open_all-requires
open_all-requires g c =
    let plant = c.args.plant.now in
    subst (λ (l : List NetPlan). All IsNetPlan l) (sym c.as_slice.ensures)
    (All-weaker (IsNetOf plant) IsNetPlan (λ net is. is.plan) plant.nets
    c.requires.plant.sound.nets)

pub run_over-controllers-requires-clause-plant : goal.run_over-controllers-requires-clause-plant
run_over-controllers-requires-clause-plant g c κs within =
    subst CanRunPlant (sym c.new-run.ensures.plant) c.requires.plant

pub run_over-controllers-requires-clause-nets : goal.run_over-controllers-requires-clause-nets
run_over-controllers-requires-clause-nets g c κs within whole =
    c.in_ok-rings.ensures.nets whole
    ∙ (c.as_slice.ensures ∙ ap (λ (p : Plant). p.nets) (sym c.new-run.ensures.plant))

pub returns : goal.returns
returns g c =
    let plant = c.args.plant.now in
    let sound = c.requires.plant.sound in
    let scans = c.args.scans in
    let t = c.run_over-controllers in
    let gates = t.new.rings.homes.items in
    let purses = t.new.rings.purses.items in
    let rings = c.close_all-rings.result.0.items in
    let logs = t.result.controllers.items in
    let hosts = t.result.hosts.items in
    let bridges = t.result.bridges.items in
    let done = t.result.done in
    let both = and_parts done c.close_all-rings.result.1 c.if-not-done-closed.false in
    let through : IsOutcome plant scans gates purses t.result =
    subst (λ n. IsOutcome plant n gates purses t.result) c.new-run.ensures.scans
    (subst (λ (p : Plant). IsOutcome p c.new-run.result.scans gates purses t.result)
    c.new-run.ensures.plant (t.ensures.outcome both.0)) in
    let nets : map net_of_gate gates ≡ plant.nets = ap (map net_of_gate) t.ensures.homes
    ∙ (c.in_ok-rings.ensures.nets (t.ensures.whole both.0) ∙ c.as_slice.ensures) in
    let closed : AllClosed gates purses rings = c.close_all-rings.ensures both.1 in
    let legal : AllZip IsLegalRingLog plant.nets rings =
    subst (λ (l : List NetPlan). AllZip IsLegalRingLog l rings) nets
    (closed-legal gates purses rings closed) in
    let closes : (noted : Noted) → IsMadeOf logs hosts bridges rings noted
    → Closes plant scans noted.joint =
    made-closes c.controllers_complete.ensures c.hosts_complete.ensures plant scans sound gates
    purses rings closed legal logs hosts bridges done both.0 through in
    let brought = notes-brought plant scans gates purses c.notes_ask_no_scans.ensures
    plant.controllers logs (through.ran both.0) in
    let each = λ (Q : Noted → Type 0)
    (f : (noted : Noted) → IsMadeOf logs hosts bridges rings noted → Q noted).
    if-ok c.noted_of.result (IsMadeOf logs hosts bridges rings) Q c.noted_of.ensures f in
    record {
      legal = each (λ noted. IsLegalJoint plant scans noted.joint) (λ n m. (closes n m).legal);
      joint = each (λ noted. IsJoint noted.joint) (λ n m. (closes n m).ties);
      complete = each (λ noted. IsComplete plant scans noted.joint)
          (λ n m. (closes n m).complete);
      unspent = each (λ noted. NoneSpent (noted_on_rings noted.joint))
          (λ n m. (closes n m).unspent);
      effects = each (λ noted. EffectsAreRight noted.joint)
          (λ n m. c.effects_are_right.ensures plant scans n.joint sound (closes n m).legal
          (closes n m).ties);
      in_time = each (λ noted. IsInOneOrder plant noted.joint)
          (λ n m. c.joint_is_in_one_order.ensures plant scans n.joint sound (closes n m).legal
          (closes n m).timely);
      bridges_in_time = each (λ noted. AreBridgesInTime noted.joint)
          (λ n m. (closes n m).bridges_in_time);
      noted = each (IsNoted plant) (λ n m. m.notes_are ∙ (brought
          ∙ ap (λ l. map (notes_by_log plant) (zip plant.controllers l)) (sym m.controllers_are)));
    }
