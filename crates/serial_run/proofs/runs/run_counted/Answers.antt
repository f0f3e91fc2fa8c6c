use Rattle.std.proofs.Common.{◌∙◌, List, ap, length, sym}
use Rattle.std.specs.List.{sum_by, zip}
use Rattle.std.proofs.lemmas.Slice.Zip.{AllZip-long}
use Rattle.plant_types.specs.declared.plan.ControllerPlan.{ControllerPlan}
use Rattle.joint_history.specs.declared.joint.Joint.{Joint}
use Rattle.summary_text.specs.Coils.{coils_at_end}
use Rattle.serial_run.specs.declared.stations.ControllerStation.{ControllerStation}
use Rattle.serial_run.specs.Stations.{StandsOn, joint_of, station_coils}
use Rattle.serial_run.proofs.Laws.{stand-in-time, stand-joint, stand-legal}
use Rattle.serial_run.proofs.Handed.{noted-run, stand-coils}
use Rattle.serial_run.proofs.runs.run_counted.Goals as goal

pub coils_of-coils-requires : goal.coils_of-coils-requires
coils_of-coils-requires c =
    let plant = c.args.plant.now in
    let run = c.in_ok-run.run' in
    ap length c.as_slice-2.ensures.value
    ∙ AllZip-long (StandsOn plant c.args.scans run.rings.items) plant.controllers
    run.controllers.items c.in_ok-run.ensures.stand.controllers
    ∙ ap length (sym c.as_slice.ensures)

pub returns : goal.returns
returns c =
    let plant = c.args.plant.now in
    let scans = c.args.scans in
    let run = c.in_ok-run.run' in
    let over = c.in_ok-run.ensures in
    let sound = c.requires.plant.sound in
    let legal = stand-legal plant scans run over.stand in
    let effects = c.effects_are_right.ensures plant scans (joint_of run) sound legal
    (stand-joint plant scans run over.stand) in
    let in_time = c.joint_is_in_one_order.ensures plant scans (joint_of run) sound legal
    (stand-in-time plant scans run over.stand) in
    let made = c.in_ok-noted.ensures in
    record {
      run = noted-run plant scans run c.in_ok-noted.noted over effects in_time
          c.notes_ask_no_scans.ensures made.joint made.notes;
      coils = c.coils_of-coils.ensures
          ∙ ap (λ (all : List ControllerPlan).
          sum_by station_coils (zip all c.as_slice-2.result.now)) c.as_slice.ensures
          ∙ ap (λ (all : List ControllerStation).
          sum_by station_coils (zip plant.controllers all)) c.as_slice-2.ensures.value
          ∙ stand-coils plant scans run over.stand
          ∙ ap (λ (j : Joint). coils_at_end plant j) (sym made.joint);
    }
