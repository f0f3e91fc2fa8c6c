use Rattle.serial_run.specs.Stations.{joint_of}
use Rattle.serial_run.proofs.Laws.{stand-in-time, stand-joint, stand-legal}
use Rattle.serial_run.proofs.Handed.{if-both, noted-run}
use Rattle.serial_run.proofs.runs.run_noted.Goals as goal

pub returns : goal.returns
returns c =
    let plant = c.args.plant.now in
    let scans = c.args.scans in
    let run = c.in_ok-run.run' in
    let over = c.in_ok-run.ensures in
    let sound = c.requires.plant.sound in
    let legal = stand-legal plant scans run over.stand in
    let effects = c.effects_are_right.ensures plant scans (joint_of run) sound legal
    (stand-joint plant scans run over.stand) in
    let in_time = c.joint_is_in_one_order.ensures plant scans (joint_of run) sound legal
    (stand-in-time plant scans run over.stand) in
    if-both c.noted_of.result
    (λ noted is notes. noted-run plant scans run noted over effects in_time
    c.notes_ask_no_scans.ensures is notes)
    c.noted_of.ensures.joint c.noted_of.ensures.notes
