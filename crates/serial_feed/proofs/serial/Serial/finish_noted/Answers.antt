use Rattle.std.proofs.Common.{◌≡◌, true, sym, subst}
use Rattle.serial_run.proofs.Handed.{if-both}
use Rattle.serial_feed.specs.Standing.{are_gone, IsNotedOfEach, SerialIs}
use Rattle.serial_feed.proofs.Standings.{noted-each}
use Rattle.serial_feed.proofs.serial.Serial.finish_noted.Goals as goal

pub returns : goal.returns
returns c =
    let e = c.in_ok-finish.ensures in
    let gone = subst (λ (s : SerialIs). are_gone s ≡ true) (sym c.self.view_is) c.requires in
    if-both c.noted_of.result
    (λ noted is notes. subst (λ (s : SerialIs). IsNotedOfEach s noted) c.self.view_is
    (noted-each c.controllers_complete.ensures c.hosts_complete.ensures
    c.notes_ask_no_scans.ensures c.effects_are_right.ensures c.joint_is_in_one_order.ensures
    c.self.inside.rotations c.self.inside.run c.finish.new.self gone e.did e.scans e.off e.visited
    e.left noted is notes))
    c.noted_of.ensures.joint c.noted_of.ensures.notes
