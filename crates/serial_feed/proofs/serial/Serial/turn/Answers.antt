use Rattle.std.proofs.Common.{Bool, not, sym, subst, ◌∙◌}
use Rattle.serial_run.specs.declared.stations.Stations.{Stations}
use Rattle.serial_run.specs.Scans.{have_ended}
use Rattle.serial_feed.specs.Standing.{SerialIs, Turned}
use Rattle.serial_feed.proofs.Standings.{not-repeated, repeated, turned-some}
use Rattle.serial_feed.proofs.serial.Serial.turn.Goals as goal
use Rattle.serial_feed.proofs.serial.Serial.turn.Goals.{else-not-have_ended}
use Rattle.serial_feed.proofs.serial.Serial.turn.Goals.{then-not-have_ended+in_ok-repetition}

pub invariant_of-serial : goal.invariant_of-serial
invariant_of-serial c =
    let old = c.self.inside.run in
    let rotations = c.self.inside.rotations in
    let run = c.if-not-have_ended.run in
    let was : SerialIs = record { run = old; rotations = rotations } in
    let t : Turned was (record { run = run; rotations = rotations }) (not (have_ended run)) =
    elim c.if-not-have_ended.branch [
      | then-not-have_ended+in_ok-repetition w ↦
          subst (λ (r : Stations). Turned was (record { run = r; rotations = rotations })
          (not (have_ended r))) (sym w.run-is)
          (repeated rotations old w.repetition.new.self
          (sym c.have_ended.ensures ∙ w.if-not-have_ended.true)
          w.in_ok-repetition.ensures.did w.in_ok-repetition.ensures.between
          w.in_ok-repetition.ensures.off)
      | else-not-have_ended w ↦
          subst (λ (r : Stations). Turned was (record { run = r; rotations = rotations })
          (not (have_ended r))) (sym w.run-is)
          (not-repeated was (sym c.have_ended.ensures ∙ w.if-not-have_ended.false))
    ] in
    turned-some was (record { run = run; rotations = rotations }) (not (have_ended run)) t
    c.self.invariant

pub returns : goal.returns
returns c =
    let old = c.self.inside.run in
    let rotations = c.self.inside.rotations in
    let run = c.if-not-have_ended.run in
    let was : SerialIs = record { run = old; rotations = rotations } in
    let new : SerialIs = record { run = run; rotations = rotations } in
    let t : Turned was new (not (have_ended run)) =
    elim c.if-not-have_ended.branch [
      | then-not-have_ended+in_ok-repetition w ↦
          subst (λ (r : Stations). Turned was (record { run = r; rotations = rotations })
          (not (have_ended r))) (sym w.run-is)
          (repeated rotations old w.repetition.new.self
          (sym c.have_ended.ensures ∙ w.if-not-have_ended.true)
          w.in_ok-repetition.ensures.did w.in_ok-repetition.ensures.between
          w.in_ok-repetition.ensures.off)
      | else-not-have_ended w ↦
          subst (λ (r : Stations). Turned was (record { run = r; rotations = rotations })
          (not (have_ended r))) (sym w.run-is)
          (not-repeated was (sym c.have_ended.ensures ∙ w.if-not-have_ended.false))
    ] in
    subst (λ (s : SerialIs). Turned s new (not c.have_ended-goes_on.result)) c.self.view_is
    (subst (λ (b : Bool). Turned was new (not b)) (sym c.have_ended-goes_on.ensures) t)
