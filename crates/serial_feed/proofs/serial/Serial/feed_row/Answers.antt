use Rattle.std.proofs.Common.{sym, subst}
use Rattle.serial_run.proofs.TurnsMade.{on-ok}
use Rattle.serial_run.specs.Feeding.{CanFeedNode}
use Rattle.serial_feed.specs.Standing.{FedFor, SerialIs, StaysFor}
use Rattle.serial_feed.proofs.Standings.{either, fed-for, fed-some, on-err, stays-for, stays-some}
use Rattle.serial_feed.proofs.serial.Serial.feed_row.Goals as goal

pub invariant_of-self : goal.invariant_of-self
invariant_of-self c =
    let node = c.args.node in
    let drop = c.args.drop in
    let row = c.args.row in
    let rotations = c.self.inside.rotations in
    let old = c.self.inside.run in
    let new = c.feed_row.new.self in
    let was : SerialIs = record { run = old; rotations = rotations } in
    let now : SerialIs = record { run = new; rotations = rotations } in
    let can = subst (λ (s : SerialIs). CanFeedNode node drop row s.run) (sym c.self.view_is)
    c.requires in
    either c.feed_row.result c.feed_row.ensures.fed c.feed_row.ensures.stays
    (λ fed. fed-some node drop row was now
    (fed-for rotations old new node drop row c.self.invariant can fed) c.self.invariant)
    (λ same. stays-some was now (stays-for rotations old new same) c.self.invariant)

pub returns-clause-fed : goal.returns-clause-fed
returns-clause-fed c =
    let node = c.args.node in
    let drop = c.args.drop in
    let row = c.args.row in
    let rotations = c.self.inside.rotations in
    let old = c.self.inside.run in
    let new = c.feed_row.new.self in
    let now : SerialIs = record { run = new; rotations = rotations } in
    let can = subst (λ (s : SerialIs). CanFeedNode node drop row s.run) (sym c.self.view_is)
    c.requires in
    on-ok c.feed_row.result
    (λ fed. subst (λ (s : SerialIs). FedFor node drop row s now) c.self.view_is
    (fed-for rotations old new node drop row c.self.invariant can fed)) c.feed_row.ensures.fed

pub returns-clause-stays : goal.returns-clause-stays
returns-clause-stays c =
    let rotations = c.self.inside.rotations in
    let old = c.self.inside.run in
    let new = c.feed_row.new.self in
    let now : SerialIs = record { run = new; rotations = rotations } in
    on-err c.feed_row.result
    (λ same. subst (λ (s : SerialIs). StaysFor s now) c.self.view_is
    (stays-for rotations old new same)) c.feed_row.ensures.stays
