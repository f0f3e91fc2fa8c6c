use Rattle.std.proofs.Common.{refl, sym}
use Rattle.comm_port.proofs.Steps.{ring-asked}
use Rattle.bridge_port.proofs.EndSteps.{bridge-asked, end-bridge, end-rest}
use Rattle.bridge_port.proofs.EndTurns.{turning-across, turning-sides}
use Rattle.bridge_port.proofs.GivesUp.{looked}
use Rattle.bridge_port.proofs.Leaves.{asks-all, asks-busy, asks-posted}
use Rattle.bridge_port.proofs.ending.is_done.Goals as goal

pub returns-then-has_posted-clause-asked : goal.returns-then-has_posted-clause-asked
returns-then-has_posted-clause-asked g c =
    asks-posted g.B.BridgeSide.alone g.R.RingSide.alone
    (g.B.BridgeSide.bridge c.args.bridge.now).plan
    (g.R.RingSide.side c.args.ring.now).net c.args.side c.args.has_posted
    (g.B.BridgeSide.known c.args.bridge.now) (g.R.RingSide.known c.args.ring.now)
    c.if-has_posted.true

pub returns-then-has_posted-clause-step : goal.returns-then-has_posted-clause-step
returns-then-has_posted-clause-step g c =
    end-rest g.B.BridgeSide g.R.RingSide c.args.side c.args.bridge.now c.args.ring.now
    c.requires.turning.legal c.requires.turning.own_turn.on.legal

pub returns-then-not-is_idle-clause-turning : goal.returns-then-not-is_idle-clause-turning
returns-then-not-is_idle-clause-turning g c =
    let i = c.if-not-is_idle.ensures in
    turning-across g.B.BridgeSide.alone c.args.side _ _ _ _ _ _ i.same i.legal i.went
    c.requires.turning

pub returns-then-not-is_idle-clause-asked : goal.returns-then-not-is_idle-clause-asked
returns-then-not-is_idle-clause-asked g c =
    let i = c.if-not-is_idle.ensures in
    asks-busy g.B.BridgeSide.alone g.R.RingSide.alone (g.B.BridgeSide.bridge c.args.bridge.now).plan
    (g.R.RingSide.side c.args.ring.now).net c.args.side c.args.has_posted
    (g.B.BridgeSide.known c.args.bridge.now) (g.B.BridgeSide.known c.is_idle.new.self)
    (g.R.RingSide.known c.args.ring.now) c.if-has_posted.false i.went (sym i.answer)

pub returns-then-not-is_idle-clause-step : goal.returns-then-not-is_idle-clause-step
returns-then-not-is_idle-clause-step g c =
    let i = c.if-not-is_idle.ensures in
    end-bridge g.B.BridgeSide g.R.RingSide c.args.side c.args.ring.now
    c.requires.turning.own_turn.on.legal
    (bridge-asked g.B.BridgeSide c.args.side i.same i.legal i.went)

pub returns-clause-turning : goal.returns-clause-turning
returns-clause-turning g c =
    let i = c.if-not-is_idle.ensures in
    let o = c.only_bridges.ensures in
    let n = c.args.side in
    let t = turning-across g.B.BridgeSide.alone n _ _ _ _ _ _ i.same i.legal i.went
    c.requires.turning in
    turning-sides n _ _ _ _ _ _ refl o.same
    (looked g.R.RingSide.alone n _ _ _ _ _ o.legal o.went.list t).turning

pub returns-clause-asked : goal.returns-clause-asked
returns-clause-asked g c =
    let i = c.if-not-is_idle.ensures in
    let o = c.only_bridges.ensures in
    asks-all g.B.BridgeSide.alone g.R.RingSide.alone (g.B.BridgeSide.bridge c.args.bridge.now).plan
    (g.R.RingSide.side c.args.ring.now).net c.args.side c.args.has_posted
    (g.B.BridgeSide.known c.args.bridge.now) (g.B.BridgeSide.known c.is_idle.new.self)
    (g.R.RingSide.known c.args.ring.now) (g.R.RingSide.known c.only_bridges.new.self) _
    c.if-has_posted.false i.went (sym i.answer) o.went.list o.answer

pub returns-clause-step : goal.returns-clause-step
returns-clause-step g c =
    let i = c.if-not-is_idle.ensures in
    let o = c.only_bridges.ensures in
    record {
      station = bridge-asked g.B.BridgeSide c.args.side i.same i.legal i.went;
      node = ring-asked g.R.RingSide c.args.side o.same o.legal o.went;
    }
