use Rattle.std.proofs.Common.{[], ◌∷◌, refl}
use Rattle.bridge_relay.specs.declared.entry.BridgeEntry.TheVariants.{Finish}
use Rattle.bridge_relay.specs.declared.entry.RelayResult.TheVariants as results
use Rattle.bridge_relay.specs.Laws.{is_by}
use Rattle.tied_lists.specs.Own.{is_of}
use Rattle.tied_lists.proofs.Growth.{grew-one}
use Rattle.comm_port.proofs.Parts.{grew-none}
use Rattle.bridge_port.proofs.EndSteps.{bridge-asked, bridge-called, end-bridge}
use Rattle.bridge_port.proofs.Lists.{mine-one}
use Rattle.bridge_port.proofs.Served.{reply-due}
use Rattle.bridge_port.proofs.Turning.{reply-out, turning-got}
use Rattle.bridge_port.proofs.serving.end_call.Goals as goal

pub finish-requires-clause-out : goal.finish-requires-clause-out
finish-requires-clause-out g c =
    reply-out c.args.side c.args.reply _ _ _ _ c.requires.kind c.requires.taking

pub returns-clause-turning : goal.returns-clause-turning
returns-clause-turning g c =
    let o = c.in_ok-finish.ensures in
    turning-got g.B.BridgeSide.alone c.args.side c.args.reply _ _ _ _ _ _ o.same c.requires.kind
    o.legal o.went c.requires.taking

pub returns-clause-served : goal.returns-clause-served
returns-clause-served g c =
    let f = c.args.reply in
    let n = c.args.side in
    record {
      noted = Finish n f.id (results.Reply f.pdu) ∷ [];
      done = [];
      due = reply-due n f c.requires.kind;
      station = grew-one g.B.BridgeSide.alone (is_by n) _
          (Finish n f.id (results.Reply f.pdu) ∷ []) _ (mine-one n _ refl)
          c.in_ok-finish.ensures.went;
      node = grew-none g.R.RingSide.alone (is_of n) _;
    }

pub returns-in_err-finish-clause-step : goal.returns-in_err-finish-clause-step
returns-in_err-finish-clause-step g c =
    let o = c.in_err-finish.ensures in
    end-bridge g.B.BridgeSide g.R.RingSide c.args.side c.args.ring.now
    c.requires.taking.own_turn.on.legal
    (bridge-asked g.B.BridgeSide c.args.side o.same o.legal o.went)

pub returns-clause-step : goal.returns-clause-step
returns-clause-step g c =
    let o = c.in_ok-finish.ensures in
    let n = c.args.side in
    end-bridge g.B.BridgeSide g.R.RingSide n c.args.ring.now c.requires.taking.own_turn.on.legal
    (bridge-called g.B.BridgeSide n
    (Finish n c.args.reply.id (results.Reply c.args.reply.pdu) ∷ []) o.same o.legal
    o.went (mine-one n _ refl))
