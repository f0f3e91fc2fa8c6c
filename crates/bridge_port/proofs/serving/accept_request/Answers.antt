use Rattle.std.proofs.Common.{[], ◌∷◌, refl}
use Rattle.bridge_relay.specs.declared.entry.BridgeEntry.TheVariants.{Accept}
use Rattle.bridge_relay.specs.Laws.{is_by}
use Rattle.tied_lists.specs.Own.{is_of}
use Rattle.tied_lists.proofs.Growth.{grew-one}
use Rattle.comm_port.proofs.Parts.{grew-none}
use Rattle.bridge_port.proofs.EndSteps.{bridge-asked, bridge-called, end-bridge}
use Rattle.bridge_port.proofs.Lists.{mine-one}
use Rattle.bridge_port.proofs.Served.{request-due}
use Rattle.bridge_port.proofs.Turning.{turning-accepted}
use Rattle.bridge_port.proofs.serving.accept_request.Goals as goal

pub returns-clause-turning : goal.returns-clause-turning
returns-clause-turning g c =
    let o = c.in_ok-accept.ensures in
    turning-accepted g.B.BridgeSide.alone c.args.side c.args.request.now _ _ _ _ _ _ o.same
    c.requires.kind c.requires.plain o.legal o.went c.requires.taking

pub returns-clause-served : goal.returns-clause-served
returns-clause-served g c =
    let f = c.args.request.now in
    let n = c.args.side in
    record {
      noted = Accept n f.id f.rest f.pdu ∷ [];
      done = [];
      due = request-due n f c.requires.kind c.requires.plain;
      station = grew-one g.B.BridgeSide.alone (is_by n) _ (Accept n f.id f.rest f.pdu ∷ []) _
          (mine-one n _ refl) c.in_ok-accept.ensures.went;
      node = grew-none g.R.RingSide.alone (is_of n) _;
    }

pub returns-in_err-accept-clause-step : goal.returns-in_err-accept-clause-step
returns-in_err-accept-clause-step g c =
    let o = c.in_err-accept.ensures in
    end-bridge g.B.BridgeSide g.R.RingSide c.args.side c.args.ring.now
    c.requires.taking.own_turn.on.legal
    (bridge-asked g.B.BridgeSide c.args.side o.same o.legal o.went)

pub returns-clause-step : goal.returns-clause-step
returns-clause-step g c =
    let o = c.in_ok-accept.ensures in
    let n = c.args.side in
    end-bridge g.B.BridgeSide g.R.RingSide n c.args.ring.now c.requires.taking.own_turn.on.legal
    (bridge-called g.B.BridgeSide n
    (Accept n c.args.request.now.id c.args.request.now.rest c.args.request.now.pdu ∷ []) o.same
    o.legal o.went (mine-one n _ refl))
