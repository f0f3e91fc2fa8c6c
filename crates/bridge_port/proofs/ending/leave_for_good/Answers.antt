use Rattle.std.proofs.Common.{◌≡◌, ℕ, ◌<◌, List, [], ◌∷◌, refl, sym, subst, true}
use Rattle.plant_types.specs.declared.net.NetPlan.{NetPlan}
use Rattle.mstr_block.specs.declared.call.CallId.{CallId}
use Rattle.ring_core.specs.Legal.{IsLegalRing}
use Rattle.bridge_relay.specs.declared.entry.BridgeEntry.{BridgeEntry}
use Rattle.bridge_relay.specs.declared.entry.BridgeEntry.TheVariants.{Gone}
use Rattle.bridge_relay.specs.Laws.{end_after, is_by}
use Rattle.tied_lists.specs.Waits.{IsOnRing}
use Rattle.comm_port.specs.Giving.{IsAtRest}
use Rattle.comm_port.specs.Parts.{InOrder, PartOf}
use Rattle.comm_port.proofs.Parts.{net-as}
use Rattle.comm_port.proofs.TurnsEnded.{left-at}
use Rattle.bridge_port.specs.EndParts.{EndGivesUp}
use Rattle.bridge_port.specs.Sides.{BridgeSideIs}
use Rattle.bridge_port.proofs.EndSteps.{bridge-called, end-bridge, end-then}
use Rattle.bridge_port.proofs.Leaves.{due-waits, left-for-good, none-out-now, none-waiting}
use Rattle.bridge_port.proofs.Leaves.{none-waits, rest-given, ties-sides}
use Rattle.bridge_port.proofs.Lists.{mine-one}
use Rattle.bridge_port.proofs.ending.leave_for_good.Goals as goal

pub gone-requires-clause-none_out : goal.gone-requires-clause-none_out
gone-requires-clause-none_out g c =
    let rs = g.R.RingSide in
    let n = c.args.side in
    let e = c.in_ok-give_up_where.ensures in
    let side = rs.side c.args.ring.now in
    let given = rs.known c.give_up_where.new.ring in
    let on = net-as (λ (m : NetPlan). IsOnRing m given n) _ _ e.step.node.same
    e.turning.own_turn.on in
    none-out-now n _ _ _ given
    (λ p is. none-waits side.net n p (rs.known c.args.ring.now) given is
    c.requires.turning.own_turn.on on c.requires.left e.part) e.turning

pub returns-clause-ties : goal.returns-clause-ties
returns-clause-ties g c =
    let bs = g.B.BridgeSide in
    let rs = g.R.RingSide in
    let n = c.args.side in
    let e = c.in_ok-give_up_where.ensures in
    let f = c.in_ok-gone.ensures in
    let side = rs.side c.args.ring.now in
    let given = rs.known c.give_up_where.new.ring in
    let legal = net-as (λ (m : NetPlan). IsLegalRing m given) _ _ e.step.node.same
    e.turning.own_turn.on.legal in
    let rest = net-as (λ (m : NetPlan). IsAtRest m n given) _ _ (sym e.step.node.same)
    (rest-given bs.alone rs.alone side.net n _ _ _ (rs.known c.args.ring.now) given
    c.requires.turning.own_turn.on legal e.given c.requires.rest) in
    let wait = net-as (λ (m : NetPlan). 0 < m.answer) _ _ (sym e.step.node.same) c.requires.wait in
    ties-sides n _ _ _ _ _ _ f.same refl
    (left-for-good bs.alone n _ _ _ _ given wait rest f.legal f.went e.turning).ties

pub returns-clause-left : goal.returns-clause-left
returns-clause-left g c =
    let e = c.in_ok-give_up_where.ensures in
    left-at (g.R.RingSide.side c.args.ring.now) (g.R.RingSide.side c.give_up_where.new.ring)
    (g.R.RingSide.known c.give_up_where.new.ring) c.args.side e.step.node.same
    (e.left c.requires.left)

pub returns-clause-gone : goal.returns-clause-gone
returns-clause-gone g c =
    let bs = g.B.BridgeSide in
    let rs = g.R.RingSide in
    let n = c.args.side in
    let e = c.in_ok-give_up_where.ensures in
    let f = c.in_ok-gone.ensures in
    let side = rs.side c.args.ring.now in
    let given = rs.known c.give_up_where.new.ring in
    let legal = net-as (λ (m : NetPlan). IsLegalRing m given) _ _ e.step.node.same
    e.turning.own_turn.on.legal in
    let rest = net-as (λ (m : NetPlan). IsAtRest m n given) _ _ (sym e.step.node.same)
    (rest-given bs.alone rs.alone side.net n _ _ _ (rs.known c.args.ring.now) given
    c.requires.turning.own_turn.on legal e.given c.requires.rest) in
    let wait = net-as (λ (m : NetPlan). 0 < m.answer) _ _ (sym e.step.node.same) c.requires.wait in
    let gone = (left-for-good bs.alone n _ _ _ _ given wait rest f.legal f.went e.turning).gone in
    plan-as n (bs.known c.gone.new.self) _ _ f.same gone
  where
    plan-as : {P : Type 0} (n : ℕ) (list : List BridgeEntry) (bridge bridge' : BridgeSideIs P)
        → bridge' ≡ bridge → (end_after bridge.plan list n).gone ≡ true
        → (end_after bridge'.plan list n).gone ≡ true
    plan-as {P} n list bridge bridge' same is =
        subst (λ (s : BridgeSideIs P). (end_after s.plan list n).gone ≡ true) (sym same) is

pub returns-clause-leaves : goal.returns-clause-leaves
returns-clause-leaves g c =
    let bs = g.B.BridgeSide in
    let rs = g.R.RingSide in
    let n = c.args.side in
    let e = c.in_ok-give_up_where.ensures in
    let net = (rs.side c.args.ring.now).net in
    let before = rs.known c.args.ring.now in
    let given = rs.known c.give_up_where.new.ring in
    let on = c.requires.turning.own_turn.on in
    let on' = net-as (λ (m : NetPlan). IsOnRing m given n) _ _ e.step.node.same
    e.turning.own_turn.on in
    record {
      given_list = bs.known c.give_up_where.new.bridge;
      gives_up = subst (λ (l : List CallId). PartOf bs.alone rs.alone (is_by n) n
          (InOrder (EndGivesUp n) l) (bs.known c.args.bridge.now)
          (bs.known c.give_up_where.new.bridge) before given)
          (due-waits net n before on c.requires.left) e.given;
      none_waits = none-waiting n given (λ p is. none-waits net n p before given is on on'
          c.requires.left e.part);
      gone = c.in_ok-gone.ensures.went;
    }

pub returns-in_err-gone-clause-step : goal.returns-in_err-gone-clause-step
returns-in_err-gone-clause-step g c =
    let e = c.in_ok-give_up_where.ensures in
    let f = c.in_err-gone.ensures in
    end-then g.B.BridgeSide g.R.RingSide c.args.side e.step
    (end-bridge g.B.BridgeSide g.R.RingSide c.args.side c.give_up_where.new.ring
    e.turning.own_turn.on.legal
    (bridge-called g.B.BridgeSide c.args.side [] f.same f.legal f.went refl))

pub returns-clause-step : goal.returns-clause-step
returns-clause-step g c =
    let e = c.in_ok-give_up_where.ensures in
    let f = c.in_ok-gone.ensures in
    end-then g.B.BridgeSide g.R.RingSide c.args.side e.step
    (end-bridge g.B.BridgeSide g.R.RingSide c.args.side c.give_up_where.new.ring
    e.turning.own_turn.on.legal
    (bridge-called g.B.BridgeSide c.args.side (Gone c.args.side ∷ []) f.same f.legal f.went
    (mine-one c.args.side (Gone c.args.side) refl)))
