use Rattle.std.proofs.Common.{◌≡◌, ◌∙◌, sym}
use Rattle.plant_types.specs.declared.net.NetPlan.{NetPlan}
use Rattle.controller_core.specs.declared.fixed.Fixed.{Fixed}
use Rattle.ring_core.specs.Legal.{IsLegalRing}
use Rattle.ring_core.specs.declared.entry.LeaveCause.TheVariants.{Down}
use Rattle.ring_core.specs.declared.entry.RingEntry.TheVariants.{Leave}
use Rattle.ring_core.specs.declared.status.NodeStatus.TheVariants.{Away}
use Rattle.std.proofs.Common.{[], ◌∷◌}
use Rattle.tied_lists.specs.Own.{is_of}
use Rattle.tied_lists.specs.Waits.{status_at}
use Rattle.tied_lists.proofs.Growth.{adds-both, adds-grew, adds-weaker}
use Rattle.comm_port.specs.Failing.{ComesBack}
use Rattle.comm_port.specs.Order.{IsGivingUp}
use Rattle.comm_port.proofs.Downs.{giving-downs, latest-adds, latest-back, latest-left}
use Rattle.comm_port.proofs.Failed.{away-given, back-ends, back-lead, down-lead, down-part}
use Rattle.comm_port.proofs.Failed.{rested-turn}
use Rattle.comm_port.proofs.Leaves.{all-on, all-paths, ending-too, none-left, turn-side}
use Rattle.comm_port.proofs.Parts.{fixed-as, net-as}
use Rattle.comm_port.proofs.Steps.{both-ring, both-then}
use Rattle.comm_port.proofs.Through.{IsEnding, rest-through}
use Rattle.comm_port.proofs.TurnsEnded.{left-at}
use Rattle.comm_port.proofs.failing.go_down.Goals as goal

pub give_up_where-requires : goal.give_up_where-requires
give_up_where-requires g c =
    let o = c.in_ok-leave_down.ensures in
    record {
      turning = down-lead g.R.RingSide.alone c.args.node c.args.failures _ _ _ _ _ _
          c.args.waiting.now o.step.same o.step.stands.legal c.requires.more c.requires.counted
          o.left c.requires.turning;
    }

pub come_back-requires-clause-away : goal.come_back-requires-clause-away
come_back-requires-clause-away g c =
    let o = c.in_ok-leave_down.ensures in
    let e = c.in_ok-give_up_where.ensures in
    let n = c.args.node in
    let side = g.R.RingSide.side in
    let left = g.R.RingSide.known c.leave_down.new.ring in
    let given = g.R.RingSide.known c.give_up_where.new.ring in
    let gone = left-at (side c.args.ring.now) (side c.leave_down.new.ring) left n o.step.same
    o.left.gone in
    record {
      away = net-as (λ (m : NetPlan). status_at m given n ≡ Away) _ _
          (sym (e.step.node.same ∙ o.step.same))
          (away-given g.R.RingSide.alone (side c.args.ring.now).net n left given e.ring_adds
          o.away);
      idle = none-left n [] all-paths _ _ (side c.leave_down.new.ring) left given _ all-on gone
          e.part (turn-side n _ _ _ _ _ _ e.step.node.same e.turning);
    }

pub returns-clause-rested : goal.returns-clause-rested
returns-clause-rested g c =
    let e = c.in_ok-give_up_where.ensures in
    let b = c.in_ok-joined.ensures in
    back-lead g.M.RamSide.alone g.R.RingSide.alone c.args.node c.in_ok-joined.joined _ _ _ _ _ _ _ _
    c.give_up_where.new.waiting b.step.station.same b.step.node.same b.step.node.stands.legal b.came
    (rested-turn c.args.node _ _ _ _ c.give_up_where.new.waiting e.turning)

pub returns-clause-noticed : goal.returns-clause-noticed
returns-clause-noticed g c =
    let o = c.in_ok-leave_down.ensures in
    let e = c.in_ok-give_up_where.ensures in
    let b = c.in_ok-joined.ensures in
    let n = c.args.node in
    let alone = g.R.RingSide.alone in
    sym (latest-back alone n c.in_ok-joined.joined _ _ b.came.grew
    ∙ (latest-adds alone n IsGivingUp _ _ giving-downs e.ring_adds
    ∙ latest-left alone _ n c.args.failures _ _ o.left))

pub returns-clause-rest : goal.returns-clause-rest
returns-clause-rest g c =
    let o = c.in_ok-leave_down.ensures in
    let e = c.in_ok-give_up_where.ensures in
    let b = c.in_ok-joined.ensures in
    let n = c.args.node in
    let alone = g.R.RingSide.alone in
    let net = (g.R.RingSide.side c.args.ring.now).net in
    let now = net-as (λ (m : NetPlan). IsLegalRing m (g.R.RingSide.known c.come_back.new.ring)) _ _
    (e.step.node.same ∙ o.step.same) b.step.node.stands.legal in
    rest-through alone net n _ _ c.requires.turning.own_turn.on now
    (adds-both alone (is_of n) IsEnding _ _ _
    (adds-both alone (is_of n) IsEnding _ _ _
    (adds-grew alone (is_of n) IsEnding _ (Leave n (Down c.args.failures) ∷ []) _ (tt, tt)
    o.left.grew)
    (adds-weaker alone (is_of n) IsGivingUp IsEnding _ _ ending-too e.ring_adds))
    (back-ends alone net n c.in_ok-joined.joined _ _ b.came.grew))
    c.requires.rest

pub returns-clause-down : goal.returns-clause-down
returns-clause-down g c =
    let o = c.in_ok-leave_down.ensures in
    let e = c.in_ok-give_up_where.ensures in
    let b = c.in_ok-joined.ensures in
    let n = c.args.node in
    let side = g.R.RingSide.side in
    let known = g.M.RamSide.known in
    let left = g.R.RingSide.known c.leave_down.new.ring in
    let given = g.R.RingSide.known c.give_up_where.new.ring in
    let gone = left-at (side c.args.ring.now) (side c.leave_down.new.ring) left n o.step.same
    o.left.gone in
    let t = down-lead g.R.RingSide.alone n c.args.failures _ _ _ _ _ _ c.args.waiting.now
    o.step.same o.step.stands.legal c.requires.more c.requires.counted o.left c.requires.turning in
    record {
      left_ring = left;
      leaves = o.left;
      given_known = known c.give_up_where.new.ram;
      given_ring = given;
      gives_up = down-part g.M.RamSide.alone g.R.RingSide.alone n c.args.failures _ _ _
          (side c.args.ring.now) (side c.leave_down.new.ring) _ left given c.args.waiting.now o.left
          gone t e.given;
      away = record {
        away = away-given g.R.RingSide.alone (side c.args.ring.now).net n left given e.ring_adds
            o.away;
        idle = none-left n [] all-paths _ _ (side c.leave_down.new.ring) left given _ all-on gone
            e.part (turn-side n _ _ _ _ _ _ e.step.node.same e.turning);
      };
      comes = fixed-as (λ (f : Fixed). ComesBack g.M.RamSide.alone g.R.RingSide.alone f n
          (known c.give_up_where.new.ram) (known c.come_back.new.ram) given
          (g.R.RingSide.known c.come_back.new.ring) c.in_ok-joined.joined) _ _ e.step.station.same
          b.came;
    }

pub returns-in_err-leave_down-clause-step : goal.returns-in_err-leave_down-clause-step
returns-in_err-leave_down-clause-step g c =
    both-ring g.M.RamSide g.R.RingSide c.args.node c.args.ram.now
    c.in_err-leave_down.ensures.step

pub returns-in_err-give_up_where-clause-step : goal.returns-in_err-give_up_where-clause-step
returns-in_err-give_up_where-clause-step g c =
    both-then g.M.RamSide g.R.RingSide c.args.node
    (both-ring g.M.RamSide g.R.RingSide c.args.node c.args.ram.now
    c.in_ok-leave_down.ensures.step) c.in_err-give_up_where.ensures.step

pub returns-in_err-joined-clause-step : goal.returns-in_err-joined-clause-step
returns-in_err-joined-clause-step g c =
    both-then g.M.RamSide g.R.RingSide c.args.node
    (both-then g.M.RamSide g.R.RingSide c.args.node
    (both-ring g.M.RamSide g.R.RingSide c.args.node c.args.ram.now
    c.in_ok-leave_down.ensures.step) c.in_ok-give_up_where.ensures.step)
    c.in_err-joined.ensures.step

pub returns-clause-step : goal.returns-clause-step
returns-clause-step g c =
    both-then g.M.RamSide g.R.RingSide c.args.node
    (both-then g.M.RamSide g.R.RingSide c.args.node
    (both-ring g.M.RamSide g.R.RingSide c.args.node c.args.ram.now
    c.in_ok-leave_down.ensures.step) c.in_ok-give_up_where.ensures.step)
    c.in_ok-joined.ensures.step
