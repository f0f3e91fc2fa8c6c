use Rattle.std.proofs.Common.{sym, ◌∙◌, subst, Bool}
use Rattle.tied_lists.specs.Own.{is_of, own}
use Rattle.tied_lists.proofs.Growth.{adds-both, adds-weaker}
use Rattle.ring_core.specs.Machine.{ring_after}
use Rattle.comm_port.specs.Order.{IsGivingUp}
use Rattle.comm_port.specs.HostTurns.{EndsWithPass}
use Rattle.comm_port.proofs.HostAsks.{stays-with, ends-with, gone-on, gone-with, ties-handed}
use Rattle.comm_port.proofs.HostAsks.{turning-left}
use Rattle.comm_port.proofs.HostBoxes.{gives-sort}
use Rattle.comm_port.proofs.HostTurning.{turning-side}
use Rattle.comm_port.proofs.Leaves.{ending-too, handed-ends, quiet-due}
use Rattle.comm_port.proofs.Through.{IsEnding, rest-through}
use Rattle.mstr_block.specs.Table.{network_paths}
use Rattle.comm_port.proofs.HostGives.{gives-at}
use Rattle.comm_port.proofs.HostHolds.{ends-host, leaves-host, none-unanswered}
use Rattle.comm_port.proofs.Steps.{host-ring, host-then}
use Rattle.comm_port.proofs.host_worker.end_turn.Goals as goal

pub hand_on-requires-clause-sent : goal.hand_on-requires-clause-sent
hand_on-requires-clause-sent g c = c.requires.rest.all_sent

pub hand_on-requires-clause-taken : goal.hand_on-requires-clause-taken
hand_on-requires-clause-taken g c = c.requires.empty

pub give_up_where-requires : goal.give_up_where-requires
give_up_where-requires g c =
    let o = c.in_ok-left.ensures in
    let gone = gone-with g.R.RingSide.alone _ c.args.node _ _ _ _ _ o.handed
    (sym c.if-not-left.false ∙ o.left) in
    let ties = ties-handed g.R.RingSide.alone c.args.node _ _ _ _ _ _ _ c.requires.turning o.handed
    (quiet-due (g.R.RingSide.side c.args.ring.now).net
    (ring_after (g.R.RingSide.side c.args.ring.now).net (g.R.RingSide.known c.args.ring.now))
    c.args.node
    c.is_done-done.result c.args.budget) o.step.stands.legal c.requires.wait c.requires.rest in
    record {
      turning = turning-side c.args.node _ _ _ _ o.step.same
          (turning-left c.args.node _ _ _ ties gone);
    }

pub returns-then-not-left-clause-ties : goal.returns-then-not-left-clause-ties
returns-then-not-left-clause-ties g c =
    let o = c.in_ok-left.ensures in
    ties-handed g.R.RingSide.alone c.args.node _ _ _ _ _ _ _ c.requires.turning o.handed
    (quiet-due (g.R.RingSide.side c.args.ring.now).net
    (ring_after (g.R.RingSide.side c.args.ring.now).net (g.R.RingSide.known c.args.ring.now))
    c.args.node
    c.is_done-done.result c.args.budget) o.step.stands.legal c.requires.wait c.requires.rest

pub returns-clause-ties : goal.returns-clause-ties
returns-clause-ties g c =
    let o = c.in_ok-left.ensures in
    let w = c.in_ok-give_up_where.ensures in
    let n = c.args.node in
    let alone = g.R.RingSide.alone in
    let before = g.R.RingSide.side c.args.ring.now in
    let there = g.R.RingSide.side c.hand_on.new.ring in
    let gives = gives-at alone n network_paths _ _ _ _ there before (sym o.step.same) w.gives_up in
    let turning = turning-side n _ there before _ (sym o.step.same) w.turning in
    record {
      node = turning.node;
      legal = turning.legal;
      serves = turning.own_turn.serves;
      on = turning.own_turn.on;
      answer = c.requires.wait;
      tied = turning.tied;
      paths = turning.paths;
      rest = rest-through alone before.net n _ _ c.requires.turning.own_turn.on
          turning.own_turn.on.legal
          (adds-both alone (is_of n) IsEnding _ _ _
          (handed-ends alone before.net n _ _ _ _ _ o.handed)
          (adds-weaker alone (is_of n) IsGivingUp IsEnding _ _ ending-too
          (record { added = _; sort = gives-sort gives.ends; grew = gives.grew })))
          c.requires.rest;
    }

pub returns-then-not-left-clause-passed : goal.returns-then-not-left-clause-passed
returns-then-not-left-clause-passed g c =
    let o = c.in_ok-left.ensures in
    λ e. subst (λ (done : Bool). EndsWithPass c.args.node done
    (own c.args.node (g.R.RingSide.known c.hand_on.new.ring))) c.is_done-done.ensures
    (ends-with g.R.RingSide.alone _ c.args.node _ _ _ _ _ o.handed
    (sym c.if-not-left.true ∙ o.left))

pub returns-clause-gone : goal.returns-clause-gone
returns-clause-gone g c =
    let o = c.in_ok-left.ensures in
    let gone = gone-with g.R.RingSide.alone _ c.args.node _ _ _ _ _ o.handed
    (sym c.if-not-left.false ∙ o.left) in
    λ e. gone-on c.args.node (g.R.RingSide.side c.args.ring.now)
    (g.R.RingSide.side c.hand_on.new.ring) (g.R.RingSide.known c.hand_on.new.ring)
    (g.R.RingSide.known c.give_up_where.new.ring) o.step.same gone
    c.in_ok-give_up_where.ensures.left

pub returns-then-not-left-clause-ends : goal.returns-then-not-left-clause-ends
returns-then-not-left-clause-ends g c =
    let o = c.in_ok-left.ensures in
    ends-host g.R.RingSide.alone _ c.args.node c.args.host.now.plan c.args.budget
    c.is_done-done.result c.args.host.now.history _ _ c.is_done-done.ensures
    (sym c.if-not-left.true ∙ o.left) o.handed

pub returns-clause-ends : goal.returns-clause-ends
returns-clause-ends g c =
    let o = c.in_ok-left.ensures in
    let w = c.in_ok-give_up_where.ensures in
    let n = c.args.node in
    let before = g.R.RingSide.side c.args.ring.now in
    let there = g.R.RingSide.side c.hand_on.new.ring in
    let gives = gives-at g.R.RingSide.alone n network_paths _ _ _ _ there before (sym o.step.same)
    w.gives_up in
    let gone = gone-with g.R.RingSide.alone before.net n _ _ _ _ _ o.handed
    (sym c.if-not-left.false ∙ o.left) in
    let left = gone-on n before there (g.R.RingSide.known c.hand_on.new.ring)
    (g.R.RingSide.known c.give_up_where.new.ring) o.step.same gone w.left in
    let turning = turning-side n _ there before _ (sym o.step.same) w.turning in
    leaves-host g.R.RingSide.alone before.net n c.args.host.now.plan c.args.budget
    c.is_done-done.result c.args.host.now.history _ _ _ _ c.is_done-done.ensures
    (sym c.if-not-left.false ∙ o.left) o.handed gives
    (none-unanswered n c.give_up_where.new.host before _ turning left gives.none_left)

pub returns-then-not-left-clause-stays : goal.returns-then-not-left-clause-stays
returns-then-not-left-clause-stays g c =
    let o = c.in_ok-left.ensures in
    λ e. stays-with g.R.RingSide.alone _ c.args.node _ _ _ _ _ o.handed
    (sym c.if-not-left.true ∙ o.left)

pub returns-in_err-left-clause-step : goal.returns-in_err-left-clause-step
returns-in_err-left-clause-step g c =
    host-ring g.R.RingSide c.args.node c.args.host.now c.requires.turning.legal
    c.in_err-left.ensures.step

pub returns-then-not-left-clause-step : goal.returns-then-not-left-clause-step
returns-then-not-left-clause-step g c =
    host-ring g.R.RingSide c.args.node c.args.host.now c.requires.turning.legal
    c.in_ok-left.ensures.step

pub returns-in_err-give_up_where-clause-step : goal.returns-in_err-give_up_where-clause-step
returns-in_err-give_up_where-clause-step g c =
    host-then g.R.RingSide c.args.node
    (host-ring g.R.RingSide c.args.node c.args.host.now c.requires.turning.legal
    c.in_ok-left.ensures.step)
    c.in_err-give_up_where.ensures.step

pub returns-clause-step : goal.returns-clause-step
returns-clause-step g c =
    host-then g.R.RingSide c.args.node
    (host-ring g.R.RingSide c.args.node c.args.host.now c.requires.turning.legal
    c.in_ok-left.ensures.step)
    c.in_ok-give_up_where.ensures.step
