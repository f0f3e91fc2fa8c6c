use Rattle.std.proofs.Common.{◌≡◌, ◌<◌, ◌∙◌, sym, subst, [], List, Bool}
use Rattle.plant_types.specs.declared.net.NetPlan.{NetPlan}
use Rattle.controller_core.specs.declared.fixed.Fixed.{Fixed}
use Rattle.ring_core.specs.Legal.{IsLegalRing}
use Rattle.tied_lists.specs.Waits.{Holds}
use Rattle.comm_port.specs.Giving.{due_calls, part_at, IsAtRest, MaySend}
use Rattle.comm_port.specs.HoldTurn.{inbox_of, IsMade, IsGivenUp, Collects, SendsAll, EndsHoldTurn}
use Rattle.comm_port.specs.Parts.{InOrder, PartOf}
use Rattle.mstr_block.specs.Table.{network_paths}
use Rattle.joint_history.specs.Reading.{is_ours}
use Rattle.comm_port.specs.Turns.{KeepsInbox}
use Rattle.comm_port.proofs.Leaves.{turn-side}
use Rattle.comm_port.proofs.Parts.{net-as, fixed-as}
use Rattle.comm_port.proofs.Turned.{sends-next, rest-sent, rest-given, given-over, inbox-kept}
use Rattle.comm_port.proofs.Steps.{both-then}
use Rattle.comm_port.specs.Order.{IsCalling, IsGivingUp, IsServing}
use Rattle.comm_port.proofs.Downs.{calling-downs, giving-downs, latest-adds, latest-sent}
use Rattle.comm_port.proofs.Downs.{serving-downs}
use Rattle.comm_port.proofs.worker.work.Goals as goal

pub send_all-requires-clause-wait : goal.send_all-requires-clause-wait
send_all-requires-clause-wait g c =
    let a = c.in_ok-serve_inbox.ensures in
    let b = c.in_ok-make_calls.ensures in
    net-as (λ (m : NetPlan). 0 < m.answer) _ _ (sym (b.step.node.same ∙ a.step.node.same))
    c.requires.wait

pub send_all-requires-clause-may : goal.send_all-requires-clause-may
send_all-requires-clause-may g c =
    let a = c.in_ok-serve_inbox.ensures in
    let b = c.in_ok-make_calls.ensures in
    let n = c.args.node in
    let called = g.R.RingSide.known c.make_calls.new.ring in
    let legal = net-as (λ (m : NetPlan). IsLegalRing m called) _ _ (b.step.node.same
    ∙ a.step.node.same)
    b.turning.own_turn.on.legal in
    let t = turn-side n _ _ (g.R.RingSide.side c.args.ring.now) _ _ _ a.step.node.same a.turning in
    let may = sends-next g.R.RingSide.alone n _ _ (g.R.RingSide.side c.args.ring.now) _ _ called _
    c.requires.wait c.requires.rest
    c.requires.turning.own_turn.on c.requires.turning.own_turn.free a.ring_adds t b.ring_adds legal
    in
    net-as (λ (m : NetPlan). MaySend m n c.free_paths-posted.result (part_at m n called)) _ _
    (sym (b.step.node.same ∙ a.step.node.same))
    (subst (λ (l : List Bool). MaySend (g.R.RingSide.side c.args.ring.now).net n l
    (part_at (g.R.RingSide.side c.args.ring.now).net n called))
    (sym c.free_paths-posted.ensures) may)

pub end_turn-requires-clause-rest : goal.end_turn-requires-clause-rest
end_turn-requires-clause-rest g c =
    let a = c.in_ok-serve_inbox.ensures in
    let b = c.in_ok-make_calls.ensures in
    let d = c.in_ok-send_all.ensures in
    let e = c.in_ok-give_up_where.ensures in
    let n = c.args.node in
    let q = rest-sent g.M.RamSide.alone g.R.RingSide.alone _ n _ _ _ _ d.sent in
    let given = g.R.RingSide.known c.give_up_where.new.ring in
    let sent = g.R.RingSide.known c.send_all.new.ring in
    let r = net-as (λ (m : NetPlan). IsAtRest m n sent) _ _ (sym d.step.node.same) q in
    let legal = net-as (λ (m : NetPlan). IsLegalRing m given) _ _ e.step.node.same
    e.turning.own_turn.on.legal in
    net-as (λ (m : NetPlan). IsAtRest m n given) _ _ (sym e.step.node.same)
    (rest-given g.R.RingSide.alone _ n sent given d.turning.own_turn.on legal e.ring_adds r)

pub end_turn-requires-clause-empty : goal.end_turn-requires-clause-empty
end_turn-requires-clause-empty g c =
    let a = c.in_ok-serve_inbox.ensures in
    let b = c.in_ok-make_calls.ensures in
    let d = c.in_ok-send_all.ensures in
    let e = c.in_ok-give_up_where.ensures in
    let n = c.args.node in
    let ring = g.R.RingSide.known in
    let x = net-as (λ (m : NetPlan). KeepsInbox m n (ring c.serve_inbox.new.ring)
    (ring c.make_calls.new.ring)) _ _ a.step.node.same b.kept in
    let y = net-as (λ (m : NetPlan). KeepsInbox m n (ring c.make_calls.new.ring)
    (ring c.send_all.new.ring)) _ _ (b.step.node.same ∙ a.step.node.same) d.kept in
    let z = net-as (λ (m : NetPlan). KeepsInbox m n (ring c.send_all.new.ring)
    (ring c.give_up_where.new.ring)) _ _ (d.step.node.same ∙
    (b.step.node.same ∙ a.step.node.same)) e.kept in
    net-as (λ (m : NetPlan). inbox_of m n (ring c.give_up_where.new.ring) ≡ []) _ _
    (sym (e.step.node.same ∙ (d.step.node.same ∙ (b.step.node.same ∙ a.step.node.same))))
    (inbox-kept (g.R.RingSide.side c.args.ring.now).net n (ring c.serve_inbox.new.ring) _ _
    (ring c.give_up_where.new.ring) a.empty x y z)

pub returns-clause-rest : goal.returns-clause-rest
returns-clause-rest g c =
    let a = c.in_ok-serve_inbox.ensures in
    let b = c.in_ok-make_calls.ensures in
    let d = c.in_ok-send_all.ensures in
    let e = c.in_ok-give_up_where.ensures in
    net-as (λ (m : NetPlan). IsAtRest m c.args.node (g.R.RingSide.known c.end_turn.new.ring)) _ _
    (e.step.node.same ∙ (d.step.node.same ∙ (b.step.node.same ∙ a.step.node.same)))
    c.in_ok-left.ensures.rest

pub returns-clause-worked : goal.returns-clause-worked
returns-clause-worked g c =
    let a = c.in_ok-serve_inbox.ensures in
    let b = c.in_ok-make_calls.ensures in
    let d = c.in_ok-send_all.ensures in
    let e = c.in_ok-give_up_where.ensures in
    let known = g.M.RamSide.known in
    let ring = g.R.RingSide.known in
    let n = c.args.node in
    let net = (g.R.RingSide.side c.args.ring.now).net in
    let sent = ring c.send_all.new.ring in
    let x = net-as (λ (m : NetPlan). KeepsInbox m n (ring c.serve_inbox.new.ring)
    (ring c.make_calls.new.ring)) _ _ a.step.node.same b.kept in
    let y = net-as (λ (m : NetPlan). KeepsInbox m n (ring c.make_calls.new.ring) sent) _ _
    (b.step.node.same ∙ a.step.node.same) d.kept in
    let holds = y.holds (x.holds (net-as (λ (m : NetPlan). Holds m (ring c.serve_inbox.new.ring) n)
    _ _ a.step.node.same a.holds)) in
    let sends = net-as (λ (m : NetPlan). SendsAll g.M.RamSide.alone g.R.RingSide.alone m n
    (known c.make_calls.new.ram) (known c.send_all.new.ram) (ring
    c.make_calls.new.ring) sent) _ _ (b.step.node.same ∙ a.step.node.same) d.sent in
    record {
      served_known = known c.serve_inbox.new.ram;
      served_ring = ring c.serve_inbox.new.ring;
      serves = a.served;
      all_served = a.empty;
      called_known = known c.make_calls.new.ram;
      called_ring = ring c.make_calls.new.ring;
      calls = fixed-as (λ (f : Fixed). Collects g.M.RamSide.alone g.R.RingSide.alone f n (IsMade n)
          (known c.serve_inbox.new.ram) (known c.make_calls.new.ram)
          (ring c.serve_inbox.new.ring) (ring c.make_calls.new.ring)) _ _ a.step.station.same
          b.made;
      sent_known = known c.send_all.new.ram;
      sent_ring = sent;
      sends = sends;
      given_known = known c.give_up_where.new.ram;
      given_ring = ring c.give_up_where.new.ring;
      gives_up = given-over g.M.RamSide.alone g.R.RingSide.alone net n _ _ sent _ holds
          (rest-sent g.M.RamSide.alone g.R.RingSide.alone net n _ _ _ _ sends)
          (net-as (λ (m : NetPlan). PartOf g.M.RamSide.alone g.R.RingSide.alone is_ours n
          (InOrder IsGivenUp (due_calls m n sent network_paths)) (known
          c.send_all.new.ram) (known c.give_up_where.new.ram) sent (ring c.give_up_where.new.ring))
          _ _ (d.step.node.same ∙ (b.step.node.same ∙ a.step.node.same)) e.given);
      ends = fixed-as (λ (f : Fixed). EndsHoldTurn g.M.RamSide.alone g.R.RingSide.alone f net n
          c.args.budget (known c.give_up_where.new.ram) (known
          c.end_turn.new.ram) (ring c.give_up_where.new.ring) (ring c.end_turn.new.ring)
          c.in_ok-left.left) _ _ (e.step.station.same
          ∙ (d.step.station.same ∙ (b.step.station.same ∙
          a.step.station.same)))
          (net-as (λ (m : NetPlan). EndsHoldTurn g.M.RamSide.alone g.R.RingSide.alone
          (g.M.RamSide.side c.give_up_where.new.ram).fixed m n c.args.budget (known
          c.give_up_where.new.ram) (known c.end_turn.new.ram) (ring c.give_up_where.new.ring)
          (ring c.end_turn.new.ring) c.in_ok-left.left) _ _ (e.step.node.same ∙
          (d.step.node.same ∙ (b.step.node.same ∙ a.step.node.same))) c.in_ok-left.ensures.ends);
    }

pub returns-in_err-make_calls-clause-step : goal.returns-in_err-make_calls-clause-step
returns-in_err-make_calls-clause-step g c =
    let a = c.in_ok-serve_inbox.ensures in
    both-then g.M.RamSide g.R.RingSide c.args.node a.step c.in_err-make_calls.ensures.step

pub returns-in_err-send_all-clause-step : goal.returns-in_err-send_all-clause-step
returns-in_err-send_all-clause-step g c =
    let a = c.in_ok-serve_inbox.ensures in
    let b = c.in_ok-make_calls.ensures in
    let ab = both-then g.M.RamSide g.R.RingSide c.args.node a.step b.step in
    both-then g.M.RamSide g.R.RingSide c.args.node ab c.in_err-send_all.ensures.step

pub returns-in_err-give_up_where-clause-step : goal.returns-in_err-give_up_where-clause-step
returns-in_err-give_up_where-clause-step g c =
    let a = c.in_ok-serve_inbox.ensures in
    let b = c.in_ok-make_calls.ensures in
    let d = c.in_ok-send_all.ensures in
    let ab = both-then g.M.RamSide g.R.RingSide c.args.node a.step b.step in
    let abd = both-then g.M.RamSide g.R.RingSide c.args.node ab d.step in
    both-then g.M.RamSide g.R.RingSide c.args.node abd c.in_err-give_up_where.ensures.step

pub returns-in_err-left-clause-step : goal.returns-in_err-left-clause-step
returns-in_err-left-clause-step g c =
    let a = c.in_ok-serve_inbox.ensures in
    let b = c.in_ok-make_calls.ensures in
    let d = c.in_ok-send_all.ensures in
    let e = c.in_ok-give_up_where.ensures in
    let ab = both-then g.M.RamSide g.R.RingSide c.args.node a.step b.step in
    let abd = both-then g.M.RamSide g.R.RingSide c.args.node ab d.step in
    let abde = both-then g.M.RamSide g.R.RingSide c.args.node abd e.step in
    both-then g.M.RamSide g.R.RingSide c.args.node abde c.in_err-left.ensures.step

pub returns-clause-step : goal.returns-clause-step
returns-clause-step g c =
    let a = c.in_ok-serve_inbox.ensures in
    let b = c.in_ok-make_calls.ensures in
    let d = c.in_ok-send_all.ensures in
    let e = c.in_ok-give_up_where.ensures in
    let ab = both-then g.M.RamSide g.R.RingSide c.args.node a.step b.step in
    let abd = both-then g.M.RamSide g.R.RingSide c.args.node ab d.step in
    let abde = both-then g.M.RamSide g.R.RingSide c.args.node abd e.step in
    both-then g.M.RamSide g.R.RingSide c.args.node abde c.in_ok-left.ensures.step

pub end_turn-requires-clause-noticed : goal.end_turn-requires-clause-noticed
end_turn-requires-clause-noticed g c =
    let a = c.in_ok-serve_inbox.ensures in
    let b = c.in_ok-make_calls.ensures in
    let d = c.in_ok-send_all.ensures in
    let e = c.in_ok-give_up_where.ensures in
    let n = c.args.node in
    let alone = g.R.RingSide.alone in
    c.requires.noticed
    ∙ (sym (latest-adds alone n (IsServing n) _ _ (serving-downs n) a.ring_adds)
    ∙ (sym (latest-adds alone n (IsCalling n) _ _ (calling-downs n) b.ring_adds)
    ∙ (sym (latest-sent alone _ n _ _ d.sent.frames)
    ∙ sym (latest-adds alone n IsGivingUp _ _ giving-downs e.ring_adds))))
