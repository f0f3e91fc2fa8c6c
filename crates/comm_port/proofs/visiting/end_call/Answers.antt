use Rattle.std.proofs.Common.{◌∙◌, refl, sym, ap}
use Rattle.plant_types.specs.declared.net.NetPlan.{NetPlan}
use Rattle.tied_lists.specs.Waits.{has_left, HasLeft}
use Rattle.ring_core.specs.Machine.{NodeIs}
use Rattle.comm_port.specs.Visiting.{GivesCall}
use Rattle.comm_port.proofs.Parts.{net-as}
use Rattle.comm_port.proofs.Visits.{net-posted, local-done, waits-posted, ended-net, ended-local}
use Rattle.comm_port.proofs.Visits.{ended-before, rests-again, rests-same, gone-posted}
use Rattle.comm_port.proofs.Visits.{gone-given}
use Rattle.comm_port.proofs.Steps.{both-then}
use Rattle.comm_port.proofs.visiting.end_call.Goals as goal

pub give_up_between-requires-clause-waits : goal.give_up_between-requires-clause-waits
give_up_between-requires-clause-waits g c =
    let m = c.in_ok-make_call.ensures in
    let n = c.args.node in
    let call = c.index-calls-at.result in
    let side = g.R.RingSide.side c.args.ring.now in
    let mid = g.R.RingSide.known c.make_call.new.ring in
    let a = net-posted g.M.RamSide.alone g.R.RingSide.alone n c.args.calls.now c.args.at call
    c.in-Net.route c.in-Net.pdu _ _ side _ _ mid c.requires.within
    c.index-calls-at.is c.in-Net.is m.step.node.same c.requires.owing.turning.own_turn
    m.owing.turning.own_turn.on.legal m.made in
    waits-posted n _ _ mid refl a.own_is

pub give_up_between-requires-clause-gone : goal.give_up_between-requires-clause-gone
give_up_between-requires-clause-gone g c =
    let m = c.in_ok-make_call.ensures in
    let n = c.args.node in
    let call = c.index-calls-at.result in
    let side = g.R.RingSide.side c.args.ring.now in
    let mid = g.R.RingSide.known c.make_call.new.ring in
    let a = net-posted g.M.RamSide.alone g.R.RingSide.alone n c.args.calls.now c.args.at call
    c.in-Net.route c.in-Net.pdu _ _ side _ _ mid c.requires.within
    c.index-calls-at.is c.in-Net.is m.step.node.same c.requires.owing.turning.own_turn
    m.owing.turning.own_turn.on.legal m.made in
    net-as (λ (k : NetPlan). HasLeft k mid n) _ _ (sym m.step.node.same)
    (gone-posted side.net n _ _ mid c.requires.gone a)

pub returns-in_ok-give_up_between-in-Net-clause-gone :
    goal.returns-in_ok-give_up_between-in-Net-clause-gone
returns-in_ok-give_up_between-in-Net-clause-gone g c =
    let m = c.in_ok-make_call.ensures in
    let n = c.args.node in
    let call = c.index-calls-at.result in
    let side = g.R.RingSide.side c.args.ring.now in
    let mid = g.R.RingSide.known c.make_call.new.ring in
    let a = net-posted g.M.RamSide.alone g.R.RingSide.alone n c.args.calls.now c.args.at call
    c.in-Net.route c.in-Net.pdu _ _ side _ _ mid c.requires.within
    c.index-calls-at.is c.in-Net.is m.step.node.same c.requires.owing.turning.own_turn
    m.owing.turning.own_turn.on.legal m.made in
    let e = c.in_ok-give_up_between-in-Net.ensures in
    let last = g.R.RingSide.known c.give_up_between.new.ring in
    let given = net-as (λ (k : NetPlan). GivesCall k n call.id mid last) _ _ m.step.node.same e.part
    in
    gone-given side.net n call.id mid last (gone-posted side.net n _ _ mid c.requires.gone a) given

pub returns-in_ok-give_up_between-in-Net-clause-rest :
    goal.returns-in_ok-give_up_between-in-Net-clause-rest
returns-in_ok-give_up_between-in-Net-clause-rest g c =
    let m = c.in_ok-make_call.ensures in
    let n = c.args.node in
    let call = c.index-calls-at.result in
    let side = g.R.RingSide.side c.args.ring.now in
    let mid = g.R.RingSide.known c.make_call.new.ring in
    let a = net-posted g.M.RamSide.alone g.R.RingSide.alone n c.args.calls.now c.args.at call
    c.in-Net.route c.in-Net.pdu _ _ side _ _ mid c.requires.within
    c.index-calls-at.is c.in-Net.is m.step.node.same c.requires.owing.turning.own_turn
    m.owing.turning.own_turn.on.legal m.made in
    let e = c.in_ok-give_up_between-in-Net.ensures in
    let last = g.R.RingSide.known c.give_up_between.new.ring in
    let given = net-as (λ (k : NetPlan). GivesCall k n call.id mid last) _ _ m.step.node.same e.part
    in
    rests-again side.net n call.id c.in-Net.route c.in-Net.pdu _ mid last a.part_is given
    c.requires.rest

pub returns-in_ok-give_up_between-in-Net-clause-ended :
    goal.returns-in_ok-give_up_between-in-Net-clause-ended
returns-in_ok-give_up_between-in-Net-clause-ended g c =
    let m = c.in_ok-make_call.ensures in
    let n = c.args.node in
    let call = c.index-calls-at.result in
    ended-net g.M.RamSide.alone g.R.RingSide.alone n c.args.calls.now c.args.at call c.in-Net.route
    c.in-Net.pdu _ _ _ _ _ _ c.requires.within
    c.index-calls-at.is c.in-Net.is m.made c.in_ok-give_up_between-in-Net.ensures.given

pub returns-in_ok-give_up_between-in-Net-clause-as_before :
    goal.returns-in_ok-give_up_between-in-Net-clause-as_before
returns-in_ok-give_up_between-in-Net-clause-as_before g c =
    let m = c.in_ok-make_call.ensures in
    let n = c.args.node in
    let call = c.index-calls-at.result in
    let side = g.R.RingSide.side c.args.ring.now in
    let mid = g.R.RingSide.known c.make_call.new.ring in
    let a = net-posted g.M.RamSide.alone g.R.RingSide.alone n c.args.calls.now c.args.at call
    c.in-Net.route c.in-Net.pdu _ _ side _ _ mid c.requires.within
    c.index-calls-at.is c.in-Net.is m.step.node.same c.requires.owing.turning.own_turn
    m.owing.turning.own_turn.on.legal m.made in
    ended-before g.M.RamSide.alone g.R.RingSide.alone side.net n call.id c.in-Net.route
    c.in-Net.pdu _ _ _ mid _ c.requires.owing.turning.own_turn.on a
    c.in_ok-give_up_between-in-Net.ensures.given

pub returns-in-Local-clause-gone : goal.returns-in-Local-clause-gone
returns-in-Local-clause-gone g c =
    let m = c.in_ok-make_call.ensures in
    let n = c.args.node in
    let call = c.index-calls-at.result in
    let side = g.R.RingSide.side c.args.ring.now in
    let a = local-done g.M.RamSide.alone g.R.RingSide.alone n c.args.calls.now c.args.at call
    c.in-Local.field-0 _ _ side _ _ _ c.requires.within
    c.index-calls-at.is c.in-Local.is m.step.node.same c.requires.owing.turning.own_turn
    m.owing.turning.own_turn.on.legal m.made in
    ap (λ (c : NodeIs). has_left c.status) a.part_is ∙ c.requires.gone

pub returns-in-Local-clause-rest : goal.returns-in-Local-clause-rest
returns-in-Local-clause-rest g c =
    let m = c.in_ok-make_call.ensures in
    let n = c.args.node in
    let call = c.index-calls-at.result in
    let side = g.R.RingSide.side c.args.ring.now in
    let a = local-done g.M.RamSide.alone g.R.RingSide.alone n c.args.calls.now c.args.at call
    c.in-Local.field-0 _ _ side _ _ _ c.requires.within
    c.index-calls-at.is c.in-Local.is m.step.node.same c.requires.owing.turning.own_turn
    m.owing.turning.own_turn.on.legal m.made in
    rests-same side.net n _ _ a.part_is c.requires.rest

pub returns-in-Local-clause-ended : goal.returns-in-Local-clause-ended
returns-in-Local-clause-ended g c =
    let m = c.in_ok-make_call.ensures in
    ended-local g.M.RamSide.alone g.R.RingSide.alone c.args.node c.args.calls.now c.args.at
    c.index-calls-at.result c.in-Local.field-0 _ _ _ _ c.requires.within
    c.index-calls-at.is c.in-Local.is m.made

pub returns-in-Local-clause-as_before : goal.returns-in-Local-clause-as_before
returns-in-Local-clause-as_before g c =
    let m = c.in_ok-make_call.ensures in
    let n = c.args.node in
    let call = c.index-calls-at.result in
    let side = g.R.RingSide.side c.args.ring.now in
    let a = local-done g.M.RamSide.alone g.R.RingSide.alone n c.args.calls.now c.args.at call
    c.in-Local.field-0 _ _ side _ _ _ c.requires.within
    c.index-calls-at.is c.in-Local.is m.step.node.same c.requires.owing.turning.own_turn
    m.owing.turning.own_turn.on.legal m.made in
    a.waits

pub returns-in_err-give_up_between-in-Net-clause-step :
    goal.returns-in_err-give_up_between-in-Net-clause-step
returns-in_err-give_up_between-in-Net-clause-step g c =
    both-then g.M.RamSide g.R.RingSide c.args.node c.in_ok-make_call.ensures.step
    c.in_err-give_up_between-in-Net.ensures.step

pub returns-in_ok-give_up_between-in-Net-clause-step :
    goal.returns-in_ok-give_up_between-in-Net-clause-step
returns-in_ok-give_up_between-in-Net-clause-step g c =
    both-then g.M.RamSide g.R.RingSide c.args.node c.in_ok-make_call.ensures.step
    c.in_ok-give_up_between-in-Net.ensures.step
