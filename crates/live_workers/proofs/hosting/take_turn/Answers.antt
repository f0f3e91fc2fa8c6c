use Rattle.std.proofs.Common.{◌≡◌, Bool, false, List, sym, ap, ◌∙◌, arith}
use Rattle.std.specs.Prelude.{IfOk, OnOk, Result, Ok, Err}
use Rattle.ring_core.specs.declared.entry.RingEntry.{RingEntry}
use Rattle.ring_core.specs.Machine.{ring_after}
use Rattle.host_port.specs.Host.{HostIs}
use Rattle.comm_port.specs.HostTurns.{CountsPasses, HoldsHostTurn, HostTies, HostWorkerIs}
use Rattle.comm_port.specs.HostTurns.{after_turn}
use Rattle.comm_port.specs.Leaving.{IsHere}
use Rattle.comm_port.specs.Sides.{RingSideIs}
use Rattle.live_workers.specs.Talking.{AttendsOn}
use Rattle.live_workers.proofs.Keeping.{HostLaws, attends-next, attends-others, host-holds-now}
use Rattle.live_workers.proofs.hosting.take_turn.Goals as goal

-- a turn that was made, whatever it answered
made : {Q X : Type 0} (laws : HostLaws) (alone : Bool) (w w' : HostWorkerIs) (host host' : HostIs)
    (side side' : RingSideIs Q) (ring ring' : List RingEntry) (r : Result Bool X)
    → host'.plan ≡ host.plan → side' ≡ side → IfOk r (λ left. w' ≡ after_turn w left)
    → IfOk r
    (HoldsHostTurn alone side.net w.node host.plan w.budget host.history host'.history ring ring')
    → OnOk r (HostTies w'.node host' side' ring') → OnOk r (CountsPasses w' ring')
    → IfOk r (λ left. left ≡ false → IsHere side'.net ring' w.node)
    → AttendsOn w host side ring false → IfOk r (AttendsOn w' host' side' ring')
made laws alone w w' host host' side side' ring ring' (Ok left) plan same worker held ties
    counts here a =
    attends-next laws alone w w' host host' side side' ring ring' left plan same worker held
    ties counts here a
made laws alone w w' host host' side side' ring ring' (Err why) plan same worker held ties
    counts here a = tt

pub returns-then-holder-node-clause-attends : goal.returns-then-holder-node-clause-attends
returns-then-holder-node-clause-attends g c =
    attends-others g.G.RingSide.alone c.args.worker.now c.args.host.now
    (g.G.RingSide.side c.args.ring.now) (g.G.RingSide.side c.holder.new.self)
    (g.G.RingSide.known c.args.ring.now) (g.G.RingSide.known c.holder.new.self) false
    c.holder.ensures.same
    (c.holder.ensures.went _ c.requires.attends.ties.serves).list c.holder.ensures.legal
    c.requires.attends

pub hold_turn-requires-clause-ties : goal.hold_turn-requires-clause-ties
hold_turn-requires-clause-ties g c =
    (attends-others g.G.RingSide.alone c.args.worker.now c.args.host.now
    (g.G.RingSide.side c.args.ring.now) (g.G.RingSide.side c.holder.new.self)
    (g.G.RingSide.known c.args.ring.now) (g.G.RingSide.known c.holder.new.self) false
    c.holder.ensures.same
    (c.holder.ensures.went _ c.requires.attends.ties.serves).list c.holder.ensures.legal
    c.requires.attends).ties

pub hold_turn-requires-clause-no_bridge : goal.hold_turn-requires-clause-no_bridge
hold_turn-requires-clause-no_bridge g c =
    (attends-others g.G.RingSide.alone c.args.worker.now c.args.host.now
    (g.G.RingSide.side c.args.ring.now) (g.G.RingSide.side c.holder.new.self)
    (g.G.RingSide.known c.args.ring.now) (g.G.RingSide.known c.holder.new.self) false
    c.holder.ensures.same
    (c.holder.ensures.went _ c.requires.attends.ties.serves).list c.holder.ensures.legal
    c.requires.attends).no_bridge

pub hold_turn-requires-clause-counts : goal.hold_turn-requires-clause-counts
hold_turn-requires-clause-counts g c =
    (attends-others g.G.RingSide.alone c.args.worker.now c.args.host.now
    (g.G.RingSide.side c.args.ring.now) (g.G.RingSide.side c.holder.new.self)
    (g.G.RingSide.known c.args.ring.now) (g.G.RingSide.known c.holder.new.self) false
    c.holder.ensures.same
    (c.holder.ensures.went _ c.requires.attends.ties.serves).list c.holder.ensures.legal
    c.requires.attends).counts

pub hold_turn-requires-clause-holds : goal.hold_turn-requires-clause-holds
hold_turn-requires-clause-holds g c =
    let a = attends-others g.G.RingSide.alone c.args.worker.now c.args.host.now
    (g.G.RingSide.side c.args.ring.now) (g.G.RingSide.side c.holder.new.self)
    (g.G.RingSide.known c.args.ring.now) (g.G.RingSide.known c.holder.new.self) false
    c.holder.ensures.same
    (c.holder.ensures.went _ c.requires.attends.ties.serves).list c.holder.ensures.legal
    c.requires.attends in
    let found : c.holder.result ≡ c.args.node = grind (arith, c.if-holder-node.false) in
    host-holds-now c.args.worker.now c.args.host.now (g.G.RingSide.side c.holder.new.self)
    (g.G.RingSide.known c.holder.new.self) c.args.node c.requires.node a
    (ap (λ s. (ring_after s.net (g.G.RingSide.known c.holder.new.self)).holder)
    c.holder.ensures.same ∙ sym c.holder.ensures.answer ∙ found)

pub returns-clause-attends : goal.returns-clause-attends
returns-clause-attends g c =
    let a = attends-others g.G.RingSide.alone c.args.worker.now c.args.host.now
    (g.G.RingSide.side c.args.ring.now) (g.G.RingSide.side c.holder.new.self)
    (g.G.RingSide.known c.args.ring.now) (g.G.RingSide.known c.holder.new.self) false
    c.holder.ensures.same
    (c.holder.ensures.went _ c.requires.attends.ties.serves).list c.holder.ensures.legal
    c.requires.attends in
    made (record { keeps = c.host_turns_keep_on.ensures; unspent = c.none_is_spent.ensures.hosts })
    g.G.RingSide.alone _ _ _ _ _ _ _ _ c.hold_turn.result c.hold_turn.ensures.step.plan
    c.hold_turn.ensures.step.node.same c.hold_turn.ensures.worker
    c.hold_turn.ensures.held c.hold_turn.ensures.ties c.hold_turn.ensures.counts
    c.hold_turn.ensures.stays a

pub returns-clause-plan : goal.returns-clause-plan
returns-clause-plan g c = c.hold_turn.ensures.step.plan

pub returns-clause-ring_same : goal.returns-clause-ring_same
returns-clause-ring_same g c = c.hold_turn.ensures.step.node.same ∙ c.holder.ensures.same
