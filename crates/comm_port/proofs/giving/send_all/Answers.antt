use Rattle.std.proofs.Common.{rules}
use Rattle.std.proofs.Common.{Bool, ℕ}
use Rattle.ring_core.specs.declared.entry.RingEntry.{RingEntry}
use Rattle.comm_port.specs.Sides.{RingSideIs}
use Rattle.tied_lists.specs.Waits.{Holds}
use Rattle.plant_types.specs.declared.net.NetPlan.{NetPlan}
use Rattle.std.proofs.Common.{refl}
use Rattle.tied_lists.specs.Waits.{IsOnRing}
use Rattle.comm_port.specs.Giving.{GivesWhere}
use Rattle.comm_port.specs.Sending.{SentNext, AllSent}
use Rattle.comm_port.proofs.Made.{kept-none}
use Rattle.comm_port.proofs.Parts.{net-as, part-none, part-both, each-none, each-both}
use Rattle.comm_port.proofs.SendsAll.{Finished, has-sent, may-go-on, may-again, send-each}
use Rattle.comm_port.proofs.SendsAll.{given-each, finished-both, send-part, given-part, sent-all}
use Rattle.std.proofs.Common.{◌≡◌, sym, ◌∙◌, subst, List, []}
use Rattle.ring_core.specs.declared.entry.Heard.{Heard}
use Rattle.joint_history.specs.Reading.{is_ours}
use Rattle.comm_port.specs.Sending.{SentOrAll}
use Rattle.comm_port.proofs.RingTurns.{kept-both, kept-same}
use Rattle.comm_port.proofs.Served.{holds-kept}
use Rattle.comm_port.proofs.Given.{sent-lead, stays-lead, holds-at}
use Rattle.comm_port.proofs.Steps.{both-rest, both-ring, both-then}
use Rattle.comm_port.proofs.giving.send_all.Goals as goal

sent-here : {Q : Type 0} (alone : Bool) (n : ℕ) (heard : Heard) (side side' : RingSideIs Q)
    (ring ring' : List RingEntry) → side' ≡ side →
    SentNext alone side'.net n heard ring ring' → SentNext alone side.net n heard ring ring'
sent-here {Q} alone n heard side side' ring ring' same s = subst
    (λ (x : RingSideIs Q). SentNext alone x.net n heard ring ring') same s

all-here : {Q : Type 0} (alone : Bool) (n : ℕ) (side side' : RingSideIs Q)
    (ring ring' : List RingEntry) → side' ≡ side →
    AllSent alone side'.net n ring ring' → AllSent alone side.net n ring ring'
all-here {Q} alone n side side' ring ring' same s = subst
    (λ (x : RingSideIs Q). AllSent alone x.net n ring ring') same s

pub loop-heard-init : goal.loop-heard-init
loop-heard-init g c = record {
  turning = c.requires.turning;
  holds = c.requires.holds;
  kept = kept-none (g.R.RingSide.side c.args.ring.now) _ c.args.node c.requires.turning.own_turn;
  wait = c.requires.wait;
  may = c.requires.may;
  finished = part-none g.M.RamSide.alone g.R.RingSide.alone is_ours c.args.node Finished _ _ refl;
  each = each-none c.args.node _ _;
  step = both-rest g.M.RamSide g.R.RingSide c.args.node c.args.ram.now c.args.ring.now
      c.requires.turning.own_turn.on.legal;
}

pub give_up_where-requires : goal.give_up_where-requires
give_up_where-requires g c =
    let o = c.in_ok-heard.ensures in
    let n = c.args.node in
    let sent = subst (SentOrAll g.R.RingSide.alone (g.R.RingSide.side c.loop-heard.ring).net n
    (g.R.RingSide.known
    c.loop-heard.ring) (g.R.RingSide.known c.send_next.new.ring)) c.in-Some.is o.sent in
    record {
      turning = sent-lead g.R.RingSide.alone n c.in-Some.heard _ _ _ _ _ _
          c.loop-heard.waiting o.step.same o.step.stands.legal sent c.loop-heard.invariant.turning;
    }

pub loop-heard-preserved-then-eq : goal.loop-heard-preserved-then-eq
loop-heard-preserved-then-eq g c =
    let o = c.in_ok-heard.ensures in
    let n = c.args.node in
    let i = c.loop-heard.invariant in
    let sent = subst (SentOrAll g.R.RingSide.alone (g.R.RingSide.side c.loop-heard.ring).net n
    (g.R.RingSide.known
    c.loop-heard.ring) (g.R.RingSide.known c.send_next.new.ring)) c.in-Some.is o.sent in
    record {
      turning = sent-lead g.R.RingSide.alone n c.in-Some.heard _ _ _ _ _ _ c.loop-heard.waiting
          o.step.same o.step.stands.legal sent i.turning;
      holds = holds-at _ _ _ n o.step.same (sent.kept.holds i.holds);
      kept = kept-both (g.R.RingSide.side c.args.ring.now).net n _ _ _ i.kept
          (kept-same _ _ n _ _ (sym i.step.node.same) sent.kept);
      wait = i.wait;
      may = may-go-on g.R.RingSide.alone (g.R.RingSide.side c.args.ring.now).net n _ c.in-Some.heard
          _ _ (search rules) (sent-here g.R.RingSide.alone n c.in-Some.heard _ _ _ _
          i.step.node.same sent) i.may;
      finished = part-both g.M.RamSide.alone g.R.RingSide.alone is_ours n Finished Finished Finished
          _ _ _ _ _ _ finished-both i.finished
          (send-part g.M.RamSide.alone g.R.RingSide.alone n c.in-Some.heard _ _ _ sent.grew);
      each = each-both n _ _ _ _ i.each
          (send-each g.R.RingSide.alone (g.R.RingSide.side c.args.ring.now).net n _ c.in-Some.heard
          _ _
          (sent-here g.R.RingSide.alone n c.in-Some.heard _ _ _ _ i.step.node.same sent) i.may);
      step = both-then g.M.RamSide g.R.RingSide n i.step
          (both-ring g.M.RamSide g.R.RingSide n c.loop-heard.ram o.step);
    }

pub loop-heard-preserved : goal.loop-heard-preserved
loop-heard-preserved g c =
    let o = c.in_ok-heard.ensures in
    let n = c.args.node in
    let i = c.loop-heard.invariant in
    let e = c.in_ok-give_up_where.ensures in
    let sent = subst (SentOrAll g.R.RingSide.alone (g.R.RingSide.side c.loop-heard.ring).net n
    (g.R.RingSide.known
    c.loop-heard.ring) (g.R.RingSide.known c.send_next.new.ring)) c.in-Some.is o.sent in
    let sent-now = sent-here g.R.RingSide.alone n c.in-Some.heard _ _ _ _ i.step.node.same sent in
    let on = net-as (λ (m : NetPlan). IsOnRing m (g.R.RingSide.known c.loop-heard.ring) n) _ _
    i.step.node.same i.turning.own_turn.on in
    let gone-by = has-sent g.R.RingSide.alone (g.R.RingSide.side c.args.ring.now).net n _
    c.in-Some.heard _ _ i.wait on sent-now i.may in
    let given = net-as (λ (m : NetPlan). GivesWhere m n c.args.posted.now 5
    (g.R.RingSide.known c.send_next.new.ring) (g.R.RingSide.known c.give_up_where.new.ring)) _ _
    (o.step.same ∙ i.step.node.same) e.part in
    let here = (sent-now.kept.holds
    (net-as (λ (m : NetPlan). Holds m (g.R.RingSide.known c.loop-heard.ring) n) _ _
    i.step.node.same i.holds)).here in
    let first = kept-both (g.R.RingSide.side c.args.ring.now).net n _ _ _ i.kept
    (kept-same _ _ n _ _ (sym i.step.node.same) sent.kept) in
    record {
      turning = e.turning;
      holds = holds-kept (g.R.RingSide.side c.loop-heard.ring) _ _ n _ _ o.step.same
          e.step.node.same e.kept (sent.kept.holds i.holds);
      kept = kept-both (g.R.RingSide.side c.args.ring.now).net n _ _ _ first
          (kept-same _ _ n _ _ (sym (o.step.same ∙ i.step.node.same)) e.kept);
      wait = i.wait;
      may = may-again (g.R.RingSide.side c.args.ring.now).net n _ _ _ i.wait gone-by given;
      finished = part-both g.M.RamSide.alone g.R.RingSide.alone is_ours n Finished Finished Finished
          _ _ _ _ _ _ finished-both i.finished
          (part-both g.M.RamSide.alone g.R.RingSide.alone is_ours n Finished Finished Finished _ _ _
          _ _ _ finished-both
          (send-part g.M.RamSide.alone g.R.RingSide.alone n c.in-Some.heard _ _ _ sent.grew)
          (given-part g.M.RamSide.alone g.R.RingSide.alone n _ _ _ _ _ e.given));
      each = each-both n _ _ _ _ i.each
          (each-both n _ _ _ _ (send-each g.R.RingSide.alone (g.R.RingSide.side c.args.ring.now).net
          n _ c.in-Some.heard _ _
          sent-now i.may) (given-each (g.R.RingSide.side c.args.ring.now).net n _ _ _ here gone-by
          given));
      step = both-then g.M.RamSide g.R.RingSide n i.step
          (both-then g.M.RamSide g.R.RingSide n
          (both-ring g.M.RamSide g.R.RingSide n c.loop-heard.ram o.step) e.step);
    }

pub returns-clause-turning : goal.returns-clause-turning
returns-clause-turning g c =
    let o = c.in_ok-heard.ensures in
    let n = c.args.node in
    let sent = subst (SentOrAll g.R.RingSide.alone (g.R.RingSide.side c.loop-heard.ring).net n
    (g.R.RingSide.known
    c.loop-heard.ring) (g.R.RingSide.known c.send_next.new.ring)) c.in_default.is o.sent in
    stays-lead g.R.RingSide.alone n [] _ _ _ _ _ _ c.loop-heard.waiting o.step.same
    o.step.stands.legal sent.kept sent.grew c.loop-heard.invariant.turning

pub returns-clause-sent : goal.returns-clause-sent
returns-clause-sent g c =
    let o = c.in_ok-heard.ensures in
    let i = c.loop-heard.invariant in
    let n = c.args.node in
    let sent = subst (SentOrAll g.R.RingSide.alone (g.R.RingSide.side c.loop-heard.ring).net n
    (g.R.RingSide.known
    c.loop-heard.ring) (g.R.RingSide.known c.send_next.new.ring)) c.in_default.is o.sent in
    sent-all g.M.RamSide.alone g.R.RingSide.alone (g.R.RingSide.side c.args.ring.now).net n _ _ _ _
    _ _
    (all-here g.R.RingSide.alone n _ _ _ _ i.step.node.same sent) i.may i.finished i.each

pub returns-in_err-heard-clause-step : goal.returns-in_err-heard-clause-step
returns-in_err-heard-clause-step g c =
    both-then g.M.RamSide g.R.RingSide c.args.node c.loop-heard.invariant.step
    (both-ring g.M.RamSide g.R.RingSide c.args.node c.loop-heard.ram
    c.in_err-heard.ensures.step)

pub returns-in_err-give_up_where-clause-step : goal.returns-in_err-give_up_where-clause-step
returns-in_err-give_up_where-clause-step g c =
    both-then g.M.RamSide g.R.RingSide c.args.node c.loop-heard.invariant.step
    (both-then g.M.RamSide g.R.RingSide c.args.node
    (both-ring g.M.RamSide g.R.RingSide c.args.node c.loop-heard.ram c.in_ok-heard.ensures.step)
    c.in_err-give_up_where.ensures.step)

pub returns-clause-step : goal.returns-clause-step
returns-clause-step g c =
    both-then g.M.RamSide g.R.RingSide c.args.node c.loop-heard.invariant.step
    (both-ring g.M.RamSide g.R.RingSide c.args.node c.loop-heard.ram c.in_ok-heard.ensures.step)
