use Rattle.std.proofs.Common.{refl, Bool, true, false, ◌≡◌, ℕ, List, [], Option, subst}
use Rattle.plant_types.specs.declared.net.NetPlan.{NetPlan}
use Rattle.mstr_block.specs.declared.call.CallId.{CallId}
use Rattle.controller_core.specs.declared.entry.Entry.{Entry}
use Rattle.ring_core.specs.declared.frame.Frame.{Frame}
use Rattle.ring_core.specs.declared.entry.LeaveCause.{LeaveCause}
use Rattle.ring_core.specs.declared.entry.RingEntry.{RingEntry}
use Rattle.ring_core.specs.Legal.{IsLegalRing}
use Rattle.tied_lists.specs.Own.{is_of}
use Rattle.tied_lists.specs.Waits.{HasLeft}
use Rattle.tied_lists.proofs.Growth.{adds-both, adds-weaker}
use Rattle.ring_core.specs.Machine.{ring_after}
use Rattle.comm_port.specs.Giving.{due_calls}
use Rattle.comm_port.specs.HoldTurn.{IsGivenUp}
use Rattle.comm_port.specs.Ending.{AsksIfDone}
use Rattle.comm_port.specs.Leaving.{HandedOn}
use Rattle.comm_port.specs.Parts.{InOrder, PartOf, calls_waiting}
use Rattle.mstr_block.specs.Table.{network_paths}
use Rattle.comm_port.specs.Sides.{RingSideIs, RamSideIs}
use Rattle.comm_port.specs.Turns.{Turning}
use Rattle.joint_history.specs.Reading.{is_ours}
use Rattle.comm_port.specs.Order.{IsGivingUp}
use Rattle.comm_port.proofs.Parts.{net-as, part-none}
use Rattle.comm_port.proofs.Leaves.{asks-so, due-waits, none-left, waiting-handed, handed-ends}
use Rattle.comm_port.proofs.Leaves.{ending-too, all-paths, all-on, turn-side, quiet-due}
use Rattle.comm_port.proofs.Through.{IsEnding, rest-through}
use Rattle.std.proofs.Common.{sym, ◌∙◌}
use Rattle.comm_port.proofs.TurnsEnded.{handed-lead, left-lead, left-at, asked-lead, some-of}
use Rattle.comm_port.proofs.Steps.{both-then}
use Rattle.comm_port.proofs.Downs.{giving-downs, latest-adds, latest-handed}
use Rattle.comm_port.proofs.ending.end_turn.Goals as goal

pub hand_on-requires-clause-sent : goal.hand_on-requires-clause-sent
hand_on-requires-clause-sent g c = c.requires.rest.all_sent

pub hand_on-requires-clause-taken : goal.hand_on-requires-clause-taken
hand_on-requires-clause-taken g c = c.requires.empty

pub give_up_where-requires : goal.give_up_where-requires
give_up_where-requires g c =
    let o = c.in_ok-left.ensures in
    let n = c.args.node in
    let t = asked-lead g.M.RamSide.alone n (g.M.RamSide.side c.args.ram.now).fixed
    c.args.noticed c.is_done-done.result _ _ _ _ _ _
    c.args.waiting.now c.is_done-done.ensures.step.same c.is_done-done.ensures.asked
    c.requires.turning in
    let r = handed-lead g.R.RingSide.alone n c.is_done-done.result _ _ _ _ _ _ _ _
    c.args.waiting.now o.step.same o.step.stands.legal
    (quiet-due (g.R.RingSide.side c.args.ring.now).net
    (ring_after (g.R.RingSide.side c.args.ring.now).net (g.R.RingSide.known c.args.ring.now)) n
    c.is_done-done.result c.args.budget) o.handed t in
    let why = some-of _ (sym o.left ∙ c.if-left.true) in
    record {
      turning = left-lead n _ _ _ _ c.args.waiting.now
          (left-at (g.R.RingSide.side c.args.ring.now) (g.R.RingSide.side
          c.hand_on.new.ring) (g.R.RingSide.known c.hand_on.new.ring) n o.step.same
          (o.handed.gone why.0 why.1)) r;
    }

pub returns-clause-rested : goal.returns-clause-rested
returns-clause-rested g c =
    let o = c.in_ok-left.ensures in
    let n = c.args.node in
    let t = asked-lead g.M.RamSide.alone n (g.M.RamSide.side c.args.ram.now).fixed
    c.args.noticed c.is_done-done.result _ _ _ _ _ _
    c.args.waiting.now c.is_done-done.ensures.step.same c.is_done-done.ensures.asked
    c.requires.turning in
    handed-lead g.R.RingSide.alone n c.is_done-done.result _ _ _ _ _ _ _ _ c.args.waiting.now
    o.step.same o.step.stands.legal
    (quiet-due (g.R.RingSide.side c.args.ring.now).net
    (ring_after (g.R.RingSide.side c.args.ring.now).net (g.R.RingSide.known c.args.ring.now)) n
    c.is_done-done.result c.args.budget) o.handed t

pub returns-clause-ends : goal.returns-clause-ends
returns-clause-ends g c =
    let o = c.in_ok-left.ensures in
    let n = c.args.node in
    record {
      done = c.is_done-done.result;
      asked_known = g.M.RamSide.known c.is_done-done.new.ram;
      asked = subst (λ (k : ℕ). AsksIfDone g.M.RamSide.alone
          (g.M.RamSide.side c.args.ram.now).fixed k
          (calls_waiting n (g.R.RingSide.known c.args.ring.now) ≡ [])
          (g.M.RamSide.known c.args.ram.now) (g.M.RamSide.known c.is_done-done.new.ram)
          c.is_done-done.result) c.requires.noticed
          (asks-so g.M.RamSide.alone _ c.args.noticed n _ (g.R.RingSide.known c.args.ring.now)
          c.args.waiting.now _ _ _ c.requires.turning.waits c.is_done-done.ensures.asked);
      left_is = sym c.if-left.false ∙ o.left;
      handed_ring = g.R.RingSide.known c.hand_on.new.ring;
      handed = o.handed;
      gives_up = part-none g.M.RamSide.alone g.R.RingSide.alone is_ours n (InOrder IsGivenUp []) _ _
          (refl, refl);
      none_waits = λ e. absurd (let bad : false ≡ true = e in cc);
    }

-- the Leave, and the calls that are given up then
left-part : {P Q : Type 0} (alone alone' : Bool) (n : ℕ) (done : Bool) (words : List ℕ)
    (cause : Option LeaveCause) (ram : RamSideIs P) (known known' : List
    Entry) (side side' : RingSideIs Q) (ring0 ring ring' : List RingEntry) (w : List (Option Frame))
    → side' ≡ side → HandedOn alone' side.net n done words cause ring0
    ring → HasLeft side'.net ring n → Turning n [] ram known side' ring w
    → PartOf alone alone' is_ours n (InOrder IsGivenUp (due_calls side'.net n ring network_paths))
    known known' ring ring'
    → PartOf alone alone' is_ours n (InOrder IsGivenUp (calls_waiting n ring0)) known known' ring
    ring'
left-part alone alone' n done words cause ram known known' side side' ring0 ring ring' w same h gone
    t p =
    let is : due_calls side'.net n ring network_paths ≡ calls_waiting n ring0 = due-waits n [] ram
    known side' ring w gone t
    ∙ waiting-handed alone' side.net n done words cause ring0 ring h in
    subst (λ (l : List CallId). PartOf alone alone' is_ours n (InOrder IsGivenUp l) known known'
    ring ring') is p

pub returns-then-left-clause-ends : goal.returns-then-left-clause-ends
returns-then-left-clause-ends g c =
    let o = c.in_ok-left.ensures in
    let e = c.in_ok-give_up_where.ensures in
    let n = c.args.node in
    let t0 = asked-lead g.M.RamSide.alone n (g.M.RamSide.side c.args.ram.now).fixed
    c.args.noticed c.is_done-done.result _ _ _ _ _ _
    c.args.waiting.now c.is_done-done.ensures.step.same c.is_done-done.ensures.asked
    c.requires.turning in
    let r = handed-lead g.R.RingSide.alone n c.is_done-done.result _ _ _ _ _ _ _ _
    c.args.waiting.now o.step.same o.step.stands.legal
    (quiet-due (g.R.RingSide.side c.args.ring.now).net
    (ring_after (g.R.RingSide.side c.args.ring.now).net (g.R.RingSide.known c.args.ring.now)) n
    c.is_done-done.result c.args.budget) o.handed t0 in
    let why = some-of _ (sym o.left ∙ c.if-left.true) in
    let gone = left-at (g.R.RingSide.side c.args.ring.now) (g.R.RingSide.side c.hand_on.new.ring)
    (g.R.RingSide.known c.hand_on.new.ring)
    n o.step.same (o.handed.gone why.0 why.1) in
    let t = left-lead n _ _ _ _ c.args.waiting.now gone r in
    record {
      done = c.is_done-done.result;
      asked_known = g.M.RamSide.known c.is_done-done.new.ram;
      asked = subst (λ (k : ℕ). AsksIfDone g.M.RamSide.alone
          (g.M.RamSide.side c.args.ram.now).fixed k
          (calls_waiting n (g.R.RingSide.known c.args.ring.now) ≡ [])
          (g.M.RamSide.known c.args.ram.now) (g.M.RamSide.known c.is_done-done.new.ram)
          c.is_done-done.result) c.requires.noticed
          (asks-so g.M.RamSide.alone _ c.args.noticed n _ (g.R.RingSide.known c.args.ring.now)
          c.args.waiting.now _ _ _ c.requires.turning.waits c.is_done-done.ensures.asked);
      left_is = sym c.if-left.true ∙ o.left;
      handed_ring = g.R.RingSide.known c.hand_on.new.ring;
      handed = o.handed;
      gives_up = left-part g.M.RamSide.alone g.R.RingSide.alone n c.is_done-done.result _ _ _ _ _
          (g.R.RingSide.side c.args.ring.now) _ _ _ _
          c.args.waiting.now o.step.same o.handed gone t e.given;
      none_waits = λ _. none-left n [] all-paths _ _ (g.R.RingSide.side c.hand_on.new.ring)
          (g.R.RingSide.known c.hand_on.new.ring) _ _ all-on gone
          e.part (turn-side n _ _ _ _ _ _ e.step.node.same e.turning);
    }

pub returns-clause-rest : goal.returns-clause-rest
returns-clause-rest g c =
    let o = c.in_ok-left.ensures in
    let n = c.args.node in
    rest-through g.R.RingSide.alone _ n _ _ c.requires.turning.own_turn.on o.step.stands.legal
    (handed-ends g.R.RingSide.alone _ n _ _ _ _ _ o.handed) c.requires.rest

pub returns-then-left-clause-rest : goal.returns-then-left-clause-rest
returns-then-left-clause-rest g c =
    let o = c.in_ok-left.ensures in
    let e = c.in_ok-give_up_where.ensures in
    let n = c.args.node in
    let now = net-as (λ (m : NetPlan). IsLegalRing m
    (g.R.RingSide.known c.give_up_where.new.ring)) _ _
    (e.step.node.same ∙ o.step.same) e.turning.own_turn.on.legal in
    rest-through g.R.RingSide.alone _ n _ _ c.requires.turning.own_turn.on now
    (adds-both g.R.RingSide.alone (is_of n) IsEnding _ _ _
    (handed-ends g.R.RingSide.alone _ n _ _ _ _ _ o.handed)
    (adds-weaker g.R.RingSide.alone (is_of n) IsGivingUp IsEnding _ _ ending-too e.ring_adds))
    c.requires.rest

pub returns-in_err-left-clause-step : goal.returns-in_err-left-clause-step
returns-in_err-left-clause-step g c =
    record { station = c.is_done-done.ensures.step; node = c.in_err-left.ensures.step }

pub returns-in_err-give_up_where-clause-step : goal.returns-in_err-give_up_where-clause-step
returns-in_err-give_up_where-clause-step g c =
    both-then g.M.RamSide g.R.RingSide c.args.node
    (record { station = c.is_done-done.ensures.step; node = c.in_ok-left.ensures.step })
    c.in_err-give_up_where.ensures.step

pub returns-then-left-clause-step : goal.returns-then-left-clause-step
returns-then-left-clause-step g c =
    both-then g.M.RamSide g.R.RingSide c.args.node
    (record { station = c.is_done-done.ensures.step; node = c.in_ok-left.ensures.step })
    c.in_ok-give_up_where.ensures.step

pub returns-clause-step : goal.returns-clause-step
returns-clause-step g c =
    record { station = c.is_done-done.ensures.step; node = c.in_ok-left.ensures.step }

pub returns-clause-noticed : goal.returns-clause-noticed
returns-clause-noticed g c =
    let o = c.in_ok-left.ensures in
    c.requires.noticed ∙ sym (latest-handed g.R.RingSide.alone _ c.args.node _ _ _ _ _
    (quiet-due (g.R.RingSide.side c.args.ring.now).net
    (ring_after (g.R.RingSide.side c.args.ring.now).net (g.R.RingSide.known c.args.ring.now))
    c.args.node
    c.is_done-done.result c.args.budget) o.handed)

pub returns-then-left-clause-noticed : goal.returns-then-left-clause-noticed
returns-then-left-clause-noticed g c =
    let o = c.in_ok-left.ensures in
    let e = c.in_ok-give_up_where.ensures in
    c.requires.noticed ∙ (sym (latest-handed g.R.RingSide.alone _ c.args.node _ _ _ _ _
    (quiet-due (g.R.RingSide.side c.args.ring.now).net
    (ring_after (g.R.RingSide.side c.args.ring.now).net (g.R.RingSide.known c.args.ring.now))
    c.args.node
    c.is_done-done.result c.args.budget) o.handed)
    ∙ sym (latest-adds g.R.RingSide.alone c.args.node IsGivingUp _ _ giving-downs e.ring_adds))
