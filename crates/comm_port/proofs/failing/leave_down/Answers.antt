use Rattle.std.proofs.Common.{ℕ, ◌<◌, refl, sym, subst}
use Rattle.ring_core.specs.declared.entry.LeaveCause.TheVariants.{Down}
use Rattle.ring_core.specs.declared.entry.RingEntry.TheVariants.{Leave}
use Rattle.tied_lists.proofs.Turns.{leave-status}
use Rattle.comm_port.proofs.Allowed.{down-short}
use Rattle.comm_port.proofs.Downs.{down-is}
use Rattle.comm_port.proofs.RingTurns.{mine, own-moved}
use Rattle.comm_port.proofs.Steps.{ring-left}
use Rattle.comm_port.proofs.TurnEnds.{did-leave}
use Rattle.comm_port.proofs.failing.leave_down.Goals as goal

pub of-requires : goal.of-requires
of-requires g c =
    let e = c.in-Err.ensures in
    down-short g.R.RingSide.alone c.args.node c.args.failures _ _ _ _ e.legal e.went.list
    c.requires.turn c.requires.holds
    (subst (λ (k : ℕ). k < c.args.failures) (sym (down-is _ c.args.node _ c.requires.turn.on))
    c.requires.more) e.refused

pub returns-in-Ok-clause-left : goal.returns-in-Ok-clause-left
returns-in-Ok-clause-left g c =
    let o = c.in-Ok.ensures in
    (did-leave _ c.args.node (Down c.args.failures) g.R.RingSide.alone _ _ c.requires.turn.on
    o.legal c.requires.holds o.went.list).1

pub returns-in-Ok-clause-away : goal.returns-in-Ok-clause-away
returns-in-Ok-clause-away g c =
    let o = c.in-Ok.ensures in
    let n = c.args.node in
    let cause = Down c.args.failures in
    leave-status _ n _ cause _
    (own-moved _ g.R.RingSide.alone n _ (Leave n cause) _ refl c.requires.turn o.legal o.went.list)

pub returns-in-Ok-clause-step : goal.returns-in-Ok-clause-step
returns-in-Ok-clause-step g c =
    let o = c.in-Ok.ensures in
    ring-left g.R.RingSide c.args.node o.same o.legal o.went
    (mine c.args.node (Leave c.args.node (Down c.args.failures)) refl)

pub returns-in-Err-clause-step : goal.returns-in-Err-clause-step
returns-in-Err-clause-step g c =
    let e = c.in-Err.ensures in
    ring-left g.R.RingSide c.args.node e.same e.legal e.went refl
