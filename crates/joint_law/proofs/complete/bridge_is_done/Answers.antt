use Rattle.std.proofs.Common.{List, sym, subst, ◌∙◌}
use Rattle.std.proofs.lemmas.Result.{IfOk-weaker}
use Rattle.bridge_relay.specs.declared.entry.BridgeEntry.{BridgeEntry}
use Rattle.joint_law.specs.AllComplete.{IsEndDoneOn}
use Rattle.station_laws.proofs.Lists.{not-true}
use Rattle.joint_law.proofs.complete.bridge_is_done.Goals as goal

pub returns-then-not-branch : goal.returns-then-not-branch
returns-then-not-branch c = (
  λ no'. not-true no',
  λ both. sym c.if-not-branch.true ∙ c.in_ok-end_is_done.ensures.1
      (subst (λ (l : List BridgeEntry). IsEndDoneOn c.args.on l c.args.log.now.left)
      (sym c.as_slice-entries.ensures) both.0),
)

pub returns : goal.returns
returns c =
    let left = subst (λ (l : List BridgeEntry). IsEndDoneOn c.args.on l c.args.log.now.left)
    c.as_slice-entries.ensures (c.in_ok-end_is_done.ensures.0 c.if-not-branch.false) in
    IfOk-weaker c.end_is_done-2.result _ _
    (λ done tested. (
      λ yes. (
        left,
        subst (λ (l : List BridgeEntry). IsEndDoneOn c.args.on l c.args.log.now.right)
            c.as_slice-entries.ensures (tested.0 yes),
      ),
      λ both. tested.1
          (subst (λ (l : List BridgeEntry). IsEndDoneOn c.args.on l c.args.log.now.right)
          (sym c.as_slice-entries.ensures) both.1),
    ))
    c.end_is_done-2.ensures
