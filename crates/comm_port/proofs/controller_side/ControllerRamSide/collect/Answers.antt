use Rattle.std.proofs.Common.{List, map, sym, subst}
use Rattle.std.specs.Prelude.{IfOk, Ok, Err, Result, ◌≡◌}
use Rattle.controller_core.specs.declared.call.Call.{Call}
use Rattle.controller_core.specs.Controller.{ControllerIs, IsLegal, uncollected}
use Rattle.tied_lists.specs.Calls.{AreNewCalls}
use Rattle.joint_history.specs.Reading.{called_of, items_of}
use Rattle.joint_history.proofs.Collected.{CallLaws, collected-new}
use Rattle.comm_port.proofs.controller_side.ControllerRamSide.collect.Goals as goal

fresh : {E : Type 0} (v : ControllerIs) (r : Result (List Call) E) → CallLaws
    → IsLegal v.fixed v.history → IfOk r (λ calls. calls ≡ uncollected v)
    → IfOk r (λ calls. AreNewCalls v.fixed.plan.node (items_of v.history).calls
    (items_of v.history).ends (map called_of calls))
fresh v (Ok calls) laws legal is =
    subst (λ (l : List Call). AreNewCalls v.fixed.plan.node (items_of v.history).calls
    (items_of v.history).ends (map called_of l))
    (sym is) (collected-new laws v.fixed v.history legal)
fresh v (Err why) laws legal is = tt

pub returns-clause-fresh : goal.returns-clause-fresh
returns-clause-fresh c =
    let laws : CallLaws = record {
      segments = c.segments_keep_calls.ensures;
      taking = c.calls_are_taken_in_order.ensures;
      finishing = c.finishes_end_one_call.ensures;
      tables = c.stays_table.ensures;
    } in
    fresh c.args.self.now c.collect.result laws c.history.ensures.legal c.collect.ensures.calls
