use Rattle.joint_history.proofs.Collected.{CallLaws, out-is}
use Rattle.comm_port.proofs.controller_side.ControllerRamSide.finish.Goals as goal

pub finish-requires : goal.finish-requires
finish-requires c =
    let laws : CallLaws = record {
      segments = c.segments_keep_calls.ensures;
      taking = c.calls_are_taken_in_order.ensures;
      finishing = c.finishes_end_one_call.ensures;
      tables = c.stays_table.ensures;
    } in
    let v = c.args.self.now in
    out-is laws v.fixed v.history c.args.id c.history.ensures.legal c.requires
