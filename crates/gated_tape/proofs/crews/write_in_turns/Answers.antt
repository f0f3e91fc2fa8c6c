use Rattle.gated_tape.proofs.Closing.{are_written}
use Rattle.gated_tape.proofs.crews.write_in_turns.Goals as goal

pub returns-clause-first : goal.returns-clause-first
returns-clause-first g c =
    let ran = c.through_gates-passes.ensures in
    are_written _ c.args.crew.count c.args.crew.writers _ c.close_tape-first.result.marks _
    ran.passes.in_one ran.one
    c.close_tape-first.ensures.counts

pub returns-clause-second : goal.returns-clause-second
returns-clause-second g c =
    let ran = c.through_gates-passes.ensures in
    are_written _ c.args.crew.count c.args.crew.writers _ c.close_tape-second.result.marks _
    ran.passes.in_two ran.two
    c.close_tape-second.ensures.counts
