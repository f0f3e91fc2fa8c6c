use Rattle.controller_core.proofs.MachineLemmas.{segment_solves, solvable_there}
use Rattle.controller_core.proofs.machine.Machine.solve_segment_noting.Goals as goal

pub solve_noting-end-requires-clause-solvable : goal.solve_noting-end-requires-clause-solvable
solve_noting-end-requires-clause-solvable c =
    solvable_there c.args.self.now c.args.segment c.grids_ask_no_more.ensures
    c.checked_plans_find_all.ensures c.kept_stores_find_all.ensures c.discretes_follow.ensures
    c.requires.sound c.requires.first c.requires.last c.requires.watch

pub returns-clause-solves : goal.returns-clause-solves
returns-clause-solves c =
    let done = c.solve_noting-end in
    segment_solves c.args.self.now c.args.segment done.result done.new.self done.new.ram
    done.new.bank done.new.watch c.stop_behind-self.result c.requires.sound
    c.segments_keep_calls.ensures done.ensures.solved done.ensures.stopped
    c.stop_behind-self.ensures

pub returns-clause-noted : goal.returns-clause-noted
returns-clause-noted c =
    c.solve_noting-end.ensures.noted c.args.self.now.fixed.plan.segments c.requires.sound.grids
