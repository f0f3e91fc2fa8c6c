use Rattle.joint_history.specs.JointLaws.{most_scans}
use Rattle.command_answers.proofs.MoreScans.{joint_more}
use Rattle.command_answers.proofs.answering.traced.Goals as goal

pub trace_text-requires-clause-joint : goal.trace_text-requires-clause-joint
trace_text-requires-clause-joint c =
    joint_more c.args.plant.now c.args.scans most_scans c.args.noted.now.joint
    c.requires.scans.to c.requires.joint

pub journal_tells_all-requires-clause-joint : goal.journal_tells_all-requires-clause-joint
journal_tells_all-requires-clause-joint c =
    joint_more c.args.plant.now c.args.scans most_scans c.args.noted.now.joint
    c.requires.scans.to c.requires.joint
