use Rattle.joint_history.specs.JointLaws.{most_scans}
use Rattle.command_answers.proofs.MoreScans.{joint_more}
use Rattle.command_answers.proofs.answering.answer_summary.Goals as goal

pub journal_tells_all-requires-clause-joint : goal.journal_tells_all-requires-clause-joint
journal_tells_all-requires-clause-joint c =
    joint_more c.args.plant.now c.args.scans most_scans c.in_ok-counted.counted.noted.joint
    c.requires.scans.to c.in_ok-counted.ensures.run.legal
