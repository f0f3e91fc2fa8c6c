use Rattle.std.proofs.Common.{refl}
use Rattle.joint_history.specs.JointLaws.{most_scans}
use Rattle.command_answers.proofs.MoreScans.{joint_more}
use Rattle.command_answers.proofs.cops.exchange_answer.Goals as goal

pub panel_of-requires-clause-joint : goal.panel_of-requires-clause-joint
panel_of-requires-clause-joint c =
    joint_more c.in_ok-exchanged.exchanged.plant c.args.scans most_scans
    c.in_ok-exchanged.exchanged.noted.joint c.requires.scans.to
    c.in_ok-exchanged.ensures.run.legal

pub journal_tells_all-requires-clause-joint : goal.journal_tells_all-requires-clause-joint
journal_tells_all-requires-clause-joint c =
    joint_more c.in_ok-exchanged.exchanged.plant c.args.scans most_scans
    c.in_ok-exchanged.exchanged.noted.joint c.requires.scans.to
    c.in_ok-exchanged.ensures.run.legal

pub returns : goal.returns
returns c =
    let made = c.in_ok-exchanged.ensures in
    record {
      fed = c.in_ok-exchanged.exchanged.plant;
      runs = made.runs;
      shown = record {
        joint = c.in_ok-exchanged.exchanged.noted.joint;
        history = record {
          serial = made.run.serial;
          whole = record {
            legal = made.run.legal;
            tied = made.run.joint;
            complete = made.run.complete;
          };
          in_time = made.run.in_time;
          bridges_in_time = made.run.bridges_in_time;
        };
        effects = made.run.effects;
        told = c.journal_tells_all.ensures;
        status = refl;
        text = c.in_ok-text.ensures;
      };
      exchange = made.exchange;
    }
