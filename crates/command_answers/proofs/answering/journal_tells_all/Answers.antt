use Rattle.std.proofs.Common.{refl}
use Rattle.joint_history.specs.JointLaws.{most_scans}
use Rattle.command_answers.proofs.answering.journal_tells_all.Goals as goal

pub returns : goal.returns
returns c = record {
  plain = c.legal_is_plain.ensures c.args.plant.now most_scans c.args.joint.now
      c.requires.plant.sound c.requires.joint;
  fits = c.fits_its_types.ensures;
  text = refl;
}
