use Rattle.standby_pair.proofs.Making.{kept-behind}
use Rattle.standby_pair.proofs.frames.frames_behind.Goals as goal

pub returns : goal.returns
returns c = kept-behind c.args.frames.now c.args.many c.min.result c.min.ensures
