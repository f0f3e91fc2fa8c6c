use Rattle.ascii_port.proofs.Texts.{frames-text}
use Rattle.ascii_port.proofs.laws.one_more_frame.Goals as goal

pub returns : goal.returns
returns c = frames-text
