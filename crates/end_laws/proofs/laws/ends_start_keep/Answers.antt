use Rattle.end_laws.proofs.Others.{end-starts}
use Rattle.end_laws.proofs.laws.ends_start_keep.Goals as goal

pub returns : goal.returns
returns c = end-starts
