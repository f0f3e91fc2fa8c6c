use Rattle.end_laws.proofs.Complete.{end-complete}
use Rattle.end_laws.proofs.laws.ends_complete.Goals as goal

pub returns : goal.returns
returns c = end-complete
