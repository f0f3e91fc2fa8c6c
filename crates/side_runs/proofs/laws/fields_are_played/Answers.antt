use Rattle.side_runs.proofs.Playing.{fields-played}
use Rattle.side_runs.proofs.laws.fields_are_played.Goals as goal

pub returns : goal.returns
returns c = fields-played c.kept_power_stays.ensures
