use Rattle.side_runs.proofs.Pairs.{pair-paths}
use Rattle.side_runs.proofs.laws.pair_paths_are_runs.Goals as goal

pub returns : goal.returns
returns c =
    pair-paths c.alike_states_stay.ensures c.scans_settle.ensures c.brought_runs_are_scans.ensures
    c.drops_stay_alone.ensures c.fields_are_played.ensures
