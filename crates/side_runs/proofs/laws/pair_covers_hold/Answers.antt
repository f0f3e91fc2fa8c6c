use Rattle.side_runs.proofs.Pairs.{pair-covers}
use Rattle.side_runs.proofs.laws.pair_covers_hold.Goals as goal

pub returns : goal.returns
returns c =
    pair-covers c.alike_states_stay.ensures c.scans_settle.ensures c.brought_runs_are_scans.ensures
    c.drops_stay_alone.ensures
