use Rattle.cone_runs.proofs.Scans.{alike-stay}
use Rattle.cone_runs.proofs.laws.alike_in_stay.Goals as goal

pub returns : goal.returns
returns c =
    alike-stay c.discretes_are_on.ensures c.solves_keep_agreement.ensures
    c.alike_states_stay.ensures
