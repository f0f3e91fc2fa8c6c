use Rattle.field_runs.proofs.Hours.{alike-stay}
use Rattle.field_runs.proofs.laws.alike_states_stay.Goals as goal

pub returns : goal.returns
returns c = alike-stay c.solves_ask_no_hour.ensures
