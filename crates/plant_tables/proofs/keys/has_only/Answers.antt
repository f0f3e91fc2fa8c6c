use Rattle.std.proofs.Common.{◌∙◌}
use Rattle.plant_tables.proofs.KnownKeys.{has_only-keys}
use Rattle.plant_tables.proofs.keys.has_only.Goals as goal

pub returns : goal.returns
returns c = c.all_among.ensures ∙ has_only-keys c.args.known.now c.args.table.now.entries
