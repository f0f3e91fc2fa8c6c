use Rattle.live_run.proofs.Through.{opened-closable}
use Rattle.live_run.proofs.runs.run_over.Goals as goal

pub returns-else-rings-clause-closable : goal.returns-else-rings-clause-closable
returns-else-rings-clause-closable g c =
    opened-closable c.args.rings.now.homes.items c.args.rings.now.purses.items c.requires.opened
