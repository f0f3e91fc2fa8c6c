use Rattle.std.proofs.Common.{ap}
use Rattle.word_exchange.specs.Starting.{script_or}
use Rattle.word_exchange.proofs.scripts.script_in.Goals as goal

pub returns-in-Some : goal.returns-in-Some
returns-in-Some c = ap (script_or c.args.drop.now) c.in-Some.ensures

pub returns-in-None : goal.returns-in-None
returns-in-None c = ap (script_or c.args.drop.now) c.in-None.ensures
