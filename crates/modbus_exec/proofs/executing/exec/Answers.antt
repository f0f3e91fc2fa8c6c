use Rattle.std.proofs.lemmas.Result.{IfOk-weaker}
use Rattle.modbus_exec.proofs.AnswerLemmas.{executed_fits, executed_others, executed_keeps}
use Rattle.modbus_exec.proofs.executing.exec.Goals as goal

pub returns-clause-others : goal.returns-clause-others
returns-clause-others g c =
    executed_others c.args.request.now (g.R.RefStore.contents c.args.ram.now)
    (g.R.RefStore.contents c.execute.new.ram) c.execute.result c.execute.ensures

pub returns-clause-keeps : goal.returns-clause-keeps
returns-clause-keeps g c =
    executed_keeps c.args.request.now (g.R.RefStore.contents c.args.ram.now)
    (g.R.RefStore.contents c.execute.new.ram) c.execute.result c.execute.ensures

pub returns-clause-in_range : goal.returns-clause-in_range
returns-clause-in_range g c =
    IfOk-weaker c.execute.result _ _ (λ reply h. h.range)
    (executed_fits c.args.request.now _ _ c.execute.result c.requires c.execute.ensures)

pub returns-clause-reply : goal.returns-clause-reply
returns-clause-reply g c =
    IfOk-weaker c.execute.result _ _ (λ reply h. h.to)
    (executed_fits c.args.request.now _ _ c.execute.result c.requires c.execute.ensures)
