use Rattle.std.proofs.Common.{◌∙◌}
use Rattle.std.proofs.lemmas.Result.{err_from_is_err_and}
use Rattle.modbus_exec.proofs.Outcomes.{is_there}
use Rattle.modbus_exec.proofs.ReadOutcomes.{read_chosen}
use Rattle.modbus_exec.proofs.reading.read.Goals as goal

pub returns-in_err-reply : goal.returns-in_err-reply
returns-in_err-reply g c =
    let m = g.R.RefStore.contents c.args.ram.now in
    let p = err_from_is_err_and c.from_residual.result c.from_residual.ensures.1 in
    let there = is_there _ _ c.if-not-are_in_map.ensures.all in
    rw (p.1, p.2) (there.0, read_chosen c.args.kind c.args.address c.args.quantity m ∙ there.1)
