use Rattle.std.proofs.Common.{sym}
use Rattle.std.specs.Cmp.Derive.{both_true}
use Rattle.std.proofs.lemmas.Result.{err_from_is_err_and}
use Rattle.modbus_exec.proofs.Outcomes.{is_there}
use Rattle.modbus_exec.proofs.writing.read_write.Goals as goal

pub returns-in_err-found : goal.returns-in_err-found
returns-in_err-found g c =
    let p = err_from_is_err_and c.from_residual.result c.from_residual.ensures.1 in
    rw (p.1, p.2) (is_there _ _ (sym (both_true (sym c.if-not-are_in_map.ensures.all)
    (sym (rw c.words-words.ensures at c.if-not-are_in_map-2.ensures.all)))))
