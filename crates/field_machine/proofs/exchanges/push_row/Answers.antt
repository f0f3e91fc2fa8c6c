use Rattle.std.proofs.Common.{◌≡◌, Option, None, sym, ap, ◌++◌, ◌∙◌, [], append-nil}
use Rattle.std.specs.List.{cons_option}
use Rattle.plant_types.specs.declared.drops.ScriptRow.{ScriptRow}
use Rattle.field_runs.specs.Played.{row_in}
use Rattle.field_machine.proofs.exchanges.push_row.Goals as goal

pub returns-in-None : goal.returns-in-None
returns-in-None c =
    let none : None ≡ row_in c.args.script.now c.args.number = c.in-None.ensures in
    sym (append-nil c.args.rows.now)
    ∙ ap (λ (o : Option ScriptRow). c.args.rows.now ++ cons_option o []) none
