use Rattle.std.proofs.Common.{◌≡◌, ◌∙◌, sym, ap}
use Rattle.toml.specs.View.{table_view}
use Rattle.plant_tables.specs.declared.tables.Version.TheVariants.{One}
use Rattle.plant_tables.specs.declared.tables.TableKind.{TableKind}
use Rattle.plant_tables.specs.declared.tables.TableKind.TheVariants as kinds
use Rattle.plant_tables.specs.Tables.{table_passes}
use Rattle.plant_tables.proofs.tables.table_passes.Goals as goal

pub returns-in-Controller-One : goal.returns-in-Controller-One
returns-in-Controller-One c =
    let passes = λ (kind : TableKind).
    table_passes c.args.place kind (table_view c.args.table.now) in
    let one : c.in-Controller-One.field-0 ≡ One = cc in
    c.keys_pass-in-Controller-One.ensures
    ∙ ap (λ version. passes (kinds.Controller version)) (sym one)
    ∙ ap passes (sym c.in-Controller-One.is)
