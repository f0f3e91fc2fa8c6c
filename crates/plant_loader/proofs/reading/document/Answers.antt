use Rattle.std.proofs.Common.{ap}
use Rattle.cell_text.specs.Steps.{or_fault}
use Rattle.plant_tables.specs.Refusals.{bad_toml}
use Rattle.plant_loader.proofs.Documents.{document-no_text, document-text}
use Rattle.plant_loader.proofs.reading.document.Goals as goal

pub returns-in_default : goal.returns-in_default
returns-in_default c = let e = ap (or_fault bad_toml)
    (document-no_text c.args.bytes.now c.in_default.ensures.cases.0) in rw c.bad_toml.ensures e

pub returns-in-Ok-table_from_str : goal.returns-in-Ok-table_from_str
returns-in-Ok-table_from_str c =
    ap (or_fault bad_toml) (document-text c.args.bytes.now c.in-Ok.text.now _
    c.in-Ok.ensures.cases.0 c.in-Ok.ensures.cases.1 c.in-Ok-table_from_str.ensures.ok)
