use Rattle.std.proofs.Common.{◌++◌, ◌∙◌, ap, string_bytes}
use Rattle.std.specs.Fmt.{decimal}
use Rattle.plant_gen.specs.declared.TheConstants.{TABLE}
use Rattle.plant_gen.proofs.TextLemmas.{table_text}
use Rattle.plant_gen.proofs.push_table.Goals as goal

pub returns : goal.returns
returns c =
    c.in_ok-push_str.ensures.bytes ∙ ap (λ text. text ++ TABLE.now) c.in_ok-write.ensures.bytes
    ∙ table_text (string_bytes c.args.text.now) (decimal c.args.node) TABLE.now
