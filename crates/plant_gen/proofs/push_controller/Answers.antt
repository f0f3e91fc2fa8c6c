use Rattle.std.proofs.Common.{◌++◌, ◌∷◌, [], ◌∙◌, ap, string_bytes}
use Rattle.std.proofs.lemmas.Result.{IfOk-equal}
use Rattle.plant_gen.specs.Text.{script_line, segment_lines, table_lines, lines_text}
use Rattle.plant_gen.proofs.TextLemmas.{controller_text}
use Rattle.plant_gen.proofs.push_controller.Goals as goal

pub returns : goal.returns
returns c =
    let made = c.args.made in
    let table = table_lines made.node in
    let script = script_line made.number made.node ∷ [] in
    let segment = segment_lines made.number made.node in
    IfOk-equal _ _ _ _ c.push_segment.ensures
    (ap (λ text. text ++ lines_text segment) (c.in_ok-push_script.ensures
    ∙ ap (λ text. text ++ lines_text script) c.in_ok-push_table.ensures)
    ∙ controller_text (string_bytes c.args.text.now) table script segment)
