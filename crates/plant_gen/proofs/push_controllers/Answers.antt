use Rattle.std.proofs.Common.{◌-◌, ◌+◌, ◌++◌, ◌∙◌, ap, arith, string_bytes}
use Rattle.std.specs.List.{range_with_len}
use Rattle.plant_gen.specs.Text.{controller_lines, controller_count, lines_text}
use Rattle.plant_gen.proofs.TextLemmas.{lines_of_all, one_more}
use Rattle.plant_gen.proofs.push_controllers.Goals as goal

pub loop-node-preserved : goal.loop-node-preserved
loop-node-preserved c =
    let node = c.loop-node.node in
    c.in_ok-push_controller.ensures
    ∙ one_more (λ at. lines_text (controller_lines c.args.number at)) (string_bytes c.args.text.now)
    (string_bytes c.loop-node.text) 1 (node - 1) (node + 1 - 1) node (omega arith)
    (omega arith) c.loop-node.invariant

pub returns-in_ok-push_controller : goal.returns-in_ok-push_controller
returns-in_ok-push_controller c =
    let number = c.args.number in
    let node = c.loop-node.node in
    c.in_ok-push_controller.ensures
    ∙ one_more (λ at. lines_text (controller_lines number at)) (string_bytes c.args.text.now)
    (string_bytes c.loop-node.text) 1 (node - 1) (controller_count number) node (omega arith)
    (omega arith) c.loop-node.invariant
    ∙ ap (λ more. string_bytes c.args.text.now ++ more)
    (lines_of_all (controller_lines number) (range_with_len 1 (controller_count number)))
