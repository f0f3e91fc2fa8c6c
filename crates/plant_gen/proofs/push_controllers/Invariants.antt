use Rattle.std.proofs.Common.{◌≡◌, ◌-◌, ◌++◌, string_bytes}
use Rattle.std.specs.List.{flat_map, range_with_len}
use Rattle.plant_gen.specs.Text.{controller_lines, lines_text}
use Rattle.plant_gen.proofs.push_controllers.Given as goal

abbrev pub invariant-loop-node : goal.invariant-loop-node
invariant-loop-node l =
    string_bytes l.text ≡ string_bytes l.fn.text
    ++ flat_map (λ node. lines_text (controller_lines l.number node))
    (range_with_len 1 (l.node - 1))
