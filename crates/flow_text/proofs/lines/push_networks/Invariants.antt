use Rattle.std.proofs.Common.{◌≡◌, ◌++◌, drop, map, string_bytes}
use Rattle.std.specs.List.{flat_map}
use Rattle.flow_text.specs.Lines.{network_line}
use Rattle.flow_text.specs.Solved.{solved_in}
use Rattle.flow_text.proofs.lines.push_networks.Given as goal

abbrev pub invariant-loop-flow : goal.invariant-loop-flow
invariant-loop-flow l =
    string_bytes l.text
    ++ flat_map (network_line l.node) (map (solved_in l.scan l.row) (drop l.flow-index l.flows))
    ≡ string_bytes l.fn.text
    ++ flat_map (network_line l.node) (map (solved_in l.scan l.row) l.flows)
