-- The lines of networks that were solved. All of it is this project's own.
use Rattle.std.specs.Prelude.{ℕ, ◌==◌, codes, List, ◌++◌, map, Option, Some, None}
use Rattle.std.specs.Fmt.{decimal}
use Rattle.std.specs.List.{filter, flat_map}
use Rattle.journal_lines.specs.Fields.{hex_byte}
use Rattle.ladder_solver.specs.declared.note.NetworkFlow.{NetworkFlow}
use Rattle.flow_text.specs.Solved.{SolvedNetwork, solved_in}

-- The rows that were live at a border, as two hexadecimal digits; two dashes where the network ended
-- before.
abbrev pub border_text : Option ℕ → List ℕ
border_text None = codes " --"
border_text (Some mask) = codes " " ++ hex_byte mask

-- The line of a network: its scan, the node, the row of the order of solve, the segment, the network
-- and its eleven borders.
abbrev pub network_line : ℕ → SolvedNetwork → List ℕ
network_line node solved =
    codes "F " ++ (decimal solved.scan ++ (codes " " ++ (decimal node
    ++ (codes " " ++ (decimal solved.row ++ (codes " " ++ (decimal solved.flow.segment
    ++ (codes " " ++ (decimal solved.flow.network
    ++ (flat_map border_text solved.flow.borders ++ codes "\n"))))))))))

-- The lines of networks that a node solved in a scan for one row of its order of solve.
abbrev pub row_lines : ℕ → ℕ → ℕ → List NetworkFlow → List ℕ
row_lines node scan row flows = flat_map (network_line node) (map (solved_in scan row) flows)

-- The lines of a node in a scan: one of each network that was solved in it, in their order.
abbrev pub scan_lines : ℕ → List SolvedNetwork → ℕ → List ℕ
scan_lines node networks scan =
    flat_map (network_line node) (filter (λ solved. solved.scan == scan) networks)
