-- What the edge bits that are kept stand for.
use Rattle.std.specs.Prelude.{Bool, List, length, map}
use Rattle.ladder_solver.specs.declared.edges.Edges.TheInside.{Inside}
use Rattle.ladder_solver.specs.Edges.{EdgeBits, edges_of}

-- The edge bits that are kept, by segment, network, column and row. This project's own.
abbrev pub bits_in : Inside → List (List (List (List Bool)))
bits_in e = map (λ networks. networks.items) e.segments.items

-- How many networks have bits, and the places whose bit is on. This project's own.
abbrev pub edge_bits_of : Inside → EdgeBits
edge_bits_of e = record { counts = map length (bits_in e); on = edges_of (bits_in e) }
