-- Where an input is cut into a plant file and what stands after it. This project's own.
use Rattle.std.specs.Prelude.{ℕ, codes, List}
use Rattle.input_cuts.specs.Cut.{IsCutAfter, IsCutBefore}

-- The line with which a journal begins, and those after which the bytes of a port, wires, and a new
-- plant stand.
abbrev pub journal_mark : List ℕ
journal_mark = codes "%JOURNAL"

abbrev pub port_mark : List ℕ
port_mark = codes "%SESSION"

abbrev pub wires_mark : List ℕ
wires_mark = codes "%COP"

abbrev pub new_mark : List ℕ
new_mark = codes "%NEW"

-- An input is a plant file, and after it a journal, which begins with the first line that is
-- exactly `%JOURNAL`; it is empty where there is no such line.
abbrev pub IsCut : List ℕ → List ℕ → List ℕ → Type 0
IsCut input file journal = IsCutBefore journal_mark input file journal

-- An input is a plant file, and the bytes of a port, which stand after the first line that is
-- exactly `%SESSION` and its line feed.
abbrev pub IsCutAtPort : List ℕ → List ℕ → List ℕ → Type 0
IsCutAtPort input file port = IsCutAfter port_mark input file port

-- An input is a plant file, and the lines of wires, which stand after the first line that is exactly
-- `%COP` and its line feed.
abbrev pub IsCutAtWires : List ℕ → List ℕ → List ℕ → Type 0
IsCutAtWires input file wires = IsCutAfter wires_mark input file wires

-- An input is the plant file of an old plant, and that of a new one, which stands after the first
-- line that is exactly `%NEW` and its line feed.
abbrev pub IsCutAtNew : List ℕ → List ℕ → List ℕ → Type 0
IsCutAtNew input old new = IsCutAfter new_mark input old new
