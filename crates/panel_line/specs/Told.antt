-- What a panel line tells of its scan. All of it is this project's own.
use Rattle.std.specs.Prelude.{ℕ, Bool, List, ◌++◌, codes, if◌then◌else◌}
use Rattle.std.specs.Fmt.{decimal}
use Rattle.plant_types.specs.declared.reference.Ref.{Ref}
use Rattle.controller_core.specs.NotedLines.{noted_texts}

-- What is told of a scan that is gone: OFF where it ended without power, or else the references of
-- the panel with the first of these values.
abbrev pub gone_told : Bool → List Ref → List ℕ → List ℕ
gone_told off panel values = if off then codes " OFF" else noted_texts panel values

-- What is told of the scan in which a controller stopped with a code.
abbrev pub stopped_told : ℕ → List ℕ
stopped_told stop = codes " STOP " ++ decimal stop
