-- The operations of an MSTR block. Modicon Ladder Logic Block Library User Guide; the largest
-- lengths are this project's own.
use Rattle.std.specs.Prelude.{ℕ, Bool, true, false, ◌==◌, ◌||◌, List, [], ◌∷◌, Option, Some, None}
use Rattle.std.specs.List.{find}
use Rattle.plant_types.specs.Words.{most_block_words, statistics_words, global_limit}
use Rattle.mstr_block.specs.declared.operation.Operation.{Operation}
use Rattle.mstr_block.specs.declared.operation.Operation.TheVariants.{WriteData, ReadData}
use Rattle.mstr_block.specs.declared.operation.Operation.TheVariants.{LocalStatistics, ClearLocal}
use Rattle.mstr_block.specs.declared.operation.Operation.TheVariants.{WriteGlobal, ReadGlobal}
use Rattle.mstr_block.specs.declared.operation.Operation.TheVariants.{RemoteStatistics, ClearRemote}

-- The number of an operation.
abbrev pub code_of : Operation → ℕ
code_of WriteData = 1
code_of ReadData = 2
code_of LocalStatistics = 3
code_of ClearLocal = 4
code_of WriteGlobal = 5
code_of ReadGlobal = 6
code_of RemoteStatistics = 7
code_of ClearRemote = 8

abbrev pub operations : List Operation
operations =
    WriteData ∷ ReadData ∷ LocalStatistics ∷ ClearLocal
    ∷ WriteGlobal ∷ ReadGlobal ∷ RemoteStatistics ∷ ClearRemote ∷ []

-- The operation that has this number, or none.
abbrev pub operation_of : ℕ → Option Operation
operation_of code = find (λ operation. code == code_of operation) operations

-- The operations that ask another node, by one of the four paths; the others are local.
abbrev pub uses_network : Operation → Bool
uses_network WriteData = true
uses_network ReadData = true
uses_network RemoteStatistics = true
uses_network ClearRemote = true
uses_network _ = false

-- The operations on holding registers of another node.
abbrev pub moves_registers : Operation → Bool
moves_registers WriteData = true
moves_registers ReadData = true
moves_registers _ = false

-- The operations that read statistics.
abbrev pub reads_statistics : Operation → Bool
reads_statistics LocalStatistics = true
reads_statistics RemoteStatistics = true
reads_statistics _ = false

-- The operation that reads what a node passed with its token.
abbrev pub reads_global : Operation → Bool
reads_global ReadGlobal = true
reads_global _ = false

-- The operations that name a node.
abbrev pub names_node : Operation → Bool
names_node operation = uses_network operation || reads_global operation

-- The greatest length of an operation, where a read and a write move the words of a block; none
-- where it moves no words.
abbrev pub most_words : Operation → Option ℕ
most_words WriteData = Some most_block_words
most_words ReadData = Some most_block_words
most_words LocalStatistics = Some statistics_words
most_words ClearLocal = None
most_words WriteGlobal = Some global_limit
most_words ReadGlobal = Some global_limit
most_words RemoteStatistics = Some statistics_words
most_words ClearRemote = None
