-- What holds of every table of blocks and of each call that runs. Modicon Ladder Logic Block
-- Library User Guide; the limits, and how paths number their calls, are this project's own.
use Rattle.std.specs.Prelude.{◌≡◌, ◌≢◌, ℕ, ◌+◌, ◌≤◌, ◌<◌, ◌==◌, not, Bool, true, false, List}
use Rattle.std.specs.Prelude.{length, get_or, Some}
use Rattle.mstr_block.specs.declared.call.CallId.{CallId}
use Rattle.mstr_block.specs.declared.call.MstrAsk.{MstrAsk}
use Rattle.mstr_block.specs.declared.call.MstrAsk.TheVariants.{Write, Read, LocalStats, ClearLocal}
use Rattle.mstr_block.specs.declared.call.MstrAsk.TheVariants.{PutGlobal, GetGlobal, RemoteStats}
use Rattle.mstr_block.specs.declared.call.MstrAsk.TheVariants.{ClearRemote}
use Rattle.mstr_block.specs.declared.call.MstrCall.{MstrCall}
use Rattle.mstr_block.specs.declared.operation.Operation.{Operation}
use Rattle.mstr_block.specs.declared.operation.Operation.TheVariants as op
use Rattle.mstr_block.specs.declared.state.Kept.{Kept}
use Rattle.mstr_block.specs.declared.state.Running.{Running}
use Rattle.mstr_block.specs.declared.state.BlockState.{BlockState}
use Rattle.mstr_block.specs.declared.state.BlockState.TheVariants.{Idle, Waiting, Active, Aborted}
use Rattle.mstr_block.specs.declared.state.BlockState.TheVariants.{Ready}
use Rattle.plant_types.specs.Reference.{most_references}
use Rattle.plant_types.specs.Limits.{path_places}
use Rattle.plant_types.specs.Plans.{IsNode, IsRouteFrom}
use Rattle.plant_types.specs.Words.{most_block_words, statistics_words, global_limit}
use Rattle.mstr_block.specs.Operations.{uses_network}
use Rattle.mstr_block.specs.Table.{BlockTable, running_in, own_path, last_call_number}

-- So many holding registers from one on that a node can have and one call can move.
abbrev pub AreRegisters : ℕ → ℕ → Type 0
AreRegisters start count =
    (1 ≤ start) × (1 ≤ count) × (count ≤ most_block_words) × (start + count ≤ most_references + 1)

-- So many words of the twenty of the statistics, from one on.
abbrev pub AreStatistics : ℕ → ℕ → Type 0
AreStatistics start count = (1 ≤ count) × (start + count ≤ statistics_words)

-- So many words of global data, from 1 to as many as go with a token.
abbrev pub AreGlobal : ℕ → Type 0
AreGlobal count = (1 ≤ count) × (count ≤ global_limit)

-- What may be asked by the station of an address, whose routes may lead over bridges or not.
abbrev pub MayBeAsked : Bool → ℕ → MstrAsk → Type 0
MayBeAsked routed own (Write route start words) =
    IsRouteFrom routed own route × AreRegisters start (length words)
MayBeAsked routed own (Read route start count) =
    IsRouteFrom routed own route × AreRegisters start count
MayBeAsked routed own LocalStats = Unit {0}
MayBeAsked routed own ClearLocal = Unit {0}
MayBeAsked routed own (PutGlobal words) = AreGlobal (length words)
MayBeAsked routed own (GetGlobal node count) = IsNode node × AreGlobal count
MayBeAsked routed own (RemoteStats route) = IsRouteFrom routed own route
MayBeAsked routed own (ClearRemote route) = IsRouteFrom routed own route

-- Another node is asked, by one of the four paths.
abbrev pub asks_network : MstrAsk → Bool
asks_network (Write route start words) = true
asks_network (Read route start count) = true
asks_network (RemoteStats route) = true
asks_network (ClearRemote route) = true
asks_network _ = false

-- A call that the station of an address may make: named by that address, on a path by the network
-- exactly where another node is asked.
pub record IsCall (routed : Bool) (own : ℕ) (call : MstrCall) : Type 0 where
  pub node : call.id.node ≡ own
  pub path : call.id.path < path_places
  pub network : asks_network call.ask ≡ not (call.id.path == own_path)
  pub first : 1 ≤ call.id.seq
  pub ask : MayBeAsked routed own call.ask

-- The words that an operation moves, by the first and their number.
abbrev pub CanMove : Operation → ℕ → ℕ → Type 0
CanMove op.WriteData start count = AreRegisters start count
CanMove op.ReadData start count = AreRegisters start count
CanMove op.LocalStatistics start count = AreStatistics start count
CanMove op.ClearLocal start count = Unit {0}
CanMove op.WriteGlobal start count = AreGlobal count
CanMove op.ReadGlobal start count = AreGlobal count
CanMove op.RemoteStatistics start count = AreStatistics start count
CanMove op.ClearRemote start count = Unit {0}

-- What a block keeps for its answer is what its operation moves.
abbrev pub KeepsRange : Kept → Type 0
KeepsRange kept = CanMove kept.operation kept.start kept.length

-- An ask is that of the operation that the block keeps, with the words that it keeps.
abbrev pub AsksFor : Kept → MstrAsk → Type 0
AsksFor kept (Write route start words) =
    (kept.operation ≡ op.WriteData) × (kept.start ≡ start) × (kept.length ≡ length words)
AsksFor kept (Read route start count) =
    (kept.operation ≡ op.ReadData) × (kept.start ≡ start) × (kept.length ≡ count)
AsksFor kept LocalStats = kept.operation ≡ op.LocalStatistics
AsksFor kept ClearLocal = kept.operation ≡ op.ClearLocal
AsksFor kept (PutGlobal words) =
    (kept.operation ≡ op.WriteGlobal) × (kept.length ≡ length words)
AsksFor kept (GetGlobal node count) =
    (kept.operation ≡ op.ReadGlobal) × (kept.length ≡ count)
AsksFor kept (RemoteStats route) = kept.operation ≡ op.RemoteStatistics
AsksFor kept (ClearRemote route) = kept.operation ≡ op.ClearRemote

-- A call is named by the own address, a path, and a number that this path has given.
pub record IsCallName (own : ℕ) (numbers : List ℕ) (id : CallId) : Type 0 where
  pub node : id.node ≡ own
  pub path : id.path < path_places
  pub first : 1 ≤ id.seq
  pub given : id.seq ≤ get_or numbers id.path 0

-- A call that runs: its name, on a path by the network exactly where its operation asks another
-- node; the words that the block keeps; and what it asks for, until it is taken.
pub record IsRunning (routed : Bool) (own : ℕ) (numbers : List ℕ) (running : Running)
    : Type 0 where
  pub named : IsCallName own numbers running.id
  pub network : uses_network running.kept.operation ≡ not (running.id.path == own_path)
  pub kept : KeepsRange running.kept
  pub ask : (ask : MstrAsk) → running.ask ≡ Some ask
      → MayBeAsked routed own ask × AsksFor running.kept ask

-- A state that a block may be in.
abbrev pub IsStateOf : Bool → ℕ → List ℕ → BlockState → Type 0
IsStateOf routed own numbers Idle = Unit {0}
IsStateOf routed own numbers Waiting = Unit {0}
IsStateOf routed own numbers (Active running) = IsRunning routed own numbers running
IsStateOf routed own numbers (Aborted running) = IsRunning routed own numbers running
IsStateOf routed own numbers (Ready kept result) = KeepsRange kept

-- The call that a block at a place runs.
abbrev pub RunsAt : BlockTable → ℕ → Running → Type 0
RunsAt table place running = running_in (get_or table.blocks place Idle) ≡ Some running

-- A table of blocks: five paths, none past its last number; each block in a state that it may be
-- in; no two calls of one name, and at most one call that runs on a path by the network.
pub record IsTable (table : BlockTable) : Type 0 where
  pub paths : length table.numbers ≡ path_places
  pub numbers : (path : ℕ) → get_or table.numbers path 0 ≤ last_call_number
  pub states : (place : ℕ)
      → IsStateOf table.routed table.node table.numbers (get_or table.blocks place Idle)
  pub apart : (one other : ℕ) (first second : Running) → one ≢ other → RunsAt table one first
      → RunsAt table other second → first.id.path ≡ second.id.path
      → (first.id.path ≡ own_path) × (first.id.seq ≢ second.id.seq)
