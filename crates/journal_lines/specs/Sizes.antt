-- What numbers and lists an entry can have: those of its types. This project's own.
use Rattle.std.specs.Prelude.{ℕ, ◌^◌, ◌<◌, List}
use Rattle.std.specs.List.{All}
use Rattle.plant_types.specs.Routes.{FitsRoute}
use Rattle.plant_types.specs.Words.{IsPduLength, FitsBlock}
use Rattle.mstr_block.specs.declared.call.CallId.{CallId}
use Rattle.mstr_block.specs.declared.call.MstrResult.{MstrResult}
use Rattle.mstr_block.specs.declared.call.MstrResult.TheVariants.{Good, Bad}
use Rattle.ring_core.specs.declared.frame.Frame.{Frame}
use Rattle.ring_core.specs.declared.entry.LocalOp.{LocalOp}
use Rattle.ring_core.specs.declared.entry.LocalOp.TheVariants.{PutGlobal, GetGlobal}
use Rattle.ring_core.specs.declared.entry.LeaveCause.{LeaveCause}
use Rattle.ring_core.specs.declared.entry.LeaveCause.TheVariants.{Down}
use Rattle.ring_core.specs.declared.entry.RingEntry.{RingEntry}
use Rattle.ring_core.specs.declared.entry.RingEntry.TheVariants as ring
use Rattle.controller_core.specs.declared.call.Call.{Call}
use Rattle.controller_core.specs.declared.call.CallKind.{CallKind}
use Rattle.controller_core.specs.declared.call.CallKind.TheVariants.{Net, Local}
use Rattle.controller_core.specs.declared.entry.Entry.{Entry}
use Rattle.controller_core.specs.declared.entry.Entry.TheVariants as entries
use Rattle.host_port.specs.declared.entry.HostResult.{HostResult}
use Rattle.host_port.specs.declared.entry.HostResult.TheVariants as host_results
use Rattle.host_port.specs.declared.entry.HostEntry.{HostEntry}
use Rattle.host_port.specs.declared.entry.HostEntry.TheVariants as host_entries
use Rattle.bridge_relay.specs.declared.entry.RelayResult.{RelayResult}
use Rattle.bridge_relay.specs.declared.entry.RelayResult.TheVariants as relay_results
use Rattle.bridge_relay.specs.declared.entry.BridgeEntry.{BridgeEntry}
use Rattle.bridge_relay.specs.declared.entry.BridgeEntry.TheVariants as bridge_entries

-- A node, a path or a byte; a row, a length or a word; the number of a call.
abbrev pub IsSmall : ℕ → Type 0
IsSmall number = number < 2 ^ 8

abbrev pub IsWord : ℕ → Type 0
IsWord number = number < 2 ^ 16

abbrev pub IsLong : ℕ → Type 0
IsLong number = number < 2 ^ 32

-- A PDU has 1 to 253 bytes, and a block at most 100 words.
pub record IsPdu (bytes : List ℕ) : Type 0 where
  pub count : IsPduLength bytes
  pub each : All IsSmall bytes

abbrev pub AreWords : List ℕ → Type 0
AreWords words = All IsWord words

pub record AreBlockWords (words : List ℕ) : Type 0 where
  pub count : FitsBlock words
  pub each : AreWords words

-- A route has at most five addresses.
pub record IsRoute (route : List ℕ) : Type 0 where
  pub count : FitsRoute route
  pub each : All IsSmall route

-- The name of a call.
pub record IsId (id : CallId) : Type 0 where
  pub node : IsSmall id.node
  pub path : IsSmall id.path
  pub seq : IsLong id.seq

-- What is asked of a port, and what came of a call.
abbrev pub FitsOp : LocalOp → Type 0
FitsOp (PutGlobal words) = AreWords words
FitsOp (GetGlobal node count) = IsSmall node × IsWord count
FitsOp _ = Unit {0}

abbrev pub FitsResult : MstrResult → Type 0
FitsResult (Good words) = AreBlockWords words
FitsResult (Bad word) = IsWord word

-- A call that a controller hands on.
abbrev pub FitsKind : CallKind → Type 0
FitsKind (Net route pdu) = IsRoute route × IsPdu pdu
FitsKind (Local op) = FitsOp op

abbrev pub FitsCall : Call → Type 0
FitsCall call = IsId call.id × FitsKind call.kind

-- An entry of a controller, and of a host.
abbrev pub FitsEntry : Entry → Type 0
FitsEntry (entries.Input row) = IsWord row
FitsEntry (entries.Solve row) = IsWord row
FitsEntry (entries.Output row words) = IsWord row × AreBlockWords words
FitsEntry (entries.Collect calls) = All FitsCall calls
FitsEntry (entries.Peer id request reply) = IsId id × IsPdu request × IsPdu reply
FitsEntry (entries.Off id request) = IsId id × IsPdu request
FitsEntry (entries.Finish id result) = IsId id × FitsResult result
FitsEntry _ = Unit {0}

abbrev pub FitsAnswer : HostResult → Type 0
FitsAnswer (host_results.Reply pdu) = IsPdu pdu
FitsAnswer (host_results.Bad word) = IsWord word

abbrev pub FitsHostEntry : HostEntry → Type 0
FitsHostEntry (host_entries.Ask id route pdu) = IsId id × IsRoute route × IsPdu pdu
FitsHostEntry (host_entries.Answer id result) = IsId id × FitsAnswer result
FitsHostEntry (host_entries.Served id request reply) = IsId id × IsPdu request × IsPdu reply

-- An entry of a bridge.
abbrev pub FitsRelay : RelayResult → Type 0
FitsRelay (relay_results.Reply pdu) = IsPdu pdu
FitsRelay (relay_results.Bad word) = IsWord word

abbrev pub FitsBridgeEntry : BridgeEntry → Type 0
FitsBridgeEntry (bridge_entries.Accept side id route request) =
    IsSmall side × IsId id × IsRoute route × IsPdu request
FitsBridgeEntry (bridge_entries.Forward side old id route request) =
    IsSmall side × IsId old × IsId id × IsRoute route × IsPdu request
FitsBridgeEntry (bridge_entries.Finish side id result) = IsSmall side × IsId id × FitsRelay result
FitsBridgeEntry (bridge_entries.Back side id reply) = IsSmall side × IsId id × IsPdu reply
FitsBridgeEntry (bridge_entries.Gone side) = IsSmall side

abbrev pub FitsFrame : Frame → Type 0
FitsFrame frame = IsSmall frame.to × IsRoute frame.rest × IsId frame.id × IsPdu frame.pdu

-- Why a node leaves: its power failed so many times.
abbrev pub FitsCause : LeaveCause → Type 0
FitsCause (Down number) = IsLong number
FitsCause _ = Unit {0}

-- An entry of a ring.
abbrev pub FitsRingEntry : RingEntry → Type 0
FitsRingEntry (ring.Post node frame) = IsSmall node × FitsFrame frame
FitsRingEntry (ring.Send node heard) = IsSmall node
FitsRingEntry (ring.Take node frame) = IsSmall node × FitsFrame frame
FitsRingEntry (ring.Local node id op result) =
    IsSmall node × IsId id × FitsOp op × FitsResult result
FitsRingEntry (ring.GiveUp id word) = IsId id × IsWord word
FitsRingEntry (ring.Pass node done words) = IsSmall node × AreWords words
FitsRingEntry (ring.Leave node cause) = IsSmall node × FitsCause cause
FitsRingEntry (ring.Join node) = IsSmall node
