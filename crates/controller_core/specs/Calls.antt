-- The calls that MSTR blocks start, as a controller hands them on. Modicon Ladder Logic Block
-- Library User Guide; the requests that they are spelled as are this project's own choice.
use Rattle.std.specs.Prelude.{◌-◌, ℕ, true, false, List, map}
use Rattle.mstr_block.specs.declared.call.MstrAsk.{MstrAsk}
use Rattle.mstr_block.specs.declared.call.MstrAsk.TheVariants as asks
use Rattle.mstr_block.specs.declared.call.MstrCall.{MstrCall}
use Rattle.mstr_block.specs.Table.{BlockTable, started_calls}
use Rattle.modbus_pdu.specs.declared.request.Request.{Request}
use Rattle.modbus_pdu.specs.declared.request.Request.TheVariants as requests
use Rattle.modbus_pdu.specs.Spelling.{spelling_of}
use Rattle.ring_core.specs.declared.entry.LocalOp.TheVariants as ops
use Rattle.controller_core.specs.declared.call.Call.{Call}
use Rattle.controller_core.specs.declared.call.CallKind.{CallKind}
use Rattle.controller_core.specs.declared.call.CallKind.TheVariants as kinds

-- A request by a route to another node.
abbrev pub net_request : List ℕ → Request → CallKind
net_request route request = kinds.Net route (spelling_of request)

-- What a block asks for: registers are written and read from the address after which they stand;
-- statistics of another node are a request too; all else the own station does itself.
abbrev pub kind_of : MstrAsk → CallKind
kind_of (asks.Write route start words) =
    net_request route (requests.WriteRegisters (start - 1) words)
kind_of (asks.Read route start count) = net_request route (requests.ReadRegisters (start - 1) count)
kind_of asks.LocalStats = kinds.Local ops.GetStats
kind_of asks.ClearLocal = kinds.Local ops.ClearStats
kind_of (asks.PutGlobal words) = kinds.Local (ops.PutGlobal words)
kind_of (asks.GetGlobal node count) = kinds.Local (ops.GetGlobal node count)
kind_of (asks.RemoteStats route) = net_request route (requests.Stats false)
kind_of (asks.ClearRemote route) = net_request route (requests.Stats true)

-- A call under the name that its block gave it.
abbrev pub call_of : MstrCall → Call
call_of call = record { id = call.id; kind = kind_of call.ask }

-- The calls of a table that were started and not yet collected, in block order.
abbrev pub calls_of : BlockTable → List Call
calls_of table = map call_of (started_calls table)
