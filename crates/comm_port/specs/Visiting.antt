-- What the inner parts of a visit do. This project's own.
use Rattle.std.specs.Prelude.{◌≡◌, ℕ, List, Some}
use Rattle.plant_types.specs.declared.net.NetPlan.{NetPlan}
use Rattle.mstr_block.specs.declared.call.CallId.{CallId}
use Rattle.ring_core.specs.Machine.{gave_up}
use Rattle.ring_core.specs.declared.frame.Frame.{Frame}
use Rattle.ring_core.specs.declared.entry.RingEntry.{RingEntry}
use Rattle.tied_lists.specs.Own.{own}
use Rattle.tied_lists.specs.Waits.{waiting}
use Rattle.comm_port.specs.Giving.{part_at}

-- A path of the node waits for this call.
abbrev pub WaitsFor : ℕ → CallId → List RingEntry → Type 0
WaitsFor n id ring = (ask : Frame) × (waiting id.path (own n ring) ≡ Some ask) × (ask.id ≡ id)

-- A node's part is as a GiveUp of the call leaves it.
abbrev pub GivesCall : NetPlan → ℕ → CallId → List RingEntry → List RingEntry → Type 0
GivesCall net n id old new = part_at net n new ≡ gave_up (part_at net n old) id
