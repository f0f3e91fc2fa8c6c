-- What a standby holds, and what packets make of it. All of it is this project's own.
use Rattle.std.specs.Prelude.{◌≡◌, ℕ, ◌+◌, ◌<◌, ◌≤◌, Bool, true, false, List, [], ◌∷◌, ◌++◌}
use Rattle.std.specs.Prelude.{map, Option, Some, None}
use Rattle.std.specs.List.{filter_map, flat_map, range_with_len}
use Rattle.controller_core.specs.declared.entry.Entry.{Entry}
use Rattle.controller_core.specs.declared.fixed.Fixed.{Fixed}
use Rattle.controller_core.specs.Controller.{ControllerIs, IsLegal}
use Rattle.hot_standby.specs.declared.packet.Packet.{Packet}
use Rattle.hot_standby.specs.declared.packet.StandbyNo.{StandbyNo}
use Rattle.hot_standby.specs.declared.packet.StandbyNo.TheVariants as refusals
use Rattle.hot_standby.specs.declared.packet.Taken.{Taken}
use Rattle.hot_standby.specs.declared.packet.Taken.TheVariants as answers
use Rattle.hot_standby.specs.Part.{MayComeNext, scans_of}

-- The fixed part of its controller, the entries that it holds, and whether it has failed.
pub record StandbyIs : Type 0 where
  pub fixed : Fixed
  pub history : List Entry
  pub failed : Bool

-- A standby that holds no scan yet.
abbrev pub new_standby : Fixed → StandbyIs
new_standby fixed = record { fixed = fixed; history = []; failed = false }

-- How many scans a standby holds.
abbrev pub scans_held : StandbyIs → ℕ
scans_held v = scans_of v.fixed v.history

-- The packet's scan is the next one.
abbrev pub IsNextScan : StandbyIs → Packet → Type 0
IsNextScan v packet = packet.scan ≡ scans_held v + 1

-- The packet's entries may come next.
abbrev pub MayTake : StandbyIs → Packet → Type 0
MayTake v packet = MayComeNext v.fixed v.history packet.entries

-- A standby with the entries of a packet.
abbrev pub with_packet : StandbyIs → Packet → StandbyIs
with_packet v packet = record v { history = v.history ++ packet.entries }

-- A packet was taken: New where its scan is the next one and its entries may come next, and then the
-- history has them; Repeated where its scan is there; Early where one before it is not. The last
-- two change nothing.
abbrev pub Took : StandbyIs → Packet → Taken → StandbyIs → Type 0
Took old packet answers.New new =
    IsNextScan old packet × MayTake old packet × (new ≡ with_packet old packet)
Took old packet answers.Repeated new = (packet.scan ≤ scans_held old) × (new ≡ old)
Took old packet answers.Early new = (scans_held old + 1 < packet.scan) × (new ≡ old)

-- A packet was refused: its scan is the next one, NotLegal where its entries may not come next. The
-- standby has failed.
pub record Refused (old : StandbyIs) (packet : Packet) (why : StandbyNo) (new : StandbyIs)
    : Type 0 where
  pub next : IsNextScan old packet
  pub may_not : why ≡ refusals.NotLegal → ¬ MayTake old packet
  pub failed : new.failed ≡ true
  pub fixed : new.fixed ≡ old.fixed

-- A packet with what it was answered.
pub record AnsweredPacket : Type 0 where
  pub packet : Packet
  pub taken : Taken

-- Packets were taken one after another.
unfoldable pub TookAll : StandbyIs → List AnsweredPacket → StandbyIs → Type 0
TookAll old [] new = new ≡ old
TookAll old (one ∷ rest) new =
    (next : StandbyIs) × Took old one.packet one.taken next × TookAll next rest new

-- The packet, where it was taken as New.
abbrev pub packet_by : Packet → Taken → Option Packet
packet_by packet answers.New = Some packet
packet_by packet _ = None

-- The packets that were taken as New, in their order.
abbrev pub new_packets : List AnsweredPacket → List Packet
new_packets answered = filter_map (λ one. packet_by one.packet one.taken) answered

-- A standby is made of the packets that it took as New: its history is their entries, one packet
-- after the other, their scans are 1, 2 and so on up to the scans that it holds, and the history
-- is legal.
pub record IsMadeOfNewPackets (v : StandbyIs) (answered : List AnsweredPacket) : Type 0 where
  pub history : v.history ≡ flat_map (λ packet. packet.entries) (new_packets answered)
  pub scans : map (λ packet. packet.scan) (new_packets answered)
      ≡ range_with_len 1 (scans_held v)
  pub legal : IsLegal v.fixed v.history

-- A new standby, whatever packets it takes, is made of those that it took as New.
abbrev pub PacketsMakeTheHistory : Type 0
PacketsMakeTheHistory = (fixed : Fixed) (answered : List AnsweredPacket) (v : StandbyIs)
    → TookAll (new_standby fixed) answered v → IsMadeOfNewPackets v answered

-- The bench that goes on from a standby's history.
abbrev pub bench_of : StandbyIs → ControllerIs
bench_of v = record { fixed = v.fixed; history = v.history; reserved = false }
