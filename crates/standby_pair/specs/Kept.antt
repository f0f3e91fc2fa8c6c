-- What the code keeps of frames, of scans and of what was sent. All of it is this project's own.
use Rattle.std.specs.Prelude.{◌≡◌, ℕ, ◌+◌, ◌<◌, ◌≤◌, ◌^◌, ◌-◌, ◌==◌, ◌&&◌, Bool, true, false, List, ◌++◌, drop}
use Rattle.std.specs.Prelude.{if◌then◌else◌, get_or, length, map, take, filter, Option, Some, None}
use Rattle.std.specs.List.{AllByRecursion, flat_map, range_with_len}
use Rattle.plant_types.specs.Plans.{IsFromTo}
use Rattle.plant_types.specs.declared.net.Fate.{Fate}
use Rattle.ascii_port.specs.Frames.{AsciiFrame}
use Rattle.ring_core.specs.Machine.{fate_reaches}
use Rattle.controller_core.specs.declared.entry.Entry.{Entry}
use Rattle.controller_core.specs.declared.fixed.Fixed.{Fixed}
use Rattle.controller_core.specs.Controller.{ControllerIs, has_ended, state_of}
use Rattle.panel_session.specs.Serving.{request_count}
use Rattle.panel_session.specs.Session.{BenchScan, bench_scan}
use Rattle.hot_standby.specs.declared.packet.Packet.{Packet}
use Rattle.hot_standby.specs.Part.{MayComeNext}
use Rattle.hot_standby.specs.Standby.{IsNextScan, MayTake, StandbyIs, scans_held, with_packet}
use Rattle.panel_session.specs.declared.asked.PortFrame.{PortFrame}
use Rattle.standby_pair.specs.declared.scanning.ScanMade.{ScanMade}
use Rattle.standby_pair.specs.declared.sending.Link.{Link}
use Rattle.standby_pair.specs.Course.{ScanPart, numbered_next, part_of}
use Rattle.standby_pair.specs.Pair.{Line, Piece, Replies, Switch, times_written}
use Rattle.standby_pair.specs.Sending.{Sending, is_told, last_number, sending, sent_behind}
use Rattle.standby_pair.specs.Sending.{told_of}

-- The frames of these that are served in a scan: the next one, or all in the last.
abbrev pub frames_in : Bool → List PortFrame → List PortFrame
frames_in last frames = if last then frames else take 1 frames

-- What belongs to a scan that was made.
abbrev pub scan_part : ScanMade → ScanPart
scan_part made = record {
  line = made.line.items;
  entries = made.entries;
  replies = made.replies.items;
}

abbrev pub scan_parts : List ScanMade → List ScanPart
scan_parts made = map scan_part made

-- The entries of some scans.
abbrev pub parts_history : List ScanPart → List Entry
parts_history parts = flat_map (λ part. part.entries) parts

-- The next scan of a bench, behind which so many are left, with these frames.
abbrev pub scan_next : ControllerIs → ℕ → List AsciiFrame → BenchScan
scan_next v left frames =
    bench_scan v.fixed (state_of v) left (numbered_next v.history frames)

-- Where a scan is made, requests enough can still be numbered.
abbrev pub HasNumbersFor : ControllerIs → List PortFrame → Type 0
HasNumbersFor v frames =
    has_ended v ≡ false → request_count v.history + length frames < 2 ^ 32

-- A scan was made, and its frames were served.
pub record IsScanMade (old : ControllerIs) (left : ℕ) (frames : List AsciiFrame) (made : ScanMade)
    (new : ControllerIs) : Type 0 where
  pub goes : has_ended old ≡ false
  pub part : scan_part made ≡ part_of (scan_next old left frames)
  pub fixed : new.fixed ≡ old.fixed
  pub history : new.history ≡ old.history ++ made.entries

-- A scan was made, or nothing where none was left.
abbrev pub MadeScan : ControllerIs → ℕ → List AsciiFrame → Option ScanMade → ControllerIs → Type 0
MadeScan old left frames None new = (has_ended old ≡ true) × (new ≡ old)
MadeScan old left frames (Some made) new = IsScanMade old left frames made new

-- Each of some scans may come next behind those before it.
abbrev pub FollowEachOther : Fixed → List ScanPart → Type 0
FollowEachOther fixed parts =
    (place : ℕ) (none : ScanPart) → place < length parts
    → MayComeNext fixed (parts_history (take place parts)) (get_or parts place none).entries

-- The first so many transmissions, and those of them that arrived.
abbrev pub first_sendings : List Fate → ℕ → List Sending
first_sendings letters many = map (sending letters) (range_with_len 0 many)

abbrev pub first_arrived : List Fate → ℕ → List Sending
first_arrived letters many = filter (λ one. fate_reaches one.fate) (first_sendings letters many)

-- The scans that a standby holds behind them, and how many it knows to be acknowledged.
abbrev pub held_of : List Fate → ℕ → ℕ
held_of letters many = last_number (map (λ one. one.scan) (first_arrived letters many))

abbrev pub known_of : List Fate → ℕ → ℕ
known_of letters many = last_number (map (λ one. one.acked) (first_arrived letters many))

-- A standby that holds the first of some scans.
abbrev pub standby_with : Fixed → List ScanPart → ℕ → StandbyIs
standby_with fixed parts held =
    record { fixed = fixed; history = parts_history (take held parts); failed = false }

-- Nothing was sent to a standby.
abbrev pub link_to : StandbyIs → Link
link_to standby = record { standby = standby; sent = 0; told = 0; known = 0 }

-- A standby may take a packet: it is of a scan that is there, or of the next one and may come next.
pub record CanTake (v : StandbyIs) (packet : Packet) : Type 0 where
  pub soon : packet.scan ≤ scans_held v + 1
  pub may : IsNextScan v packet → MayTake v packet
  pub works : v.failed ≡ false

-- The standby behind a packet.
abbrev pub taken_by : StandbyIs → Packet → StandbyIs
taken_by v packet = if packet.scan == scans_held v + 1 then with_packet v packet else v

abbrev pub with_delivered : Link → Packet → Link
with_delivered link packet =
    record link { standby = taken_by link.standby packet; known = packet.acked }

-- The packet of a scan, where it is the first that is not acknowledged.
abbrev pub packet_of : Link → ScanMade → Packet
packet_of link scan =
    record { scan = link.told + 1; acked = link.told; entries = scan.entries }

-- What a transmission of that packet leaves.
abbrev pub after_sending : Link → Fate → ScanMade → Link
after_sending link fate scan = record {
  standby = if fate_reaches fate then taken_by link.standby (packet_of link scan)
      else link.standby;
  sent = link.sent + 1;
  told = if is_told fate then link.told + 1 else link.told;
  known = if fate_reaches fate then link.told else link.known;
}

-- So many transmissions were made, and this is what the primary and the standby know of them.
pub record IsLinkOf (fixed : Fixed) (letters : List Fate) (parts : List ScanPart) (link : Link)
    : Type 0 where
  pub told : link.told ≡ told_of letters link.sent
  pub known : link.known ≡ known_of letters link.sent
  pub standby : link.standby ≡ standby_with fixed parts (held_of letters link.sent)

-- All that goes out behind so many scans was sent.
pub record HasSent (fixed : Fixed) (letters : List Fate) (parts : List ScanPart) (scans : ℕ)
    (link : Link) : Type 0 where
  pub is : IsLinkOf fixed letters parts link
  pub behind : sent_behind letters link.sent ≡ scans + 1
  pub before : (place : ℕ) → place < link.sent → sent_behind letters place ≤ scans
  pub most : link.told ≤ scans
  pub few : link.sent ≤ link.told + scans

-- Of the first transmissions those behind a scan that acknowledge one: their scans.
abbrev pub scans_told : List Fate → ℕ → ℕ → List ℕ
scans_told letters scan many = map (λ one. one.scan)
    (filter (λ one. (one.behind == scan) && is_told one.fate) (first_sendings letters many))

-- Behind a scan the scans were acknowledged that are not so in the first of the two and are so in
-- the second.
pub record IsRowOf (letters : List Fate) (scan : ℕ) (old new : Link) : Type 0 where
  pub more : old.told ≤ new.told
  pub scans : scans_told letters scan new.sent
      ≡ range_with_len (old.told + 1) (new.told - old.told)

-- The replies of the scans from one place to another.
abbrev pub replies_between : List ScanPart → ℕ → ℕ → List ℕ
replies_between parts from to = flat_map (λ part. part.replies) (take (to - from) (drop from parts))

-- The lines and replies of some pieces are those of the first so many scans.
abbrev pub IsWithin : ℕ → Piece → Type 0
IsWithin scans (Line scan) = IsFromTo 1 scans scan
IsWithin scans (Replies scan) = IsFromTo 1 scans scan
IsWithin scans (Switch held) = Unit {0}

-- In some pieces the replies of each scan that is acknowledged stand once, and no others.
pub record WritesTold (scans : ℕ) (pieces : List Piece) (told : ℕ) : Type 0 where
  pub within : AllByRecursion (IsWithin scans) pieces
  pub once : (scan : ℕ) → 1 ≤ scan → scan ≤ told → times_written scan pieces ≡ 1
  pub none : (scan : ℕ) → told < scan → times_written scan pieces ≡ 0
