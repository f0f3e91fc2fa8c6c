-- What a bench makes from where it stands. All of it is this project's own.
use Rattle.std.specs.Prelude.{◌≡◌, ℕ, ◌+◌, Bool, true, false, if◌then◌else◌, List, [], ◌++◌, map}
use Rattle.ascii_port.specs.Frames.{AsciiFrame}
use Rattle.controller_core.specs.declared.entry.Entry.{Entry}
use Rattle.controller_core.specs.declared.entry.Entry.TheVariants as entries
use Rattle.controller_core.specs.Controller.{ControllerIs, left_of, state_of}
use Rattle.controller_core.specs.Scans.{scans_from}
use Rattle.panel_session.specs.Serving.{NumberedFrame, numbered_on, request_count}
use Rattle.panel_session.specs.Session.{BenchScan, bench_scans, ends_bench}

-- So many whole scans are left of what is due, from the one behind those that are gone.
abbrev pub LeavesScans : ControllerIs → ℕ → Type 0
LeavesScans v left = (state_of v).stop ≡ 0
    → left_of v.fixed v.history ≡ scans_from v.fixed ((state_of v).gone + 1) left

-- Frames that are served next, with their numbers.
abbrev pub numbered_next : List Entry → List AsciiFrame → List NumberedFrame
numbered_next history frames = numbered_on (request_count history + 1) frames

-- The scans that a bench makes from here on, of which so many are left, with these frames.
abbrev pub scans_to_come : ControllerIs → ℕ → List AsciiFrame → List BenchScan
scans_to_come v left frames =
    if ends_bench left (state_of v) then []
    else bench_scans v.fixed (state_of v) left (numbered_next v.history frames)

-- What belongs to one scan: its panel line, its entries with those of the frames that are served in
-- it, and the replies to these.
pub record ScanPart : Type 0 where
  pub line : List ℕ
  pub entries : List Entry
  pub replies : List ℕ

abbrev pub part_of : BenchScan → ScanPart
part_of scan = record {
  line = scan.line;
  entries = scan.made ++ scan.served;
  replies = scan.replies;
}

abbrev pub parts_of : List BenchScan → List ScanPart
parts_of scans = map part_of scans

-- An entry ends its scan.
abbrev pub ends_a_scan : Entry → Bool
ends_a_scan entries.End = true
ends_a_scan entries.Fail = true
ends_a_scan entries.Dark = true
ends_a_scan _ = false
