-- A controller alone on a bench, and what an operator's stream asks of it. All of it is this
-- project's own.
use Rattle.std.specs.Prelude.{ℕ, zero, suc, Bool, ◌||◌, ◌==◌, not, if◌then◌else◌, List, [], ◌∷◌}
use Rattle.std.specs.Prelude.{◌++◌, drop, fold, take}
use Rattle.std.specs.List.{concat, flat_map}
use Rattle.controller_core.specs.declared.entry.Entry.{Entry}
use Rattle.controller_core.specs.declared.fixed.Fixed.{Fixed}
use Rattle.controller_core.specs.Panel.{lines_from}
use Rattle.controller_core.specs.Replay.{ControllerState, apply, start}
use Rattle.panel_session.specs.Scanning.{scan_made}
use Rattle.panel_session.specs.Serving.{NumberedFrame, numbered_frames, reply_texts}
use Rattle.panel_session.specs.Serving.{served_entries}

-- What belongs to one scan: its own entries, those of the frames that are served in it, its panel
-- line, and the replies to the frames.
pub record BenchScan : Type 0 where
  pub made : List Entry
  pub served : List Entry
  pub line : List ℕ
  pub replies : List ℕ

-- The state after entries.
abbrev pub state_after : Fixed → ControllerState → List Entry → ControllerState
state_after fixed s entries = fold (apply fixed) s entries

-- A scan is the last of a bench where none is left after it, or the controller stopped in it.
abbrev pub ends_bench : ℕ → ControllerState → Bool
ends_bench left s = (left == 0) || not (s.stop == 0)

-- The frames that are served in a scan: the next one, or all that are left in the last scan.
abbrev pub frames_now : Bool → List NumberedFrame → List NumberedFrame
frames_now last frames = if last then frames else take 1 frames

-- One scan of the bench, after which so many are left, from a state on.
abbrev pub bench_scan : Fixed → ControllerState → ℕ → List NumberedFrame → BenchScan
bench_scan fixed s left frames =
    let made = scan_made fixed s in
    let after = state_after fixed s made in
    let now = frames_now (ends_bench left after) frames in
    record {
      made = made;
      served = served_entries fixed after now;
      line = concat (lines_from fixed s made);
      replies = reply_texts fixed after now;
    }

-- The scans of the bench up to the last.
unfoldable pub bench_scans : Fixed → ControllerState → ℕ → List NumberedFrame → List BenchScan
bench_scans fixed s zero frames = []
bench_scans fixed s (suc left) frames =
    let scan = bench_scan fixed s left frames in
    let after = state_after fixed s scan.made in
    scan ∷ (if ends_bench left after then []
    else bench_scans fixed (state_after fixed after scan.served) left (drop 1 frames))

-- The bench for a stream: in each scan the frame of its number is served, and after the last one
-- all that are left.
abbrev pub bench : Fixed → List ℕ → List BenchScan
bench fixed stream =
    bench_scans fixed (start fixed.plan) fixed.scans (numbered_frames fixed.plan.node stream)

-- The entries of some scans of the bench: what each made, and what was served in it.
abbrev pub scan_histories : List BenchScan → List Entry
scan_histories scans = flat_map (λ scan. scan.made ++ scan.served) scans

-- The text of some scans of the bench: the panel line of each, and then the replies to the frames
-- served in it.
abbrev pub scan_texts : List BenchScan → List ℕ
scan_texts scans = flat_map (λ scan. scan.line ++ scan.replies) scans

-- The history of the bench for a stream, and its text.
abbrev pub bench_history : Fixed → List ℕ → List Entry
bench_history fixed stream = scan_histories (bench fixed stream)

abbrev pub bench_text : Fixed → List ℕ → List ℕ
bench_text fixed stream = scan_texts (bench fixed stream)
