-- The text of a primary and its standby. All of it is this project's own.
use Rattle.std.specs.Prelude.{ℕ, ◌+◌, ◌-◌, ◌≤◌, Bool, false, ◌==◌, codes, decimal}
use Rattle.std.specs.Prelude.{List, [], ◌∷◌, ◌++◌, get_or, length, map, take}
use Rattle.std.specs.List.{count_by, flat_map, range_with_len}
use Rattle.plant_types.specs.declared.net.Fate.{Fate}
use Rattle.plant_types.specs.Plans.{IsFromTo}
use Rattle.controller_core.specs.declared.fixed.Fixed.{Fixed}
use Rattle.panel_session.specs.Session.{bench}
use Rattle.standby_pair.specs.Course.{ScanPart, parts_of}
use Rattle.standby_pair.specs.Sending.{acknowledged, acknowledged_behind, known_acked}
use Rattle.standby_pair.specs.Sending.{scans_there}

-- A piece of the text: the panel line of a scan, the replies to the frames served in a scan, or the
-- line of the switch, with the scans of the standby.
pub data Piece : Type 0 where
  Line : (scan : ℕ) → Piece
  Replies : (scan : ℕ) → Piece
  Switch : (scans : ℕ) → Piece

-- The replies of some scans.
abbrev pub replies_of : List ℕ → List Piece
replies_of scans = map Replies scans

-- What the primary writes behind a scan: its panel line, and then the replies of each scan whose
-- packet is acknowledged behind it.
abbrev pub written_behind : List Fate → ℕ → ℕ → List Piece
written_behind letters scans scan = Line scan
    ∷ replies_of (map (λ one. one.scan) (acknowledged_behind letters scans scan))

-- What a primary writes that makes so many scans.
abbrev pub primary_pieces : List Fate → ℕ → List Piece
primary_pieces letters scans = flat_map (written_behind letters scans) (range_with_len 1 scans)

-- What the standby writes as it goes on behind so many scans: the line of the switch, and the
-- replies of its scans that it doesn't know to be acknowledged.
abbrev pub switch_pieces : ℕ → ℕ → List Piece
switch_pieces held acked =
    Switch held ∷ replies_of (range_with_len (acked + 1) (held - acked))

-- A scan on the bench: its panel line, and the replies right behind it.
abbrev pub whole_scan : ℕ → List Piece
whole_scan scan = Line scan ∷ Replies scan ∷ []

-- What the standby writes of the scans that are left behind those that it holds, of so many in all.
abbrev pub later_pieces : ℕ → ℕ → List Piece
later_pieces held all = flat_map whole_scan (range_with_len (held + 1) (all - held))

-- What a primary that makes so many scans and its standby write, where the bench makes so many in
-- all.
abbrev pub pair_pieces : List Fate → ℕ → ℕ → List Piece
pair_pieces letters made all =
    let held = scans_there letters made in
    primary_pieces letters made
    ++ (switch_pieces held (known_acked letters made) ++ later_pieces held all)

-- A scan of which nothing is known.
abbrev pub no_scan : ScanPart
no_scan = record { line = []; entries = []; replies = [] }

-- The scan with this number, from 1.
abbrev pub scan_numbered : List ScanPart → ℕ → ScanPart
scan_numbered scans number = get_or scans (number - 1) no_scan

-- The line of the switch.
abbrev pub switch_line : ℕ → List ℕ
switch_line held = codes "SWITCH " ++ (decimal held ++ codes "\n")

-- The text of a piece.
abbrev pub piece_text : List ScanPart → Piece → List ℕ
piece_text scans (Line scan) = (scan_numbered scans scan).line
piece_text scans (Replies scan) = (scan_numbered scans scan).replies
piece_text scans (Switch held) = switch_line held

-- The text of some pieces.
abbrev pub pieces_text : List ScanPart → List Piece → List ℕ
pieces_text scans pieces = flat_map (piece_text scans) pieces

-- The scans that the bench makes for a stream.
abbrev pub bench_parts : Fixed → List ℕ → List ScanPart
bench_parts fixed stream = parts_of (bench fixed stream)

-- How many scans the primary makes that fails behind so many: fewer where it stops before.
abbrev pub scans_before : Fixed → List ℕ → ℕ → ℕ
scans_before fixed stream fail = length (take fail (bench_parts fixed stream))

-- The pieces that are due for a stream where the primary fails behind a scan, and their text.
abbrev pub due_pieces : Fixed → List Fate → List ℕ → ℕ → List Piece
due_pieces fixed letters stream fail =
    pair_pieces letters (scans_before fixed stream fail) (length (bench_parts fixed stream))

abbrev pub pair_text : Fixed → List Fate → List ℕ → ℕ → List ℕ
pair_text fixed letters stream fail =
    pieces_text (bench_parts fixed stream) (due_pieces fixed letters stream fail)

-- A piece has the replies of a scan.
abbrev pub has_replies : ℕ → Piece → Bool
has_replies scan (Line other) = false
has_replies scan (Replies other) = other == scan
has_replies scan (Switch held) = false

-- How often the replies of a scan stand in some pieces.
abbrev pub times_written : ℕ → List Piece → ℕ
times_written scan pieces = count_by (has_replies scan) pieces

-- Of each scan of the bench the replies are written once or twice.
abbrev pub RepliesComeOnceOrTwice : Fixed → List Fate → List ℕ → ℕ → Type 0
RepliesComeOnceOrTwice fixed letters stream fail =
    (scan : ℕ) → 1 ≤ scan → scan ≤ length (bench_parts fixed stream)
    → IsFromTo 1 2 (times_written scan (due_pieces fixed letters stream fail))

-- The standby goes on behind no fewer scans than were acknowledged, and behind no more than those
-- after which the primary fails.
pub record SwitchesInTime (fixed : Fixed) (letters : List Fate) (stream : List ℕ) (fail : ℕ)
    : Type 0 where
  pub least : acknowledged letters (scans_before fixed stream fail)
      ≤ scans_there letters (scans_before fixed stream fail)
  pub most : scans_there letters (scans_before fixed stream fail) ≤ fail
