-- The scans that a bench makes, one after another.
use Rattle.std.proofs.Common.{◌≡◌, ℕ, zero, suc, ◌+◌, ◌-◌, ◌<◌, ◌≤◌, ◌==◌, Bool, true, false, ◌||◌}
use Rattle.std.proofs.Common.{not, List, [], ◌∷◌, ◌++◌, length, drop, take, get_or, map, refl}
use Rattle.std.proofs.Common.{sym, ap, subst, ◌∙◌, append_assoc, append-nil, length-append, arith}
use Rattle.std.specs.Prelude.{if◌then◌else◌}
use Rattle.std.proofs.Math.Seq.{take-suc}
use Rattle.std.proofs.lemmas.List.{length-map, take-append-drop}
use Rattle.std.proofs.lemmas.Grind.{flat_map-append}
use Rattle.ascii_port.specs.Frames.{AsciiFrame}
use Rattle.controller_core.specs.declared.entry.Entry.{Entry}
use Rattle.controller_core.specs.declared.fixed.Fixed.{Fixed}
use Rattle.controller_core.specs.Controller.{ControllerIs, IsLegal, at_start, grown, has_ended}
use Rattle.controller_core.specs.Controller.{left_of, state_of}
use Rattle.controller_core.specs.Replay.{ControllerState, replay, start}
use Rattle.controller_core.specs.Scans.{scans_from}
use Rattle.controller_core.proofs.NextEntry.{front_legal, replay_append}
use Rattle.whole_scan.specs.Scans.{IsBetweenScans}
use Rattle.whole_scan.proofs.ScanSteps.{open-stop, quiet-scan}
use Rattle.panel_session.specs.Scanning.{scan_made}
use Rattle.panel_session.specs.Serving.{NamedRequest, NumberedFrame, frame_request, frames_for}
use Rattle.panel_session.specs.Serving.{numbered_on, request_count, requests_taken, served_entries}
use Rattle.panel_session.specs.Session.{BenchScan, bench, bench_scans, ends_bench, frames_now}
use Rattle.panel_session.specs.Session.{state_after}
use Rattle.panel_session.proofs.Quiet.{leaves, made-none, requests-both, served-of}
use Rattle.panel_session.proofs.Quiet.{served-requests}
use Rattle.panel_session.proofs.ScanByScan.{not-last}
use Rattle.panel_session.proofs.ScansLeft.{ended-last, one-less, scanned}
use Rattle.hot_standby.specs.Part.{IsOnePart, scans_made}
use Rattle.standby_pair.specs.Course.{LeavesScans, ScanPart, numbered_next, part_of, parts_of}
use Rattle.standby_pair.specs.Course.{scans_to_come}
use Rattle.standby_pair.specs.Kept.{FollowEachOther, parts_history, scan_next}
use Rattle.standby_pair.proofs.OneScan.{begins-once, over-made}

-- ---- frames and their numbers

rest-numbered : (number next : ℕ) (frames : List AsciiFrame)
    → next ≡ number + length (take 1 frames)
    → numbered_on next (drop 1 frames) ≡ drop 1 (numbered_on number frames)
rest-numbered number next [] is = refl
rest-numbered number next (one ∷ rest) is =
    ap (λ (number : ℕ). numbered_on number rest) is

first-many : (number : ℕ) (frames : List AsciiFrame)
    → length (take 1 (numbered_on number frames)) ≡ length (take 1 frames)
first-many number [] = refl
first-many number (one ∷ rest) = refl

-- Behind a scan so many requests were taken.
pub counted-behind : (fixed : Fixed) (s after : ControllerState) (history : List Entry)
    (frames : List NumberedFrame)
    → request_count (history ++ (scan_made fixed s ++ served_entries fixed after frames))
    ≡ request_count history + length frames
counted-behind fixed s after history frames =
    let made = scan_made fixed s in
    let served = served_entries fixed after frames in
    let taken : requests_taken (made ++ served) ≡ map frame_request frames =
    requests-both made served
    ∙ ap (λ (taken : List NamedRequest). taken ++ requests_taken served) (made-none fixed s)
    ∙ served-requests fixed after frames in
    ap length (requests-both history (made ++ served))
    ∙ length-append (requests_taken history) (requests_taken (made ++ served))
    ∙ ap (λ (n : ℕ). request_count history + n)
    (ap length taken ∙ length-map frames frame_request)

-- ---- one scan more

-- Where one is left, there is a next.
pub some-left : (v : ControllerIs) (left : ℕ) → LeavesScans v left → has_ended v ≡ false
    → 1 ≤ left
some-left v left whole goes =
    let one = one-less v (record { many = left; left = whole }) goes in omega (arith, one.is)

-- A controller behind its next scan on the bench, behind which so many are left.
abbrev pub behind_scan : ControllerIs → ℕ → List AsciiFrame → Bool → ControllerIs
behind_scan v left frames reserved =
    grown v (part_of (scan_next v left frames)).entries reserved

-- The first of the scans to come is the next one, and the others come behind it.
pub record OneMore (v : ControllerIs) (left : ℕ) (frames : List AsciiFrame) (reserved : Bool)
    : Type 0 where
  pub is : scans_to_come v (suc left) frames
      ≡ scan_next v left frames
      ∷ scans_to_come (behind_scan v left frames reserved) left (drop 1 frames)
  pub leaves : LeavesScans (behind_scan v left frames reserved) left
  pub part : IsOnePart v.fixed v.history (part_of (scan_next v left frames)).entries
  pub count : has_ended (behind_scan v left frames reserved) ≡ false
      → request_count (behind_scan v left frames reserved).history
      ≡ request_count v.history + length (take 1 frames)

module _ (v : ControllerIs) (left : ℕ) (frames : List AsciiFrame) (reserved : Bool)
    (whole : LeavesScans v (suc left)) (goes : has_ended v ≡ false) where
  abbrev s : ControllerState
  s = state_of v

  abbrev made : List Entry
  made = scan_made v.fixed s

  abbrev after : ControllerState
  after = state_after v.fixed s made

  abbrev all : List NumberedFrame
  all = numbered_next v.history frames

  abbrev now : List NumberedFrame
  now = frames_now (ends_bench left after) all

  abbrev served : List Entry
  served = served_entries v.fixed after now

  abbrev w : ControllerIs
  w = grown v (made ++ served) reserved

  runs : s.stop ≡ 0
  runs = open-stop v goes

  state-behind : state_of w ≡ state_after v.fixed after served
  state-behind =
      replay_append v.fixed (start v.fixed.plan) v.history (made ++ served)
      ∙ replay_append v.fixed s made served

  last-same : ends_bench left (state_of w) ≡ ends_bench left after
  last-same =
      ap (ends_bench left) state-behind
      ∙ ap (λ (stop : ℕ). (left == 0) || not (stop == 0))
      (leaves v.fixed after served (served-of v.fixed after now)).stop

  rest-same : ends_bench left after ≡ false
      → numbered_next w.history (drop 1 frames) ≡ drop 1 all
  rest-same on =
      let counted : request_count w.history ≡ request_count v.history + length now =
      counted-behind v.fixed s after v.history now in
      let first : length now ≡ length (take 1 frames) =
      ap (λ (last : Bool). length (frames_now last all)) on
      ∙ first-many (request_count v.history + 1) frames in
      rest-numbered (request_count v.history + 1) (request_count w.history + 1) frames
      (omega (arith, counted, first))

  others : (if ends_bench left after then []
      else bench_scans v.fixed (state_after v.fixed after served) left (drop 1 all))
      ≡ scans_to_come w left (drop 1 frames)
  others =
      by (ends_bench left after) refl
      ∙ ap (λ (last : Bool). if last then []
      else bench_scans v.fixed (state_of w) left (numbered_next w.history (drop 1 frames)))
      (sym last-same)
    where
      by : (last : Bool) → ends_bench left after ≡ last
          → (if last then []
          else bench_scans v.fixed (state_after v.fixed after served) left (drop 1 all))
          ≡ (if last then []
          else bench_scans v.fixed (state_of w) left (numbered_next w.history (drop 1 frames)))
      by true is = refl
      by false is =
          ap (λ (t : ControllerState). bench_scans v.fixed t left (drop 1 all)) (sym state-behind)
          ∙ ap (λ (frames : List NumberedFrame). bench_scans v.fixed (state_of w) left frames)
          (sym (rest-same is))

  first-is : scans_to_come v (suc left) frames
      ≡ scan_next v left frames ∷ scans_to_come w left (drop 1 frames)
  unfolding bench_scans
  first-is =
      ap (λ (last : Bool). if last then [] else bench_scans v.fixed s (suc left) all)
      (not-last s (suc left) (omega arith) runs)
      ∙ ap (λ (rest : List BenchScan). scan_next v left frames ∷ rest) others

  leaves-behind : LeavesScans w left
  leaves-behind =
      subst (λ (history : List Entry). (replay v.fixed history).stop ≡ 0
      → left_of v.fixed history
      ≡ scans_from v.fixed ((replay v.fixed history).gone + 1) left)
      (append_assoc v.history made served) (λ still.
      let between : IsBetweenScans v = record { many = suc left; left = whole } in
      let one = one-less v between goes in
      let keeps = quiet-scan (scanned v) served reserved (served-of v.fixed after now) in
      let same : one.rest ≡ left = omega (arith, one.is) in
      keeps.left ∙ one.left (sym keeps.stop ∙ still)
      ∙ ap (λ (gone : ℕ). scans_from v.fixed (gone + 1) one.rest) (sym keeps.gone)
      ∙ ap (λ (many : ℕ). scans_from v.fixed
      ((replay v.fixed ((v.history ++ made) ++ served)).gone + 1) many) same)

  one-part : IsOnePart v.fixed v.history (made ++ served)
  one-part =
      let left' = leaves v.fixed after served (served-of v.fixed after now) in
      record {
        begins = begins-once v.fixed s served runs (served-of v.fixed after now);
        over = ap scans_made state-behind
            ∙ ap (λ (n : ℕ).
            n + (if (state_after v.fixed after served).stop == 0 then 0 else 1)) left'.gone
            ∙ ap (λ (n : ℕ). after.gone + (if n == 0 then 0 else 1)) left'.stop
            ∙ (over-made v.fixed s runs).made
            ∙ ap (λ (n : ℕ). n + 1)
            (let none : scans_made s ≡ s.gone =
            ap (λ (n : ℕ). s.gone + (if n == 0 then 0 else 1)) runs ∙ omega arith in sym none);
      }

  one-count : has_ended w ≡ false
      → request_count w.history ≡ request_count v.history + length (take 1 frames)
  one-count on =
      let open' : ends_bench left after ≡ false =
      sym last-same ∙ not-last (state_of w) left (some-left w left leaves-behind on)
      (open-stop w on) in
      counted-behind v.fixed s after v.history now
      ∙ ap (λ (last : Bool). request_count v.history + length (frames_now last all)) open'
      ∙ ap (λ (n : ℕ). request_count v.history + n)
      (first-many (request_count v.history + 1) frames)

  pub one-more : OneMore v left frames reserved
  one-more = record { is = first-is; leaves = leaves-behind; part = one-part; count = one-count }

-- Where a bench has ended, none is to come.
pub none-to-come : (v : ControllerIs) (left : ℕ) (frames : List AsciiFrame)
    → LeavesScans v left → has_ended v ≡ true → scans_to_come v left frames ≡ []
none-to-come v left frames whole ended =
    ap (λ (last : Bool). if last then []
    else bench_scans v.fixed (state_of v) left (numbered_next v.history frames))
    (ended-last v (record { many = left; left = whole }) ended)

-- ---- all that are to come

-- What holds of the scans to come, by what holds where none is and where one more is.
by-scan : (P : ControllerIs → ℕ → List AsciiFrame → Type 0)
    → ((v : ControllerIs) (left : ℕ) (frames : List AsciiFrame)
    → scans_to_come v left frames ≡ [] → P v left frames)
    → ((v : ControllerIs) (left : ℕ) (frames : List AsciiFrame) → OneMore v left frames false
    → P (behind_scan v left frames false) left (drop 1 frames) → P v (suc left) frames)
    → (v : ControllerIs) (left : ℕ) (frames : List AsciiFrame) → LeavesScans v left
    → P v left frames
by-scan P none more v zero frames whole = none v zero frames refl
by-scan P none more v (suc left) frames whole =
    either (has_ended v) refl (λ one. by-scan P none more (behind_scan v left frames false) left
    (drop 1 frames) one.leaves)
  where
    either : (ended : Bool) → has_ended v ≡ ended
        → ((one : OneMore v left frames false)
        → P (behind_scan v left frames false) left (drop 1 frames))
        → P v (suc left) frames
    either true is behind = none v (suc left) frames (none-to-come v (suc left) frames whole is)
    either false is behind =
        let one = one-more v left frames false whole is in more v left frames one (behind one)

-- No more than are left.
pub few-to-come : (v : ControllerIs) (left : ℕ) (frames : List AsciiFrame) → LeavesScans v left
    → length (scans_to_come v left frames) ≤ left
few-to-come =
    by-scan (λ (v : ControllerIs) (left : ℕ) (frames : List AsciiFrame).
    length (scans_to_come v left frames) ≤ left)
    (λ v left frames none. omega (arith, ap length none))
    (λ v left frames one behind. omega (arith, ap length one.is, behind))

-- Each is one scan's part behind those before it.
abbrev EachIsOnePart : ControllerIs → List ScanPart → Type 0
EachIsOnePart v parts = (place : ℕ) (none : ScanPart) → place < length parts
    → IsOnePart v.fixed (v.history ++ parts_history (take place parts))
    (get_or parts place none).entries

one-part-more : (v w : ControllerIs) (first : ScanPart) (rest : List ScanPart)
    → w.fixed ≡ v.fixed → w.history ≡ v.history ++ first.entries
    → IsOnePart v.fixed v.history first.entries → EachIsOnePart w rest
    → EachIsOnePart v (first ∷ rest)
one-part-more v w first rest fixed history one each zero none within =
    subst (λ (history : List Entry). IsOnePart v.fixed history first.entries)
    (sym (append-nil v.history)) one
one-part-more v w first rest fixed history one each (suc place) none within =
    subst (λ (fixed : Fixed). IsOnePart fixed
    (v.history ++ (first.entries ++ parts_history (take place rest)))
    (get_or rest place none).entries) fixed
    (subst (λ (before : List Entry). IsOnePart w.fixed before (get_or rest place none).entries)
    (ap (λ (h : List Entry). h ++ parts_history (take place rest)) history
    ∙ append_assoc v.history first.entries (parts_history (take place rest)))
    (each place none (omega (arith, within))))

none-each : (v : ControllerIs) (parts : List ScanPart) → parts ≡ [] → EachIsOnePart v parts
none-each v parts is place none within =
    absurd (let n = ap length is in omega (arith, n, within))

pub each-part : (v : ControllerIs) (left : ℕ) (frames : List AsciiFrame) → LeavesScans v left
    → EachIsOnePart v (parts_of (scans_to_come v left frames))
each-part =
    by-scan (λ (v : ControllerIs) (left : ℕ) (frames : List AsciiFrame).
    EachIsOnePart v (parts_of (scans_to_come v left frames)))
    (λ v left frames none. none-each v (parts_of (scans_to_come v left frames))
    (ap parts_of none))
    (λ v left frames one behind.
    subst (λ (scans : List BenchScan). EachIsOnePart v (parts_of scans)) (sym one.is)
    (one-part-more v (behind_scan v left frames false) (part_of (scan_next v left frames))
    (parts_of (scans_to_come (behind_scan v left frames false) left (drop 1 frames)))
    refl refl one.part behind))

-- Where the whole is legal, each may come next behind those before it.
pub follow-each-other : (fixed : Fixed) (parts : List ScanPart)
    → IsLegal fixed (parts_history parts)
    → ((place : ℕ) (none : ScanPart) → place < length parts
    → IsOnePart fixed (parts_history (take place parts)) (get_or parts place none).entries)
    → FollowEachOther fixed parts
follow-each-other fixed parts legal each place none within =
    let front = take place parts in
    let one = get_or parts place none in
    let rest = drop (suc place) parts in
    let history : List ScanPart → List Entry = λ (parts : List ScanPart). parts_history parts in
    let cut : parts_history parts
    ≡ (parts_history front ++ one.entries) ++ parts_history rest =
    ap history (sym (take-append-drop (suc place) parts))
    ∙ flat_map-append (λ (part : ScanPart). part.entries) (take (suc place) parts) rest
    ∙ ap (λ (parts : List ScanPart). parts_history parts ++ parts_history rest)
    (take-suc parts place none within)
    ∙ ap (λ (h : List Entry). h ++ parts_history rest)
    (flat_map-append (λ (part : ScanPart). part.entries) front (one ∷ [])
    ∙ ap (λ (h : List Entry). parts_history front ++ h) (append-nil one.entries)) in
    record {
      legal = front_legal fixed (parts_history front ++ one.entries) (parts_history rest)
          (subst (λ (h : List Entry). IsLegal fixed h) cut legal);
      part = each place none within;
    }

-- A bench behind so many of the scans to come.
abbrev pub behind_many : ControllerIs → List BenchScan → ℕ → ControllerIs
behind_many v scans many = record {
  fixed = v.fixed;
  history = v.history ++ parts_history (take many (parts_of scans));
  reserved = false;
}

-- Those that come behind them are the others.
pub record GoesOn (v : ControllerIs) (left : ℕ) (frames : List AsciiFrame) (many : ℕ)
    : Type 0 where
  pub within : many ≤ left
  pub rest : drop many (scans_to_come v left frames)
      ≡ scans_to_come (behind_many v (scans_to_come v left frames) many) (left - many)
      (drop many frames)
  pub leaves : LeavesScans (behind_many v (scans_to_come v left frames) many) (left - many)
  pub few : has_ended (behind_many v (scans_to_come v left frames) many) ≡ false
      → request_count (behind_many v (scans_to_come v left frames) many).history
      + length (drop many frames) ≤ request_count v.history + length frames

goes-none : (v : ControllerIs) (left : ℕ) (frames : List AsciiFrame) → LeavesScans v left
    → GoesOn v left frames 0
goes-none v left frames whole =
    let here : v.history ++ [] ≡ v.history = append-nil v.history in
    let all : left - 0 ≡ left = omega arith in
    let at : List Entry → ControllerIs = λ (history : List Entry). record {
      fixed = v.fixed;
      history = history;
      reserved = false;
    } in
    record {
      within = omega arith;
      rest = ap (λ (history : List Entry). scans_to_come (at history) left frames) (sym here)
          ∙ ap (λ (many : ℕ). scans_to_come (at (v.history ++ [])) many frames) (sym all);
      leaves = subst (λ (many : ℕ). LeavesScans (at (v.history ++ [])) many) (sym all)
          (subst (λ (history : List Entry). LeavesScans (at history) left) (sym here) whole);
      few = λ goes. omega (arith, ap request_count here);
    }

cut-one : (frames : List AsciiFrame)
    → length (take 1 frames) + length (drop 1 frames) ≡ length frames
cut-one [] = refl
cut-one (one ∷ rest) = omega arith

drop-one : (many : ℕ) (frames : List AsciiFrame) → drop many (drop 1 frames) ≡ drop (suc many) frames
drop-one zero [] = refl
drop-one (suc many) [] = refl
drop-one many (one ∷ rest) = refl

goes-one : (v : ControllerIs) (left : ℕ) (frames : List AsciiFrame) (many : ℕ)
    → OneMore v left frames false
    → GoesOn (behind_scan v left frames false) left (drop 1 frames) many
    → (has_ended (behind_many (behind_scan v left frames false)
    (scans_to_come (behind_scan v left frames false) left (drop 1 frames)) many) ≡ false
    → has_ended (behind_scan v left frames false) ≡ false)
    → GoesOn v (suc left) frames (suc many)
goes-one v left frames many one behind before =
    let first = scan_next v left frames in
    let w = behind_scan v left frames false in
    let others = scans_to_come w left (drop 1 frames) in
    let less : suc left - suc many ≡ left - many = omega arith in
    let at : List Entry → ControllerIs = λ (history : List Entry). record {
      fixed = v.fixed;
      history = history;
      reserved = false;
    } in
    let there : (v.history ++ (part_of first).entries) ++ parts_history (take many (parts_of others))
    ≡ v.history ++ parts_history (take (suc many) (parts_of (scans_to_come v (suc left) frames))) =
    append_assoc v.history (part_of first).entries (parts_history (take many (parts_of others)))
    ∙ ap (λ (scans : List BenchScan). v.history ++ parts_history (take (suc many) (parts_of scans)))
    (sym one.is) in
    record {
      within = omega (arith, behind.within);
      rest = ap (drop (suc many)) one.is
          ∙ behind.rest
          ∙ ap (λ (history : List Entry). scans_to_come (at history) (left - many)
          (drop many (drop 1 frames))) there
          ∙ ap (λ (frames' : List AsciiFrame). scans_to_come
          (behind_many v (scans_to_come v (suc left) frames) (suc many)) (left - many) frames')
          (drop-one many frames)
          ∙ ap (λ (n : ℕ). scans_to_come
          (behind_many v (scans_to_come v (suc left) frames) (suc many)) n
          (drop (suc many) frames)) (sym less);
      leaves = subst (λ (n : ℕ). LeavesScans
          (behind_many v (scans_to_come v (suc left) frames) (suc many)) n) (sym less)
          (subst (λ (history : List Entry). LeavesScans (at history) (left - many)) there
          behind.leaves);
      few = λ goes.
          let goes' = subst (λ (history : List Entry). has_ended (at history) ≡ false) (sym there)
          goes in
          let fewer = behind.few goes' in
          let counted = one.count (before goes') in
          omega (
            arith,
            fewer,
            counted,
            cut-one frames,
            ap request_count there,
            ap (λ (frames : List AsciiFrame). length frames) (drop-one many frames),
          );
    }

-- A bench that goes on behind so many scans went on before them.
open-before : (many : ℕ) (w : ControllerIs) (left : ℕ) (frames : List AsciiFrame)
    → LeavesScans w left → many ≤ length (scans_to_come w left frames)
    → has_ended (behind_many w (scans_to_come w left frames) many) ≡ false → has_ended w ≡ false
open-before zero w left frames whole within goes =
    subst (λ (history : List Entry). has_ended (record
    { fixed = w.fixed; history = history; reserved = w.reserved }) ≡ false)
    (append-nil w.history) goes
open-before (suc many) w left frames whole within goes = by (has_ended w) refl
  where
    by : (ended : Bool) → has_ended w ≡ ended → has_ended w ≡ false
    by false is = is
    by true is =
        absurd (let none = ap length (none-to-come w left frames whole is) in
        omega (arith, none, within))

pub goes-on : (many : ℕ) (v : ControllerIs) (left : ℕ) (frames : List AsciiFrame)
    → LeavesScans v left → many ≤ length (scans_to_come v left frames) → GoesOn v left frames many
goes-on zero v left frames whole within = goes-none v left frames whole
goes-on (suc many) v left frames whole within =
    by left whole within (has_ended v) refl
    (λ left frames whole within. goes-on many (behind_scan v left frames false) left
    (drop 1 frames) whole within)
  where
    by : (left : ℕ) (whole : LeavesScans v left)
        → suc many ≤ length (scans_to_come v left frames)
        → (ended : Bool) → has_ended v ≡ ended
        → ((left : ℕ) (frames : List AsciiFrame)
        → LeavesScans (behind_scan v left frames false) left
        → many ≤ length (scans_to_come (behind_scan v left frames false) left (drop 1 frames))
        → GoesOn (behind_scan v left frames false) left (drop 1 frames) many)
        → GoesOn v left frames (suc many)
    by left whole within true is behind =
        absurd (let none = ap length (none-to-come v left frames whole is) in
        omega (arith, none, within))
    by zero whole within false is behind =
        absurd (let some = some-left v zero whole is in omega (arith, some))
    by (suc left) whole within false is behind =
        let one = one-more v left frames false whole is in
        goes-one v left frames many one
        (behind left frames one.leaves (let all = ap length one.is in omega (arith, all, within)))
        (open-before many (behind_scan v left frames false) left (drop 1 frames) one.leaves
        (let all = ap length one.is in omega (arith, all, within)))

-- ---- from the start

pub start-leaves : (fixed : Fixed) → LeavesScans (at_start fixed) fixed.scans
start-leaves fixed = λ goes. refl

pub all-to-come : (fixed : Fixed) (stream : List ℕ) → 1 ≤ fixed.scans
    → scans_to_come (at_start fixed) fixed.scans (frames_for fixed.plan.node stream)
    ≡ bench fixed stream
all-to-come fixed stream some =
    ap (λ (last : Bool). if last then []
    else bench_scans fixed (start fixed.plan) fixed.scans
    (numbered_next [] (frames_for fixed.plan.node stream)))
    (not-last (start fixed.plan) fixed.scans some refl)
