-- A session up to a scan.
use Rattle.std.proofs.Common.{◌≡◌, ◌≢◌, ℕ, zero, suc, ◌+◌, ◌≤◌, ◌<◌, ◌==◌, Bool, true, false, List}
use Rattle.std.proofs.Common.{[], ◌∷◌, ◌++◌, length, drop, take, map, min, Option, Some, None}
use Rattle.std.proofs.Common.{refl, sym, ap, subst, ◌∙◌, append_assoc, append-nil, arith}
use Rattle.std.specs.Prelude.{if◌then◌else◌, filter_map}
use Rattle.std.specs.List.{concat, slice_split}
use Rattle.std.proofs.lemmas.List.{length-drop, length-map}
use Rattle.std.proofs.lemmas.List.Splits.{length-slice_split}
use Rattle.std.proofs.lemmas.List.Sums.{count_by-le-length, length-filter}
use Rattle.ascii_port.specs.Frames.{AsciiFrame, frame_in, frames, is_colon}
use Rattle.scan_order.specs.declared.due.ScanStep.{ScanStep}
use Rattle.controller_core.specs.declared.entry.Entry.{Entry}
use Rattle.controller_core.specs.declared.entry.StepEnd.TheVariants as ends
use Rattle.controller_core.specs.declared.fixed.Fixed.{Fixed}
use Rattle.controller_core.specs.Controller.{ControllerIs, answered, at_start, grown, has_ended}
use Rattle.controller_core.specs.Controller.{due_step, is_none, left_of, state_of, step_end}
use Rattle.controller_core.specs.Panel.{lines_from}
use Rattle.controller_core.specs.Replay.{ControllerState, start}
use Rattle.controller_core.specs.Scans.{scans_from}
use Rattle.controller_core.proofs.Counting.{length-filter_map}
use Rattle.controller_core.proofs.NextEntry.{replay_append}
use Rattle.whole_scan.specs.Scans.{IsBetweenScans}
use Rattle.whole_scan.proofs.ScanSteps.{open-stop, quiet-scan}
use Rattle.panel_session.specs.Asked.{frame_asked, next_frames}
use Rattle.panel_session.specs.Bench.{last_line, lines_of}
use Rattle.panel_session.specs.Scanning.{after_scan, bench_end, scan_made}
use Rattle.panel_session.specs.Serving.{NumberedFrame, frames_for, is_for, reply_texts}
use Rattle.panel_session.specs.Serving.{request_count, served_entries, numbered_on}
use Rattle.panel_session.specs.Session.{bench_history, bench_scans, bench_text, ends_bench}
use Rattle.panel_session.specs.Session.{scan_histories, scan_texts, state_after}
use Rattle.panel_session.specs.declared.asked.PortFrame.{PortFrame}
use Rattle.panel_session.specs.declared.bench.BenchEnd.{BenchEnd}
use Rattle.panel_session.specs.declared.bench.BenchEnd.TheVariants.{Done}
use Rattle.panel_session.proofs.Lines.{last_line-more}
use Rattle.panel_session.proofs.OneScan.{lines-both, made-scan}
use Rattle.panel_session.proofs.Quiet.{made-none, requests-same, served-of}
use Rattle.panel_session.proofs.ScanByScan.{entries-scan, entries_left, first-counted, next-first}
use Rattle.panel_session.proofs.ScanByScan.{next-rest, not-last, text-scan, text_left}
use Rattle.panel_session.proofs.ScansLeft.{ended-last, fewer-left, one-less, scanned}
use Rattle.panel_session.proofs.ScansLeft.{scanned-state}

-- ---- what a scan answered

done-by : (stop : ℕ) (due : Option ScanStep) → bench_end (answered stop due) ≡ Done
    → is_none due ≡ false
done-by stop None is = either (stop == 0) is
  where
    either : (goes : Bool)
        → bench_end (if goes then ends.Ended else ends.Stopped stop) ≡ Done → true ≡ false
    either true is = absurd cc
    either false is = absurd cc
done-by stop (Some step) is = refl

pub done-goes : (v : ControllerIs) (end : BenchEnd) → end ≡ bench_end (step_end v) → end ≡ Done
    → has_ended v ≡ false
done-goes v end is done = done-by (state_of v).stop (due_step v) (sym is ∙ done)

over-by : (stop : ℕ) (due : Option ScanStep) → bench_end (answered stop due) ≢ Done
    → is_none due ≡ true
over-by stop None other = refl
over-by stop (Some step) other = absurd (other refl)

pub over-ended : (v : ControllerIs) (end : BenchEnd) → end ≡ bench_end (step_end v) → end ≢ Done
    → has_ended v ≡ true
over-ended v end is other =
    over-by (state_of v).stop (due_step v) (λ done. other (is ∙ done))

-- ---- where a controller stands behind a scan

goes-scanned : (v : ControllerIs) → has_ended v ≡ false → after_scan v ≡ scanned v
goes-scanned v goes =
    ap (λ (ended : Bool). grown v (if ended then [] else scan_made v.fixed (state_of v)) v.reserved)
    goes

over-same : (v : ControllerIs) → has_ended v ≡ true → after_scan v ≡ v
over-same v ended =
    ap (λ (ended : Bool). grown v (if ended then [] else scan_made v.fixed (state_of v)) v.reserved)
    ended
    ∙ (λ i. record {
      fixed = v.fixed;
      history = append-nil v.history i;
      reserved = v.reserved;
    })

-- The one line that a scan adds is the last.
one-line : (before lines : List (List ℕ)) → length lines ≡ 1
    → last_line (before ++ lines) ≡ concat lines
one-line before [] one = absurd (omega arith)
one-line before (line ∷ []) one = last_line-more before line ∙ sym (append-nil line)
one-line before (line ∷ other ∷ more) one = absurd (omega arith)

line-is : (v : ControllerIs) → has_ended v ≡ false
    → last_line (lines_of (scanned v))
    ≡ concat (lines_from v.fixed (state_of v) (scan_made v.fixed (state_of v)))
line-is v goes =
    let made = scan_made v.fixed (state_of v) in
    ap last_line (lines-both v.fixed (start v.fixed.plan) v.history made)
    ∙ one-line (lines_of v) (lines_from v.fixed (state_of v) made)
    (made-scan v.fixed (state_of v) (open-stop v goes)).line

-- ---- a session between two scans

-- What it has made, with what is to come of these frames, is what the bench makes for the stream.
pub record IsInSession (fixed : Fixed) (stream : List ℕ) (v : ControllerIs) (asked : List PortFrame)
    (text : List ℕ) : Type 0 where
  pub fixed_is : v.fixed ≡ fixed
  pub left : ℕ
  pub left_is : (state_of v).stop ≡ 0
      → left_of v.fixed v.history ≡ scans_from v.fixed ((state_of v).gone + 1) left
  pub few : request_count v.history + length asked ≤ length stream
  pub history : v.history
      ++ entries_left v.fixed (state_of v) left (next_frames v.history asked)
      ≡ bench_history fixed stream
  pub text_is : text
      ++ text_left v.fixed (state_of v) left (next_frames v.history asked)
      ≡ bench_text fixed stream

-- So it stands between two scans.
abbrev between-of : {fixed : Fixed} {stream : List ℕ} {v : ControllerIs} {asked : List PortFrame}
    {text : List ℕ} → IsInSession fixed stream v asked text → IsBetweenScans v
between-of session = record { many = session.left; left = session.left_is }

-- A stream has no more frames than bytes.
frames-few : (node : ℕ) (stream : List ℕ) → length (frames_for node stream) ≤ length stream
unfolding frames
frames-few node stream =
    let pieces = slice_split is_colon stream in
    let found = filter_map frame_in (drop 1 pieces) in
    let own = length-filter (is_for node) found in
    let fewer = count_by-le-length (is_for node) found in
    let picked = length-filter_map frame_in (drop 1 pieces) in
    let behind = length-drop 1 pieces in
    let cut = length-slice_split is_colon stream in
    let colons = count_by-le-length is_colon stream in
    omega (arith, own, fewer, picked, behind, cut, colons)

pub session-begins : (fixed : Fixed) (stream : List ℕ) (v : ControllerIs) (asked : List PortFrame)
    (text : List ℕ) → 1 ≤ fixed.scans → v ≡ at_start fixed
    → map frame_asked asked ≡ frames_for fixed.plan.node stream → text ≡ []
    → IsInSession fixed stream v asked text
session-begins fixed stream v asked text some is heard none =
    subst (λ (v : ControllerIs). IsInSession fixed stream v asked text) (sym is) (record {
      fixed_is = refl;
      left = fixed.scans;
      left_is = λ goes. refl;
      few = omega (
        arith,
        ap length heard,
        length-map asked frame_asked,
        frames-few fixed.plan.node stream,
      );
      history = ap (entries_left fixed s fixed.scans) numbered
          ∙ ap (λ (last : Bool). if last then served_entries fixed s all
          else scan_histories (bench_scans fixed s fixed.scans all)) goes;
      text_is = ap (λ (text : List ℕ). text
          ++ text_left fixed s fixed.scans (next_frames [] asked)) none
          ∙ ap (text_left fixed s fixed.scans) numbered
          ∙ ap (λ (last : Bool). if last then reply_texts fixed s all
          else scan_texts (bench_scans fixed s fixed.scans all)) goes;
    })
  where
    s : ControllerState
    s = start fixed.plan

    all : List NumberedFrame
    all = numbered_on 1 (frames_for fixed.plan.node stream)

    numbered : next_frames [] asked ≡ all
    numbered = ap (λ (frames : List AsciiFrame). numbered_on 1 frames) heard

    goes : ends_bench fixed.scans s ≡ false
    goes = not-last s fixed.scans some refl

-- Behind a scan the requests are the same.
pub scan-count : (v w : ControllerIs) → has_ended v ≡ false → w ≡ after_scan v
    → request_count w.history ≡ request_count v.history
scan-count v w goes is =
    ap (λ (w : ControllerIs). request_count w.history) (is ∙ goes-scanned v goes)
    ∙ ap length (requests-same v.history (scan_made v.fixed (state_of v))
    (made-none v.fixed (state_of v)))

-- ---- one scan more

module _ (fixed : Fixed) (stream : List ℕ) (v : ControllerIs) (asked : List PortFrame)
    (text : List ℕ) (session : IsInSession fixed stream v asked text)
    (goes : has_ended v ≡ false) where
  abbrev s : ControllerState
  s = state_of v

  abbrev made : List Entry
  made = scan_made v.fixed s

  abbrev after : ControllerState
  after = state_after v.fixed s made

  abbrev all : List NumberedFrame
  all = next_frames v.history asked

  abbrev now : List Entry
  now = served_entries v.fixed after (take 1 all)

  -- A controller behind the scan and its frame.
  abbrev next : Bool → ControllerIs
  next reserved = grown (scanned v) now reserved

  next-state : (reserved : Bool)
      → state_of (next reserved) ≡ state_after v.fixed after now
  next-state reserved =
      replay_append v.fixed (start v.fixed.plan) (v.history ++ made) now
      ∙ ap (λ (s : ControllerState). state_after v.fixed s now) (scanned-state v)

  rest-is : next_frames ((v.history ++ made) ++ now) (drop 1 asked) ≡ drop 1 all
  rest-is = next-rest v.fixed after v.history made asked (made-none v.fixed s)

  -- The frame that is served behind the scan.
  first-is : next_frames (v.history ++ made) (take 1 asked) ≡ take 1 all
  first-is = next-first v.history made asked (made-none v.fixed s)

  abbrev line : List ℕ
  line = concat (lines_from v.fixed s made)

  session-next : (reserved : Bool) → IsInSession fixed stream (next reserved) (drop 1 asked)
      ((text ++ line) ++ reply_texts v.fixed after (take 1 all))
  session-next reserved =
      let one = one-less v (between-of session) goes in
      let keeps = quiet-scan (scanned v) now reserved (served-of v.fixed after (take 1 all)) in
      let entries : List NumberedFrame → ControllerState → List Entry =
      λ frames s. entries_left v.fixed s one.rest frames in
      let texts : List NumberedFrame → ControllerState → List ℕ =
      λ frames s. text_left v.fixed s one.rest frames in
      let replies = reply_texts v.fixed after (take 1 all) in
      record {
        fixed_is = session.fixed_is;
        left = one.rest;
        left_is = λ runs. keeps.left ∙ one.left (sym keeps.stop ∙ runs)
            ∙ ap (λ (gone : ℕ). scans_from v.fixed (gone + 1) one.rest) (sym keeps.gone);
        few =
            let count = first-counted v.fixed after v.history made asked (made-none v.fixed s) in
            let cut = take-drop asked in
            omega (arith, count, cut, session.few);
        history = ap (λ (frames : List NumberedFrame). ((v.history ++ made) ++ now)
            ++ entries frames (state_of (next reserved))) rest-is
            ∙ ap (λ (s : ControllerState). ((v.history ++ made) ++ now) ++ entries (drop 1 all) s)
            (next-state reserved)
            ∙ append_assoc (v.history ++ made) now _
            ∙ append_assoc v.history made _
            ∙ ap (λ (left : List Entry). v.history ++ left)
            (sym (entries-scan v.fixed s one.rest all one.goes))
            ∙ ap (λ (many : ℕ). v.history ++ entries_left v.fixed s many all) (sym one.is)
            ∙ session.history;
        text_is = ap (λ (frames : List NumberedFrame). ((text ++ line) ++ replies)
            ++ texts frames (state_of (next reserved))) rest-is
            ∙ ap (λ (s : ControllerState). ((text ++ line) ++ replies) ++ texts (drop 1 all) s)
            (next-state reserved)
            ∙ append_assoc (text ++ line) replies _
            ∙ append_assoc text line _
            ∙ ap (λ (left : List ℕ). text ++ left)
            (sym (text-scan v.fixed s one.rest all one.goes))
            ∙ ap (λ (many : ℕ). text ++ text_left v.fixed s many all) (sym one.is)
            ∙ session.text_is;
      }
    where
      take-drop : (asked : List PortFrame) → length (take 1 asked) + length (drop 1 asked)
          ≡ length asked
      take-drop [] = refl
      take-drop (one ∷ rest) = omega arith

  -- The frame that the code serves is that one.
  serves : (w : ControllerIs) → w ≡ after_scan v
      → w.history ++ served_entries w.fixed (state_of w) (next_frames w.history (take 1 asked))
      ≡ (v.history ++ made) ++ now
  serves w is =
      ap (λ (w : ControllerIs). w.history
      ++ served_entries w.fixed (state_of w) (next_frames w.history (take 1 asked)))
      (is ∙ goes-scanned v goes)
      ∙ ap (λ (frames : List NumberedFrame). (v.history ++ made)
      ++ served_entries v.fixed (state_of (scanned v)) frames) first-is
      ∙ ap (λ (s : ControllerState). (v.history ++ made)
      ++ served_entries v.fixed s (take 1 all)) (scanned-state v)

  replies-are : (w : ControllerIs) (before : List ℕ) → w ≡ after_scan v
      → before ++ reply_texts w.fixed (state_of w) (next_frames w.history (take 1 asked))
      ≡ before ++ reply_texts v.fixed after (take 1 all)
  replies-are w before is =
      ap (λ (w : ControllerIs). before
      ++ reply_texts w.fixed (state_of w) (next_frames w.history (take 1 asked)))
      (is ∙ goes-scanned v goes)
      ∙ ap (λ (frames : List NumberedFrame). before
      ++ reply_texts v.fixed (state_of (scanned v)) frames) first-is
      ∙ ap (λ (s : ControllerState). before ++ reply_texts v.fixed s (take 1 all))
      (scanned-state v)

  pub session-goes-on : (w u : ControllerIs) (added more : List ℕ) → w ≡ after_scan v
      → added ≡ last_line (lines_of w) → u.fixed ≡ w.fixed
      → u.history ≡ w.history
      ++ served_entries w.fixed (state_of w) (next_frames w.history (take 1 asked))
      → more ≡ (text ++ added)
      ++ reply_texts w.fixed (state_of w) (next_frames w.history (take 1 asked))
      → IsInSession fixed stream u (drop 1 asked) more
  session-goes-on w u added more is line_is same history text_is =
      let line_as : added ≡ line =
      line_is ∙ ap (λ (w : ControllerIs). last_line (lines_of w)) (is ∙ goes-scanned v goes)
      ∙ line-is v goes in
      let text_as : more ≡ (text ++ line) ++ reply_texts v.fixed after (take 1 all) =
      text_is ∙ replies-are w (text ++ added) is
      ∙ ap (λ (added : List ℕ). (text ++ added) ++ reply_texts v.fixed after (take 1 all))
      line_as in
      let fixed_as : u.fixed ≡ v.fixed = same ∙ ap (λ (w : ControllerIs). w.fixed) is in
      let history_as : u.history ≡ (v.history ++ made) ++ now = history ∙ serves w is in
      let u_is : u ≡ next u.reserved =
      (λ i. record { fixed = fixed_as i; history = history_as i; reserved = u.reserved }) in
      subst (λ (more : List ℕ). IsInSession fixed stream u (drop 1 asked) more) (sym text_as)
      (subst (λ (u : ControllerIs). IsInSession fixed stream u (drop 1 asked)
      ((text ++ line) ++ reply_texts v.fixed after (take 1 all))) (sym u_is)
      (session-next u.reserved))

-- The first frame, if one is left, and the others.
pub first-taken : (asked : List PortFrame) (count : ℕ) → count ≡ min (length asked) 1
    → take count asked ≡ take 1 asked
first-taken [] count is = either count
  where
    either : (count : ℕ) → take {A = PortFrame} count [] ≡ []
    either zero = refl
    either (suc n) = refl
first-taken (one ∷ rest) count is =
    let n : count ≡ 1 = omega (arith, is) in ap (λ (n : ℕ). take n (one ∷ rest)) n

pub first-dropped : (asked : List PortFrame) (count : ℕ) → count ≡ min (length asked) 1
    → drop count asked ≡ drop 1 asked
first-dropped [] count is = either count
  where
    either : (count : ℕ) → drop {A = PortFrame} count [] ≡ []
    either zero = refl
    either (suc n) = refl
first-dropped (one ∷ rest) count is =
    let n : count ≡ 1 = omega (arith, is) in ap (λ (n : ℕ). drop n (one ∷ rest)) n

-- ---- behind the last scan

pub ended-history : (fixed : Fixed) (stream : List ℕ) (v w : ControllerIs) (asked : List PortFrame)
    (text : List ℕ) (whole : List Entry) → IsInSession fixed stream v asked text
    → has_ended v ≡ true → w ≡ after_scan v
    → whole ≡ w.history ++ served_entries w.fixed (state_of w) (next_frames w.history asked)
    → whole ≡ bench_history fixed stream
ended-history fixed stream v w asked text whole session ended is history =
    let all = next_frames v.history asked in
    let many = session.left in
    history
    ∙ ap (λ (w : ControllerIs). w.history
    ++ served_entries w.fixed (state_of w) (next_frames w.history asked))
    (is ∙ over-same v ended)
    ∙ ap (λ (last : Bool). v.history ++ (if last then served_entries v.fixed (state_of v) all
    else scan_histories (bench_scans v.fixed (state_of v) many all)))
    (sym (ended-last v (between-of session) ended))
    ∙ session.history

pub ended-text : (fixed : Fixed) (stream : List ℕ) (v w : ControllerIs) (asked : List PortFrame)
    (text more : List ℕ) → IsInSession fixed stream v asked text
    → has_ended v ≡ true → w ≡ after_scan v
    → more ≡ text ++ reply_texts w.fixed (state_of w) (next_frames w.history asked)
    → more ≡ bench_text fixed stream
ended-text fixed stream v w asked text more session ended is text_is =
    let all = next_frames v.history asked in
    let many = session.left in
    text_is
    ∙ ap (λ (w : ControllerIs). text
    ++ reply_texts w.fixed (state_of w) (next_frames w.history asked))
    (is ∙ over-same v ended)
    ∙ ap (λ (last : Bool). text ++ (if last then reply_texts v.fixed (state_of v) all
    else scan_texts (bench_scans v.fixed (state_of v) many all)))
    (sym (ended-last v (between-of session) ended))
    ∙ session.text_is

-- Fewer steps are left behind the scan and its frame.
pub session-shorter : (v w u : ControllerIs) (frames : List NumberedFrame)
    → has_ended v ≡ false → w ≡ after_scan v → u.fixed ≡ w.fixed
    → u.history ≡ w.history ++ served_entries w.fixed (state_of w) frames
    → length (left_of u.fixed u.history) < length (left_of v.fixed v.history)
session-shorter v w u frames goes is same history =
    let x = scanned v in
    let added = served_entries x.fixed (state_of x) frames in
    let made : u.history ≡ x.history ++ added =
    history ∙ ap (λ (w : ControllerIs). w.history ++ served_entries w.fixed (state_of w) frames)
    (is ∙ goes-scanned v goes) in
    let u_is : u ≡ grown x added u.reserved = (λ i. record {
      fixed = (same ∙ ap (λ (w : ControllerIs). w.fixed) is) i;
      history = made i;
      reserved = u.reserved;
    }) in
    let left : left_of u.fixed u.history ≡ left_of v.fixed x.history =
    ap (λ (u : ControllerIs). left_of u.fixed u.history) u_is
    ∙ (quiet-scan x added u.reserved (served-of x.fixed (state_of x) frames)).left in
    omega (arith, ap length left, fewer-left v goes)
