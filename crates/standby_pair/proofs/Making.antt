-- Scans on a bench as they are made, and the frames that are served in them.
use Rattle.std.proofs.Common.{◌≡◌, ℕ, zero, suc, ◌+◌, ◌-◌, ◌≤◌, ◌==◌, Bool, true}
use Rattle.std.proofs.Common.{false, ◌||◌, not, min, List, [], ◌∷◌, ◌++◌, length, drop, take}
use Rattle.std.proofs.Common.{refl, sym, ap, subst, ◌∙◌, append_assoc, append-nil}
use Rattle.std.proofs.Common.{length-append, arith}
use Rattle.std.specs.Prelude.{if◌then◌else◌}
use Rattle.std.specs.List.{concat, list_any}
use Rattle.std.proofs.lemmas.Grind.{flat_map-append}
use Rattle.std.proofs.lemmas.List.{drop-map, drop_at, drop_min, length-map, map-append, take_all}
use Rattle.std.proofs.lemmas.List.{take_at, take_rest}
use Rattle.ascii_port.specs.Frames.{AsciiFrame}
use Rattle.controller_core.specs.declared.entry.Entry.{Entry}
use Rattle.controller_core.specs.Controller.{ControllerIs, grown, has_ended, state_of}
use Rattle.controller_core.specs.Panel.{lines_from}
use Rattle.controller_core.specs.Replay.{ControllerState, start}
use Rattle.whole_scan.proofs.ScanSteps.{open-stop}
use Rattle.panel_session.specs.Bench.{last_line, lines_of}
use Rattle.panel_session.specs.Scanning.{after_scan, scan_made}
use Rattle.panel_session.specs.Serving.{NumberedFrame, numbered_on, reply_texts}
use Rattle.panel_session.specs.Serving.{request_count, served_entries}
use Rattle.panel_session.specs.Session.{BenchScan, ends_bench, frames_now, state_after}
use Rattle.panel_session.proofs.Lines.{last_line-more}
use Rattle.panel_session.proofs.OneScan.{lines-both, made-scan}
use Rattle.panel_session.proofs.Quiet.{made-none, requests-same}
use Rattle.panel_session.proofs.ScansLeft.{scanned, scanned-state}
use Rattle.panel_session.specs.declared.asked.PortFrame.{PortFrame}
use Rattle.standby_pair.specs.declared.scanning.ScanMade.{ScanMade}
use Rattle.standby_pair.specs.Course.{LeavesScans, ScanPart, ends_a_scan, numbered_next}
use Rattle.standby_pair.specs.Course.{parts_of, scans_to_come}
use Rattle.standby_pair.specs.Kept.{HasNumbersFor, IsScanMade, frames_in}
use Rattle.panel_session.specs.Asked.{entries_to_come, frame_asked}
use Rattle.panel_session.specs.Asked.{frames_heard}
use Rattle.standby_pair.specs.Kept.{parts_history, scan_part, scan_parts}
use Rattle.panel_session.specs.Asked.{replies_to_come}
use Rattle.standby_pair.proofs.Courses.{OneMore, behind_scan}
use Rattle.standby_pair.proofs.Courses.{none-to-come, one-more}
use Rattle.standby_pair.proofs.OneScan.{over-made}

-- ---- frames

first-numbered : (number : ℕ) (frames : List AsciiFrame)
    → numbered_on number (take 1 frames) ≡ take 1 (numbered_on number frames)
first-numbered number [] = refl
first-numbered number (one ∷ rest) = refl

pub first-taken : (frames : List PortFrame) (many : ℕ) → many ≡ min (length frames) 1
    → take many frames ≡ take 1 frames
first-taken [] many is = either many
  where
    either : (many : ℕ) → take {A = PortFrame} many [] ≡ []
    either zero = refl
    either (suc n) = refl
first-taken (one ∷ rest) many is =
    let n : many ≡ 1 = omega (arith, is) in ap (λ (n : ℕ). take n (one ∷ rest)) n

pub first-dropped : (frames : List PortFrame) (many : ℕ) → many ≡ min (length frames) 1
    → drop many frames ≡ drop 1 frames
first-dropped [] many is = either many
  where
    either : (many : ℕ) → drop {A = PortFrame} many [] ≡ []
    either zero = refl
    either (suc n) = refl
first-dropped (one ∷ rest) many is =
    let n : many ≡ 1 = omega (arith, is) in ap (λ (n : ℕ). drop n (one ∷ rest)) n

kept-rest : (frames : List PortFrame) → frames_heard (drop 1 frames) ≡ drop 1 (frames_heard frames)
kept-rest [] = refl
kept-rest (one ∷ rest) = refl

kept-first : (frames : List PortFrame) → frames_heard (take 1 frames) ≡ take 1 (frames_heard frames)
kept-first [] = refl
kept-first (one ∷ rest) = refl

pub in-few : (last : Bool) (frames : List PortFrame) → length (frames_in last frames) ≤ length frames
in-few true frames = omega arith
in-few false [] = omega arith
in-few false (one ∷ rest) = omega arith

-- The frames behind so many, as they are kept.
pub kept-behind : (frames : List PortFrame) (many at : ℕ) → at ≡ min (length frames) many
    → frames_heard (take (length frames - at) (drop at frames)) ≡ drop many (frames_heard frames)
kept-behind frames many at is =
    let turned : at ≡ min many (length frames) = omega (arith, is) in
    ap frames_heard (take_rest frames at
    ∙ ap (λ (n : ℕ). drop n frames) turned ∙ drop_min many frames)
    ∙ sym (drop-map frame_asked many frames)

-- What stands behind a history in a longer one.
pub slice-behind : (h before after : List Entry) (at : ℕ) → at ≡ length before → h ≡ after
    → take (length h - at) (drop at h) ≡ drop (length before) after
slice-behind h before after at is same =
    take_rest h at
    ∙ ap (λ (n : ℕ). drop n h) is
    ∙ ap (drop (length before)) same

-- ---- one scan

pub goes-scanned : (v : ControllerIs) → has_ended v ≡ false → after_scan v ≡ scanned v
goes-scanned v goes =
    ap (λ (ended : Bool). grown v (if ended then [] else scan_made v.fixed (state_of v)) v.reserved)
    goes

pub over-same : (v : ControllerIs) → has_ended v ≡ true → after_scan v ≡ v
over-same v ended =
    ap (λ (ended : Bool). grown v (if ended then [] else scan_made v.fixed (state_of v)) v.reserved)
    ended
    ∙ (λ i. record {
      fixed = v.fixed;
      history = append-nil v.history i;
      reserved = v.reserved;
    })

-- The one line that a scan adds is the last.
one-line : (before lines : List (List ℕ)) → length lines ≡ 1
    → last_line (before ++ lines) ≡ concat lines
one-line before [] one = absurd (omega arith)
one-line before (line ∷ []) one = last_line-more before line ∙ sym (append-nil line)
one-line before (line ∷ other ∷ more) one = absurd (omega arith)

line-is : (v : ControllerIs) → has_ended v ≡ false
    → last_line (lines_of (scanned v))
    ≡ concat (lines_from v.fixed (state_of v) (scan_made v.fixed (state_of v)))
line-is v goes =
    let made = scan_made v.fixed (state_of v) in
    ap last_line (lines-both v.fixed (start v.fixed.plan) v.history made)
    ∙ one-line (lines_of v) (lines_from v.fixed (state_of v) made)
    (made-scan v.fixed (state_of v) (open-stop v goes)).line

module _ (v w : ControllerIs) (goes : has_ended v ≡ false) (is : w ≡ after_scan v) where
  abbrev made : List Entry
  made = scan_made v.fixed (state_of v)

  abbrev after : ControllerState
  after = state_after v.fixed (state_of v) made

  w-is : w ≡ scanned v
  w-is = is ∙ goes-scanned v goes

  pub history-is : w.history ≡ v.history ++ made
  history-is = ap (λ (u : ControllerIs). u.history) w-is

  pub fixed-is : w.fixed ≡ v.fixed
  fixed-is = ap (λ (u : ControllerIs). u.fixed) w-is

  pub made-behind : drop (length v.history) w.history ≡ made
  made-behind =
      ap (drop (length v.history)) history-is ∙ drop_at v.history made (length v.history) refl

  -- whether it is the last
  pub last-is : (left : ℕ) (stopped : Bool)
      → stopped ≡ not (list_any ends_a_scan (drop (length v.history) w.history))
      → ((left == 0) || stopped) ≡ ends_bench left after
  last-is left stopped seen =
      ap (λ (b : Bool). (left == 0) || b)
      (seen ∙ ap (λ (entries : List Entry). not (list_any ends_a_scan entries)) made-behind
      ∙ ap not (over-made v.fixed (state_of v) (open-stop v goes)).seen)

  pub same-count : request_count w.history ≡ request_count v.history
  same-count =
      ap request_count history-is
      ∙ ap length (requests-same v.history made (made-none v.fixed (state_of v)))

  -- the frames that are served in it
  pub now-is : (last : Bool) (frames : List PortFrame)
      → numbered_next w.history (frames_heard (frames_in last frames))
      ≡ frames_now last (numbered_next v.history (frames_heard frames))
  now-is true frames = ap (λ (n : ℕ). numbered_on (n + 1) (frames_heard frames)) same-count
  now-is false frames =
      ap (numbered_next w.history) (kept-first frames)
      ∙ ap (λ (n : ℕ). numbered_on (n + 1) (take 1 (frames_heard frames))) same-count
      ∙ first-numbered (request_count v.history + 1) (frames_heard frames)

  entries-are : (frames : List NumberedFrame)
      → served_entries w.fixed (state_of w) frames ≡ served_entries v.fixed after frames
  entries-are frames =
      ap (λ (u : ControllerIs). served_entries u.fixed (state_of u) frames) w-is
      ∙ ap (λ (s : ControllerState). served_entries v.fixed s frames) (scanned-state v)

  replies-are : (frames : List NumberedFrame)
      → reply_texts w.fixed (state_of w) frames ≡ reply_texts v.fixed after frames
  replies-are frames =
      ap (λ (u : ControllerIs). reply_texts u.fixed (state_of u) frames) w-is
      ∙ ap (λ (s : ControllerState). reply_texts v.fixed s frames) (scanned-state v)

  -- it was made, and its frames were served
  pub scan-is : (left : ℕ) (frames : List PortFrame) (last : Bool) (u : ControllerIs)
      (result : ScanMade) → last ≡ ends_bench left after
      → u.fixed ≡ w.fixed → u.history ≡ w.history ++ entries_to_come w (frames_in last frames)
      → result.line.items ≡ last_line (lines_of w)
      → result.entries ≡ drop (length v.history) u.history
      → result.replies.items ≡ replies_to_come w (frames_in last frames)
      → IsScanMade v left (frames_heard frames) result u
  scan-is left frames last u result last_is fixed history line entries replies =
      let frames-are = now-is last frames
      ∙ ap (λ (last : Bool). frames_now last (numbered_next v.history (frames_heard frames)))
      last_is in
      let now : List NumberedFrame =
      frames_now (ends_bench left after) (numbered_next v.history (frames_heard frames)) in
      let served : entries_to_come w (frames_in last frames) ≡ served_entries v.fixed after now =
      ap (λ (frames : List NumberedFrame). served_entries w.fixed (state_of w) frames) frames-are
      ∙ entries-are now in
      let whole : u.history ≡ v.history ++ (made ++ served_entries v.fixed after now) =
      history
      ∙ ap (λ (more : List Entry). w.history ++ more) served
      ∙ ap (λ (h : List Entry). h ++ served_entries v.fixed after now) history-is
      ∙ append_assoc v.history made (served_entries v.fixed after now) in
      let entries-is : result.entries ≡ made ++ served_entries v.fixed after now =
      entries ∙ ap (drop (length v.history)) whole
      ∙ drop_at v.history (made ++ served_entries v.fixed after now) (length v.history) refl in
      let line-as : result.line.items ≡ concat (lines_from v.fixed (state_of v) made) =
      line ∙ ap (λ (u : ControllerIs). last_line (lines_of u)) w-is ∙ line-is v goes in
      let replies-as : result.replies.items ≡ reply_texts v.fixed after now =
      replies
      ∙ ap (λ (frames : List NumberedFrame). reply_texts w.fixed (state_of w) frames) frames-are
      ∙ replies-are now in
      record {
        goes = goes;
        part = λ i. record
            { line = line-as i; entries = entries-is i; replies = replies-as i };
        fixed = fixed ∙ fixed-is;
        history = whole ∙ ap (λ (e : List Entry). v.history ++ e) (sym entries-is);
      }

-- ---- scan by scan

-- so many scans were made, and the others are to come
pub record InCourse (first : ControllerIs) (left : ℕ) (frames : List PortFrame) (v : ControllerIs)
    (made : List ScanMade) (rest : List PortFrame) (many : ℕ) : Type 0 where
  pub fixed : v.fixed ≡ first.fixed
  pub history : v.history ≡ first.history ++ parts_history (scan_parts made)
  pub leaves : LeavesScans v (left - many)
  pub count : length made ≡ many
  pub all : scan_parts made ++ parts_of (scans_to_come v (left - many) (frames_heard rest))
      ≡ parts_of (scans_to_come first left (frames_heard frames))
  pub few : HasNumbersFor v rest

pub course-begins : (first : ControllerIs) (left : ℕ) (frames : List PortFrame)
    → LeavesScans first left → HasNumbersFor first frames
    → InCourse first left frames first [] frames 0
course-begins first left frames whole few =
    let none : left ≡ left - 0 = omega arith in
    record {
      fixed = refl;
      history = sym (append-nil first.history);
      leaves = subst (LeavesScans first) none whole;
      count = refl;
      all = ap (λ (n : ℕ). parts_of (scans_to_come first n (frames_heard frames))) (sym none);
      few = few;
    }

-- One is the next where its controller differs in nothing but what it keeps for a scan.
module _ (first : ControllerIs) (left : ℕ) (frames : List PortFrame) (v : ControllerIs)
    (made : List ScanMade) (rest : List PortFrame) (many : ℕ)
    (course : InCourse first left frames v made rest many) (u : ControllerIs) (result : ScanMade)
    (behind : ℕ) (less : left - many ≡ suc behind)
    (scan : IsScanMade v behind (frames_heard rest) result u) where
  abbrev here : List AsciiFrame
  here = frames_heard rest

  one : OneMore v behind here u.reserved
  one = one-more v behind here u.reserved (subst (LeavesScans v) less course.leaves) scan.goes

  u-is : u ≡ behind_scan v behind here u.reserved
  u-is = λ i. record {
    fixed = scan.fixed i;
    history = (scan.history ∙ ap (λ (part : ScanPart). v.history ++ part.entries) scan.part) i;
    reserved = u.reserved;
  }

  next-many : left - suc many ≡ behind
  next-many = omega (arith, less)

  parts-push : scan_parts (made ++ result ∷ []) ≡ scan_parts made ++ scan_part result ∷ []
  parts-push = map-append scan_part made (result ∷ [])

  cut : (rest : List PortFrame)
      → length (take 1 (frames_heard rest)) + length (drop 1 rest) ≡ length rest
  cut [] = refl
  cut (one ∷ rest) = omega arith

  enough : HasNumbersFor u (drop 1 rest)
  enough goes =
      let had = course.few scan.goes in
      let counted : request_count u.history ≡ request_count v.history + length (take 1 here) =
      ap (λ (u : ControllerIs). request_count u.history) u-is
      ∙ one.count (subst (λ (u : ControllerIs). has_ended u ≡ false) u-is goes) in
      omega (arith, had, counted, cut rest)

  pub course-goes-on : (next : List PortFrame) (more : List ScanMade) → next ≡ drop 1 rest
      → more ≡ made ++ result ∷ [] → InCourse first left frames u more next (many + 1)
  course-goes-on next more is more_is =
      subst (λ (n : ℕ). InCourse first left frames u more next n)
      (let e : suc many ≡ many + 1 = omega arith in e)
      (subst (λ (more : List ScanMade). InCourse first left frames u more next (suc many))
      (sym more_is) (subst (λ (next : List PortFrame). InCourse first left frames u
      (made ++ result ∷ []) next (suc many)) (sym is) (record {
        fixed = scan.fixed ∙ course.fixed;
        history = scan.history
            ∙ ap (λ (h : List Entry). h ++ result.entries) course.history
            ∙ append_assoc first.history (parts_history (scan_parts made)) result.entries
            ∙ ap (λ (h : List Entry). first.history ++ (parts_history (scan_parts made) ++ h))
            (sym (append-nil result.entries))
            ∙ ap (λ (h : List Entry). first.history ++ h)
            (sym (flat_map-append (λ (part : ScanPart). part.entries) (scan_parts made)
            (scan_part result ∷ [])))
            ∙ ap (λ (parts : List ScanPart). first.history ++ parts_history parts)
            (sym parts-push);
        leaves = subst (LeavesScans u) (sym next-many)
            (subst (λ (u : ControllerIs). LeavesScans u behind) (sym u-is) one.leaves);
        count = length-append made (result ∷ []) ∙ omega (arith, course.count);
        all = ap (λ (parts : List ScanPart). parts
            ++ parts_of (scans_to_come u (left - suc many) (frames_heard (drop 1 rest)))) parts-push
            ∙ append_assoc (scan_parts made) (scan_part result ∷ []) _
            ∙ ap (λ (n : ℕ). scan_parts made ++ (scan_part result
            ∷ parts_of (scans_to_come u n (frames_heard (drop 1 rest))))) next-many
            ∙ ap (λ (frames : List AsciiFrame). scan_parts made ++ (scan_part result
            ∷ parts_of (scans_to_come u behind frames))) (kept-rest rest)
            ∙ ap (λ (u : ControllerIs). scan_parts made ++ (scan_part result
            ∷ parts_of (scans_to_come u behind (drop 1 here)))) u-is
            ∙ ap (λ (part : ScanPart). scan_parts made ++ (part ∷ parts_of (scans_to_come
            (behind_scan v behind here u.reserved) behind (drop 1 here)))) scan.part
            ∙ ap (λ (scans : List BenchScan). scan_parts made ++ parts_of scans) (sym one.is)
            ∙ ap (λ (n : ℕ). scan_parts made ++ parts_of (scans_to_come v n here)) (sym less)
            ∙ course.all;
        few = enough;
      })))

-- Where so many were made as were asked, they are the first of all.
pub course-full : (first : ControllerIs) (left : ℕ) (frames : List PortFrame) (v : ControllerIs)
    (made : List ScanMade) (rest : List PortFrame) (many : ℕ)
    → InCourse first left frames v made rest many
    → scan_parts made ≡ take many (parts_of (scans_to_come first left (frames_heard frames)))
course-full first left frames v made rest many course =
    sym (take_at (scan_parts made)
    (parts_of (scans_to_come v (left - many) (frames_heard rest))) many
    (length-map made scan_part ∙ course.count))
    ∙ ap (take many) course.all

-- Where none is left, they are all.
pub course-over : (first : ControllerIs) (left : ℕ) (frames : List PortFrame) (v : ControllerIs)
    (made : List ScanMade) (rest : List PortFrame) (many most : ℕ)
    → InCourse first left frames v made rest many → many ≤ most → has_ended v ≡ true
    → scan_parts made ≡ take most (parts_of (scans_to_come first left (frames_heard frames)))
course-over first left frames v made rest many most course within ended =
    let none : parts_of (scans_to_come v (left - many) (frames_heard rest)) ≡ [] =
    ap parts_of (none-to-come v (left - many) (frames_heard rest) course.leaves ended) in
    let all : scan_parts made ≡ parts_of (scans_to_come first left (frames_heard frames)) =
    sym (append-nil (scan_parts made))
    ∙ ap (λ (parts : List ScanPart). scan_parts made ++ parts) (sym none)
    ∙ course.all in
    all
    ∙ sym (take_all most (parts_of (scans_to_come first left (frames_heard frames)))
    (let count = length-map made scan_part in
    omega (arith, ap length all, count, course.count, within)))
