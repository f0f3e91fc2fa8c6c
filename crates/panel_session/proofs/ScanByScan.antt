-- What a session has made, scan by scan, and what is to come.
use Rattle.std.proofs.Common.{◌≡◌, ℕ, zero, suc, ◌+◌, ◌≤◌, ◌==◌, Bool, true, false, ◌||◌, not}
use Rattle.std.proofs.Common.{List, [], ◌∷◌, ◌++◌, length, drop, take, map, refl, sym, ap, ◌∙◌}
use Rattle.std.proofs.Common.{append_assoc, append-nil, length-append, arith}
use Rattle.std.specs.Prelude.{if◌then◌else◌}
use Rattle.std.specs.List.{concat}
use Rattle.std.proofs.lemmas.List.{length-map}
use Rattle.controller_core.specs.declared.entry.Entry.{Entry}
use Rattle.controller_core.specs.declared.fixed.Fixed.{Fixed}
use Rattle.controller_core.specs.Panel.{lines_from}
use Rattle.controller_core.specs.Replay.{ControllerState, apply, start}
use Rattle.panel_session.specs.Asked.{frame_asked, next_frames}
use Rattle.panel_session.specs.Scanning.{scan_made}
use Rattle.panel_session.specs.Serving.{NamedRequest, NumberedFrame, frame_request}
use Rattle.panel_session.specs.Serving.{numbered_frames, reply_texts, request_count}
use Rattle.panel_session.specs.Serving.{requests_taken, served_entries, reply_text, served_entry}
use Rattle.panel_session.specs.Serving.{numbered_on}
use Rattle.panel_session.specs.Session.{bench_history, bench_scans, ends_bench, frames_now}
use Rattle.panel_session.specs.Session.{scan_histories, scan_texts, state_after}
use Rattle.panel_session.specs.declared.asked.PortFrame.{PortFrame}
use Rattle.panel_session.proofs.Quiet.{leaves, made-none, requests-both, requests-same, served-of}
use Rattle.panel_session.proofs.Quiet.{served-requests}

-- ---- the first of some frames, and the others

entries-cut : (fixed : Fixed) (s : ControllerState) (frames : List NumberedFrame)
    → let now = served_entries fixed s (take 1 frames) in
    served_entries fixed s frames
    ≡ now ++ served_entries fixed (state_after fixed s now) (drop 1 frames)
unfolding served_entries
entries-cut fixed s [] = refl
entries-cut fixed s (asked ∷ rest) = refl

replies-cut : (fixed : Fixed) (s : ControllerState) (frames : List NumberedFrame)
    → let now = served_entries fixed s (take 1 frames) in
    reply_texts fixed s frames
    ≡ reply_texts fixed s (take 1 frames)
    ++ reply_texts fixed (state_after fixed s now) (drop 1 frames)
unfolding served_entries reply_texts
replies-cut fixed s [] = refl
replies-cut fixed s (asked ∷ rest) =
    ap (λ (texts : List ℕ). texts ++ reply_texts fixed (apply fixed s (served_entry s asked)) rest)
    (sym (append-nil (reply_text fixed.plan.node s asked.frame)))

first-numbered : (number : ℕ) (asked : List PortFrame)
    → numbered_on number (map frame_asked (take 1 asked))
    ≡ take 1 (numbered_on number (map frame_asked asked))
first-numbered number [] = refl
first-numbered number (one ∷ rest) = refl

rest-numbered : (number next : ℕ) (asked : List PortFrame) → next ≡ number + length (take 1 asked)
    → numbered_on next (map frame_asked (drop 1 asked))
    ≡ drop 1 (numbered_on number (map frame_asked asked))
rest-numbered number next [] is = refl
rest-numbered number next (one ∷ rest) is =
    ap (λ (number : ℕ). numbered_on number (map frame_asked rest)) is

-- The next frames are the same behind entries that take no request.
pub next-first : (history added : List Entry) (asked : List PortFrame) → requests_taken added ≡ []
    → next_frames (history ++ added) (take 1 asked) ≡ take 1 (next_frames history asked)
next-first history added asked none =
    ap (λ (taken : List NamedRequest). numbered_on (length taken + 1)
    (map frame_asked (take 1 asked))) (requests-same history added none)
    ∙ first-numbered (request_count history + 1) asked

first-many : (number : ℕ) (asked : List PortFrame)
    → length (take 1 (numbered_on number (map frame_asked asked))) ≡ length (take 1 asked)
first-many number [] = refl
first-many number (one ∷ rest) = refl

-- Behind the first of them so many requests were taken.
pub first-counted : (fixed : Fixed) (s : ControllerState) (history added : List Entry)
    (asked : List PortFrame) → requests_taken added ≡ []
    → request_count ((history ++ added)
    ++ served_entries fixed s (take 1 (next_frames history asked)))
    ≡ request_count history + length (take 1 asked)
first-counted fixed s history added asked none =
    let first = take 1 (next_frames history asked) in
    let now = served_entries fixed s first in
    ap length (requests-both (history ++ added) now)
    ∙ length-append (requests_taken (history ++ added)) (requests_taken now)
    ∙ ap (λ (taken : List NamedRequest). length taken + length (requests_taken now))
    (requests-same history added none)
    ∙ ap (λ (n : ℕ). request_count history + n)
    (ap length (served-requests fixed s first) ∙ length-map first frame_request
    ∙ first-many (request_count history + 1) asked)

pub next-rest : (fixed : Fixed) (s : ControllerState) (history added : List Entry)
    (asked : List PortFrame) → requests_taken added ≡ []
    → next_frames ((history ++ added)
    ++ served_entries fixed s (take 1 (next_frames history asked))) (drop 1 asked)
    ≡ drop 1 (next_frames history asked)
next-rest fixed s history added asked none =
    let count = first-counted fixed s history added asked none in
    rest-numbered (request_count history + 1) _ asked (omega (arith, count))

-- ---- what is to come

-- The entries and the text that a session has still to make, from a state on.
abbrev pub entries_left : Fixed → ControllerState → ℕ → List NumberedFrame → List Entry
entries_left fixed s left frames =
    if ends_bench left s then served_entries fixed s frames
    else scan_histories (bench_scans fixed s left frames)

abbrev pub text_left : Fixed → ControllerState → ℕ → List NumberedFrame → List ℕ
text_left fixed s left frames =
    if ends_bench left s then reply_texts fixed s frames
    else scan_texts (bench_scans fixed s left frames)

pub not-last : (s : ControllerState) (left : ℕ) → 1 ≤ left → s.stop ≡ 0
    → ends_bench left s ≡ false
not-last s left some goes = grind (arith, some, goes)

-- Frames that are served stop nothing.
same-end : (fixed : Fixed) (s : ControllerState) (left : ℕ) (frames : List NumberedFrame)
    → ends_bench left (state_after fixed s (served_entries fixed s frames)) ≡ ends_bench left s
same-end fixed s left frames =
    ap (λ (stop : ℕ). (left == 0) || not (stop == 0))
    (leaves fixed s (served_entries fixed s frames) (served-of fixed s frames)).stop

-- A scan makes its entries, its first frame is served, and the rest is to come.
pub entries-scan : (fixed : Fixed) (s : ControllerState) (left : ℕ) (frames : List NumberedFrame)
    → s.stop ≡ 0
    → let made = scan_made fixed s in
    let after = state_after fixed s made in
    let now = served_entries fixed after (take 1 frames) in
    entries_left fixed s (suc left) frames
    ≡ made ++ (now ++ entries_left fixed (state_after fixed after now) left (drop 1 frames))
unfolding bench_scans
entries-scan fixed s left frames goes =
    ap (λ (last : Bool). if last then served_entries fixed s frames
    else scan_histories (bench_scans fixed s (suc left) frames))
    (not-last s (suc left) (omega arith) goes)
    ∙ either (ends_bench left after)
    ∙ ap (λ (last : Bool). made ++ (now ++ (if last
    then served_entries fixed behind (drop 1 frames)
    else scan_histories (bench_scans fixed behind left (drop 1 frames)))))
    (sym (same-end fixed after left (take 1 frames)))
  where
    made : List Entry
    made = scan_made fixed s

    after : ControllerState
    after = state_after fixed s made

    now : List Entry
    now = served_entries fixed after (take 1 frames)

    behind : ControllerState
    behind = state_after fixed after now

    either : (last : Bool) → (made ++ served_entries fixed after (frames_now last frames))
        ++ scan_histories (if last then [] else bench_scans fixed
        (state_after fixed after (served_entries fixed after (frames_now last frames))) left
        (drop 1 frames))
        ≡ made ++ (now ++ (if last then served_entries fixed behind (drop 1 frames)
        else scan_histories (bench_scans fixed behind left (drop 1 frames))))
    either true =
        append-nil (made ++ served_entries fixed after frames)
        ∙ ap (λ (entries : List Entry). made ++ entries) (entries-cut fixed after frames)
    either false = append_assoc made now _

-- The same of its line and the reply.
pub text-scan : (fixed : Fixed) (s : ControllerState) (left : ℕ) (frames : List NumberedFrame)
    → s.stop ≡ 0
    → let made = scan_made fixed s in
    let after = state_after fixed s made in
    let now = served_entries fixed after (take 1 frames) in
    text_left fixed s (suc left) frames
    ≡ concat (lines_from fixed s made) ++ (reply_texts fixed after (take 1 frames)
    ++ text_left fixed (state_after fixed after now) left (drop 1 frames))
unfolding bench_scans
text-scan fixed s left frames goes =
    ap (λ (last : Bool). if last then reply_texts fixed s frames
    else scan_texts (bench_scans fixed s (suc left) frames))
    (not-last s (suc left) (omega arith) goes)
    ∙ either (ends_bench left after)
    ∙ ap (λ (last : Bool). line ++ (reply_texts fixed after (take 1 frames) ++ (if last
    then reply_texts fixed behind (drop 1 frames)
    else scan_texts (bench_scans fixed behind left (drop 1 frames)))))
    (sym (same-end fixed after left (take 1 frames)))
  where
    line : List ℕ
    line = concat (lines_from fixed s (scan_made fixed s))

    after : ControllerState
    after = state_after fixed s (scan_made fixed s)

    behind : ControllerState
    behind = state_after fixed after (served_entries fixed after (take 1 frames))

    either : (last : Bool) → (line ++ reply_texts fixed after (frames_now last frames))
        ++ scan_texts (if last then [] else bench_scans fixed
        (state_after fixed after (served_entries fixed after (frames_now last frames))) left
        (drop 1 frames))
        ≡ line ++ (reply_texts fixed after (take 1 frames)
        ++ (if last then reply_texts fixed behind (drop 1 frames)
        else scan_texts (bench_scans fixed behind left (drop 1 frames))))
    either true =
        append-nil (line ++ reply_texts fixed after frames)
        ∙ ap (λ (texts : List ℕ). line ++ texts) (replies-cut fixed after frames)
    either false = append_assoc line (reply_texts fixed after (take 1 frames)) _

-- ---- each frame is served once

requests-cut : (frames : List NumberedFrame)
    → map frame_request (take 1 frames) ++ map frame_request (drop 1 frames)
    ≡ map frame_request frames
requests-cut [] = refl
requests-cut (asked ∷ rest) = refl

-- The requests of one scan, with those of the scans behind it.
scan-requests : (fixed : Fixed) (s after : ControllerState) (frames : List NumberedFrame)
    (more : List Entry)
    → requests_taken ((scan_made fixed s ++ served_entries fixed after frames) ++ more)
    ≡ map frame_request frames ++ requests_taken more
scan-requests fixed s after frames more =
    let made = scan_made fixed s in
    let now = served_entries fixed after frames in
    requests-both (made ++ now) more
    ∙ ap (λ (taken : List NamedRequest). taken ++ requests_taken more)
    (requests-both made now
    ∙ ap (λ (taken : List NamedRequest). taken ++ requests_taken now) (made-none fixed s)
    ∙ served-requests fixed after frames)

once-from : (fixed : Fixed) (s : ControllerState) (left : ℕ) (frames : List NumberedFrame)
    → requests_taken (scan_histories (bench_scans fixed s (suc left) frames))
    ≡ map frame_request frames
unfolding bench_scans
once-from fixed s zero frames =
    scan-requests fixed s (state_after fixed s (scan_made fixed s)) frames []
    ∙ append-nil (map frame_request frames)
once-from fixed s (suc left) frames =
    either (ends_bench (suc left) after) (once-from fixed behind left (drop 1 frames))
  where
    after : ControllerState
    after = state_after fixed s (scan_made fixed s)

    behind : ControllerState
    behind = state_after fixed after (served_entries fixed after (take 1 frames))

    either : (last : Bool)
        → requests_taken (scan_histories (bench_scans fixed behind (suc left) (drop 1 frames)))
        ≡ map frame_request (drop 1 frames)
        → requests_taken ((scan_made fixed s
        ++ served_entries fixed after (frames_now last frames))
        ++ scan_histories (if last then [] else bench_scans fixed
        (state_after fixed after (served_entries fixed after (frames_now last frames)))
        (suc left) (drop 1 frames)))
        ≡ map frame_request frames
    either true more =
        scan-requests fixed s after frames [] ∙ append-nil (map frame_request frames)
    either false more =
        scan-requests fixed s after (take 1 frames) _
        ∙ ap (λ (taken : List NamedRequest). map frame_request (take 1 frames) ++ taken) more
        ∙ requests-cut frames

pub each-once : (fixed : Fixed) (stream : List ℕ) (scans : ℕ) → fixed.scans ≡ suc scans
    → requests_taken (bench_history fixed stream)
    ≡ map frame_request (numbered_frames fixed.plan.node stream)
each-once fixed stream scans is =
    let frames = numbered_frames fixed.plan.node stream in
    ap (λ (scans : ℕ). requests_taken (scan_histories
    (bench_scans fixed (start fixed.plan) scans frames))) is
    ∙ once-from fixed (start fixed.plan) scans frames
