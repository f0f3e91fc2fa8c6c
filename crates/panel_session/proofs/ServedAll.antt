-- Frames that are served one after another.
use Rattle.std.proofs.Common.{◌≡◌, ℕ, ◌+◌, ◌<◌, ◌≤◌, List, [], ◌∷◌, ◌++◌, length, drop, get_or}
use Rattle.std.proofs.Common.{map, refl, sym, ap, subst, ◌∙◌, append_assoc, append-nil, arith}
use Rattle.std.proofs.Math.ListN.{drop_of_length-le}
use Rattle.std.proofs.lemmas.List.{drop_more}
use Rattle.controller_core.specs.declared.entry.Entry.{Entry}
use Rattle.controller_core.specs.declared.fixed.Fixed.{Fixed}
use Rattle.controller_core.specs.Controller.{ControllerIs, answering, state_of}
use Rattle.controller_core.specs.Replay.{ControllerState, apply, start}
use Rattle.controller_core.proofs.Keeping.{replay_more}
use Rattle.panel_session.specs.Asked.{entries_to_come, frame_asked, next_frames, replies_to_come}
use Rattle.panel_session.specs.Serving.{NumberedFrame, frame_id, reply_text, reply_texts}
use Rattle.panel_session.specs.Serving.{request_count, served_entries, served_entry, numbered_on}
use Rattle.panel_session.specs.declared.asked.PortFrame.{PortFrame}
use Rattle.panel_session.proofs.Quiet.{requests-more}

-- So many frames were served, and the others are to come.
pub record HasServed (first v : ControllerIs) (before text : List ℕ) (asked : List PortFrame)
    (count : ℕ) : Type 0 where
  pub fixed : v.fixed ≡ first.fixed
  pub requests : request_count v.history ≡ request_count first.history + count
  pub history : v.history ++ entries_to_come v (drop count asked)
      ≡ first.history ++ entries_to_come first asked
  pub replies : text ++ replies_to_come v (drop count asked)
      ≡ before ++ replies_to_come first asked

-- The first of the frames that are to come is served.
entries-first : (fixed : Fixed) (s : ControllerState) (asked : NumberedFrame)
    (rest : List NumberedFrame)
    → served_entries fixed s (asked ∷ rest)
    ≡ served_entry s asked ∷ served_entries fixed (apply fixed s (served_entry s asked)) rest
unfolding served_entries
entries-first fixed s asked rest = refl

texts-first : (fixed : Fixed) (s : ControllerState) (asked : NumberedFrame)
    (rest : List NumberedFrame)
    → reply_texts fixed s (asked ∷ rest)
    ≡ reply_text fixed.plan.node s asked.frame
    ++ reply_texts fixed (apply fixed s (served_entry s asked)) rest
unfolding reply_texts
texts-first fixed s asked rest = refl

-- The frames behind it are to come where it was served.
served-state : (v : ControllerIs) (asked : NumberedFrame)
    → state_of (answering v (frame_id asked.number) asked.frame.pdu)
    ≡ apply v.fixed (state_of v) (served_entry (state_of v) asked)
served-state v asked =
    replay_more v.fixed (start v.fixed.plan) v.history (served_entry (state_of v) asked)

-- The next frame, with its number.
abbrev next_frame : ControllerIs → PortFrame → NumberedFrame
next_frame v one = record { number = request_count v.history + 1; frame = frame_asked one }

-- Those behind it have the next numbers.
next-rest : (v : ControllerIs) (one : PortFrame) (rest : List PortFrame)
    → next_frames (answering v (frame_id (request_count v.history + 1)) one.pdu).history rest
    ≡ numbered_on (request_count v.history + 1 + 1) (map frame_asked rest)
next-rest v one rest =
    ap (λ (count : ℕ). numbered_on (count + 1) (map frame_asked rest))
    (requests-more v (frame_id (request_count v.history + 1)) one.pdu)

entries-step : (v : ControllerIs) (one : PortFrame) (rest : List PortFrame)
    → let w = answering v (frame_id (request_count v.history + 1)) one.pdu in
    w.history ++ entries_to_come w rest ≡ v.history ++ entries_to_come v (one ∷ rest)
entries-step v one rest =
    let asked = next_frame v one in
    let w = answering v (frame_id (request_count v.history + 1)) one.pdu in
    let entry = served_entry (state_of v) asked in
    append_assoc v.history (entry ∷ []) _
    ∙ ap (λ (s : ControllerState). v.history
    ++ (entry ∷ served_entries v.fixed s (next_frames w.history rest)))
    (served-state v asked)
    ∙ ap (λ (frames : List NumberedFrame). v.history
    ++ (entry ∷ served_entries v.fixed (apply v.fixed (state_of v) entry) frames))
    (next-rest v one rest)
    ∙ ap (λ (entries : List Entry). v.history ++ entries)
    (sym (entries-first v.fixed (state_of v) asked _))

texts-step : (v : ControllerIs) (one : PortFrame) (rest : List PortFrame)
    → let w = answering v (frame_id (request_count v.history + 1)) one.pdu in
    reply_text v.fixed.plan.node (state_of v) (frame_asked one) ++ replies_to_come w rest
    ≡ replies_to_come v (one ∷ rest)
texts-step v one rest =
    let asked = next_frame v one in
    let w = answering v (frame_id (request_count v.history + 1)) one.pdu in
    let this = reply_text v.fixed.plan.node (state_of v) (frame_asked one) in
    ap (λ (s : ControllerState). this ++ reply_texts v.fixed s (next_frames w.history rest))
    (served-state v asked)
    ∙ ap (λ (frames : List NumberedFrame). this
    ++ reply_texts v.fixed (apply v.fixed (state_of v) (served_entry (state_of v) asked)) frames)
    (next-rest v one rest)
    ∙ sym (texts-first v.fixed (state_of v) asked _)

pub serving-begins : (first : ControllerIs) (before : List ℕ) (asked : List PortFrame)
    → HasServed first first before before asked 0
serving-begins first before asked = record {
  fixed = refl;
  requests = omega arith;
  history = refl;
  replies = refl;
}

pub serving-goes-on : (first v w : ControllerIs) (node : ℕ) (before text more : List ℕ)
    (asked : List PortFrame) (count : ℕ) (one : PortFrame) → first.fixed.plan.node ≡ node
    → HasServed first v before text asked count → count < length asked
    → one ≡ get_or asked count one
    → w ≡ answering v (frame_id (request_count v.history + 1)) one.pdu
    → more ≡ text ++ reply_text node (state_of v) (frame_asked one)
    → HasServed first w before more asked (count + 1)
serving-goes-on first v w node before text more asked count one own serving within is answers
    added =
    let rest = drop (count + 1) asked in
    let next : drop count asked ≡ one ∷ rest =
    drop_more asked count one within ∙ ap (λ (one : PortFrame). one ∷ rest) (sym is) in
    let same : v.fixed.plan.node ≡ node =
    ap (λ (fixed : Fixed). fixed.plan.node) serving.fixed ∙ own in
    subst (λ (w : ControllerIs). HasServed first w before more asked (count + 1)) (sym answers)
    (record {
      fixed = serving.fixed;
      requests =
          let one_more = requests-more v (frame_id (request_count v.history + 1)) one.pdu in
          omega (arith, one_more, serving.requests);
      history = entries-step v one rest
          ∙ ap (λ (asked : List PortFrame). v.history ++ entries_to_come v asked) (sym next)
          ∙ serving.history;
      replies = ap (λ (more : List ℕ). more ++ replies_to_come
          (answering v (frame_id (request_count v.history + 1)) one.pdu) rest) added
          ∙ append_assoc text (reply_text node (state_of v) (frame_asked one)) _
          ∙ ap (λ (node : ℕ). text ++ (reply_text node (state_of v) (frame_asked one)
          ++ replies_to_come (answering v (frame_id (request_count v.history + 1)) one.pdu) rest))
          (sym same)
          ∙ ap (λ (texts : List ℕ). text ++ texts) (texts-step v one rest)
          ∙ ap (λ (asked : List PortFrame). text ++ replies_to_come v asked) (sym next)
          ∙ serving.replies;
    })

-- Where none is left, all were served.
no_entries : (v : ControllerIs) → entries_to_come v [] ≡ []
unfolding served_entries
no_entries v = refl

no_replies : (v : ControllerIs) → replies_to_come v [] ≡ []
unfolding reply_texts
no_replies v = refl

pub served-history : (first v : ControllerIs) (before text : List ℕ) (asked : List PortFrame)
    (count : ℕ) → HasServed first v before text asked count → length asked ≤ count
    → v.history ≡ first.history ++ entries_to_come first asked
served-history first v before text asked count serving all =
    sym (append-nil v.history)
    ∙ ap (λ (entries : List Entry). v.history ++ entries) (sym (no_entries v))
    ∙ ap (λ (asked : List PortFrame). v.history ++ entries_to_come v asked)
    (sym (drop_of_length-le asked {i = count} all))
    ∙ serving.history

pub served-replies : (first v : ControllerIs) (before text : List ℕ) (asked : List PortFrame)
    (count : ℕ) → HasServed first v before text asked count → length asked ≤ count
    → text ≡ before ++ replies_to_come first asked
served-replies first v before text asked count serving all =
    sym (append-nil text)
    ∙ ap (λ (texts : List ℕ). text ++ texts) (sym (no_replies v))
    ∙ ap (λ (asked : List PortFrame). text ++ replies_to_come v asked)
    (sym (drop_of_length-le asked {i = count} all))
    ∙ serving.replies
