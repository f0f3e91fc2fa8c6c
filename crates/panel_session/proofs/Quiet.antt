-- Entries that take no request, and entries that are of no scan.
use Rattle.std.proofs.Common.{◌≡◌, ℕ, ◌+◌, ◌==◌, Bool, true, false, List, [], ◌∷◌, ◌++◌, map}
use Rattle.std.proofs.Common.{Option, Some, None, refl, ap, ◌∙◌, append-nil, length, length-append}
use Rattle.std.proofs.Common.{arith}
use Rattle.std.specs.Prelude.{if◌then◌else◌}
use Rattle.std.specs.List.{AllByRecursion, cons_option}
use Rattle.std.proofs.lemmas.List.Elements.{filter_map-append}
use Rattle.mstr_block.specs.Table.{has_untaken}
use Rattle.mstr_block.specs.declared.call.CallId.{CallId}
use Rattle.scan_order.specs.declared.due.ScanStep.{ScanStep}
use Rattle.scan_order.specs.Due.{due}
use Rattle.controller_core.specs.declared.call.Call.{Call}
use Rattle.controller_core.specs.declared.entry.Entry.{Entry}
use Rattle.controller_core.specs.declared.entry.Entry.TheVariants as entries
use Rattle.controller_core.specs.declared.entry.Maker.TheVariants.{Communication, Scan}
use Rattle.controller_core.specs.declared.fixed.Fixed.{Fixed}
use Rattle.controller_core.specs.Calls.{calls_of}
use Rattle.controller_core.specs.Controller.{AreOf, ControllerIs, answering, state_of}
use Rattle.controller_core.specs.Event.{entry_of, maker_of, peer_entry, reply_in, scan_steps}
use Rattle.controller_core.specs.Panel.{line_of_step, lines_from}
use Rattle.controller_core.specs.Replay.{ControllerState, apply, table_of}
use Rattle.controller_core.specs.Run.{entries_from}
use Rattle.controller_core.proofs.Keeping.{maker_of_made, told_entry}
use Rattle.panel_session.specs.Scanning.{calls_ended, nobody_there, scan_due, scan_made}
use Rattle.panel_session.specs.Serving.{NamedRequest, NumberedFrame, frame_request, request_count}
use Rattle.panel_session.specs.Serving.{request_taken, requests_taken, served_entries}
use Rattle.panel_session.specs.Serving.{served_entry}
use Rattle.panel_session.specs.Session.{state_after}

-- ---- entries that take no request

abbrev AreQuiet : List Entry → Type 0
AreQuiet added = AllByRecursion (λ (entry : Entry). request_taken entry ≡ None) added

-- An end of a call, or of its collection.
abbrev IsEnd : Entry → Type 0
IsEnd entry = (maker_of entry ≡ Communication) × (request_taken entry ≡ None)

abbrev pub AreEnds : List Entry → Type 0
AreEnds added = AllByRecursion IsEnd added

requests-none : (added : List Entry) → AreQuiet added → requests_taken added ≡ []
requests-none [] quiet = refl
requests-none (entry ∷ added) quiet =
    ap (λ (taken : Option NamedRequest). cons_option taken (requests_taken added)) quiet.0
    ∙ requests-none added quiet.1

-- A history has taken the requests of its parts.
pub requests-both : (front rest : List Entry)
    → requests_taken (front ++ rest) ≡ requests_taken front ++ requests_taken rest
requests-both front rest = filter_map-append request_taken front rest

-- Quiet entries leave the requests.
pub requests-same : (history added : List Entry) → requests_taken added ≡ []
    → requests_taken (history ++ added) ≡ requests_taken history
requests-same history added none =
    requests-both history added
    ∙ ap (λ (more : List NamedRequest). requests_taken history ++ more) none
    ∙ append-nil (requests_taken history)

of-scan : (entry : Entry) → maker_of entry ≡ Scan → request_taken entry ≡ None
of-scan entries.Begin of = refl
of-scan (entries.Input row) of = refl
of-scan (entries.Solve row) of = refl
of-scan (entries.Output row words) of = refl
of-scan entries.End of = refl
of-scan entries.Fail of = refl
of-scan entries.Dark of = refl
of-scan (entries.Collect calls) of = refl
of-scan (entries.Peer id request reply) of = absurd cc
of-scan (entries.Off id request) of = absurd cc
of-scan (entries.Finish id result) of = refl

quiet-if : (goes : Bool) (added : List Entry) → requests_taken added ≡ []
    → requests_taken (if goes then added else []) ≡ []
quiet-if true added none = none
quiet-if false added none = refl

scan-quiet : (fixed : Fixed) (s : ControllerState) (steps : List ScanStep)
    → requests_taken (entries_from fixed s steps) ≡ []
unfolding entries_from
scan-quiet fixed s [] = refl
scan-quiet fixed s (step ∷ steps) =
    let entry = entry_of fixed s step in
    let rest = entries_from fixed (apply fixed s entry) steps in
    quiet-if (s.stop == 0) (entry ∷ rest)
    (ap (λ (taken : Option NamedRequest). cons_option taken (requests_taken rest))
    (of-scan entry (maker_of_made fixed s step))
    ∙ scan-quiet fixed (apply fixed s entry) steps)

ends-quiet : (added : List Entry) → AreEnds added → AreQuiet added
ends-quiet [] ends = tt
ends-quiet (entry ∷ added) ends = (ends.0.1, ends-quiet added ends.1)

-- Ends of calls take no request, and are of no scan.
pub ends-none : (added : List Entry) → AreEnds added → requests_taken added ≡ []
ends-none added ends = requests-none added (ends-quiet added ends)

pub ends-of : (added : List Entry) → AreEnds added → AreOf Communication added
ends-of [] ends = tt
ends-of (entry ∷ added) ends = (ends.0.0, ends-of added ends.1)

pub ends-front : (front rest : List Entry) → AreEnds (front ++ rest) → AreEnds front
ends-front [] rest ends = tt
ends-front (entry ∷ front) rest ends = (ends.0, ends-front front rest ends.1)

nobody-ends : (calls : List Call) → AreEnds (map nobody_there calls)
nobody-ends [] = tt
nobody-ends (call ∷ calls) = ((refl, refl), nobody-ends calls)

pub given-ends : (s : ControllerState) → AreEnds (calls_ended s)
given-ends s = either (has_untaken (table_of s)) (calls_of (table_of s))
  where
    either : (there : Bool) (calls : List Call)
        → AreEnds (if there then entries.Collect calls ∷ map nobody_there calls else [])
    either true calls = ((refl, refl), nobody-ends calls)
    either false calls = tt

-- A scan takes no request, whatever calls end behind it.
pub due-none : (fixed : Fixed) (s : ControllerState) → requests_taken (scan_due fixed s) ≡ []
due-none fixed s = scan-quiet fixed s (due fixed.plan (s.gone + 1))

pub made-none : (fixed : Fixed) (s : ControllerState) → requests_taken (scan_made fixed s) ≡ []
made-none fixed s =
    let events = scan_due fixed s in
    let ends = calls_ended (state_after fixed s events) in
    requests-same events ends (ends-none ends (given-ends (state_after fixed s events)))
    ∙ due-none fixed s

-- ---- frames that are served

-- The entry of a request takes it, answered or not.
takes-request : (id : CallId) (request : List ℕ) (reply : Option (List ℕ))
    → request_taken (peer_entry id request reply)
    ≡ Some (record { id = id; request = request })
takes-request id request None = refl
takes-request id request (Some reply) = refl

-- One request more.
pub requests-more : (v : ControllerIs) (id : CallId) (request : List ℕ)
    → request_count (answering v id request).history ≡ request_count v.history + 1
requests-more v id request =
    let entry = peer_entry id request (reply_in (state_of v) request) in
    let one : List NamedRequest = record { id = id; request = request } ∷ [] in
    let more : requests_taken (v.history ++ entry ∷ []) ≡ requests_taken v.history ++ one =
    requests-both v.history (entry ∷ [])
    ∙ ap (λ (taken : Option NamedRequest). requests_taken v.history ++ cons_option taken [])
    (takes-request id request (reply_in (state_of v) request)) in
    omega (arith, ap length more, length-append (requests_taken v.history) one)

-- Frames that are served take their requests.
pub served-requests : (fixed : Fixed) (s : ControllerState) (frames : List NumberedFrame)
    → requests_taken (served_entries fixed s frames) ≡ map frame_request frames
unfolding served_entries
served-requests fixed s [] = refl
served-requests fixed s (asked ∷ rest) =
    let after = apply fixed s (served_entry s asked) in
    ap (λ (taken : Option NamedRequest). cons_option taken
    (requests_taken (served_entries fixed after rest)))
    (takes-request (frame_request asked).id asked.frame.pdu (reply_in s asked.frame.pdu))
    ∙ ap (λ (more : List NamedRequest). frame_request asked ∷ more)
    (served-requests fixed after rest)

pub peer-of : (id : CallId) (request : List ℕ) (reply : Option (List ℕ))
    → maker_of (peer_entry id request reply) ≡ Communication
peer-of id request None = refl
peer-of id request (Some reply) = refl

pub served-of : (fixed : Fixed) (s : ControllerState) (frames : List NumberedFrame)
    → AreOf Communication (served_entries fixed s frames)
unfolding served_entries
served-of fixed s [] = tt
served-of fixed s (asked ∷ rest) = (
  peer-of (frame_request asked).id asked.frame.pdu (reply_in s asked.frame.pdu),
  served-of fixed (apply fixed s (served_entry s asked)) rest,
)

-- ---- entries that are of no scan

-- They have no line and no step of a scan, no scan is gone by them, and nothing stops.
pub record LeavesScan (fixed : Fixed) (s : ControllerState) (added : List Entry) : Type 0 where
  pub lines : lines_from fixed s added ≡ []
  pub steps : scan_steps added ≡ []
  pub stop : (state_after fixed s added).stop ≡ s.stop
  pub gone : (state_after fixed s added).gone ≡ s.gone

pub leaves : (fixed : Fixed) (s : ControllerState) (added : List Entry)
    → AreOf Communication added → LeavesScan fixed s added
unfolding lines_from
leaves fixed s [] of = record { lines = refl; steps = refl; stop = refl; gone = refl }
leaves fixed s (entry ∷ added) of =
    let told = told_entry entry of.0 in
    let after = apply fixed s entry in
    let rest = leaves fixed after added of.1 in
    record {
      lines = ap (λ (step : Option ScanStep). line_of_step fixed.plan step after
          ++ lines_from fixed after added) told.step
          ∙ rest.lines;
      steps = ap (λ (step : Option ScanStep). cons_option step (scan_steps added)) told.step
          ∙ rest.steps;
      stop = rest.stop ∙ told.stop fixed s;
      gone = rest.gone ∙ told.gone fixed s;
    }
