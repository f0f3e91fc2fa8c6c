-- Frames that a controller on a bench serves. All of it is this project's own.
use Rattle.std.specs.Prelude.{ℕ, ◌+◌, Bool, ◌||◌, ◌==◌, if◌then◌else◌, List, [], ◌∷◌, ◌++◌, filter}
use Rattle.std.specs.Prelude.{length, is_some, Option, Some, None}
use Rattle.std.specs.List.{filter_map}
use Rattle.mstr_block.specs.declared.call.CallId.{CallId}
use Rattle.ascii_port.specs.Frames.{AsciiFrame, frame_text, frames}
use Rattle.controller_core.specs.declared.fixed.Fixed.{Fixed}
use Rattle.controller_core.specs.declared.entry.Entry.{Entry}
use Rattle.controller_core.specs.declared.entry.Entry.TheVariants as entries
use Rattle.controller_core.specs.Controller.{ControllerIs, answering}
use Rattle.controller_core.specs.Event.{peer_entry, reply_in}
use Rattle.controller_core.specs.Replay.{ControllerState, apply}

-- A frame is for a node where it has its address, or 0, which is that of all.
abbrev pub is_for : ℕ → AsciiFrame → Bool
is_for node frame = (frame.address == node) || (frame.address == 0)

-- The frames on a stream that are for a node, in their order.
abbrev pub frames_for : ℕ → List ℕ → List AsciiFrame
frames_for node stream = filter (is_for node) (frames stream)

-- A frame with its number.
pub record NumberedFrame : Type 0 where
  pub number : ℕ
  pub frame : AsciiFrame

-- Frames with their numbers, from one on.
abbrev pub numbered_on : ℕ → List AsciiFrame → List NumberedFrame
numbered_on number [] = []
numbered_on number (frame ∷ rest) =
    record { number = number; frame = frame } ∷ numbered_on (number + 1) rest

-- The frames on a stream that are for a node are numbered from 1.
abbrev pub numbered_frames : ℕ → List ℕ → List NumberedFrame
numbered_frames node stream = numbered_on 1 (frames_for node stream)

-- A request of another station, by its name.
pub record NamedRequest : Type 0 where
  pub id : CallId
  pub request : List ℕ

-- The request that an entry takes: it was answered, or came where there was no power.
abbrev pub request_taken : Entry → Option NamedRequest
request_taken (entries.Peer id request reply) = Some (record { id = id; request = request })
request_taken (entries.Off id request) = Some (record { id = id; request = request })
request_taken _ = None

-- An entry takes a request.
abbrev pub takes_request : Entry → Bool
takes_request entry = is_some (request_taken entry)

-- The requests that a history has taken, in their order.
abbrev pub requests_taken : List Entry → List NamedRequest
requests_taken history = filter_map request_taken history

-- How many requests a history has taken.
abbrev pub request_count : List Entry → ℕ
request_count history = length (requests_taken history)

-- The name of a frame's request is its number alone.
abbrev pub frame_id : ℕ → CallId
frame_id number = record { node = 0; path = 0; seq = number }

-- A controller after it took a request that has the next number.
abbrev pub after_request : ControllerIs → List ℕ → ControllerIs
after_request v request = answering v (frame_id (request_count v.history + 1)) request

-- The request of a frame.
abbrev pub frame_request : NumberedFrame → NamedRequest
frame_request asked = record { id = frame_id asked.number; request = asked.frame.pdu }

-- A frame is served: it is answered, or comes where there is no power.
abbrev pub served_entry : ControllerState → NumberedFrame → Entry
served_entry s asked =
    peer_entry (frame_id asked.number) asked.frame.pdu (reply_in s asked.frame.pdu)

-- What frames make that are served one after another.
unfoldable pub served_entries : Fixed → ControllerState → List NumberedFrame → List Entry
served_entries fixed s [] = []
served_entries fixed s (asked ∷ rest) =
    let entry = served_entry s asked in
    entry ∷ served_entries fixed (apply fixed s entry) rest

-- A reply goes back as a frame, if there is one.
abbrev pub sent_back : ℕ → Option (List ℕ) → List ℕ
sent_back node None = []
sent_back node (Some reply) = frame_text node reply

-- The reply to a frame with the node's own address; none to one for all.
abbrev pub reply_text : ℕ → ControllerState → AsciiFrame → List ℕ
reply_text node s frame =
    if frame.address == node then sent_back node (reply_in s frame.pdu) else []

-- The replies to frames that are served one after another.
unfoldable pub reply_texts : Fixed → ControllerState → List NumberedFrame → List ℕ
reply_texts fixed s [] = []
reply_texts fixed s (asked ∷ rest) =
    reply_text fixed.plan.node s asked.frame
    ++ reply_texts fixed (apply fixed s (served_entry s asked)) rest
