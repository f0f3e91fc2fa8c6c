-- Frames that were heard, as frames of the stream. All of it is this project's own.
use Rattle.std.specs.Prelude.{ℕ, ◌+◌, List, [], ◌∷◌, filter, map}
use Rattle.ascii_port.specs.Frames.{AsciiFrame, frame_of}
use Rattle.ascii_port.specs.declared.port.Port.{Port}
use Rattle.controller_core.specs.declared.entry.Entry.{Entry}
use Rattle.controller_core.specs.Controller.{ControllerIs, state_of}
use Rattle.panel_session.specs.declared.asked.PortFrame.{PortFrame}
use Rattle.panel_session.specs.Serving.{NumberedFrame, is_for, numbered_on, reply_texts}
use Rattle.panel_session.specs.Serving.{request_count, served_entries}

-- The address and the PDU of a frame that was heard.
abbrev pub frame_asked : PortFrame → AsciiFrame
frame_asked asked = record { address = asked.address; pdu = asked.pdu }

-- Frames that were heard, in their order.
abbrev pub frames_heard : List PortFrame → List AsciiFrame
frames_heard asked = map frame_asked asked

-- The frame that a port has, where it is for a node.
abbrev pub own_frame : ℕ → Port → List AsciiFrame
own_frame node port = filter (is_for node) (frame_of port.bytes ∷ [])

-- The frames that come next after a history: their numbers go on after its requests.
abbrev pub next_frames : List Entry → List PortFrame → List NumberedFrame
next_frames history asked = numbered_on (request_count history + 1) (frames_heard asked)

-- The entries that such frames make where they are served next, and the replies to them.
abbrev pub entries_to_come : ControllerIs → List PortFrame → List Entry
entries_to_come v asked = served_entries v.fixed (state_of v) (next_frames v.history asked)

abbrev pub replies_to_come : ControllerIs → List PortFrame → List ℕ
replies_to_come v asked = reply_texts v.fixed (state_of v) (next_frames v.history asked)
