use Rattle.std.proofs.Common.{map, take}
use Rattle.panel_session.specs.Asked.{frame_asked}
use Rattle.panel_session.proofs.Heard.{HasKept}
use Rattle.panel_session.proofs.asked.frames_for.Given as goal

abbrev pub invariant-loop-byte : goal.invariant-loop-byte
invariant-loop-byte l =
    HasKept l.node l.port (map frame_asked l.list.items) (take l.byte-index l.stream)
