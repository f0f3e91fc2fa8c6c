use Rattle.std.proofs.Common.{map, take}
use Rattle.joint_history.specs.Reading.{called_of}
use Rattle.station_laws.specs.Endings.{NotesCalls}
use Rattle.station_laws.proofs.ending.note_calls.Given as goal

abbrev pub invariant-loop-call : goal.invariant-loop-call
invariant-loop-call l =
    NotesCalls l.initial.kinds (map called_of (take l.call-index l.calls)) l.kinds
