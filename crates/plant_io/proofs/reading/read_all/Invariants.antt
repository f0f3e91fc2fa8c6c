use Rattle.std.proofs.Common.{◌<◌, ◌≤◌, ◌+◌, ◌-◌, length, vec_len}
use Rattle.plant_io.specs.Streams.{Gave}
use Rattle.plant_io.proofs.reading.read_all.Given as goal

abbrev pub invariant-loop-piece : goal.invariant-loop-piece
invariant-loop-piece g l = record {
  gave : Gave (g.S.Source.left l.fn.source) (g.S.Source.left l.source) l.bytes.items;
  later : g.S.Source.faults l.fn.source ≤ g.S.Source.faults l.source;
  within : vec_len l.bytes ≤ l.limit + 1;
  room : 0 < length l.piece;
}

abbrev pub decreases-loop-piece : goal.decreases-loop-piece
decreases-loop-piece g l = l.limit + 1 - vec_len l.bytes
