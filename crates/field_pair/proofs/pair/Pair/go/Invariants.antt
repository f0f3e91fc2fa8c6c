use Rattle.std.proofs.Common.{take}
use Rattle.state_space.specs.Reaching.{Reaches}
use Rattle.field_pair.specs.Pair.{FitsPair, pair_leads, pair_starts}
use Rattle.field_pair.proofs.pair.Pair.go.Given as goal

abbrev pub invariant-loop-by : goal.invariant-loop-by
invariant-loop-by l =
    record {
      fits : FitsPair l.self l.work;
      reached : Reaches (pair_starts l.self) l.self.moves (pair_leads l.self)
          (take l.by-index l.path) l.key.items;
    }
