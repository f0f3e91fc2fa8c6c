use Rattle.std.proofs.Common.{◌≡◌, ◌+◌, map, drop, length}
use Rattle.controller_tables.specs.Program.{with_texts}
use Rattle.controller_tables.proofs.pieces.with_texts.Given as goal

-- what was read, with the texts left behind it; one network more for each text, and the same
-- segments
abbrev pub invariant-loop-text : goal.invariant-loop-text
invariant-loop-text l = record {
  read : with_texts l.owner l.program (map (λ t. t.now) (drop l.text-index l.texts))
      ≡ with_texts l.owner l.initial.program (map (λ t. t.now) l.texts);
  count : length l.program.networks ≡ length l.initial.program.networks + l.text-index;
}
