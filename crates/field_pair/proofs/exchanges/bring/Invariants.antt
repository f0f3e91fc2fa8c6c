use Rattle.std.proofs.Common.{◌≡◌, ◌++◌, drop}
use Rattle.field_pair.specs.Choices.{AreSome, brought_by}
use Rattle.field_pair.proofs.exchanges.bring.Given as goal

abbrev pub invariant-loop-choice : goal.invariant-loop-choice
invariant-loop-choice l =
    record {
      brought : l.exchanges.items ++ brought_by (drop l.choice-index l.choices) l.left
          ≡ brought_by l.choices l.way;
      some : AreSome (drop l.choice-index l.choices);
    }
