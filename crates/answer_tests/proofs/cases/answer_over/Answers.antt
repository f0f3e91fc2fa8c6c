use Rattle.std.proofs.Common.{ℕ, List, [], ◌∷◌, map, string_bytes}
use Rattle.command_words.specs.declared.words.Command.{Command}
use Rattle.command_words.specs.Words.{IsCommandInRange, SpellsCommand}
use Rattle.answer_tests.proofs.cases.answer_over.Goals as goal

-- a command that is spelled is in its range
in_range : (words : List (List ℕ)) (command : Command) → SpellsCommand words command
    → IsCommandInRange command
in_range [] command spells = absurd spells
in_range (name ∷ behind) command spells = spells.in_range

pub answer_to-requires-clause-command : goal.answer_to-requires-clause-command
answer_to-requires-clause-command c =
    in_range (map string_bytes c.args.words.now) c.in-Some.command
    ((c.in-Ok.ensures c.in-Some.command).0 c.in-Some.is)
