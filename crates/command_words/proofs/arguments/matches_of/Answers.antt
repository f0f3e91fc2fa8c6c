use Rattle.std.proofs.Common.{rules}
use Rattle.std.proofs.lemmas.Bool.{and_parts}
use Rattle.command_words.proofs.arguments.matches_of.Goals as goal

pub returns-in-Ok : goal.returns-in-Ok
returns-in-Ok c = record {
  taken = search rules;
  rows = (c.in-Ok.ensures.matches (and_parts _ _ c.requires).0).0;
}
