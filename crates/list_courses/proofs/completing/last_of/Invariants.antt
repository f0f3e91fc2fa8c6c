use Rattle.std.proofs.Common.{◌≡◌, drop}
use Rattle.tied_lists.specs.Items.{last_from}
use Rattle.list_courses.proofs.completing.last_of.Given as goal

abbrev pub invariant-loop-number : goal.invariant-loop-number
invariant-loop-number l = last_from l.last (drop l.number-index l.numbers) ≡ last_from 0 l.numbers
