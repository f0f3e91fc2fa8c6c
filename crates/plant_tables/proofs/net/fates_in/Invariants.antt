use Rattle.std.proofs.Common.{◌≡◌, drop}
use Rattle.plant_tables.specs.InOrder.{with_front}
use Rattle.plant_tables.specs.Net.{fates_in}
use Rattle.plant_tables.proofs.net.fates_in.Given as goal

-- the fates so far, before those of the letters left
abbrev pub invariant-loop-letter : goal.invariant-loop-letter
invariant-loop-letter l =
    with_front l.fates (fates_in l.fn.place (drop l.letter-index l.letters))
    ≡ fates_in l.fn.place l.letters
