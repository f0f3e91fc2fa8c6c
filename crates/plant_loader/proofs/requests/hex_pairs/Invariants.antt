use Rattle.std.proofs.Common.{◌≡◌, true, ◌++◌, length}
use Rattle.std.specs.List.{list_all}
use Rattle.plant_tables.specs.Hex.{is_hex_digit, hex_pairs}
use Rattle.plant_loader.proofs.requests.hex_pairs.Given as goal

-- the bytes so far, before those of the digits left
abbrev pub invariant-loop-rest : goal.invariant-loop-rest
invariant-loop-rest l = record {
  read : l.bytes.items ++ hex_pairs l.rest ≡ hex_pairs l.fn.digits;
  digits : list_all is_hex_digit l.rest ≡ true;
}

-- each turn takes two digits
abbrev pub decreases-loop-rest : goal.decreases-loop-rest
decreases-loop-rest l = length l.rest
