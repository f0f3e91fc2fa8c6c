use Rattle.std.proofs.Common.{◌≡◌, ◌<◌, ◌^◌, take}
use Rattle.plant_types.specs.Discretes.{bits_from, number_of_bits}
use Rattle.traffic_cop.proofs.modules.word_of.Given as goal

abbrev pub invariant-loop-place : goal.invariant-loop-place
invariant-loop-place g l = record {
  number : l.word ≡ number_of_bits (take l.place (bits_from (g.R.RefStore.contents l.ram) l.at 16));
  small : l.word < 2 ^ l.place;
}
