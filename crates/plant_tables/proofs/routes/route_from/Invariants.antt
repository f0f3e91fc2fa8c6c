use Rattle.std.proofs.Common.{◌≡◌, true, map, length, take}
use Rattle.std.specs.List.{list_all}
use Rattle.plant_types.specs.Limits.{is_up_to, most_address}
use Rattle.plant_types.specs.Numerals.{value_of}
use Rattle.plant_tables.proofs.routes.route_from.Given as goal

-- the addresses so far
abbrev pub invariant-loop-part : goal.invariant-loop-part
invariant-loop-part l = record {
  count : l.count ≡ length l.yielded;
  read : take l.count l.addresses ≡ map (λ w. value_of w.now) l.yielded;
  long : length l.addresses ≡ 5;
  nodes : list_all (is_up_to most_address) (map (λ w. value_of w.now) l.yielded) ≡ true;
}
