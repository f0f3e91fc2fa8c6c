use Rattle.std.proofs.Common.{◌≡◌, ◌+◌, true, map, length}
use Rattle.std.specs.List.{list_all}
use Rattle.plant_types.specs.Numerals.{is_numeral}
use Rattle.plant_tables.specs.Routes.{most_addresses}
use Rattle.plant_tables.proofs.routes.is_route.Given as goal

-- the words so far are numbers, and so many may come
abbrev pub invariant-loop-part : goal.invariant-loop-part
invariant-loop-part l = record {
  few : length l.yielded + l.left ≡ most_addresses l.fn.version;
  numbers : list_all is_numeral (map (λ w. w.now) l.yielded) ≡ true;
}
