use Rattle.std.proofs.Common.{◌≡◌, true}
use Rattle.std.specs.List.{list_all}
use Rattle.std.specs.FinSet.{contains}
use Rattle.plant_types.specs.Discretes.{Refs}
use Rattle.cone_of.specs.Cone.{HasAllOf, HasIn, IsClosed}
use Rattle.cone_of.specs.Growing.{forced_by}
use Rattle.cone_of.proofs.growing.cone_of.Given as goal

abbrev pub invariant-loop : goal.invariant-loop
invariant-loop l = record {
  forced : list_all (contains l.cone) (forced_by l.fn.of l.plan.orders) ≡ true;
  least : (set : Refs) → IsClosed l.plan set → HasIn set l.fn.of → HasAllOf set l.cone;
}
