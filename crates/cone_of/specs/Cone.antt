-- Sets of references that are closed, and the least of them. All of it is this project's own.
use Rattle.std.specs.Prelude.{◌≡◌, true, List, Option, Some}
use Rattle.std.specs.List.{AllByRecursion}
use Rattle.std.specs.FinSet.{contains}
use Rattle.plant_types.specs.declared.reference.Ref.{Ref}
use Rattle.plant_types.specs.declared.network.Network.{Network}
use Rattle.plant_types.specs.declared.network.Segment.{Segment}
use Rattle.plant_types.specs.declared.plan.ControllerPlan.{ControllerPlan}
use Rattle.plant_types.specs.Discretes.{Refs}
use Rattle.cone_of.specs.Uses.{network_matters, has_network}

-- A set has a reference, where there is one.
abbrev pub HasIn : Refs → Option Ref → Type 0
HasIn set found = (at : Ref) → found ≡ Some at → contains set at ≡ true

-- A set that a network matters to has all that this network reads.
abbrev pub HasNetwork : Refs → Network → Type 0
HasNetwork set network = network_matters set network ≡ true → has_network set network ≡ true

-- A set has all that the networks of these segments read that matter to it.
abbrev pub HasSegments : Refs → List Segment → Type 0
HasSegments set segments =
    AllByRecursion (λ segment. AllByRecursion (HasNetwork set) segment.networks) segments

-- A set of references is closed: it has all that each network reads that matters to it, and the
-- control of each row of the order of solve.
pub record IsClosed (plan : ControllerPlan) (set : Refs) : Type 0 where
  pub networks : HasSegments set plan.segments
  pub controls : AllByRecursion (λ row. HasIn set row.control) plan.orders

-- A set has all references of another.
abbrev pub HasAllOf : Refs → Refs → Type 0
HasAllOf set other = (at : Ref) → contains other at ≡ true → contains set at ≡ true

-- The cone of a reference, or of none: the least closed set that has it.
pub record IsCone (plan : ControllerPlan) (of : Option Ref) (cone : Refs) : Type 0 where
  pub closed : IsClosed plan cone
  pub holds : HasIn cone of
  pub least : (set : Refs) → IsClosed plan set → HasIn set of → HasAllOf set cone
