-- States in which what cannot matter is cleared. All of it is this project's own.
use Rattle.std.specs.Prelude.{◌≡◌, ℕ, zero, suc, Bool, not, if◌then◌else◌, List, [], ◌∷◌, ◌++◌}
use Rattle.std.specs.Prelude.{filter, fold, Option, Some, None}
use Rattle.std.specs.FinMap.{insert}
use Rattle.std.specs.FinSet.{contains}
use Rattle.plant_types.specs.declared.plan.ControllerPlan.{ControllerPlan}
use Rattle.plant_types.specs.declared.network.Segment.{Segment}
use Rattle.plant_types.specs.declared.reference.Ref.{Ref}
use Rattle.plant_types.specs.declared.reference.RefKind.{RefKind}
use Rattle.plant_types.specs.declared.reference.RefKind.TheVariants.{Coil, Input, InputRegister}
use Rattle.plant_types.specs.declared.reference.RefKind.TheVariants.{Register}
use Rattle.plant_types.specs.declared.sizes.Sizes.{Sizes}
use Rattle.plant_types.specs.Checks.{sizes_of}
use Rattle.plant_types.specs.Discretes.{Refs}
use Rattle.plant_types.specs.Store.{Contents}
use Rattle.ladder_solver.specs.declared.places.BlockPlace.{BlockPlace}
use Rattle.controller_core.specs.Replay.{ControllerState}
use Rattle.cone_of.specs.Cone.{IsCone}
use Rattle.cone_laws.specs.Agree.{place_matters}
use Rattle.field_machine.specs.declared.asked.Asked.{Asked}
use Rattle.field_machine.specs.declared.asked.Asked.TheVariants.{On, Stopped}
use Rattle.field_machine.specs.Keys.{edges_set}

-- The coil or input that is asked about; none where it is asked whether the controller stops.
abbrev pub reference_of : Asked → Option Ref
reference_of (On at) = Some at
reference_of Stopped = None

-- A reference that a set lacks.
abbrev pub one_outside : Refs → Ref → List Ref
one_outside set at = if contains set at then [] else at ∷ []

-- The references of a kind from 1 to a number that a set lacks, and of all kinds.
unfoldable pub kind_outside : Refs → RefKind → ℕ → List Ref
kind_outside set kind zero = []
kind_outside set kind (suc count) =
    kind_outside set kind count ++ one_outside set (record { kind = kind; number = suc count })

abbrev pub outside_of : Sizes → Refs → List Ref
outside_of sizes set =
    ((kind_outside set Coil sizes.coils ++ kind_outside set Input sizes.inputs)
    ++ kind_outside set InputRegister sizes.input_registers)
    ++ kind_outside set Register sizes.registers

-- The places that do not matter to a set.
abbrev pub does_not_matter : Refs → List Segment → BlockPlace → Bool
does_not_matter set segments place = not (place_matters set segments place)

abbrev pub apart_of : Refs → List Segment → List BlockPlace → List BlockPlace
apart_of set segments places = filter (does_not_matter set segments) places

-- A store in which these references are 0.
abbrev pub zeroed : Contents → List Ref → Contents
zeroed m refs = fold (λ n at. insert n at 0) m refs

-- A state in which these references are 0 and the edge bits of these places are off.
abbrev pub state_cleared : List Ref → List BlockPlace → ControllerState → ControllerState
state_cleared refs places s = record s {
  solving = record s.solving {
    map = zeroed s.solving.map refs;
    edges = edges_set s.solving.edges places [];
  };
}

-- These are the references, and of these places those, that do not matter to what is asked.
pub record AreApart (plan : ControllerPlan) (asked : Asked) (places : List BlockPlace)
    (outside : List Ref) (apart : List BlockPlace) : Type 0 where
  pub cone : Refs
  pub is_cone : IsCone plan (reference_of asked) cone
  pub outside_is : outside ≡ outside_of (sizes_of plan) cone
  pub apart_is : apart ≡ apart_of cone plan.segments places
