-- States that agree on a set of references. All of it is this project's own.
use Rattle.std.specs.Prelude.{◌≡◌, ℕ, ◌-◌, Bool, true, false, List, Option, Some, None, slice_get}
use Rattle.std.specs.FinSet.{contains}
use Rattle.plant_types.specs.declared.reference.Ref.{Ref}
use Rattle.plant_types.specs.declared.network.Network.{Network}
use Rattle.plant_types.specs.declared.network.Segment.{Segment}
use Rattle.plant_types.specs.Discretes.{Refs}
use Rattle.plant_types.specs.Store.{Contents, word_at}
use Rattle.ladder_solver.specs.declared.places.BlockPlace.{BlockPlace}
use Rattle.ladder_solver.specs.State.{SolveState}
use Rattle.ladder_solver.specs.Numbers.{networks_of}
use Rattle.ladder_solver.specs.Segment.{segment_after}
use Rattle.alike_states.specs.Alone.{HasNoMessages}
use Rattle.cone_of.specs.Uses.{network_matters}
use Rattle.cone_of.specs.Cone.{HasSegments}

-- Two stores have the same numbers at the references of a set.
abbrev pub SameIn : Refs → Contents → Contents → Type 0
SameIn set m n = (at : Ref) → contains set at ≡ true → word_at m at ≡ word_at n at

-- The network of a place, if there is one, matters to a set.
abbrev pub found_matters : Refs → Option Network → Bool
found_matters set None = false
found_matters set (Some network) = network_matters set network

abbrev pub place_matters : Refs → List Segment → BlockPlace → Bool
place_matters set segments place =
    found_matters set (slice_get (networks_of segments place.segment) (place.network - 1))

-- Two states agree on a set of references: their numbers there are the same, and so are those of
-- its discretes that were on before, the edge bits of the networks that matter to it, the clocks,
-- and the networks that are left to the watchdog.
pub record Agree (segments : List Segment) (set : Refs) (s t : SolveState) : Type 0 where
  pub references : SameIn set s.map t.map
  pub past : (at : Ref) → contains set at ≡ true → contains s.past at ≡ contains t.past at
  pub edges : (place : BlockPlace) → place_matters set segments place ≡ true
      → contains s.edges place ≡ contains t.edges place
  pub clock : s.clock ≡ t.clock
  pub left : s.left ≡ t.left

-- States that agree on a closed set agree on it after the solve of a segment, where no cell is a
-- message block.
abbrev pub SolvesKeepAgreement : Type 0
SolvesKeepAgreement =
    (segments : List Segment) (set : Refs) (number : ℕ) (s t : SolveState) → HasNoMessages segments
    → HasSegments set segments → Agree segments set s t
    → Agree segments set (segment_after segments number s) (segment_after segments number t)
