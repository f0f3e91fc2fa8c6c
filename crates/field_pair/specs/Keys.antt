-- Pairs of states as keys. All of it is this project's own.
use Rattle.std.specs.Prelude.{◌≡◌, ℕ, List, ◌++◌, take, drop}
use Rattle.plant_types.specs.declared.plan.ControllerPlan.{ControllerPlan}
use Rattle.ladder_solver.specs.declared.places.BlockPlace.{BlockPlace}
use Rattle.field_machine.specs.Keys.{state_in, IsKeyOf}
use Rattle.side_runs.specs.Beside.{StatePair}

-- A key is that of a pair of states: the key of the old one's, and behind it that of the new one's.
pub record IsPairKeyOf (old : ControllerPlan) (old_places : List BlockPlace)
    (new : ControllerPlan) (new_places : List BlockPlace) (s : StatePair) (key : List ℕ)
    : Type 0 where
  pub front : List ℕ
  pub behind : List ℕ
  pub both : key ≡ front ++ behind
  pub old_key : IsKeyOf old old_places s.old front
  pub new_key : IsKeyOf new new_places s.new behind

-- The pair of states that a key stands for, of which the front is so long.
abbrev pub pair_in : ControllerPlan → List BlockPlace → ControllerPlan → List BlockPlace → ℕ
    → List ℕ → StatePair
pair_in old old_places new new_places size key = record {
  old = state_in old old_places (take size key);
  new = state_in new new_places (drop size key);
}
