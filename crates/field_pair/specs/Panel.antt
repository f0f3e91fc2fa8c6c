-- What panel lines tell. All of it is this project's own.
use Rattle.std.specs.Prelude.{ℕ, ◌==◌, if◌then◌else◌, List, [], ◌∷◌}
use Rattle.plant_types.specs.declared.reference.Ref.{Ref}
use Rattle.controller_core.specs.Notes.{values_of}
use Rattle.controller_core.specs.Replay.{ControllerState}

-- What the line of a scan tells of a panel, by the state after it: the code with which the
-- controller stopped, or, behind a 0, the values of the panel.
abbrev pub panel_told : List Ref → ControllerState → List ℕ
panel_told panel s =
    if s.stop == 0 then 0 ∷ values_of s.solving.map panel else s.stop ∷ []
