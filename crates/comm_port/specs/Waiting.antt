-- The Requests that the paths of a worker wait for. This project's own.
use Rattle.std.specs.Prelude.{◌≡◌, ℕ, Bool, List, [], ◌∷◌, get_or, is_none, All, Option, Some, None}
use Rattle.mstr_block.specs.declared.call.CallId.{CallId}
use Rattle.ring_core.specs.declared.frame.Frame.{Frame}

-- The name of the call that a Request asks for.
abbrev pub id_of : Option Frame → Option CallId
id_of None = None
id_of (Some f) = Some f.id

-- The call that a path waits for.
abbrev pub id_on : List (Option Frame) → ℕ → Option CallId
id_on waiting path = id_of (get_or waiting path None)

-- By path, whether it waits for nothing.
abbrev pub free_paths : List (Option Frame) → List Bool
free_paths waiting =
    is_none (get_or waiting 0 None)
    ∷ is_none (get_or waiting 1 None)
    ∷ is_none (get_or waiting 2 None)
    ∷ is_none (get_or waiting 3 None)
    ∷ is_none (get_or waiting 4 None)
    ∷ []

-- No path waits.
abbrev pub IsIdle : List (Option Frame) → Type 0
IsIdle waiting = All (λ (slot : Option Frame). slot ≡ None) waiting
