-- What it is to follow a history entry by entry.
use Rattle.std.specs.Prelude.{◌≡◌, Bool, true, false, if◌then◌else◌, ◌∷◌, [], ◌++◌}
use Rattle.scan_order.specs.Due.{IsRow}
use Rattle.controller_core.specs.declared.entry.Entry.{Entry}
use Rattle.controller_core.specs.declared.entry.Entry.TheVariants as entries
use Rattle.controller_core.specs.Replay.{ControllerState}
use Rattle.controller_core.specs.declared.fixed.Fixed.{Fixed}
use Rattle.controller_core.specs.Event.{outputs_at}
use Rattle.controller_core.specs.Controller.{ControllerIs, IsLegal, answering, collecting}
use Rattle.controller_core.specs.Controller.{finishing, has_started, stepped}

-- An entry may come next: the history with it is legal. This project's own.
abbrev pub MayFollow : ControllerIs → Entry → Type 0
MayFollow v entry = IsLegal v.fixed (v.history ++ entry ∷ [])

-- The words of an Output are those of the row's drop. This project's own.
abbrev pub HasWords : Fixed → ControllerState → Entry → Type 0
HasWords fixed s (entries.Output row words) = words ≡ outputs_at fixed s row
HasWords fixed s _ = Unit {0}

-- The row of an Output is one of the plan. This project's own.
abbrev pub IsRowOf : ControllerIs → Entry → Type 0
IsRowOf v (entries.Output row words) = IsRow v.fixed.plan row
IsRowOf v _ = Unit {0}

-- A controller after it followed the entry of a step, if that is due. This project's own.
abbrev pub followed_step : ControllerIs → Bool → ControllerIs
followed_step v true = stepped (record v { reserved = true })
followed_step v false = v

-- A controller after it followed an entry: a step is made if it is the one of the entry; calls are
-- collected if there are any, and a request is taken, whatever the entry says of them; a call that
-- is out comes to its result. This project's own.
abbrev pub followed : ControllerIs → Entry → Bool → ControllerIs
followed v (entries.Collect calls) same = if has_started v then collecting v else v
followed v (entries.Peer id request reply) same = answering v id request
followed v (entries.Off id request) same = answering v id request
followed v (entries.Finish id result) same = if same then finishing v id result else v
followed v entry same = followed_step v same
