-- What the inner parts of calling do. This project's own.
use Rattle.std.specs.Prelude.{◌≡◌, ℕ, List, get_or}
use Rattle.controller_core.specs.declared.call.Call.{Call}
use Rattle.controller_core.specs.declared.entry.Entry.{Entry}
use Rattle.ring_core.specs.declared.entry.RingEntry.{RingEntry}

-- What is due to the call at a place.
abbrev pub IsDueAt : (Call → List Entry → List RingEntry → Type 0) → List Call → ℕ → List Entry
    → List RingEntry → Type 0
IsDueAt Due calls at noted done = (call : Call) × (call ≡ get_or calls at call)
    × Due call noted done
