-- One scan's part of a history. All of it is this project's own.
use Rattle.std.specs.Prelude.{◌≡◌, ℕ, ◌+◌, ◌==◌, Bool, true, false, if◌then◌else◌, List, []}
use Rattle.std.specs.Prelude.{◌∷◌, ◌++◌, All}
use Rattle.controller_core.specs.declared.entry.Entry.{Entry}
use Rattle.controller_core.specs.declared.entry.Entry.TheVariants as entries
use Rattle.controller_core.specs.declared.fixed.Fixed.{Fixed}
use Rattle.controller_core.specs.Controller.{ControllerIs, IsLegal}
use Rattle.controller_core.specs.Following.{MayFollow}
use Rattle.controller_core.specs.Replay.{ControllerState, replay}

-- An entry begins a scan: Begin, or Dark, which is a whole one.
abbrev pub begins_scan : Entry → Bool
begins_scan entries.Begin = true
begins_scan entries.Dark = true
begins_scan _ = false

-- The first of some entries begins a scan, and no other does.
abbrev pub BeginsOnce : List Entry → Type 0
BeginsOnce [] = ⊥
BeginsOnce (first ∷ rest) =
    (begins_scan first ≡ true) × All (λ entry. begins_scan entry ≡ false) rest

-- The scans that a state has done: those that are gone, and the one in which it stopped.
abbrev pub scans_made : ControllerState → ℕ
scans_made s = s.gone + (if s.stop == 0 then 0 else 1)

-- The scans of a history.
abbrev pub scans_of : Fixed → List Entry → ℕ
scans_of fixed history = scans_made (replay fixed history)

-- After a history these entries are one scan's part: the first begins a scan and no other does,
-- and the scan is over after them, or the controller stopped in it.
pub record IsOnePart (fixed : Fixed) (history entries : List Entry) : Type 0 where
  pub begins : BeginsOnce entries
  pub over : scans_of fixed (history ++ entries) ≡ scans_of fixed history + 1

-- Some entries may come next: the history with them is legal, and they are one scan's part.
pub record MayComeNext (fixed : Fixed) (history entries : List Entry) : Type 0 where
  pub legal : IsLegal fixed (history ++ entries)
  pub part : IsOnePart fixed history entries

-- Some entries may come next after the history of a controller.
abbrev pub MayFollowAll : ControllerIs → List Entry → Type 0
MayFollowAll v entries = MayComeNext v.fixed v.history entries

-- An entry may come at a place of a part: it begins a scan just where it is the first, and it may
-- come next.
abbrev pub MayComeAt : ControllerIs → ℕ → Entry → Type 0
MayComeAt v place entry = (begins_scan entry ≡ (place == 0)) × MayFollow v entry

-- An entry stands after a controller's history now.
abbrev pub HasTaken : ControllerIs → Entry → ControllerIs → Type 0
HasTaken old entry new = new.history ≡ old.history ++ entry ∷ []
