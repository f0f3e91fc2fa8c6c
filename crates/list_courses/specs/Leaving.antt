-- Whether an end of a bridge was quiet before it left, and stayed so. This project's own.
use Rattle.std.specs.Prelude.{◌≡◌, ◌==◌, Bool, true, false, not, List, [], ◌∷◌}
use Rattle.ring_core.specs.Words.{is_request}
use Rattle.ring_core.specs.declared.entry.RingEntry.{RingEntry}
use Rattle.ring_core.specs.declared.entry.RingEntry.TheVariants.{Post, Local, GiveUp, Pass, Leave}
use Rattle.ring_core.specs.declared.entry.LeaveCause.TheVariants.{Ended}
use Rattle.list_courses.specs.Completing.{is_ended}
use Rattle.list_courses.specs.declared.leaving.Row.{Row}
use Rattle.list_courses.specs.declared.leaving.Row.TheVariants.{Broken, Quiet, Loud, Left}

-- A node asks nothing and gives nothing up by an entry.
abbrev pub is_quiet : RingEntry → Bool
is_quiet (Post n frame) = not (is_request frame)
is_quiet (GiveUp id word) = false
is_quiet (Local n id op result) = not (id.node == n)
is_quiet _ = true

-- A Pass that says done goes on with the row of done Passes, or is the first of one; any other
-- Pass breaks it.
abbrev pub row_passed : Row → Bool → Row
row_passed Broken true = Quiet
row_passed Quiet true = Quiet
row_passed Loud true = Loud
row_passed Left done = Left
row_passed row false = Broken

-- A Leave as all was done is one after the row, if that is quiet.
abbrev pub row_left : Row → Row
row_left Broken = Broken
row_left Quiet = Left
row_left Loud = Loud
row_left Left = Left

-- Another entry, quiet or not, makes a row loud, or leaves it.
abbrev pub row_noted : Row → Bool → Row
row_noted Broken quiet = Broken
row_noted Quiet true = Quiet
row_noted Quiet false = Loud
row_noted Loud quiet = Loud
row_noted Left quiet = Left

-- The row after one entry more.
abbrev pub row_next : Row → RingEntry → Row
row_next row (Pass n done words) = row_passed row done
row_next row (Leave n Ended) = row_left row
row_next row e = row_noted row (is_quiet e)

-- The row after these, from the one before.
abbrev pub row_from : Row → List RingEntry → Row
row_from row [] = row
row_from row (e ∷ es) = row_from (row_next row e) es

-- The row of done Passes that stands last.
abbrev pub done_row : List RingEntry → Row
done_row b = row_from Broken b

-- An entry may follow on a row: after a loud one no Leave as all was done, and after such a Leave
-- what is quiet.
abbrev pub MayFollow : Row → RingEntry → Type 0
MayFollow Broken e = Unit {0}
MayFollow Quiet e = Unit {0}
MayFollow Loud e = is_ended e ≡ false
MayFollow Left e = is_quiet e ≡ true

-- An entry may follow on the row of those before it.
abbrev pub LeaveAllows : List RingEntry → RingEntry → Type 0
LeaveAllows before e = MayFollow (done_row before) e
