-- What holds of the segments of a controller while they are read.
use Rattle.std.specs.Prelude.{◌≡◌, ◌≤◌, ℕ, List, length}
use Rattle.plant_types.specs.declared.reference.Ref.{Ref}
use Rattle.plant_types.specs.Grid.{cell_places, short_places, AreApart}
use Rattle.plant_types.specs.Standing.{coils_in, message_count, message_limit}
use Rattle.plant_types.specs.PlanTests.{segment_limit, network_limit}
use Rattle.controller_tables.specs.Driven.{HoldsJust, HoldsLabels}
use Rattle.controller_tables.specs.Program.{ReadProgram, cells_read}

-- The keys of a set are just the coils that are driven, and those of another the numbers of the
-- labels; so many cells are messages, at most 64; no two cells and no two shorts stand at one place;
-- there are at most 32 segments of at most 1000 networks. This project's own.
pub record KeepsProgram (keys : List Ref) (numbers : List ℕ) (messages : ℕ) (read : ReadProgram)
    : Type 0 where
  pub driven : HoldsJust keys (coils_in (cells_read read))
  pub labels : HoldsLabels numbers (cells_read read)
  pub count : messages ≡ message_count (cells_read read)
  pub few_messages : messages ≤ message_limit
  pub cells : AreApart (cell_places read.cells)
  pub shorts : AreApart (short_places read.shorts)
  pub segments : length read.segments ≤ segment_limit
  pub networks : length read.networks ≤ network_limit
