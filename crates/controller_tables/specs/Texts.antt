-- The texts of the networks of a segment. This project's own.
use Rattle.std.specs.Prelude.{codes, ℕ, List, Result}
use Rattle.toml.specs.Data.{Members}
use Rattle.cell_text.specs.Steps.{◌>>=◌}
use Rattle.plant_types.specs.Fault.{segment_place}
use Rattle.plant_types.specs.PlanTests.{network_limit}
use Rattle.plant_tables.specs.Refusals.{Refusal}
use Rattle.plant_tables.specs.declared.tables.TableKind.TheVariants as kinds
use Rattle.plant_tables.specs.Tables.{table_passes}
use Rattle.plant_tables.specs.Keys.{texts_at}

-- The texts of the networks of a segment of a controller, at most 1000.
unfoldable pub network_texts : ℕ → ℕ → Members → Result (List (List ℕ)) Refusal
network_texts controller number table = do
  keys ← table_passes (segment_place controller number) kinds.Segment table
  texts_at (segment_place controller number) network_limit (codes "networks") table
