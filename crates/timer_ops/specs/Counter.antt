-- Counters. Of their two nodes the upper one is a block's top node and the lower one its second.
-- Modicon Ladder Logic Block Library User Guide; the exact inputs and outputs are this project's
-- own.
use Rattle.std.specs.Prelude.{ℕ, ◌+◌, ◌-◌, ◌==◌, nat_lt, min, Bool, false, ◌&&◌, not, if◌then◌else◌}
use Rattle.std.specs.FinMap.{insert}
use Rattle.plant_types.specs.declared.power.NodePower.{NodePower}
use Rattle.plant_types.specs.declared.reference.Ref.{Ref}
use Rattle.plant_types.specs.Effect.{Effect}
use Rattle.plant_types.specs.Store.{Contents, word_at}
use Rattle.timer_ops.specs.Timer.{reached}

-- The upper input goes on: it is on, and the edge bit says that it was off.
abbrev pub is_edge : NodePower → Bool → Bool
is_edge inputs edge = inputs.top && not edge

-- The accumulator of an up counter after a solve: 0 while the lower input is off, else the count so
-- far, at most the preset, and one more at an edge below the preset.
abbrev pub counted_up : ℕ → NodePower → Bool → ℕ → ℕ
counted_up preset inputs edge count =
    let held = min count preset in
    if inputs.middle
    then (if is_edge inputs edge && nat_lt held preset then held + 1 else held)
    else 0

-- The accumulator of a down counter after a solve: the preset while the lower input is off, else
-- the count so far, at most the preset, and one less at an edge above 0.
abbrev pub counted_down : ℕ → NodePower → Bool → ℕ → ℕ
counted_down preset inputs edge count =
    let held = min count preset in
    if inputs.middle
    then (if is_edge inputs edge && nat_lt 0 held then held - 1 else held)
    else preset

-- The upper output is on at 0, the lower one above.
abbrev pub run_down : ℕ → NodePower
run_down count = record { top = count == 0; middle = nat_lt 0 count; bottom = false }

-- What an up counter does when it is solved; its edge bit becomes its upper input.
unfoldable pub up_count_effect : ℕ → Ref → Bool → NodePower → Contents → Effect
up_count_effect preset acc edge inputs m =
    let count = counted_up preset inputs edge (word_at m acc) in
    record { outputs = reached preset count; stored = insert m acc count }

-- What a down counter does when it is solved; its edge bit becomes its upper input.
unfoldable pub down_count_effect : ℕ → Ref → Bool → NodePower → Contents → Effect
down_count_effect preset acc edge inputs m =
    let count = counted_down preset inputs edge (word_at m acc) in
    record { outputs = run_down count; stored = insert m acc count }
