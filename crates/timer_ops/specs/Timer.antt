-- Timers. Of their two nodes the upper one is a block's top node and the lower one its second.
-- Modicon Ladder Logic Block Library User Guide; the exact inputs and outputs are this project's
-- own.
use Rattle.std.specs.Prelude.{ℕ, ◌+◌, ◌-◌, ◌/◌, ◌==◌, nat_lt, min, false, if◌then◌else◌}
use Rattle.std.specs.FinMap.{insert}
use Rattle.plant_types.specs.declared.element.Unit.{Unit as TimeBase}
use Rattle.plant_types.specs.declared.element.Unit.TheVariants.{Second, Tenth, Hundredth}
use Rattle.plant_types.specs.declared.power.NodePower.{NodePower}
use Rattle.plant_types.specs.declared.reference.Ref.{Ref}
use Rattle.plant_types.specs.Effect.{Effect}
use Rattle.plant_types.specs.Store.{Contents, word_at}
use Rattle.timer_ops.specs.declared.Clock.{Clock}

-- How many ticks of 10 ms a unit of 1 s, 0.1 s or 0.01 s has. The tick is this project's own.
abbrev pub ticks_in : TimeBase → ℕ
ticks_in Second = 100
ticks_in Tenth = 10
ticks_in Hundredth = 1

-- How many units of the clock ended since the scan before began. This project's own.
abbrev pub units_passed : TimeBase → Clock → ℕ
units_passed unit clock = clock.now / ticks_in unit - clock.before / ticks_in unit

-- The accumulator of a timer after a solve: 0 while the lower input is off, else the time so far,
-- and while the upper input is on the time that passed too, up to the preset.
abbrev pub time_after : TimeBase → ℕ → NodePower → Clock → ℕ → ℕ
time_after unit preset inputs clock time =
    let gained = if inputs.top then units_passed unit clock else 0 in
    if inputs.middle then min preset (time + gained) else 0

-- The upper output is on at the preset, the lower one below it.
abbrev pub reached : ℕ → ℕ → NodePower
reached preset value = record {
  top = value == preset;
  middle = nat_lt value preset;
  bottom = false;
}

-- What a timer does when it is solved.
unfoldable pub timer_effect : TimeBase → ℕ → Ref → Clock → NodePower → Contents → Effect
timer_effect unit preset acc clock inputs m =
    let time = time_after unit preset inputs clock (word_at m acc) in
    record { outputs = reached preset time; stored = insert m acc time }
