-- What becomes of a controller's power in each scan. All of it is this project's own.
use Rattle.std.specs.Prelude.{◌≡◌, ℕ, ◌-◌, Bool, true, false, ◌==◌, ◌&&◌, nat_lt, nat_le}
use Rattle.std.specs.Prelude.{if◌then◌else◌, length, Option, Some, None}
use Rattle.std.specs.List.{find, list_any}
use Rattle.plant_types.specs.declared.plan.PowerRow.{PowerRow}
use Rattle.plant_types.specs.declared.plan.ControllerPlan.{ControllerPlan}
use Rattle.plant_types.specs.Plans.{KeepsPower}
use Rattle.scan_order.specs.declared.power.ScanPower.{ScanPower}
use Rattle.scan_order.specs.declared.power.ScanPower.TheVariants as powers

-- A power row is that of this scan, and names one of so many order rows, or 0. Every power row of a
-- plan that passes its tests does.
abbrev pub is_failure_in : ℕ → ℕ → PowerRow → Bool
is_failure_in orders scan row = (row.scan == scan) && nat_le row.row orders

-- A scan is one of the dark ones of a power row: it comes after the scan of that row, by no more
-- than the row has dark scans.
abbrev pub is_dark_by : ℕ → PowerRow → Bool
is_dark_by scan row = nat_lt row.scan scan && nat_le (scan - row.scan) row.dark

-- Power fails in a scan that has a power row; a scan that is dark by one has none; any other scan
-- has power.
abbrev pub power_by : Option PowerRow → Bool → ScanPower
power_by (Some row) dark = powers.Fails row.row
power_by None dark = if dark then powers.Dark else powers.Stays

unfoldable pub power_in : ControllerPlan → ℕ → ScanPower
power_in plan scan =
    power_by (find (is_failure_in (length plan.orders) scan) plan.power)
    (list_any (is_dark_by scan) plan.power)

-- A scan ends without power: it failed, or there was none.
abbrev pub ends_off : ScanPower → Bool
ends_off powers.Stays = false
ends_off _ = true

-- A plan without power rows has power in each scan.
abbrev pub KeptPowerStays : Type 0
KeptPowerStays =
    (plan : ControllerPlan) (scan : ℕ) → KeepsPower plan → power_in plan scan ≡ powers.Stays
