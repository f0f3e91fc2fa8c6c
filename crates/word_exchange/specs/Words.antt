-- The words that drops give by wires. All of it is this project's own.
use Rattle.std.specs.Prelude.{ℕ, ◌==◌, Bool, false, if◌then◌else◌, nat_lt, List, []}
use Rattle.std.specs.Prelude.{◌∷◌, replicate, filter_map, Option, Some, None}
use Rattle.std.specs.List.{count_by, find, last_or}
use Rattle.std.specs.Option.{option_and_then, option_or, unwrap_or}
use Rattle.plant_types.specs.declared.drops.IoDrop.{IoDrop}
use Rattle.plant_types.specs.declared.plan.ControllerPlan.{ControllerPlan}
use Rattle.scan_order.specs.Due.{input_of, output_of, row_of}
use Rattle.traffic_cop.specs.Exchange.{output_total}
use Rattle.ring_core.specs.declared.entry.RingEntry.{RingEntry}
use Rattle.ring_core.specs.declared.entry.RingEntry.TheVariants.{Pass}
use Rattle.controller_core.specs.declared.entry.Entry.{Entry}
use Rattle.controller_core.specs.declared.entry.Entry.TheVariants as entries
use Rattle.joint_history.specs.declared.joint.ControllerLog.{ControllerLog}
use Rattle.joint_history.specs.declared.joint.Joint.{Joint}
use Rattle.joint_history.specs.Nets.{noted_on}

-- A drop is the one that a row names.
abbrev pub names_drop : ℕ → Option ℕ → Bool
names_drop number None = false
names_drop number (Some named) = named == number

-- The entries of a node's controller in a joint history; none where no controller has the node.
abbrev pub entries_if : Option ControllerLog → List Entry
entries_if None = []
entries_if (Some log) = log.entries

abbrev pub entries_of : ℕ → Joint → List Entry
entries_of node joint =
    entries_if (find (λ (log : ControllerLog). log.node == node) joint.controllers)

-- The words of an entry that is an Output of a drop.
abbrev pub output_to : ControllerPlan → ℕ → Entry → Option (List ℕ)
output_to plan number (entries.Output row words) =
    if names_drop number (output_of (row_of plan row)) then Some words else None
output_to plan number _ = None

-- The words of the last Output of a drop in a list, if there is one.
abbrev pub last_output : ControllerPlan → ℕ → List Entry → Option (List ℕ)
last_output plan number list = last_or None (filter_map (output_to plan number) list)

-- An entry is an Input of a drop.
abbrev pub is_input_of : ControllerPlan → ℕ → Entry → Bool
is_input_of plan number (entries.Input row) = names_drop number (input_of (row_of plan row))
is_input_of plan number _ = false

-- An entry of a ring is a Pass of a node.
abbrev pub is_pass_of : ℕ → RingEntry → Bool
is_pass_of node (Pass maker done words) = maker == node
is_pass_of node _ = false

-- How often the node of a controller has passed the token of its ring.
abbrev pub passes_of : ControllerPlan → Joint → ℕ
passes_of plan joint = count_by (is_pass_of plan.node) (noted_on plan.network joint)

-- The joint history, if the node of a controller has passed the token since another one.
abbrev pub if_passed : ControllerPlan → Joint → Joint → Option Joint
if_passed plan old new = if nat_lt (passes_of plan old) (passes_of plan new) then Some new else None

-- The joint history after the last repetition in which the node of a controller passed the token,
-- among the joint histories before a first repetition and after each so far.
unfoldable pub last_passed : ControllerPlan → List Joint → Option Joint
last_passed plan [] = None
last_passed plan (joint ∷ []) = None
last_passed plan (old ∷ new ∷ later) =
    option_or (last_passed plan (new ∷ later)) (if_passed plan old new)

-- The words of the last Output for a drop in a joint history, and zeros where there is none.
abbrev pub output_in : ControllerPlan → ℕ → Joint → Option (List ℕ)
output_in plan number joint = last_output plan number (entries_of plan.node joint)

abbrev pub words_in : ControllerPlan → IoDrop → Option Joint → List ℕ
words_in plan drop joint =
    unwrap_or (option_and_then (output_in plan drop.number) joint)
    (replicate (output_total drop.modules) 0)

-- The words that a drop sends at a moment, by the joint histories at the start and after each
-- repetition so far: those of the last Output for it that its controller made before its node's
-- last Pass, and zeros where there is none. All Outputs of a repetition stand before its Passes.
abbrev pub words_sent : ControllerPlan → IoDrop → List Joint → List ℕ
words_sent plan drop moments = words_in plan drop (last_passed plan moments)

-- The words of the latest Output for a drop at a moment, and zeros where there is none.
abbrev pub words_latest : ControllerPlan → IoDrop → List Joint → List ℕ
words_latest plan drop moments = words_in plan drop (last_or None moments)
