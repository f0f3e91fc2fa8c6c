-- Readers and wired drops at the start of a word exchange. All of it is this project's own.
use Rattle.std.specs.Prelude.{◌≡◌, ℕ, ◌==◌, Bool, true, false, ◌&&◌, List, [], ◌∷◌, ◌++◌, max}
use Rattle.std.specs.Prelude.{Option, Some, None}
use Rattle.std.specs.List.{All, AllPairs, AllZip, Contains, find, list_any}
use Rattle.plant_types.specs.declared.drops.IoDrop.{IoDrop}
use Rattle.plant_types.specs.declared.drops.ScriptRow.{ScriptRow}
use Rattle.plant_types.specs.declared.plan.ControllerPlan.{ControllerPlan}
use Rattle.plant_types.specs.declared.plan.Plant.{Plant}
use Rattle.traffic_cop.specs.Exchange.{input_total}
use Rattle.peer_cop.specs.declared.wire.Wire.{Wire}
use Rattle.peer_cop.specs.Plants.{drop_of, plan_of}
use Rattle.word_exchange.specs.declared.feeding.WiredDrop.{WiredDrop}
use Rattle.word_exchange.specs.declared.running.WireReader.{WireReader}
use Rattle.word_exchange.specs.Feeding.{AreOtherDrops}
use Rattle.word_exchange.specs.Rows.{inputs_a_scan, own_row}
use Rattle.word_exchange.specs.Sendings.{sending_of}
use Rattle.word_exchange.specs.Sources.{row_brought, sources_due}

-- The controller of a node has a drop of this number.
abbrev pub HasDropAt : Plant → ℕ → ℕ → Type 0
HasDropAt plant node number = (drop : IoDrop) × (drop_of plant node number ≡ Some drop)

-- The drop of a number that the controller of a node has, with the controller.
pub record IsDropAt (plant : Plant) (node number : ℕ) (plan : ControllerPlan) (drop : IoDrop)
    : Type 0 where
  pub plan_is : plan_of plant node ≡ Some plan
  pub drop_is : drop_of plant node number ≡ Some drop

-- The reader of the drop from which a wire comes: nothing was read, and it sends zeros.
pub record IsReaderAtStart (plant : Plant) (from : Wire) (reader : WireReader) : Type 0 where
  pub drop : IoDrop
  pub at : IsDropAt plant from.from from.from_drop reader.plan.now drop
  pub sending : reader.sending ≡ sending_of plant [] from
  pub entries : reader.entries ≡ 0
  pub ring : reader.ring ≡ 0

-- A reader for each of these wires.
abbrev pub AreReadersAtStart : Plant → List Wire → List WireReader → Type 0
AreReadersAtStart plant froms readers = AllZip (IsReaderAtStart plant) froms readers

-- The drop at which a wire ends, with one row: its first own one, with the words that the readers
-- bring.
pub record IsWiredAtStart (plant : Plant) (wires froms : List Wire) (readers : List WireReader)
    (wire : Wire) (one : WiredDrop) : Type 0 where
  pub at : IsDropAt plant wire.node wire.drop one.plan.now one.drop.now
  pub sources : one.sources.items
      ≡ sources_due froms wires wire.node wire.drop (input_total one.drop.now.modules)
  pub script : one.script
      ≡ row_brought readers one.sources.items (own_row one.drop.now 1) ∷ []
  pub inputs : one.inputs ≡ inputs_a_scan one.plan.now wire.drop
  pub exchanges : one.exchanges ≡ 0
  pub entries : one.entries ≡ 0
  pub needed : one.needed ≡ max 1 one.inputs

-- A wired drop is that of a number at the controller of a node.
abbrev pub is_drop_of : ℕ → ℕ → WiredDrop → Bool
is_drop_of node number one = (node == one.plan.now.node) && (number == one.drop.now.number)

-- Some of these wires end at a wired drop.
abbrev pub IsOfWires : Plant → List Wire → List Wire → List Wire → List WireReader → WiredDrop
    → Type 0
IsOfWires plant wires froms some readers one =
    (wire : Wire) × (Contains some wire) × IsWiredAtStart plant wires froms readers wire one

-- The drops at which some of the wires end, each once.
pub record AreWiredOf (plant : Plant) (wires froms some : List Wire) (readers : List WireReader)
    (wired : List WiredDrop) : Type 0 where
  pub each : All (IsOfWires plant wires froms some readers) wired
  pub there : All (λ (wire : Wire). list_any (is_drop_of wire.node wire.drop) wired ≡ true) some
  pub apart : AllPairs AreOtherDrops wired

-- A wired drop is added for a wire, unless the drop at which it ends is there.
abbrev pub AddsIf : Bool → Plant → List Wire → List Wire → List WireReader → Wire → List WiredDrop
    → List WiredDrop → Type 0
AddsIf true plant wires froms readers wire old new = new ≡ old
AddsIf false plant wires froms readers wire old new =
    (one : WiredDrop) × (IsWiredAtStart plant wires froms readers wire one)
    × (new ≡ old ++ one ∷ [])

abbrev pub AddsWired : Plant → List Wire → List Wire → List WireReader → Wire → List WiredDrop
    → List WiredDrop → Type 0
AddsWired plant wires froms readers wire old new =
    AddsIf (list_any (is_drop_of wire.node wire.drop) old) plant wires froms readers wire old new

-- The drops at which the wires end, each once.
abbrev pub AreWiredAtStart : Plant → List Wire → List Wire → List WireReader → List WiredDrop
    → Type 0
AreWiredAtStart plant wires froms readers wired = AreWiredOf plant wires froms wires readers wired

-- The script of a drop of a node's controller: that of the wired drop, or its own.
abbrev pub script_or : IoDrop → Option WiredDrop → List ScriptRow
script_or drop None = drop.script
script_or drop (Some one) = one.script

abbrev pub script_in : List WiredDrop → ℕ → IoDrop → List ScriptRow
script_in wired node drop = script_or drop (find (is_drop_of node drop.number) wired)

-- The rule by which wired drops have their scripts, and others their own.
abbrev pub rule_of : List WiredDrop → ControllerPlan → IoDrop → List ScriptRow
rule_of wired plan drop = script_in wired plan.node drop
