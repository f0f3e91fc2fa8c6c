-- A plan that passes its tests finds all that it asks in the store that its sizes make.
use Rattle.std.proofs.Common.{◌≡◌, ℕ, ◌+◌, ◌<◌, ◌≤◌, ◌%◌, true, false, ◌&&◌, ◌==◌, List, [], ◌∷◌}
use Rattle.std.proofs.Common.{◌++◌, refl, sym, ap, ◌∙◌, arith}
use Rattle.std.specs.Prelude.{nat_le}
use Rattle.std.specs.List.{list_all, AllByRecursion}
use Rattle.std.proofs.lemmas.Bool.{and_parts, and_from, leb-true, le-leb}
use Rattle.plant_types.specs.declared.reference.Ref.{Ref}
use Rattle.plant_types.specs.declared.reference.RefKind.{RefKind}
use Rattle.plant_types.specs.declared.reference.RefKind.TheVariants as kinds
use Rattle.plant_types.specs.declared.element.Operand.{Operand}
use Rattle.plant_types.specs.declared.element.Operand.TheVariants.{Const, At}
use Rattle.plant_types.specs.declared.element.Element.{Element}
use Rattle.plant_types.specs.declared.slot.Slot.{Slot}
use Rattle.plant_types.specs.declared.slot.Slot.TheVariants.{Discrete, Driven, Number, Source}
use Rattle.plant_types.specs.declared.slot.Slot.TheVariants.{Target, Constant}
use Rattle.plant_types.specs.Slots.{run_count, slots_of}
use Rattle.plant_types.specs.Elements.{name_of, operands_of, length_of}
use Rattle.plant_types.specs.declared.network.Cell.{Cell}
use Rattle.plant_types.specs.declared.network.Network.{Network}
use Rattle.plant_types.specs.declared.network.Segment.{Segment}
use Rattle.plant_types.specs.declared.plan.ControllerPlan.{ControllerPlan}
use Rattle.plant_types.specs.Reference.{ref_from, is_coil, is_discrete, is_register, is_holding}
use Rattle.plant_types.specs.Store.{HasDiscrete, HasRegisters}
use Rattle.plant_types.specs.Sizes.{Sizes, count_of, has_reference, has_run, discretes_of, cleared}
use Rattle.plant_types.specs.Operands.{OperandKind, OnlyCoil, AnyDiscrete, AnyRegister, OnlyHolding}
use Rattle.plant_types.specs.Operands.{accepts, Named, coil, discrete, target, named_in, named_as}
use Rattle.plant_types.specs.Operands.{named_at, named_by, names_of, has_form, has_values}
use Rattle.plant_types.specs.Operands.{has_kinds, HasKind, HasNamed, HasOperands, HasDiscreteKind}
use Rattle.plant_types.specs.Operands.{HasPast}
use Rattle.plant_types.specs.Network.{has_cell_place, is_within}
use Rattle.plant_types.specs.Checks.{has_room, element_passes, cell_passes, cells_pass, shorts_pass}
use Rattle.plant_types.specs.Checks.{network_passes, segment_passes, sizes_of, is_size}
use Rattle.plant_types.specs.Checks.{is_discrete_size, numbers_pass, EachOfCells, EachOfNetworks}
use Rattle.plant_types.specs.Checks.{EachOfSegments, HasPanel, are_driven_once, coils_of}
use Rattle.plant_types.specs.Checks.{CheckedPlansFindAll}
use Rattle.plant_types.proofs.SizesLemmas.{contains_key-cleared}

-- no kind has more than 9984 references
abbrev FitsKinds : Sizes → Type 0
FitsKinds sizes = (kind : RefKind) → count_of sizes kind ≤ 9984

-- a coil is a discrete
discrete_from_coil : (kind : RefKind) → is_coil kind ≡ true → is_discrete kind ≡ true
discrete_from_coil kinds.Coil h = refl
discrete_from_coil kinds.Input h = refl
discrete_from_coil kinds.InputRegister h = h
discrete_from_coil kinds.Register h = h

-- a register is none
register_no_discrete : (kind : RefKind) → is_register kind ≡ true → is_discrete kind ≡ false
register_no_discrete kinds.Coil h = sym h
register_no_discrete kinds.Input h = sym h
register_no_discrete kinds.InputRegister h = refl
register_no_discrete kinds.Register h = refl

-- a holding register is a register
register_from_holding : (kind : RefKind) → is_holding kind ≡ true → is_register kind ≡ true
register_from_holding kinds.Coil h = h
register_from_holding kinds.Input h = h
register_from_holding kinds.InputRegister h = refl
register_from_holding kinds.Register h = refl

-- the discretes alone are as many
count_of-discretes : (sizes : Sizes) (kind : RefKind) → is_discrete kind ≡ true
    → count_of (discretes_of sizes) kind ≡ count_of sizes kind
count_of-discretes sizes kinds.Coil h = refl
count_of-discretes sizes kinds.Input h = refl
count_of-discretes sizes kinds.InputRegister h = absurd (cc)
count_of-discretes sizes kinds.Register h = absurd (cc)

-- each reference of a run that fits the sizes is one of theirs
has_reference-run : (sizes : Sizes) (at : Ref) (count i : ℕ) → has_run sizes at count ≡ true
    → i < count → has_reference sizes (ref_from at i) ≡ true
has_reference-run sizes at count i room within =
    let parts = and_parts (nat_le 1 at.number)
    (nat_le (at.number + count) (count_of sizes at.kind + 1)) room in
    let low = leb-true _ _ parts.0 in
    let high = leb-true _ _ parts.1 in
    and_from (nat_le 1 (at.number + i)) (nat_le (at.number + i) (count_of sizes at.kind))
    (le-leb _ _ (omega arith)) (le-leb _ _ (omega arith))

-- the first of a run of at least one
has_reference-first : (sizes : Sizes) (at : Ref) → has_run sizes at 1 ≡ true
    → has_reference sizes at ≡ true
has_reference-first sizes at room =
    let parts = and_parts (nat_le 1 at.number)
    (nat_le (at.number + 1) (count_of sizes at.kind + 1)) room in
    let high = leb-true _ _ parts.1 in
    and_from (nat_le 1 at.number) (nat_le at.number (count_of sizes at.kind)) parts.0
    (le-leb _ _ (omega arith))

-- a discrete with room is found
discrete_found : (sizes : Sizes) (at : Ref) → is_discrete at.kind ≡ true → has_run sizes at 1 ≡ true
    → HasDiscrete (cleared sizes) at
discrete_found sizes at kind room =
    (contains_key-cleared sizes at ∙ has_reference-first sizes at room, kind)

-- registers with room are found
registers_found : (sizes : Sizes) (at : Ref) (count : ℕ) → FitsKinds sizes
    → is_register at.kind ≡ true → has_run sizes at count ≡ true
    → HasRegisters (cleared sizes) at count
registers_found sizes at count fits kind room = record {
  kind = register_no_discrete at.kind kind;
  range =
      let parts = and_parts (nat_le 1 at.number)
      (nat_le (at.number + count) (count_of sizes at.kind + 1)) room in
      let high = leb-true _ _ parts.1 in
      let most = fits at.kind in
      omega arith;
  held = λ i l. contains_key-cleared sizes (ref_from at i)
      ∙ has_reference-run sizes at count i room l;
}

-- a discrete that is found in all references stands among the discretes alone
discretes_found : (sizes : Sizes) (at : Ref) → HasDiscrete (cleared sizes) at
    → HasDiscrete (cleared (discretes_of sizes)) at
discretes_found sizes at found =
    let most = count_of-discretes sizes at.kind found.1 in (
      contains_key-cleared (discretes_of sizes) at
          ∙ ap (λ count. nat_le 1 at.number && nat_le at.number count) most
          ∙ sym (contains_key-cleared sizes at)
          ∙ found.0,
      found.1,
    )

-- a discrete is named with no more behind it
abbrev IsAlone : OperandKind → ℕ → Type 0
IsAlone OnlyCoil count = count ≡ 1
IsAlone AnyDiscrete count = count ≡ 1
IsAlone AnyRegister count = Unit {0}
IsAlone OnlyHolding count = Unit {0}

-- each discrete of these is
abbrev AreAlone : List Named → Type 0
AreAlone names = AllByRecursion (λ named. IsAlone named.kind named.count) names

-- so is what an operand names
as_alone : (name : Ref → Named) → ((at : Ref) → IsAlone (name at).kind (name at).count)
    → (operand : Operand) (rest : List Named)
    → AreAlone rest → AreAlone (named_as name operand ++ rest)
as_alone name alone (Const n) rest h = h
as_alone name alone (At at) rest h = (alone at, h)

-- registers have no other
register_alone : (operand : Operand) (count : ℕ) (rest : List Named) → AreAlone rest
    → AreAlone (named_in operand count ++ rest)
register_alone (Const n) count rest h = h
register_alone (At at) count rest h = (tt, h)

-- so it is in each slot
slot_alone : (length : ℕ) (slot : Slot) (operand : Operand) (rest : List Named) → AreAlone rest
    → AreAlone (named_at length slot operand ++ rest)
slot_alone length Discrete operand rest h = as_alone discrete (λ at. refl) operand rest h
slot_alone length Driven operand rest h = as_alone coil (λ at. refl) operand rest h
slot_alone length (Number run) operand rest h = register_alone operand (run_count run length) rest h
slot_alone length (Source run) operand rest h = register_alone operand (run_count run length) rest h
slot_alone length (Target run) operand rest h =
    as_alone (λ at. target at (run_count run length)) (λ at. tt) operand rest h
slot_alone length (Constant most) operand rest h = h

-- and in all of them
named_alone : (length : ℕ) (slots : List Slot) (operands : List Operand)
    → AreAlone (named_by length slots operands)
named_alone length [] operands = tt
named_alone length (slot ∷ slots) [] = tt
named_alone length (slot ∷ slots) (operand ∷ operands) =
    slot_alone length slot operand _ (named_alone length slots operands)

-- so are those that an element names
names_alone : (element : Element) → AreAlone (names_of element)
names_alone element =
    named_alone (length_of element) (slots_of (name_of element)) (operands_of element)

-- a discrete that is named alone, with room, is found
discrete_alone : (sizes : Sizes) (at : Ref) (count : ℕ) → count ≡ 1 → is_discrete at.kind ≡ true
    → has_run sizes at count ≡ true
    → HasDiscrete (cleared sizes) at
discrete_alone sizes at count alone kind room =
    discrete_found sizes at kind (ap (has_run sizes at) (sym alone) ∙ room)

-- a named reference of the right kind, with room in the sizes, is found
kind_found : (sizes : Sizes) (at : Ref) (count : ℕ) (kind : OperandKind) → FitsKinds sizes
    → IsAlone kind count → accepts kind at.kind ≡ true
    → has_run sizes at count ≡ true → HasKind (cleared sizes) at count kind
kind_found sizes at count OnlyCoil fits alone kind room =
    discrete_alone sizes at count alone (discrete_from_coil at.kind kind) room
kind_found sizes at count AnyDiscrete fits alone kind room =
    discrete_alone sizes at count alone kind room
kind_found sizes at count AnyRegister fits alone kind room =
    registers_found sizes at count fits kind room
kind_found sizes at count OnlyHolding fits alone kind room =
    registers_found sizes at count fits (register_from_holding at.kind kind) room

-- a discrete that is found in all references is found among the discretes alone
past_found : (sizes : Sizes) (at : Ref) (count : ℕ) (kind : OperandKind)
    → HasKind (cleared sizes) at count kind
    → HasDiscreteKind (cleared (discretes_of sizes)) at kind
past_found sizes at count OnlyCoil found = discretes_found sizes at found
past_found sizes at count AnyDiscrete found = discretes_found sizes at found
past_found sizes at count AnyRegister found = tt
past_found sizes at count OnlyHolding found = tt

-- the same of all that an element names
names_found : (sizes : Sizes) (names : List Named) → FitsKinds sizes → AreAlone names
    → list_all (λ (named : Named). accepts named.kind named.at.kind) names ≡ true
    → list_all (λ (named : Named). has_run sizes
    named.at named.count) names ≡ true
    → AllByRecursion (HasNamed (cleared sizes)) names
names_found sizes [] fits alone kinds room = tt
names_found sizes (named ∷ names) fits alone kinds room =
    let kind = and_parts (accepts named.kind named.at.kind) _ kinds in
    let run = and_parts (has_run sizes named.at named.count) _ room in (
      kind_found sizes named.at named.count named.kind fits alone.0 kind.0 run.0,
      names_found sizes names fits alone.1 kind.1 run.1,
    )

-- and of the discretes among it
pasts_found : (sizes : Sizes) (names : List Named) → AllByRecursion (HasNamed (cleared sizes)) names
    → AllByRecursion
    (λ (named : Named). HasDiscreteKind (cleared (discretes_of sizes)) named.at named.kind) names
pasts_found sizes [] found = tt
pasts_found sizes (named ∷ names) found =
    (past_found sizes named.at named.count named.kind found.0, pasts_found sizes names found.1)

-- an element that passes finds what it asks
element_finds : (sizes : Sizes) (element : Element) → FitsKinds sizes
    → element_passes sizes element ≡ true → HasOperands (cleared sizes) element
element_finds sizes element fits passes =
    let room = and_parts (has_form element && has_values element && has_kinds element)
    (has_room sizes element) passes in
    let kinds = and_parts (has_form element && has_values element) (has_kinds element) room.0 in
    let constants = and_parts (has_form element) (has_values element) kinds.0 in
    record {
      form = constants.0;
      values = constants.1;
      references = names_found sizes (names_of element) fits (names_alone element) kinds.1 room.1;
    }

-- an element that passes finds the discretes that it names as the scan before ended
element_finds_past : (sizes : Sizes) (element : Element) → FitsKinds sizes
    → element_passes sizes element ≡ true
    → HasPast (cleared (discretes_of sizes)) element
element_finds_past sizes element fits passes =
    pasts_found sizes (names_of element) ((element_finds sizes element fits passes).references)

-- what follows for each element that passes follows for all elements of cells, networks and
-- segments that pass
cells_such : (Such : Element → Type 0) (sizes : Sizes)
    → ((element : Element) → element_passes sizes element ≡ true → Such element)
    → (cells : List Cell) → list_all (cell_passes sizes) cells ≡ true → EachOfCells Such cells
cells_such Such sizes such [] h = tt
cells_such Such sizes such (cell ∷ cells) h =
    let parts = and_parts (cell_passes sizes cell) _ h in
    let within = and_parts (has_cell_place cell && element_passes sizes cell.element)
    (is_within cell) parts.0 in
    let element = and_parts (has_cell_place cell) (element_passes sizes cell.element) within.0 in
    (such cell.element element.1, cells_such Such sizes such cells parts.1)

networks_such : (Such : Element → Type 0) (sizes : Sizes)
    → ((element : Element) → element_passes sizes element ≡ true → Such element)
    → (networks : List Network) → list_all (network_passes sizes) networks ≡ true
    → EachOfNetworks Such networks
networks_such Such sizes such [] h = tt
networks_such Such sizes such (network ∷ networks) h =
    let parts = and_parts (network_passes sizes network) _ h in
    let cells = and_parts (cells_pass sizes network.cells) (shorts_pass network.shorts) parts.0 in
    let each = and_parts (list_all (cell_passes sizes) network.cells) _ cells.0 in (
      cells_such Such sizes such network.cells each.0,
      networks_such Such sizes such networks parts.1,
    )

segments_such : (Such : Element → Type 0) (sizes : Sizes)
    → ((element : Element) → element_passes sizes element ≡ true → Such element)
    → (segments : List Segment) → list_all (segment_passes sizes) segments ≡ true
    → EachOfSegments Such segments
segments_such Such sizes such [] h = tt
segments_such Such sizes such (segment ∷ segments) h =
    let parts = and_parts (segment_passes sizes segment) _ h in (
      networks_such Such sizes such segment.networks parts.0,
      segments_such Such sizes such segments parts.1,
    )

-- a panel that passes finds its references
panel_finds : (sizes : Sizes) (panel : List Ref) → list_all (has_reference sizes) panel ≡ true
    → HasPanel (cleared sizes) panel
panel_finds sizes [] h = tt
panel_finds sizes (at ∷ panel) h =
    let parts = and_parts (has_reference sizes at) _ h in
    (contains_key-cleared sizes at ∙ parts.0, panel_finds sizes panel parts.1)

-- sizes that pass are those of kinds of at most 9984
sizes_fit : (plan : ControllerPlan) → numbers_pass plan ≡ true → FitsKinds (sizes_of plan)
sizes_fit plan h =
    let node = and_parts (nat_le 1 plan.node && nat_le plan.node 64) _ h in
    let coils = and_parts (is_discrete_size plan.coils) _ node.1 in
    let inputs = and_parts (is_discrete_size plan.inputs) _ coils.1 in
    let registers = and_parts (is_size plan.input_registers) (is_size plan.registers) inputs.1 in
    λ kind. elim kind as (λ k. count_of (sizes_of plan) k ≤ 9984) [
      | kinds.Coil ↦ leb-true _ _ (and_parts (is_size plan.coils) (plan.coils % 16 == 0) coils.0).0
      | kinds.Input ↦
          leb-true _ _ (and_parts (is_size plan.inputs) (plan.inputs % 16 == 0) inputs.0).0
      | kinds.InputRegister ↦ leb-true _ _ registers.0
      | kinds.Register ↦ leb-true _ _ registers.1
    ]

-- a plan that passes finds all that it asks
pub checked-find_all : CheckedPlansFindAll
checked-find_all plan h =
    let sizes = sizes_of plan in
    let numbers = and_parts (numbers_pass plan) _ h in
    let segments = and_parts (list_all (segment_passes sizes) plan.segments) _ numbers.1 in
    let panel = and_parts (are_driven_once (coils_of plan))
    (list_all (has_reference sizes) plan.panel) segments.1 in
    let fits = sizes_fit plan numbers.0 in
    record {
      operands = segments_such (HasOperands (cleared sizes)) sizes
          (λ element. element_finds sizes element fits) plan.segments segments.0;
      past = segments_such (HasPast (cleared (discretes_of sizes))) sizes
          (λ element. element_finds_past sizes element fits) plan.segments segments.0;
      panel = panel_finds sizes plan.panel panel.1;
    }
