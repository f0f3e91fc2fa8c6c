-- The operands of the elements: the references that each names, and its constants.
use Rattle.std.specs.Prelude.{◌≡◌, ℕ, Bool, true, false, nat_le, List, [], ◌∷◌, ◌++◌}
use Rattle.std.specs.List.{list_all, AllByRecursion}
use lib.Pointwise.{pointwise}
use Rattle.plant_types.specs.declared.reference.Ref.{Ref}
use Rattle.plant_types.specs.declared.reference.RefKind.{RefKind}
use Rattle.plant_types.specs.declared.element.Operand.{Operand}
use Rattle.plant_types.specs.declared.element.Operand.TheVariants.{Const, At}
use Rattle.plant_types.specs.declared.element.Element.{Element}
use Rattle.plant_types.specs.declared.slot.Slot.{Slot}
use Rattle.plant_types.specs.declared.slot.Slot.TheVariants.{Discrete, Driven, Number, Source}
use Rattle.plant_types.specs.declared.slot.Slot.TheVariants.{Target, Constant}
use Rattle.plant_types.specs.Slots.{run_count, slots_of}
use Rattle.plant_types.specs.Elements.{name_of, operands_of, length_of}
use Rattle.plant_types.specs.Reference.{is_coil, is_discrete, is_register, is_holding}
use Rattle.plant_types.specs.Store.{Contents, word_at, HasDiscrete, HasRegisters}
use Rattle.plant_types.specs.Limits.{is_up_to}

-- The number of an operand. Modicon Ladder Logic Block Library User Guide.
abbrev pub operand_number : Contents → Operand → ℕ
operand_number m (Const n) = n
operand_number m (At at) = word_at m at

-- A constant, or a register that stands. This project's own.
abbrev pub HasNumber : Contents → Operand → Type 0
HasNumber m (Const n) = Unit {0}
HasNumber m (At at) = HasRegisters m at 1

-- What a reference of an element has to be. This project's own table of operands.
pub data OperandKind : Type 0 where
  OnlyCoil : OperandKind
  AnyDiscrete : OperandKind
  AnyRegister : OperandKind
  OnlyHolding : OperandKind

-- The kinds of reference that are such. This project's own table of operands.
abbrev pub accepts : OperandKind → RefKind → Bool
accepts OnlyCoil kind = is_coil kind
accepts AnyDiscrete kind = is_discrete kind
accepts AnyRegister kind = is_register kind
accepts OnlyHolding kind = is_holding kind

-- A reference that an element names: what it has to be, and how many references from it on the
-- element uses. This project's own.
pub record Named : Type 0 where
  pub at : Ref
  pub kind : OperandKind
  pub count : ℕ

-- One coil, one discrete, registers that are read, registers that are stored in. This project's
-- own.
abbrev pub coil : Ref → Named
coil at = record { at = at; kind = OnlyCoil; count = 1 }

abbrev pub discrete : Ref → Named
discrete at = record { at = at; kind = AnyDiscrete; count = 1 }

abbrev pub source : Ref → ℕ → Named
source at count = record { at = at; kind = AnyRegister; count = count }

abbrev pub target : Ref → ℕ → Named
target at count = record { at = at; kind = OnlyHolding; count = count }

-- What an operand names: nothing where it is a constant. This project's own table of operands.
abbrev pub named_in : Operand → ℕ → List Named
named_in (Const n) count = []
named_in (At at) count = source at count ∷ []

-- What an operand names as a reference of this sort: nothing where it is a constant. This
-- project's own table of operands.
abbrev pub named_as : (Ref → Named) → Operand → List Named
named_as name (Const n) = []
named_as name (At at) = name at ∷ []

-- What an operand names in its slot, where the length operand is this. This project's own table
-- of operands.
abbrev pub named_at : ℕ → Slot → Operand → List Named
named_at length Discrete operand = named_as discrete operand
named_at length Driven operand = named_as coil operand
named_at length (Number run) operand = named_in operand (run_count run length)
named_at length (Source run) operand = named_in operand (run_count run length)
named_at length (Target run) operand = named_as (λ at. target at (run_count run length)) operand
named_at length (Constant most) operand = []

-- What operands name, each in its slot. This project's own table of operands.
abbrev pub named_by : ℕ → List Slot → List Operand → List Named
named_by length (slot ∷ slots) (operand ∷ operands) =
    named_at length slot operand ++ named_by length slots operands
named_by length _ _ = []

-- The references that an element names. This project's own table of operands.
abbrev pub names_of : Element → List Named
names_of element = named_by (length_of element) (slots_of (name_of element)) (operands_of element)

-- An operand has the form of a slot: a constant, or a reference. This project's own table of
-- operands.
abbrev pub fits_form : Slot → Operand → Bool
fits_form (Number run) operand = true
fits_form (Constant most) (Const n) = true
fits_form (Constant most) (At at) = false
fits_form slot (Const n) = false
fits_form slot (At at) = true

-- An element has a constant only where it takes one. This project's own table of operands.
abbrev pub has_form : Element → Bool
has_form element = pointwise fits_form (slots_of (name_of element)) (operands_of element)

-- A constant has at most four digits. This project's own table of operands.
abbrev pub is_constant : Operand → Bool
is_constant (Const n) = nat_le n 9999
is_constant (At at) = true

-- A constant is in the range of a slot. This project's own table of operands.
abbrev pub fits_value : Slot → Operand → Bool
fits_value (Constant most) (Const n) = is_up_to most n
fits_value (Constant most) (At at) = true
fits_value slot operand = is_constant operand

-- The constants of an element are in their ranges. This project's own table of operands.
abbrev pub has_values : Element → Bool
has_values element = pointwise fits_value (slots_of (name_of element)) (operands_of element)

-- An element's references are of the kinds that it takes. This project's own table of operands.
abbrev pub has_kinds : Element → Bool
has_kinds element = list_all (λ named. accepts named.kind named.at.kind) (names_of element)

-- A discrete stands, or as many registers as are used. This project's own.
abbrev pub HasKind : Contents → Ref → ℕ → OperandKind → Type 0
HasKind m at count OnlyCoil = HasDiscrete m at
HasKind m at count AnyDiscrete = HasDiscrete m at
HasKind m at count AnyRegister = HasRegisters m at count
HasKind m at count OnlyHolding = HasRegisters m at count

-- A store has what a named reference asks. This project's own.
abbrev pub HasNamed : Contents → Named → Type 0
HasNamed m named = HasKind m named.at named.count named.kind

-- What solving an element asks of a store: its constants are such as it takes, and all its
-- references stand. This project's own.
pub record HasOperands (m : Contents) (element : Element) : Type 0 where
  pub form : has_form element ≡ true
  pub values : has_values element ≡ true
  pub references : AllByRecursion (HasNamed m) (names_of element)

-- A store of discretes has what a named reference asks of it: nothing for a register. This
-- project's own.
abbrev pub HasDiscreteKind : Contents → Ref → OperandKind → Type 0
HasDiscreteKind m at OnlyCoil = HasDiscrete m at
HasDiscreteKind m at AnyDiscrete = HasDiscrete m at
HasDiscreteKind m at AnyRegister = Unit {0}
HasDiscreteKind m at OnlyHolding = Unit {0}

-- What solving an element asks of the discretes as the scan before ended: those that it names.
-- This project's own.
abbrev pub HasPast : Contents → Element → Type 0
HasPast m element =
    AllByRecursion (λ named. HasDiscreteKind m named.at named.kind) (names_of element)

-- References are of the kinds that they have to be. This project's own table of operands.
abbrev pub have_kinds : List Named → Bool
have_kinds names = list_all (λ named. accepts named.kind named.at.kind) names

-- What an operand names in its slot is of a kind that the slot takes, where the length operand is
-- this. This project's own table of operands.
abbrev pub has_kinds_at : ℕ → Slot × Operand → Bool
has_kinds_at length at = have_kinds (named_at length at.0 at.1)
