-- The operands that a name takes, and what each has to be.
use Rattle.std.specs.Option.{option_map_or}
use Rattle.std.specs.Prelude.{ℕ, Bool, false, true, ◌||◌, if◌then◌else◌, List, [], ◌∷◌, Option}
use Rattle.std.specs.Prelude.{Some, None, option_map, option_and_then, Result}
use lib.Pointwise.{pointwise}
use Rattle.plant_types.specs.declared.reference.RefKind.{RefKind}
use Rattle.plant_types.specs.declared.reference.Ref.{Ref}
use Rattle.plant_types.specs.declared.element.Operand.{Operand}
use Rattle.plant_types.specs.declared.element.Operand.TheVariants.{Const, At}
use Rattle.plant_types.specs.declared.slot.Slot.{Slot}
use Rattle.plant_types.specs.declared.slot.Slot.TheVariants.{Discrete, Driven, Number, Source}
use Rattle.plant_types.specs.declared.slot.Slot.TheVariants.{Target, Constant}
use Rattle.plant_types.specs.Slots.{slots_of}
use Rattle.plant_types.specs.Operands.{OperandKind, OnlyCoil, AnyDiscrete, AnyRegister, OnlyHolding}
use Rattle.plant_types.specs.Operands.{accepts}
use Rattle.plant_types.specs.Limits.{is_up_to}
use Rattle.cell_text.specs.declared.names.PieceName.{PieceName}
use Rattle.cell_text.specs.declared.names.PieceName.TheVariants.{Element, Short}
use Rattle.cell_text.specs.declared.slots.WordTest.{WordTest}
use Rattle.cell_text.specs.declared.slots.WordTest.TheVariants.{Form, Value}
use Rattle.cell_text.specs.declared.piece.CellFault.{CellFault}
use Rattle.cell_text.specs.declared.piece.CellFault.TheVariants.{BadCell, BadValue, BadRef}
use Rattle.cell_text.specs.Steps.{◌>>=◌, or_fault, unless}
use Rattle.cell_text.specs.Numbers.{is_spelled_number, spelled_number, is_reference_word}
use Rattle.cell_text.specs.Numbers.{reference_of}

-- The operands that a piece of a name takes, in their order; a short takes none. This project's
-- own.
abbrev pub slots_of_piece : PieceName → List Slot
slots_of_piece (Element name) = slots_of name
slots_of_piece Short = []

-- The forms that an operand can have: five digits are a reference, one to four a constant. This
-- project's own.
abbrev pub takes_form : Slot → List ℕ → Bool
takes_form (Number run) word = is_spelled_number word || is_reference_word word
takes_form (Constant most) word = is_spelled_number word
takes_form _ word = is_reference_word word

-- A constant of a limited range is from 1 to the largest. This project's own.
abbrev pub takes_value : Slot → List ℕ → Bool
takes_value (Constant most) word = option_map_or (is_up_to most) (spelled_number word) false
takes_value _ word = true

-- A word passes a test of an operand. This project's own.
abbrev pub passes_word_test : WordTest → Slot → List ℕ → Bool
passes_word_test Form slot word = takes_form slot word
passes_word_test Value slot word = takes_value slot word

-- What a reference of an operand has to be; a constant of a limited range is none. This project's
-- own table of operands.
abbrev pub slot_kind : Slot → Option OperandKind
slot_kind Discrete = Some AnyDiscrete
slot_kind Driven = Some OnlyCoil
slot_kind (Number run) = Some AnyRegister
slot_kind (Source run) = Some AnyRegister
slot_kind (Target run) = Some OnlyHolding
slot_kind (Constant most) = None

-- An operand can be a reference of a kind. This project's own.
abbrev pub takes_kind : Slot → RefKind → Bool
takes_kind slot kind = option_map_or (λ sort. accepts sort kind) (slot_kind slot) false

-- A reference as an operand, where it is of a kind that is taken. This project's own.
abbrev pub taken_reference : Slot → Ref → Option Operand
taken_reference slot at = if takes_kind slot at.kind then Some (At at) else None

-- The operand that a word stands for. This project's own.
abbrev pub operand_in : Slot → List ℕ → Option Operand
operand_in slot word =
    if is_reference_word word
    then option_and_then (taken_reference slot) (reference_of word)
    else option_map Const (spelled_number word)

-- The operands that words stand for, one for each slot. This project's own.
unfoldable pub operands_in : List Slot → List (List ℕ) → Option (List Operand)
operands_in [] [] = Some []
operands_in (slot ∷ slots) (word ∷ words) =
    option_and_then (λ operand. option_map (λ operands. operand ∷ operands)
    (operands_in slots words))
    (operand_in slot word)
operands_in _ _ = None

-- The operands of a piece: each test is made of all of them before the next test. This project's
-- own.
unfoldable pub read_operands : List Slot → List (List ℕ) → Result (List Operand) CellFault
read_operands slots words = do
  forms ← unless (pointwise takes_form slots words) BadCell
  values ← unless (pointwise takes_value slots words) BadValue
  or_fault BadRef (operands_in slots words)
