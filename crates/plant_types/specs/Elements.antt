-- An element as its name and its operands.
use Rattle.std.specs.Prelude.{ℕ, List, [], ◌∷◌, Option, Some, None, option_map, option_and_then}
use Rattle.plant_types.specs.declared.reference.Ref.{Ref}
use Rattle.plant_types.specs.declared.element.Operand.{Operand}
use Rattle.plant_types.specs.declared.element.Operand.TheVariants.{Const, At}
use Rattle.plant_types.specs.declared.element.Element.{Element}
use Rattle.plant_types.specs.declared.element.Element.TheVariants.{Open, Closed, Rise, Fall, Coil}
use Rattle.plant_types.specs.declared.element.Element.TheVariants.{Latch, Wire, Timer, Counter}
use Rattle.plant_types.specs.declared.element.Element.TheVariants.{Math, Move, Matrix, Skip, Label}
use Rattle.plant_types.specs.declared.element.Element.TheVariants.{Call, Return, Mstr}
use Rattle.plant_types.specs.declared.name.ElementName.{ElementName}
use Rattle.plant_types.specs.declared.name.ElementName.TheVariants as names

-- The name of an element. Modicon Ladder Logic Block Library User Guide.
abbrev pub name_of : Element → ElementName
name_of (Open at) = names.Open
name_of (Closed at) = names.Closed
name_of (Rise at) = names.Rise
name_of (Fall at) = names.Fall
name_of (Coil at) = names.Coil
name_of (Latch at) = names.Latch
name_of Wire = names.Wire
name_of (Timer unit preset acc) = names.Timer unit
name_of (Counter up preset acc) = names.Counter up
name_of (Math op top mid low) = names.Math op
name_of (Move op top mid length) = names.Move op
name_of (Matrix op top mid length) = names.Matrix op
name_of (Skip number) = names.Skip
name_of (Label number) = names.Label
name_of (Call number) = names.Call
name_of Return = names.Return
name_of (Mstr control area length) = names.Mstr

-- The operands of an element, in the order in which they are written. This project's own table
-- of operands.
abbrev pub operands_of : Element → List Operand
operands_of (Open at) = At at ∷ []
operands_of (Closed at) = At at ∷ []
operands_of (Rise at) = At at ∷ []
operands_of (Fall at) = At at ∷ []
operands_of (Coil at) = At at ∷ []
operands_of (Latch at) = At at ∷ []
operands_of Wire = []
operands_of (Timer unit preset acc) = preset ∷ At acc ∷ []
operands_of (Counter up preset acc) = preset ∷ At acc ∷ []
operands_of (Math op top mid low) = top ∷ mid ∷ At low ∷ []
operands_of (Move op top mid length) = At top ∷ At mid ∷ Const length ∷ []
operands_of (Matrix op top mid length) = top ∷ At mid ∷ Const length ∷ []
operands_of (Skip number) = number ∷ []
operands_of (Label number) = Const number ∷ []
operands_of (Call number) = number ∷ []
operands_of Return = []
operands_of (Mstr control area length) = At control ∷ At area ∷ Const length ∷ []

-- The length operand of a block on a table, 0 where there is none. This project's own table of
-- operands.
abbrev pub length_of : Element → ℕ
length_of (Move op top mid length) = length
length_of (Matrix op top mid length) = length
length_of (Mstr control area length) = length
length_of _ = 0

-- The reference that an operand is. This project's own.
abbrev pub reference_in : Operand → Option Ref
reference_in (At at) = Some at
reference_in (Const n) = None

-- The constant that an operand is. This project's own.
abbrev pub constant_in : Operand → Option ℕ
constant_in (Const n) = Some n
constant_in (At at) = None

-- The one operand of a contact or a coil. This project's own table of operands.
abbrev pub one_reference : List Operand → Option Ref
one_reference (at ∷ []) = reference_in at
one_reference _ = None

-- The one operand of an element that has one. This project's own table of operands.
abbrev pub one_operand : List Operand → Option Operand
one_operand (operand ∷ []) = Some operand
one_operand _ = None

-- An element that has no operand. This project's own table of operands.
abbrev pub without_operands : Element → List Operand → Option Element
without_operands element [] = Some element
without_operands element _ = None

-- The preset and the accumulator of a timer or a counter. This project's own table of operands.
abbrev pub preset_and_acc : List Operand → Option (Operand × Ref)
preset_and_acc (preset ∷ acc ∷ []) = option_map (λ acc. (preset, acc)) (reference_in acc)
preset_and_acc _ = None

-- The two numbers of a block of arithmetic, and where it stores. This project's own table of
-- operands.
abbrev pub numbers_and_low : List Operand → Option (Operand × Operand × Ref)
numbers_and_low (top ∷ mid ∷ low ∷ []) = option_map (λ low. (top, mid, low)) (reference_in low)
numbers_and_low _ = None

-- The operands of a block on a table: its top, its middle and its length. This project's own
-- table of operands.
abbrev pub table_operands : List Operand → Option (Operand × Ref × ℕ)
table_operands (top ∷ mid ∷ length ∷ []) =
    option_and_then (λ mid. option_map (λ length. (top, mid, length)) (constant_in length))
    (reference_in mid)
table_operands _ = None

-- The element of a name and operands. This project's own table of operands.
abbrev pub element_of : ElementName → List Operand → Option Element
element_of names.Open operands = option_map Open (one_reference operands)
element_of names.Closed operands = option_map Closed (one_reference operands)
element_of names.Rise operands = option_map Rise (one_reference operands)
element_of names.Fall operands = option_map Fall (one_reference operands)
element_of names.Coil operands = option_map Coil (one_reference operands)
element_of names.Latch operands = option_map Latch (one_reference operands)
element_of names.Wire operands = without_operands Wire operands
element_of names.Return operands = without_operands Return operands
element_of (names.Timer unit) operands =
    option_map (λ o. Timer unit o.0 o.1) (preset_and_acc operands)
element_of (names.Counter up) operands =
    option_map (λ o. Counter up o.0 o.1) (preset_and_acc operands)
element_of (names.Math op) operands =
    option_map (λ o. Math op o.0 o.1 o.2) (numbers_and_low operands)
element_of (names.Move op) operands =
    option_and_then (λ o. option_map (λ top. Move op top o.1 o.2) (reference_in o.0))
    (table_operands operands)
element_of (names.Matrix op) operands =
    option_map (λ o. Matrix op o.0 o.1 o.2) (table_operands operands)
element_of names.Skip operands = option_map Skip (one_operand operands)
element_of names.Call operands = option_map Call (one_operand operands)
element_of names.Label operands =
    option_map Label (option_and_then constant_in (one_operand operands))
element_of names.Mstr operands =
    option_and_then (λ o. option_map (λ control. Mstr control o.1 o.2) (reference_in o.0))
    (table_operands operands)
