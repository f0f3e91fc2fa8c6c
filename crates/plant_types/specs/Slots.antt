-- The table of operands: what each element takes. This project's own.
use Rattle.std.specs.Prelude.{ℕ, ◌+◌, List, [], ◌∷◌}
use Rattle.plant_types.specs.declared.element.MathOp.{MathOp}
use Rattle.plant_types.specs.declared.element.MathOp.TheVariants.{Add, Sub, Mul, Div}
use Rattle.plant_types.specs.declared.element.MoveOp.{MoveOp}
use Rattle.plant_types.specs.declared.element.MoveOp.TheVariants as moves
use Rattle.plant_types.specs.declared.element.MatrixOp.{MatrixOp}
use Rattle.plant_types.specs.declared.element.MatrixOp.TheVariants.{And, Or, Xor, Comp, Cmpr, Mbit}
use Rattle.plant_types.specs.declared.element.MatrixOp.TheVariants.{Sens, Brot}
use Rattle.plant_types.specs.declared.name.ElementName.{ElementName}
use Rattle.plant_types.specs.declared.name.ElementName.TheVariants.{Open, Closed, Rise, Fall, Coil}
use Rattle.plant_types.specs.declared.name.ElementName.TheVariants.{Latch, Wire, Timer, Counter}
use Rattle.plant_types.specs.declared.name.ElementName.TheVariants.{Math, Move, Matrix, Skip, Label}
use Rattle.plant_types.specs.declared.name.ElementName.TheVariants.{Call, Return, Mstr}
use Rattle.plant_types.specs.declared.slot.Run.{Run}
use Rattle.plant_types.specs.declared.slot.Run.TheVariants.{Fixed, Table, PointerAndTable}
use Rattle.plant_types.specs.declared.slot.Slot.{Slot}
use Rattle.plant_types.specs.declared.slot.Slot.TheVariants.{Discrete, Driven, Number, Source}
use Rattle.plant_types.specs.declared.slot.Slot.TheVariants.{Target, Constant}

-- How many registers a run is, where the length operand is this; a pointer stands before its
-- table.
abbrev pub run_count : Run → ℕ → ℕ
run_count (Fixed n) length = n
run_count Table length = length
run_count PointerAndTable length = length + 1

-- The largest length of a table, of a matrix or the data area of a message, the largest label,
-- and the registers of a control block.
abbrev pub table_limit : ℕ
table_limit = 255

abbrev pub matrix_limit : ℕ
matrix_limit = 100

abbrev pub label_limit : ℕ
label_limit = 255

abbrev pub control_block : ℕ
control_block = 9

-- One register, and two.
abbrev pub one : Run
one = Fixed 1

abbrev pub two : Run
two = Fixed 2

-- A product, and a quotient beside what is left over, take two registers.
abbrev pub math_slots : MathOp → List Slot
math_slots Add = Number one ∷ Number one ∷ Target one ∷ []
math_slots Sub = Number one ∷ Number one ∷ Target one ∷ []
math_slots Mul = Number one ∷ Number one ∷ Target two ∷ []
math_slots Div = Number two ∷ Number one ∷ Target two ∷ []

-- Moves between registers and tables.
abbrev pub move_slots : MoveOp → List Slot
move_slots moves.RegToTable = Source one ∷ Target PointerAndTable ∷ Constant table_limit ∷ []
move_slots moves.TableToReg = Source Table ∷ Target two ∷ Constant table_limit ∷ []
move_slots moves.TableToTable = Source Table ∷ Target PointerAndTable ∷ Constant table_limit ∷ []
move_slots moves.Copy = Source Table ∷ Target Table ∷ Constant table_limit ∷ []
move_slots moves.FirstIn = Source one ∷ Target PointerAndTable ∷ Constant table_limit ∷ []
move_slots moves.FirstOut = Target PointerAndTable ∷ Target one ∷ Constant table_limit ∷ []
move_slots moves.Search = Source Table ∷ Target two ∷ Constant table_limit ∷ []

-- The first operand of a matrix block is a register; MBIT and SENS take a constant too.
abbrev pub matrix_slots : MatrixOp → List Slot
matrix_slots And = Source Table ∷ Target Table ∷ Constant matrix_limit ∷ []
matrix_slots Or = Source Table ∷ Target Table ∷ Constant matrix_limit ∷ []
matrix_slots Xor = Source Table ∷ Target Table ∷ Constant matrix_limit ∷ []
matrix_slots Comp = Source Table ∷ Target Table ∷ Constant matrix_limit ∷ []
matrix_slots Brot = Source Table ∷ Target Table ∷ Constant matrix_limit ∷ []
matrix_slots Cmpr = Source Table ∷ Target PointerAndTable ∷ Constant matrix_limit ∷ []
matrix_slots Mbit = Number one ∷ Target Table ∷ Constant matrix_limit ∷ []
matrix_slots Sens = Number one ∷ Source Table ∷ Constant matrix_limit ∷ []

-- The operands that an element of a name takes, in their order.
abbrev pub slots_of : ElementName → List Slot
slots_of Open = Discrete ∷ []
slots_of Closed = Discrete ∷ []
slots_of Rise = Discrete ∷ []
slots_of Fall = Discrete ∷ []
slots_of Coil = Driven ∷ []
slots_of Latch = Driven ∷ []
slots_of Wire = []
slots_of (Timer unit) = Number one ∷ Target one ∷ []
slots_of (Counter up) = Number one ∷ Target one ∷ []
slots_of (Math op) = math_slots op
slots_of (Move op) = move_slots op
slots_of (Matrix op) = matrix_slots op
slots_of Skip = Number one ∷ []
slots_of Label = Constant label_limit ∷ []
slots_of Call = Number one ∷ []
slots_of Return = []
slots_of Mstr = Target (Fixed control_block) ∷ Target Table ∷ Constant matrix_limit ∷ []
