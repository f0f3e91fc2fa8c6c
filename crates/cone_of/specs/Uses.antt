-- The references that elements read and store in, by the table of operands. All of it is this
-- project's own.
use Rattle.std.specs.Prelude.{ℕ, Bool, true, false, ◌||◌, if◌then◌else◌, List, [], ◌∷◌, ◌++◌, map}
use Rattle.std.specs.List.{flat_map, list_any, list_all, range_with_len}
use Rattle.std.specs.FinSet.{contains}
use Rattle.plant_types.specs.declared.reference.Ref.{Ref}
use Rattle.plant_types.specs.declared.element.Element.{Element}
use Rattle.plant_types.specs.declared.element.Element.TheVariants.{Matrix, Skip, Label, Call, Return}
use Rattle.plant_types.specs.declared.element.Operand.{Operand}
use Rattle.plant_types.specs.declared.element.Operand.TheVariants.{Const, At}
use Rattle.plant_types.specs.declared.element.MatrixOp.{MatrixOp}
use Rattle.plant_types.specs.declared.element.MatrixOp.TheVariants.{Mbit, Sens}
use Rattle.plant_types.specs.declared.network.Network.{Network}
use Rattle.plant_types.specs.Discretes.{Refs}
use Rattle.plant_types.specs.Reference.{ref_from, is_holding}
use Rattle.plant_types.specs.Operands.{Named, OperandKind, OnlyCoil, OnlyHolding, names_of}

-- So many references from one on.
abbrev pub run_from : Ref → ℕ → List Ref
run_from at count = map (ref_from at) (range_with_len 0 count)

-- A named reference is stored in: a coil that is driven, or holding registers that are a target.
abbrev pub is_stored : OperandKind → Bool
is_stored OnlyCoil = true
is_stored OnlyHolding = true
is_stored kind = false

-- A named reference is read: each but a coil that is driven. Many blocks read what they store in.
abbrev pub is_read : OperandKind → Bool
is_read OnlyCoil = false
is_read kind = true

-- The references of a name, with all that is used from it on, where its kind is such.
abbrev pub run_where : (OperandKind → Bool) → Named → List Ref
run_where such named = if such named.kind then run_from named.at named.count else []

-- The references that an element reads.
abbrev pub read_by : Element → List Ref
read_by element = flat_map (run_where is_read) (names_of element)

-- MBIT and SENS move on a number that is a holding register.
abbrev pub moves_number : MatrixOp → Bool
moves_number Mbit = true
moves_number Sens = true
moves_number op = false

abbrev pub holding_in : Operand → List Ref
holding_in (Const n) = []
holding_in (At at) = if is_holding at.kind then at ∷ [] else []

abbrev pub moved_by : Element → List Ref
moved_by (Matrix op top mid length) = if moves_number op then holding_in top else []
moved_by element = []

-- The references that an element can store in.
abbrev pub stored_by : Element → List Ref
stored_by element = flat_map (run_where is_stored) (names_of element) ++ moved_by element

-- SKP, LAB, JSR and RET direct the solve.
abbrev pub directs : Element → Bool
directs (Skip number) = true
directs (Label number) = true
directs (Call number) = true
directs Return = true
directs element = false

-- A set has all references that an element reads.
abbrev pub has_read : Refs → Element → Bool
has_read set element = list_all (contains set) (read_by element)

-- An element can store in a reference of a set.
abbrev pub stores_in : Refs → Element → Bool
stores_in set element = list_any (contains set) (stored_by element)

-- An element matters to a set: it can store in one of its references, or it directs the solve.
abbrev pub matters_to : Refs → Element → Bool
matters_to set element = stores_in set element || directs element

-- A network matters to a set where one of its elements does; a set has all that it reads.
abbrev pub network_matters : Refs → Network → Bool
network_matters set network = list_any (λ cell. matters_to set cell.element) network.cells

abbrev pub has_network : Refs → Network → Bool
has_network set network = list_all (λ cell. has_read set cell.element) network.cells
