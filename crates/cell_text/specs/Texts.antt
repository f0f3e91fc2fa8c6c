-- What a piece is that has a text, and its text.
use Rattle.std.specs.Prelude.{codes, ℕ, Bool, ◌&&◌, List, [], ◌∷◌, ◌++◌, map}
use Rattle.std.specs.Fmt.{decimal}
use Rattle.std.specs.List.{list_all, join_with_byte}
use Rattle.plant_types.specs.declared.reference.Ref.{Ref}
use Rattle.plant_types.specs.declared.element.Operand.{Operand}
use Rattle.plant_types.specs.declared.element.Operand.TheVariants.{Const, At}
use Rattle.plant_types.specs.declared.element.Element.{Element}
use Rattle.plant_types.specs.Reference.{reference_text}
use Rattle.plant_types.specs.Network.{has_cell_place, has_short_place}
use Rattle.plant_types.specs.Elements.{name_of, operands_of}
use Rattle.plant_types.specs.Operands.{names_of, has_form, has_values, has_kinds}
use Rattle.cell_text.specs.declared.names.PieceName.{PieceName}
use Rattle.cell_text.specs.declared.names.PieceName.TheVariants as names
use Rattle.cell_text.specs.declared.piece.Piece.{Piece}
use Rattle.cell_text.specs.declared.piece.Piece.TheVariants.{Cell, Short}
use Rattle.cell_text.specs.Numbers.{is_reference_number}
use Rattle.cell_text.specs.Names.{name_text}

-- A reference has a number such as a reference has. This project's own.
abbrev pub has_number : Ref → Bool
has_number at = is_reference_number at.number

-- All references that an element names have such numbers. This project's own.
abbrev pub has_numbers : Element → Bool
has_numbers element = list_all (λ named. has_number named.at) (names_of element)

-- A piece has a text: its position and its operands are such as its name takes. This project's
-- own.
abbrev pub has_text : Piece → Bool
has_text (Cell cell) =
    has_cell_place cell
    && (has_form cell.element && has_values cell.element && has_kinds cell.element
    && has_numbers cell.element)
has_text (Short short) = has_short_place short

-- The text of a position: row and column, separated by a comma. This project's own.
abbrev pub position_text : ℕ × ℕ → List ℕ
position_text place = decimal place.0 ++ codes "," ++ decimal place.1

-- The text of an operand: a constant in decimal, or the five digits of a reference. Modicon
-- Ladder Logic Block Library User Guide.
abbrev pub operand_text : Operand → List ℕ
operand_text (Const n) = decimal n
operand_text (At at) = reference_text at

-- The row and the column of a piece. This project's own.
abbrev pub piece_position : Piece → ℕ × ℕ
piece_position (Cell cell) = (cell.row, cell.column)
piece_position (Short short) = (short.row, short.column)

-- The name of a piece. Modicon Ladder Logic Block Library User Guide.
abbrev pub piece_name : Piece → PieceName
piece_name (Cell cell) = names.Element (name_of cell.element)
piece_name (Short short) = names.Short

-- The operands of a piece. This project's own table of operands.
abbrev pub piece_operands : Piece → List Operand
piece_operands (Cell cell) = operands_of cell.element
piece_operands (Short short) = []

-- The words of a piece: its position, its name and its operands. This project's own.
abbrev pub piece_words : Piece → List (List ℕ)
piece_words piece =
    position_text (piece_position piece) ∷ name_text (piece_name piece)
    ∷ map operand_text (piece_operands piece)

-- The text of a piece: its words, separated by one space each. This project's own.
abbrev pub piece_text : Piece → List ℕ
piece_text piece = join_with_byte 32 (piece_words piece)
