-- The pieces of a network's text, and what each stands for.
use Rattle.std.specs.Prelude.{ℕ, nat_le, if◌then◌else◌, List, ◌∷◌, Option, Some, None, option_map}
use Rattle.std.specs.Prelude.{Result, Err}
use Rattle.plant_types.specs.declared.element.Operand.{Operand}
use Rattle.plant_types.specs.Elements.{element_of}
use Rattle.cell_text.specs.declared.names.PieceName.{PieceName}
use Rattle.cell_text.specs.declared.names.PieceName.TheVariants as names
use Rattle.cell_text.specs.declared.piece.Piece.{Piece}
use Rattle.cell_text.specs.declared.piece.Piece.TheVariants.{Cell, Short}
use Rattle.cell_text.specs.declared.piece.CellFault.{CellFault}
use Rattle.cell_text.specs.declared.piece.CellFault.TheVariants.{BadCell}
use Rattle.cell_text.specs.Steps.{◌>>=◌, or_fault}
use Rattle.cell_text.specs.Numbers.{position_of}
use Rattle.cell_text.specs.Names.{spelled_name}
use Rattle.cell_text.specs.Slots.{slots_of_piece, read_operands}

-- The short of a row and the one below it at a column; row 7 has none below it. This project's
-- own.
abbrev pub short_at : ℕ → ℕ → Option Piece
short_at row column =
    if nat_le row 6 then Some (Short (record { row = row; column = column })) else None

-- What a name and its operands stand for at a row and a column. This project's own.
abbrev pub piece_at : ℕ → ℕ → PieceName → List Operand → Option Piece
piece_at row column names.Short operands = short_at row column
piece_at row column (names.Element name) operands =
    option_map (λ element. Cell (record { row = row; column = column; element = element }))
    (element_of name operands)

-- What the words of a piece stand for: its position, its name and its operands. This project's
-- own.
unfoldable pub piece_of : List (List ℕ) → Result Piece CellFault
piece_of (position ∷ name ∷ words) = do
  place ← or_fault BadCell (position_of position)
  name ← or_fault BadCell (spelled_name name)
  operands ← read_operands (slots_of_piece name) words
  or_fault BadCell (piece_at place.0 place.1 name operands)
piece_of _ = Err BadCell

-- What the second word of a piece names. This project's own.
abbrev pub name_in_piece : List (List ℕ) → Option PieceName
name_in_piece (position ∷ name ∷ words) = spelled_name name
name_in_piece _ = None
