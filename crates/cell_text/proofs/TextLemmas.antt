-- The text of a piece reads back.
use Rattle.std.proofs.Common.{◌≡◌, ℕ, ◌≤◌, Bool, true, false, ◌&&◌, ◌||◌, List, [], ◌∷◌, map}
use Rattle.std.proofs.Common.{Option, Some, None, Result, Ok, Err, refl, ap, ◌∙◌, arith, String}
use Rattle.std.proofs.Common.{Global, string_bytes}
use Rattle.std.specs.Prelude.{nat_le, option_map, option_and_then, if◌then◌else◌}
use Rattle.std.specs.Option.{option_map_or}
use Rattle.std.specs.Result.{IfOk}
use Rattle.std.specs.Fmt.{decimal}
use Rattle.std.specs.declared.alloc.AllocError.{AllocError}
use Rattle.std.specs.List.{list_all}
use Rattle.std.proofs.lemmas.Bool.{and_parts}
use Rattle.std.proofs.lemmas.Bool.Decides.{nat_tests}
use lib.Pointwise.{pointwise}
use Rattle.plant_types.specs.declared.reference.Ref.{Ref}
use Rattle.plant_types.specs.declared.element.Operand.{Operand}
use Rattle.plant_types.specs.declared.element.Operand.TheVariants.{Const, At}
use Rattle.plant_types.specs.declared.element.Unit.TheVariants.{Second, Tenth, Hundredth}
use Rattle.plant_types.specs.declared.element.MathOp.TheVariants.{Add, Sub, Mul, Div}
use Rattle.plant_types.specs.declared.element.MoveOp.TheVariants.{RegToTable, TableToReg}
use Rattle.plant_types.specs.declared.element.MoveOp.TheVariants.{TableToTable, Copy, FirstIn}
use Rattle.plant_types.specs.declared.element.MoveOp.TheVariants.{FirstOut, Search}
use Rattle.plant_types.specs.declared.element.MatrixOp.TheVariants.{And, Or, Xor, Comp, Cmpr, Mbit}
use Rattle.plant_types.specs.declared.element.MatrixOp.TheVariants.{Sens, Brot}
use Rattle.plant_types.specs.declared.element.Element.{Element}
use Rattle.plant_types.specs.declared.element.Element.TheVariants as elements
use Rattle.plant_types.specs.Network.{is_row, is_column, has_cell_place}
use Rattle.plant_types.specs.Operands.{fits_form, fits_value, has_form, has_values, has_kinds}
use Rattle.plant_types.specs.Limits.{is_up_to}
use Rattle.plant_types.specs.Reference.{reference_text}
use Rattle.plant_types.specs.declared.name.ElementName.{ElementName}
use Rattle.plant_types.specs.declared.name.ElementName.TheVariants as names
use Rattle.plant_types.specs.declared.slot.Slot.{Slot}
use Rattle.plant_types.specs.declared.slot.Slot.TheVariants.{Discrete, Driven, Number, Source}
use Rattle.plant_types.specs.declared.slot.Slot.TheVariants.{Target, Constant}
use Rattle.plant_types.specs.Slots.{slots_of}
use Rattle.plant_types.specs.Elements.{name_of as element_name, operands_of}
use Rattle.cell_text.specs.declared.names.PieceName.{PieceName}
use Rattle.cell_text.specs.declared.names.PieceName.TheVariants as piece_names
use Rattle.cell_text.specs.declared.piece.Piece.{Piece}
use Rattle.cell_text.specs.declared.piece.Piece.TheVariants as pieces
use Rattle.cell_text.specs.declared.piece.CellFault.{CellFault}
use Rattle.cell_text.specs.declared.piece.CellFault.TheVariants.{BadCell}
use Rattle.cell_text.specs.Steps.{◌>>=◌, or_fault}
use Rattle.cell_text.specs.Words.{text_words}
use Rattle.cell_text.specs.Numbers.{spelled_number, is_spelled_number, is_reference_word}
use Rattle.cell_text.specs.Numbers.{reference_of}
use Rattle.cell_text.specs.Names.{element_text, name_text, all_names, spelled_name}
use Rattle.cell_text.specs.Slots.{slots_of_piece, takes_form, takes_value, takes_kind}
use Rattle.cell_text.specs.Slots.{taken_reference, operand_in, operands_in, read_operands}
use Rattle.cell_text.specs.Pieces.{piece_at, piece_of}
use Rattle.cell_text.specs.Texts.{has_number, has_numbers, has_text, operand_text, piece_position}
use Rattle.cell_text.specs.Texts.{piece_name, piece_operands, piece_words, piece_text}
use Rattle.cell_text.proofs.JoinLemmas.{is_word, text_words-join}
use Rattle.cell_text.proofs.NumberLemmas.{is_spelled_number-decimal, spelled_number-decimal}
use Rattle.cell_text.proofs.NumberLemmas.{position_of-text, position_word, decimal_word}
use Rattle.cell_text.proofs.NumberLemmas.{decimal_no_reference, reference_word, reference_of-text}
use Rattle.cell_text.proofs.NumberLemmas.{reference_text_word}
use Rattle.cell_text.proofs.FitLemmas.{fits, pointwise-fits}

-- the letters of each name are a word that names it
record Named (name : PieceName) : Type 0 where
  word : is_word (name_text name) ≡ true
  found : spelled_name (name_text name) ≡ Some name

-- so it is with each name of an element
named_element : (name : ElementName) → Named (piece_names.Element name)
unfolding element_text name_text all_names spelled_name
named_element names.Open = record { word = refl; found = refl }
named_element names.Closed = record { word = refl; found = refl }
named_element names.Rise = record { word = refl; found = refl }
named_element names.Fall = record { word = refl; found = refl }
named_element names.Coil = record { word = refl; found = refl }
named_element names.Latch = record { word = refl; found = refl }
named_element names.Wire = record { word = refl; found = refl }
named_element (names.Timer Second) = record { word = refl; found = refl }
named_element (names.Timer Tenth) = record { word = refl; found = refl }
named_element (names.Timer Hundredth) = record { word = refl; found = refl }
named_element (names.Counter true) = record { word = refl; found = refl }
named_element (names.Counter false) = record { word = refl; found = refl }
named_element (names.Math Add) = record { word = refl; found = refl }
named_element (names.Math Sub) = record { word = refl; found = refl }
named_element (names.Math Mul) = record { word = refl; found = refl }
named_element (names.Math Div) = record { word = refl; found = refl }
named_element (names.Move RegToTable) = record { word = refl; found = refl }
named_element (names.Move TableToReg) = record { word = refl; found = refl }
named_element (names.Move TableToTable) = record { word = refl; found = refl }
named_element (names.Move Copy) = record { word = refl; found = refl }
named_element (names.Move FirstIn) = record { word = refl; found = refl }
named_element (names.Move FirstOut) = record { word = refl; found = refl }
named_element (names.Move Search) = record { word = refl; found = refl }
named_element (names.Matrix And) = record { word = refl; found = refl }
named_element (names.Matrix Or) = record { word = refl; found = refl }
named_element (names.Matrix Xor) = record { word = refl; found = refl }
named_element (names.Matrix Comp) = record { word = refl; found = refl }
named_element (names.Matrix Brot) = record { word = refl; found = refl }
named_element (names.Matrix Cmpr) = record { word = refl; found = refl }
named_element (names.Matrix Mbit) = record { word = refl; found = refl }
named_element (names.Matrix Sens) = record { word = refl; found = refl }
named_element names.Skip = record { word = refl; found = refl }
named_element names.Label = record { word = refl; found = refl }
named_element names.Call = record { word = refl; found = refl }
named_element names.Return = record { word = refl; found = refl }
named_element names.Mstr = record { word = refl; found = refl }

-- and with each name
named : (name : PieceName) → Named name
unfolding element_text name_text all_names spelled_name
named (piece_names.Element name) = named_element name
named piece_names.Short = record { word = refl; found = refl }

-- the text of an operand is a word that passes the tests of a slot, and stands for the operand
record Reads (slot : Slot) (operand : Operand) : Type 0 where
  form : takes_form slot (operand_text operand) ≡ true
  value : takes_value slot (operand_text operand) ≡ true
  back : operand_in slot (operand_text operand) ≡ Some operand
  word : is_word (operand_text operand) ≡ true

-- a test, or one that always holds
or_true : (b : Bool) → b || true ≡ true
or_true true = refl
or_true false = refl

-- the text of a reference passes the tests of a slot that takes it
reference_form : (slot : Slot) (at : Ref) → fits_form slot (At at) ≡ true
    → is_reference_word (reference_text at) ≡ true
    → (takes_form slot (reference_text at) ≡ true) × (takes_value slot (reference_text at) ≡ true)
reference_form Discrete at fit five = (five, refl)
reference_form Driven at fit five = (five, refl)
reference_form (Number run) at fit five = (
  ap (λ b. is_spelled_number (reference_text at) || b) five
      ∙ or_true (is_spelled_number (reference_text at)),
  refl,
)
reference_form (Source run) at fit five = (five, refl)
reference_form (Target run) at fit five = (five, refl)
reference_form (Constant most) at fit five = cc

-- the text of a reference that fits reads as the reference
reference_reads : (slot : Slot) (at : Ref) → fits slot (At at) ≡ true → Reads slot (At at)
reference_reads slot at h =
    let (forms, references) = and_parts (fits_form slot (At at) && fits_value slot (At at))
    (takes_kind slot at.kind && has_number at) h in
    let (form, value) = and_parts (fits_form slot (At at)) (fits_value slot (At at)) forms in
    let (kind, number) = and_parts (takes_kind slot at.kind) (has_number at) references in
    let five = reference_word at number in
    let tests = reference_form slot at form five in
    record {
      form = tests.0;
      value = tests.1;
      back = ap (λ (b : Bool). if b then option_and_then (taken_reference slot)
          (reference_of (reference_text at)) else option_map Const
          (spelled_number (reference_text at))) five
          ∙ ap (option_and_then (taken_reference slot)) (reference_of-text at number)
          ∙ ap (λ (b : Bool). if b then Some (At at) else None) kind;
      word = reference_text_word at number;
    }

-- the largest length of a slot is a constant
abbrev is_small : Slot → Bool
is_small (Constant most) = nat_le most 9999
is_small slot = true

-- a constant is below 10,000, as a test
constant_le : (n : ℕ) → nat_le n 9999 ≡ true → n ≤ 9999
constant_le n h = grind (arith, nat_tests)

-- a length up to a largest constant is one
length_le : (most n : ℕ) → nat_le most 9999 ≡ true → nat_le 1 n && nat_le n most ≡ true → n ≤ 9999
length_le most n small h =
    let (low, high) = and_parts (nat_le 1 n) (nat_le n most) h in grind (arith, nat_tests)

-- a constant that fits is below 10,000
fits-le : (slot : Slot) (n : ℕ) → is_small slot ≡ true → fits_value slot (Const n) ≡ true → n ≤ 9999
fits-le Discrete n small h = constant_le n h
fits-le Driven n small h = constant_le n h
fits-le (Number run) n small h = constant_le n h
fits-le (Source run) n small h = constant_le n h
fits-le (Target run) n small h = constant_le n h
fits-le (Constant most) n small h = length_le most n small h

-- the text of a constant passes the tests of a slot that takes it
constant_form : (slot : Slot) (n : ℕ) → fits_form slot (Const n) ≡ true
    → fits_value slot (Const n) ≡ true → n ≤ 9999
    → (takes_form slot (decimal n) ≡ true) × (takes_value slot (decimal n) ≡ true)
constant_form Discrete n form value few = cc
constant_form Driven n form value few = cc
constant_form (Number run) n form value few =
    (ap (λ b. b || is_reference_word (decimal n)) (is_spelled_number-decimal n few), refl)
constant_form (Source run) n form value few = cc
constant_form (Target run) n form value few = cc
constant_form (Constant most) n form value few = (
  is_spelled_number-decimal n few,
  ap (λ (o : Option ℕ). option_map_or (is_up_to most) o false) (spelled_number-decimal n few)
      ∙ value,
)

-- the text of a constant that fits reads as the constant
constant_reads : (slot : Slot) (n : ℕ) → is_small slot ≡ true → fits slot (Const n) ≡ true
    → Reads slot (Const n)
constant_reads slot n small h =
    let (forms, references) = and_parts
    (fits_form slot (Const n) && fits_value slot (Const n)) true h in
    let (form, value) = and_parts (fits_form slot (Const n)) (fits_value slot (Const n)) forms in
    let few = fits-le slot n small value in
    let tests = constant_form slot n form value few in
    record {
      form = tests.0;
      value = tests.1;
      back = rw (decimal_no_reference n few, spelled_number-decimal n few) refl;
      word = decimal_word n few;
    }

-- the text of an operand that fits reads as the operand
operand_reads : (slot : Slot) (operand : Operand) → is_small slot ≡ true → fits slot operand ≡ true
    → Reads slot operand
operand_reads slot (Const n) small h = constant_reads slot n small h
operand_reads slot (At at) small h = reference_reads slot at h

-- the same of the operands of all slots
record AllRead (slots : List Slot) (operands : List Operand) : Type 0 where
  forms : pointwise takes_form slots (map operand_text operands) ≡ true
  values : pointwise takes_value slots (map operand_text operands) ≡ true
  back : operands_in slots (map operand_text operands) ≡ Some operands
  words : list_all is_word (map operand_text operands) ≡ true

-- so do the texts of all operands that fit
all_read : (slots : List Slot) (operands : List Operand) → list_all is_small slots ≡ true
    → pointwise fits slots operands ≡ true → AllRead slots operands
unfolding operands_in
all_read [] [] small h = record { forms = refl; values = refl; back = refl; words = refl }
all_read [] (operand ∷ operands) small h = cc
all_read (slot ∷ slots) [] small h = cc
all_read (slot ∷ slots) (operand ∷ operands) small h =
    let (small1, smalls) = and_parts (is_small slot) (list_all is_small slots) small in
    let (fit, fits_all) = and_parts (fits slot operand) (pointwise fits slots operands) h in
    let first = operand_reads slot operand small1 fit in
    let rest = all_read slots operands smalls fits_all in
    record {
      forms = rw (first.form, rest.forms) refl;
      values = rw (first.value, rest.values) refl;
      back = rw (first.back, rest.back) refl;
      words = rw (first.word, rest.words) refl;
    }

-- the largest constants of all slots are constants
small_slots : (name : ElementName) → list_all is_small (slots_of name) ≡ true
small_slots (names.Math Add) = refl
small_slots (names.Math Sub) = refl
small_slots (names.Math Mul) = refl
small_slots (names.Math Div) = refl
small_slots (names.Move RegToTable) = refl
small_slots (names.Move TableToReg) = refl
small_slots (names.Move TableToTable) = refl
small_slots (names.Move Copy) = refl
small_slots (names.Move FirstIn) = refl
small_slots (names.Move FirstOut) = refl
small_slots (names.Move Search) = refl
small_slots (names.Matrix And) = refl
small_slots (names.Matrix Or) = refl
small_slots (names.Matrix Xor) = refl
small_slots (names.Matrix Comp) = refl
small_slots (names.Matrix Cmpr) = refl
small_slots (names.Matrix Mbit) = refl
small_slots (names.Matrix Sens) = refl
small_slots (names.Matrix Brot) = refl
small_slots name = refl

-- so are those of a piece
small_piece : (name : PieceName) → list_all is_small (slots_of_piece name) ≡ true
small_piece (piece_names.Element name) = small_slots name
small_piece piece_names.Short = refl

-- operands whose texts read are read back
read_operands-back : (slots : List Slot) (operands : List Operand) → AllRead slots operands
    → read_operands slots (map operand_text operands) ≡ Ok operands
unfolding read_operands
read_operands-back slots operands all = rw (all.forms, all.values, all.back) refl

-- the name and the operands of an element make the element
cell_back : (row column : ℕ) (element : Element)
    → piece_at row column (piece_names.Element (element_name element)) (operands_of element)
    ≡ Some (pieces.Cell (record { row = row; column = column; element = element }))
cell_back row column (elements.Open at) = refl
cell_back row column (elements.Closed at) = refl
cell_back row column (elements.Rise at) = refl
cell_back row column (elements.Fall at) = refl
cell_back row column (elements.Coil at) = refl
cell_back row column (elements.Latch at) = refl
cell_back row column elements.Wire = refl
cell_back row column (elements.Timer unit preset acc) = refl
cell_back row column (elements.Counter up preset acc) = refl
cell_back row column (elements.Math op top mid low) = refl
cell_back row column (elements.Move op top mid length) = refl
cell_back row column (elements.Matrix op top mid length) = refl
cell_back row column (elements.Skip number) = refl
cell_back row column (elements.Label number) = refl
cell_back row column (elements.Call number) = refl
cell_back row column elements.Return = refl
cell_back row column (elements.Mstr control area length) = refl

-- the place, the name and the operands of a piece make the piece
piece_at-back : (piece : Piece) → has_text piece ≡ true
    → piece_at (piece_position piece).0 (piece_position piece).1 (piece_name piece)
    (piece_operands piece) ≡ Some piece
piece_at-back (pieces.Cell cell) h = cell_back cell.row cell.column cell.element
piece_at-back (pieces.Short short) h =
    let (rows, column) = and_parts (nat_le 1 short.row && nat_le short.row 6)
    (is_column short.column) h in
    let (low, high) = and_parts (nat_le 1 short.row) (nat_le short.row 6) rows in
    ap (λ (b : Bool). if b then Some (pieces.Short short) else None) high

-- a piece that has a text stands in the grid, and its operands fit
record Fitting (piece : Piece) : Type 0 where
  row : is_row (piece_position piece).0 ≡ true
  column : is_column (piece_position piece).1 ≡ true
  operands : pointwise fits (slots_of_piece (piece_name piece)) (piece_operands piece) ≡ true

-- one of the first six rows is a row
six_rows : (row : ℕ) → nat_le 1 row && nat_le row 6 ≡ true → is_row row ≡ true
six_rows row h =
    let (low, high) = and_parts (nat_le 1 row) (nat_le row 6) h in
    let seven : nat_le row 7 ≡ true = grind (arith, nat_tests) in
    rw (low, seven) refl

-- so it is with each piece that has a text
fitting : (piece : Piece) → has_text piece ≡ true → Fitting piece
fitting (pieces.Cell cell) h =
    let (place, operands) = and_parts (has_cell_place cell)
    (has_form cell.element && has_values cell.element && has_kinds cell.element
    && has_numbers cell.element) h in
    let (row, column) = and_parts (is_row cell.row) (is_column cell.column) place in
    record { row = row; column = column; operands = pointwise-fits cell.element ∙ operands }
fitting (pieces.Short short) h =
    let (rows, column) = and_parts (nat_le 1 short.row && nat_le short.row 6)
    (is_column short.column) h in
    record { row = six_rows short.row rows; column = column; operands = refl }

-- the texts of the operands of a piece read
piece_all_read : (piece : Piece) → Fitting piece
    → AllRead (slots_of_piece (piece_name piece)) (piece_operands piece)
piece_all_read piece f = all_read (slots_of_piece (piece_name piece)) (piece_operands piece)
    (small_piece (piece_name piece)) f.operands

-- the words of a piece are words, and read as the piece
piece_words-are : (piece : Piece) → has_text piece ≡ true
    → list_all is_word (piece_words piece) ≡ true
piece_words-are piece h =
    let f = fitting piece h in
    rw (
      position_word (piece_position piece) f.row f.column,
      (named (piece_name piece)).word,
      (piece_all_read piece f).words,
    ) refl

-- the words of a piece read as the piece
piece_of-words : (piece : Piece) → has_text piece ≡ true → piece_of (piece_words piece) ≡ Ok piece
unfolding piece_of
piece_of-words piece h =
    let f = fitting piece h in
    let words = map operand_text (piece_operands piece) in
    let place = position_of-text (piece_position piece) f.row f.column in
    let name = (named (piece_name piece)).found in
    let operands = read_operands-back (slots_of_piece (piece_name piece)) (piece_operands piece)
    (piece_all_read piece f) in
    ap (λ (o : Option (ℕ × ℕ)). or_fault {E = CellFault} BadCell o >>= λ at. or_fault BadCell
    (spelled_name (name_text (piece_name piece)))
    >>= λ name. read_operands (slots_of_piece name) words >>= λ operands. or_fault BadCell
    (piece_at at.0 at.1 name operands)) place
    ∙ ap (λ (o : Option PieceName). or_fault {E = CellFault} BadCell o >>= λ name. read_operands
    (slots_of_piece name) words >>= λ operands. or_fault BadCell
    (piece_at (piece_position piece).0 (piece_position piece).1 name operands)) name
    ∙ ap (λ (r : Result (List Operand) CellFault). r >>= λ operands. or_fault BadCell
    (piece_at (piece_position piece).0 (piece_position piece).1
    (piece_name piece) operands)) operands
    ∙ ap (λ (o : Option Piece). or_fault {E = CellFault} BadCell o) (piece_at-back piece h)

-- the text of a piece reads as the piece
pub piece_of-text : (piece : Piece) → has_text piece ≡ true
    → piece_of (text_words (piece_text piece)) ≡ Ok piece
piece_of-text piece h = ap piece_of (text_words-join (piece_words piece) (piece_words-are piece h))
    ∙ piece_of-words piece h

-- so it is with a text that was written
pub gives-reads_back : (piece : Piece) (r : Result (String Global) AllocError)
    → has_text piece ≡ true
    → IfOk r (λ text. string_bytes text ≡ piece_text piece)
    → IfOk r (λ text. piece_of (text_words (string_bytes text)) ≡ Ok piece)
gives-reads_back piece (Ok text) h e = ap (λ bytes. piece_of (text_words bytes)) e
    ∙ piece_of-text piece h
gives-reads_back piece (Err end) h e = tt
