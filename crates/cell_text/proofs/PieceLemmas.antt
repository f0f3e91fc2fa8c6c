-- A piece that reads has a text.
use Rattle.std.proofs.Common.{◌≡◌, ℕ, ◌-◌, ◌≤◌, Bool, true, false, ◌&&◌, ◌||◌, List, [], ◌∷◌, drop}
use Rattle.std.proofs.Common.{length, Option, Some, None, Result, Ok, Err, refl, sym, ap, ◌∙◌}
use Rattle.std.proofs.Common.{arith}
use Rattle.std.specs.Prelude.{nat_le, slice_index, option_map, option_and_then, ◌==◌, if◌then◌else◌}
use Rattle.std.specs.Prelude.{not}
use Rattle.std.specs.Option.{option_map_or}
use Rattle.std.specs.Result.{IfOk}
use Rattle.std.specs.List.{list_all, before_first, after_first}
use Rattle.std.proofs.lemmas.Bool.{and_parts}
use Rattle.std.proofs.lemmas.Bool.Decides.{nat_tests}
use lib.Pointwise.{pointwise}
use Rattle.plant_types.specs.declared.reference.RefKind.{RefKind}
use Rattle.plant_types.specs.declared.reference.Ref.{Ref}
use Rattle.plant_types.specs.declared.element.Operand.{Operand}
use Rattle.plant_types.specs.declared.element.Operand.TheVariants.{Const, At}
use Rattle.plant_types.specs.declared.element.Element.{Element}
use Rattle.plant_types.specs.Network.{is_row, is_column}
use Rattle.plant_types.specs.Operands.{fits_form, fits_value, has_form, has_values, has_kinds}
use Rattle.plant_types.specs.Limits.{is_up_to}
use Rattle.plant_types.specs.declared.name.ElementName.{ElementName}
use Rattle.plant_types.specs.declared.slot.Slot.{Slot}
use Rattle.plant_types.specs.declared.slot.Slot.TheVariants.{Discrete, Driven, Number, Source}
use Rattle.plant_types.specs.declared.slot.Slot.TheVariants.{Target, Constant}
use Rattle.plant_types.specs.Slots.{slots_of}
use Rattle.plant_types.specs.Elements.{operands_of, element_of}
use Rattle.cell_text.specs.declared.names.PieceName.{PieceName}
use Rattle.cell_text.specs.declared.names.PieceName.TheVariants as names
use Rattle.cell_text.specs.declared.piece.Piece.{Piece}
use Rattle.cell_text.specs.declared.piece.Piece.TheVariants as pieces
use Rattle.cell_text.specs.declared.piece.CellFault.{CellFault}
use Rattle.cell_text.specs.declared.piece.CellFault.TheVariants.{BadCell, BadValue, BadRef}
use Rattle.cell_text.specs.Steps.{◌>>=◌, or_fault, unless}
use Rattle.plant_types.specs.Numerals.{is_digit, value_of}
use Rattle.cell_text.specs.Numbers.{is_spelled_number, spelled_number}
use Rattle.cell_text.specs.Numbers.{reference_numbered, position_of, kind_by_digit}
use Rattle.cell_text.specs.Numbers.{is_reference_word, reference_of}
use Rattle.cell_text.specs.Names.{spelled_name}
use Rattle.cell_text.specs.Slots.{slots_of_piece, takes_form, takes_value, takes_kind}
use Rattle.cell_text.specs.Slots.{taken_reference, operand_in, operands_in, read_operands}
use Rattle.cell_text.specs.Pieces.{short_at, piece_at, piece_of}
use Rattle.cell_text.specs.Texts.{has_number, has_numbers, has_text}
use Rattle.cell_text.proofs.StepLemmas.{step-ok, or_fault-ok, unless-ok, some-step, some-map}
use Rattle.cell_text.proofs.StepLemmas.{some-guard, or_fault-some}
use Rattle.cell_text.proofs.FitLemmas.{fits, pointwise-fits}
use Rattle.cell_text.proofs.ElementLemmas.{element_of-made}

-- two tests that hold are one that holds
and_both : (a b : Bool) → a ≡ true → b ≡ true → a && b ≡ true
and_both a b x y = rw (x, y) refl

-- two values that are there are the same
some_value : {A : Type 0} (x y : A) → Some x ≡ Some y → x ≡ y
some_value x y h = cc

-- a reference that was numbered has its number
reference_numbered-has : (kind : RefKind) (number : ℕ) (at : Ref)
    → reference_numbered kind number ≡ Some at → has_number at ≡ true
reference_numbered-has kind number at h =
    let found = some-guard (nat_le 1 number && nat_le number 9984)
    (Some (record { kind = kind; number = number })) at h in
    let same : record { kind = kind; number = number } ≡ at = some_value _ _ found.1 in
    rw (← same) found.0

-- so has one that was read
reference_of-has : (word : List ℕ) (at : Ref) → reference_of word ≡ Some at → has_number at ≡ true
reference_of-has word at h =
    let five = some-guard (is_reference_word word)
    (option_and_then (λ kind. reference_numbered kind (value_of (drop 1 word)))
    (kind_by_digit (slice_index word 0))) at h in
    let kind = some-step (λ kind. reference_numbered kind (value_of (drop 1 word)))
    (kind_by_digit (slice_index word 0)) at five.1 in
    reference_numbered-has kind.0 (value_of (drop 1 word)) at kind.1.1

-- a position that was read is in the grid
position_of-has : (word : List ℕ) (place : ℕ × ℕ) → position_of word ≡ Some place
    → (is_row place.0 ≡ true) × (is_column place.1 ≡ true)
position_of-has word place h =
    let before = spelled_number (before_first (λ byte. byte == 44) word) in
    let behind = spelled_number (after_first (λ byte. byte == 44) word) in
    let row = some-step (λ (row : ℕ). option_and_then (λ (column : ℕ). if is_row row
    && is_column column then Some (row, column) else None) behind) before place h in
    let column = some-step (λ (column : ℕ). if is_row row.0 && is_column column
    then Some (row.0, column) else None) behind place row.1.1 in
    let within = some-guard (is_row row.0 && is_column column.0)
    (Some (row.0, column.0)) place column.1.1 in
    let same : (row.0, column.0) ≡ place = some_value (row.0, column.0) place within.1 in
    rw (← same) (and_parts (is_row row.0) (is_column column.0) within.0)

-- a digit stands for at most 9
digit_le : (b : ℕ) → is_digit b ≡ true → b - 48 ≤ 9
digit_le b h = grind (arith, nat_tests)

-- at most four digits stand for a number below 10,000
value_of-le : (word : List ℕ) → list_all is_digit word ≡ true → length word ≤ 4
    → value_of word ≤ 9999
value_of-le [] h few = omega arith
value_of-le (a ∷ []) h few = let first = digit_le a (and_parts (is_digit a) true h).0 in omega arith
value_of-le (a ∷ b ∷ []) h few =
    let (first, h1) = and_parts (is_digit a) (is_digit b && true) h in
    let (second, h2) = and_parts (is_digit b) true h1 in
    omega (arith, digit_le a first, digit_le b second)
value_of-le (a ∷ b ∷ c ∷ []) h few =
    let (first, h1) = and_parts (is_digit a) (is_digit b && (is_digit c && true)) h in
    let (second, h2) = and_parts (is_digit b) (is_digit c && true) h1 in
    let (third, h3) = and_parts (is_digit c) true h2 in
    omega (arith, digit_le a first, digit_le b second, digit_le c third)
value_of-le (a ∷ b ∷ c ∷ d ∷ []) h few =
    let (first, h1) = and_parts (is_digit a)
    (is_digit b && (is_digit c && (is_digit d && true))) h in
    let (second, h2) = and_parts (is_digit b) (is_digit c && (is_digit d && true)) h1 in
    let (third, h3) = and_parts (is_digit c) (is_digit d && true) h2 in
    let (fourth, h4) = and_parts (is_digit d) true h3 in
    omega (arith, digit_le a first, digit_le b second, digit_le c third, digit_le d fourth)
value_of-le (a ∷ b ∷ c ∷ d ∷ e ∷ word) h few = absurd (omega arith)

-- a test of order that holds
le_from_test : (m n : ℕ) → nat_le m n ≡ true → m ≤ n
le_from_test m n h = grind (arith, nat_tests)

-- and the other way round
test_from_le : (m n : ℕ) → m ≤ n → nat_le m n ≡ true
test_from_le m n h = grind (arith, nat_tests)

-- so is a number that was read
spelled_number-le : (word : List ℕ) (n : ℕ) → spelled_number word ≡ Some n → nat_le n 9999 ≡ true
spelled_number-le word n h =
    let (number, some) = some-guard (is_spelled_number word) (Some (value_of word)) n h in
    let (digits, lengths) = and_parts (list_all is_digit word)
    ((nat_le 1 (length word) && nat_le (length word) 4)
    && ((length word == 1) || not (slice_index word 0 == 48))) number in
    let (few, front) = and_parts (nat_le 1 (length word) && nat_le (length word) 4)
    ((length word == 1) || not (slice_index word 0 == 48)) lengths in
    let (one, four) = and_parts (nat_le 1 (length word)) (nat_le (length word) 4) few in
    let same : value_of word ≡ n = some_value (value_of word) n some in
    rw (← same) (test_from_le (value_of word) 9999
    (value_of-le word digits (le_from_test (length word) 4 four)))

-- a slot that takes a kind of reference takes the form of one
form_of_kind : (slot : Slot) (at : Ref) → takes_kind slot at.kind ≡ true
    → fits_form slot (At at) && fits_value slot (At at) ≡ true
form_of_kind Discrete at h = refl
form_of_kind Driven at h = refl
form_of_kind (Number run) at h = refl
form_of_kind (Source run) at h = refl
form_of_kind (Target run) at h = refl
form_of_kind (Constant most) at h = cc

-- a reference that is taken fits
reference-fits : (slot : Slot) (found : Option Ref) (operand : Operand)
    → ((at : Ref) → found ≡ Some at → has_number at ≡ true)
    → option_and_then (taken_reference slot) found ≡ Some operand → fits slot operand ≡ true
reference-fits slot None operand has h = cc
reference-fits slot (Some at) operand has h =
    let (kind, some) = some-guard (takes_kind slot at.kind) (Some (At at)) operand h in
    let same : At at ≡ operand = some_value (At at) operand some in
    rw (← same) (and_both _ _ (form_of_kind slot at kind) (and_both _ _ kind (has at refl)))

-- a word that is no reference has the form of a slot that takes a constant
constant_form : (slot : Slot) (word : List ℕ) (n : ℕ) → is_reference_word word ≡ false
    → takes_form slot word ≡ true → fits_form slot (Const n) ≡ true
constant_form Discrete word n five form = cc
constant_form Driven word n five form = cc
constant_form (Number run) word n five form = refl
constant_form (Source run) word n five form = cc
constant_form (Target run) word n five form = cc
constant_form (Constant most) word n five form = refl

-- a constant that passes the tests of a slot is in its range
constant_value : (slot : Slot) (word : List ℕ) (n : ℕ) → spelled_number word ≡ Some n
    → takes_value slot word ≡ true → fits_value slot (Const n) ≡ true
constant_value Discrete word n h value = spelled_number-le word n h
constant_value Driven word n h value = spelled_number-le word n h
constant_value (Number run) word n h value = spelled_number-le word n h
constant_value (Source run) word n h value = spelled_number-le word n h
constant_value (Target run) word n h value = spelled_number-le word n h
constant_value (Constant most) word n h value =
    sym (ap (λ (o : Option ℕ). option_map_or (is_up_to most) o false) h) ∙ value

-- a constant that passes the tests of a slot fits it
constant-fits : (slot : Slot) (word : List ℕ) (operand : Operand) → is_reference_word word ≡ false
    → takes_form slot word ≡ true
    → takes_value slot word ≡ true → option_map Const (spelled_number word) ≡ Some operand
    → fits slot operand ≡ true
constant-fits slot word operand five form value h =
    let (n, (number, same)) = some-map Const (spelled_number word) operand h in
    rw (← same) (and_both _ _ (and_both _ _ (constant_form slot word n five form)
    (constant_value slot word n number value)) refl)

-- an operand fits, whether it is a reference or a constant
fits-by : (slot : Slot) (word : List ℕ) (operand : Operand) (five : Bool)
    → is_reference_word word ≡ five → takes_form slot word ≡ true
    → takes_value slot word ≡ true
    → (if five then option_and_then (taken_reference slot) (reference_of word)
    else option_map Const (spelled_number word)) ≡ Some
    operand → fits slot operand ≡ true
fits-by slot word operand true five form value h =
    reference-fits slot (reference_of word) operand (reference_of-has word) h
fits-by slot word operand false five form value h =
    constant-fits slot word operand five form value h

-- a word that passes the tests of a slot stands for an operand that fits it
word-fits : (slot : Slot) (word : List ℕ) (operand : Operand) → takes_form slot word ≡ true
    → takes_value slot word ≡ true
    → operand_in slot word ≡ Some operand → fits slot operand ≡ true
word-fits slot word operand form value h =
    fits-by slot word operand (is_reference_word word) refl form value h

-- so do the words of all slots
words-fit : (slots : List Slot) (words : List (List ℕ)) (operands : List Operand)
    → pointwise takes_form slots words ≡ true
    → pointwise takes_value slots words ≡ true → operands_in slots words ≡ Some operands
    → pointwise fits slots operands ≡ true
unfolding operands_in
words-fit [] [] operands form value h =
    let same : [] ≡ operands = some_value [] operands h in rw (← same) refl
words-fit [] (word ∷ words) operands form value h = cc
words-fit (slot ∷ slots) [] operands form value h = cc
words-fit (slot ∷ slots) (word ∷ words) operands form value h =
    let (form1, forms) = and_parts (takes_form slot word) (pointwise takes_form slots words) form in
    let (value1, values) = and_parts (takes_value slot word)
    (pointwise takes_value slots words) value in
    let first = some-step (λ operand. option_map (λ rest. operand ∷ rest) (operands_in slots words))
    (operand_in slot word) operands h in
    let rest = some-map (λ rest. first.0 ∷ rest) (operands_in slots words) operands first.1.1 in
    let same : first.0 ∷ rest.0 ≡ operands = rest.1.1 in
    rw (← same) (and_both _ _ (word-fits slot word first.0 form1 value1 first.1.0)
    (words-fit slots words rest.0 forms values rest.1.0))

-- operands that were read fit the slots
read_operands-fit : (slots : List Slot) (words : List (List ℕ)) (operands : List Operand)
    → read_operands slots words ≡ Ok operands
    → pointwise fits slots operands ≡ true
unfolding read_operands
read_operands-fit slots words operands h =
    let form = unless-ok (pointwise takes_form slots words) BadCell
    (λ forms. unless (pointwise takes_value slots words) BadValue
    >>= λ values. or_fault BadRef (operands_in slots words)) operands h in
    let value = unless-ok (pointwise takes_value slots words) BadValue
    (λ values. or_fault BadRef (operands_in slots words)) operands form.1 in
    words-fit slots words operands form.0 value.0
    (or_fault-some BadRef (operands_in slots words) operands value.1)

-- an element of operands that fit is one that has a text
element-has : (name : ElementName) (operands : List Operand) (element : Element)
    → pointwise fits (slots_of name) operands ≡ true
    → element_of name operands ≡ Some element
    → has_form element && has_values element && has_kinds element && has_numbers element ≡ true
element-has name operands element h e =
    let made = element_of-made name operands element e in
    sym (pointwise-fits element)
    ∙ ap (λ n. pointwise fits (slots_of n) (operands_of element)) made.names
    ∙ ap (λ o. pointwise fits (slots_of name) o) made.takes ∙ h

-- a cell of operands that fit has a text
cell-has : (row column : ℕ) (name : ElementName) (operands : List Operand) (piece : Piece)
    → is_row row ≡ true → is_column column ≡ true
    → pointwise fits (slots_of name) operands ≡ true
    → option_map (λ element. pieces.Cell (record { row = row; column = column; element = element }))
    (element_of name operands) ≡ Some piece
    → has_text piece ≡ true
cell-has row column name operands piece r k fit h =
    let found = some-map
    (λ element. pieces.Cell (record { row = row; column = column; element = element }))
    (element_of name operands) piece h in
    let same : pieces.Cell (record { row = row; column = column; element = found.0 }) ≡ piece =
    found.1.1 in
    rw (← same) (and_both _ _ (and_both _ _ r k) (element-has name operands found.0 fit found.1.0))

-- a short that reads has a text
short-has : (row column : ℕ) (piece : Piece) → is_row row ≡ true → is_column column ≡ true
    → short_at row column ≡ Some piece → has_text piece ≡ true
short-has row column piece r k h =
    let (low, some) = some-guard (nat_le row 6)
    (Some (pieces.Short (record { row = row; column = column }))) piece h in
    let same : pieces.Short (record { row = row; column = column }) ≡ piece = some_value _ _ some in
    let above = and_parts (nat_le 1 row) (nat_le row 7) r in
    rw (← same) (and_both _ _ (and_both _ _ above.0 low) k)

-- a piece of operands that fit has a text
piece_at-has : (row column : ℕ) (name : PieceName) (operands : List Operand) (piece : Piece)
    → is_row row ≡ true → is_column column ≡ true
    → pointwise fits (slots_of_piece name) operands ≡ true
    → piece_at row column name operands ≡ Some piece → has_text piece ≡ true
piece_at-has row column names.Short operands piece r k fit h = short-has row column piece r k h
piece_at-has row column (names.Element name) operands piece r k fit h =
    cell-has row column name operands piece r k fit h

-- a piece that reads has a text
pub piece_of-has : (words : List (List ℕ)) (piece : Piece) → piece_of words ≡ Ok piece
    → has_text piece ≡ true
unfolding piece_of
piece_of-has [] piece h = cc
piece_of-has (position ∷ []) piece h = cc
piece_of-has (position ∷ word ∷ words) piece h =
    let place = or_fault-ok BadCell (position_of position)
    (λ place. or_fault BadCell (spelled_name word) >>= λ name. read_operands
    (slots_of_piece name) words
    >>= λ operands. or_fault BadCell (piece_at place.0 place.1 name operands)) piece h in
    let name = or_fault-ok BadCell (spelled_name word)
    (λ name. read_operands (slots_of_piece name) words >>= λ operands. or_fault BadCell
    (piece_at place.0.0 place.0.1 name operands)) piece place.1.1 in
    let operands = step-ok (read_operands (slots_of_piece name.0) words)
    (λ operands. or_fault BadCell (piece_at place.0.0 place.0.1 name.0 operands)) piece name.1.1 in
    let within = position_of-has position place.0 place.1.0 in
    piece_at-has place.0.0 place.0.1 name.0 operands.0 piece within.0 within.1
    (read_operands-fit (slots_of_piece name.0) words operands.0 operands.1.0)
    (or_fault-some BadCell (piece_at place.0.0 place.0.1 name.0 operands.0) piece operands.1.1)

-- so it is with what reading answered
pub gives-has_text : (words : List (List ℕ)) (r : Result Piece CellFault) → r ≡ piece_of words
    → IfOk r (λ piece. has_text piece ≡ true)
gives-has_text words (Ok piece) e = piece_of-has words piece (sym e)
gives-has_text words (Err fault) e = tt
