-- The names of pieces.
use Rattle.std.specs.Prelude.{codes, ℕ, true, false, List, [], ◌∷◌, Option}
use Rattle.std.specs.List.{find}
use Rattle.std.specs.Str.{bytes_eq}
use Rattle.plant_types.specs.declared.element.Unit.TheVariants.{Second, Tenth, Hundredth}
use Rattle.plant_types.specs.declared.element.MathOp.TheVariants.{Add, Sub, Mul, Div}
use Rattle.plant_types.specs.declared.element.MoveOp.TheVariants as moves
use Rattle.plant_types.specs.declared.element.MatrixOp.TheVariants.{And, Or, Xor, Comp, Cmpr, Mbit}
use Rattle.plant_types.specs.declared.element.MatrixOp.TheVariants.{Sens, Brot}
use Rattle.plant_types.specs.declared.name.ElementName.{ElementName}
use Rattle.plant_types.specs.declared.name.ElementName.TheVariants.{Open, Closed, Rise, Fall, Coil}
use Rattle.plant_types.specs.declared.name.ElementName.TheVariants.{Latch, Wire, Timer, Counter}
use Rattle.plant_types.specs.declared.name.ElementName.TheVariants.{Math, Move, Matrix, Skip, Label}
use Rattle.plant_types.specs.declared.name.ElementName.TheVariants.{Call, Return, Mstr}
use Rattle.cell_text.specs.declared.names.PieceName.{PieceName}
use Rattle.cell_text.specs.declared.names.PieceName.TheVariants.{Element, Short}

-- The letters of an element's name. Modicon Ladder Logic Block Library User Guide for what is
-- named; the letters are this project's own.
unfoldable pub element_text : ElementName → List ℕ
element_text Open = codes "NO"
element_text Closed = codes "NC"
element_text Rise = codes "PT"
element_text Fall = codes "NT"
element_text Coil = codes "CO"
element_text Latch = codes "CL"
element_text Wire = codes "H"
element_text (Timer Second) = codes "T1.0"
element_text (Timer Tenth) = codes "T0.1"
element_text (Timer Hundredth) = codes "T.01"
element_text (Counter true) = codes "UCTR"
element_text (Counter false) = codes "DCTR"
element_text (Math Add) = codes "ADD"
element_text (Math Sub) = codes "SUB"
element_text (Math Mul) = codes "MUL"
element_text (Math Div) = codes "DIV"
element_text (Move moves.RegToTable) = codes "R>T"
element_text (Move moves.TableToReg) = codes "T>R"
element_text (Move moves.TableToTable) = codes "T>T"
element_text (Move moves.Copy) = codes "BLKM"
element_text (Move moves.FirstIn) = codes "FIN"
element_text (Move moves.FirstOut) = codes "FOUT"
element_text (Move moves.Search) = codes "SRCH"
element_text (Matrix And) = codes "AND"
element_text (Matrix Or) = codes "OR"
element_text (Matrix Xor) = codes "XOR"
element_text (Matrix Comp) = codes "COMP"
element_text (Matrix Brot) = codes "BROT"
element_text (Matrix Cmpr) = codes "CMPR"
element_text (Matrix Mbit) = codes "MBIT"
element_text (Matrix Sens) = codes "SENS"
element_text Skip = codes "SKP"
element_text Label = codes "LAB"
element_text Call = codes "JSR"
element_text Return = codes "RET"
element_text Mstr = codes "MSTR"

-- The letters of a piece's name. Modicon Ladder Logic Block Library User Guide for what is named;
-- the letters are this project's own.
unfoldable pub name_text : PieceName → List ℕ
name_text (Element name) = element_text name
name_text Short = codes "V"

-- All names. Modicon Ladder Logic Block Library User Guide.
unfoldable pub all_names : List PieceName
all_names =
    Short ∷ Element Open ∷ Element Closed ∷ Element Rise ∷ Element Fall ∷ Element Coil
    ∷ Element Latch ∷ Element Wire ∷ Element (Timer Second) ∷ Element (Timer Tenth)
    ∷ Element (Timer Hundredth) ∷ Element (Counter true) ∷ Element (Counter false)
    ∷ Element (Math Add) ∷ Element (Math Sub) ∷ Element (Math Mul) ∷ Element (Math Div)
    ∷ Element (Move moves.RegToTable) ∷ Element (Move moves.TableToReg)
    ∷ Element (Move moves.TableToTable) ∷ Element (Move moves.Copy)
    ∷ Element (Move moves.FirstIn) ∷ Element (Move moves.FirstOut) ∷ Element (Move moves.Search)
    ∷ Element (Matrix And) ∷ Element (Matrix Or) ∷ Element (Matrix Xor) ∷ Element (Matrix Comp)
    ∷ Element (Matrix Brot) ∷ Element (Matrix Cmpr) ∷ Element (Matrix Mbit)
    ∷ Element (Matrix Sens) ∷ Element Skip ∷ Element Label ∷ Element Call ∷ Element Return
    ∷ Element Mstr ∷ []

-- What a word names: the name whose letters it has. This project's own.
unfoldable pub spelled_name : List ℕ → Option PieceName
spelled_name word = find (λ name. bytes_eq word (name_text name)) all_names
