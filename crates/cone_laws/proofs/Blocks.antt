-- What a block does, by the table of operands: alike where a set has all that it reads, and nothing
-- to a set in which it stores nothing.
use Rattle.std.proofs.Common.{◌≡◌, ℕ, List, ◌++◌, refl}
use Rattle.std.proofs.Common.{arith}
use Rattle.std.specs.Prelude.{bit_and, bit_or, bit_xor}
use Rattle.std.specs.List.{AllByRecursion}
use Rattle.plant_types.specs.declared.reference.Ref.{Ref}
use Rattle.plant_types.specs.declared.element.Element.{Element}
use Rattle.plant_types.specs.declared.element.Element.TheVariants.{Math, Move, Matrix}
use Rattle.plant_types.specs.declared.element.Operand.{Operand}
use Rattle.plant_types.specs.declared.element.Operand.TheVariants.{Const, At}
use Rattle.plant_types.specs.declared.element.MathOp.{MathOp}
use Rattle.plant_types.specs.declared.element.MathOp.TheVariants as math
use Rattle.plant_types.specs.declared.element.MoveOp.{MoveOp}
use Rattle.plant_types.specs.declared.element.MoveOp.TheVariants as moves
use Rattle.plant_types.specs.declared.element.MatrixOp.{MatrixOp}
use Rattle.plant_types.specs.declared.element.MatrixOp.TheVariants as matrices
use Rattle.plant_types.specs.declared.power.NodePower.{NodePower}
use Rattle.plant_types.specs.Discretes.{Refs}
use Rattle.plant_types.specs.Operands.{Named, named_in, names_of}
use Rattle.plant_types.specs.Reference.{ref_from}
use Rattle.plant_types.specs.Store.{Contents}
use Rattle.integer_ops.specs.Arithmetic.{no_effect}
use Rattle.ladder_solver.specs.Element.{high_of, units_of, math_effect, move_effect, matrix_effect}
use Rattle.cone_of.specs.Uses.{is_read, is_stored}
use Rattle.cone_laws.specs.Agree.{SameIn}
use Rattle.cone_laws.proofs.Stores.{HasOperand, has-first, number-read}
use Rattle.cone_laws.proofs.Both.{SameEffect, add-same, sub-same, mul-same, div-same}
use Rattle.cone_laws.proofs.BothTables.{reg_to_table-same, table_to_reg-same, table_to_table-same}
use Rattle.cone_laws.proofs.BothTables.{block_move-same, first_in-same, first_out-same, search-same}
use Rattle.cone_laws.proofs.BothMatrices.{combine-same, comp-same, cmpr-same, brot-same, mbit-same}
use Rattle.cone_laws.proofs.BothMatrices.{sens-same}
use Rattle.cone_laws.proofs.Elsewhere.{Leaves, LacksPointer, add-leaves, sub-leaves, mul-leaves}
use Rattle.cone_laws.proofs.Elsewhere.{div-leaves, reg_to_table-leaves, table_to_reg-leaves}
use Rattle.cone_laws.proofs.Elsewhere.{table_to_table-leaves, block_move-leaves, first_in-leaves}
use Rattle.cone_laws.proofs.Elsewhere.{first_out-leaves, search-leaves, combine-leaves, comp-leaves}
use Rattle.cone_laws.proofs.Elsewhere.{cmpr-leaves, brot-leaves, mbit-leaves, sens-leaves}
use Rattle.cone_laws.proofs.Named.{HasNamed, LacksNamed, operand-had, all_second}

-- a set has all that an element reads, or lacks all that its table says it stores in
abbrev pub ReadsOf : Refs → Element → Type 0
ReadsOf set element = AllByRecursion (HasNamed set is_read) (names_of element)

abbrev pub StoresOf : Refs → Element → Type 0
StoresOf set element = AllByRecursion (LacksNamed set is_stored) (names_of element)

-- a set lacks the first operand of a matrix block, where the block moves it on
abbrev pub LacksMoved : Refs → MatrixOp → Operand → Type 0
LacksMoved set matrices.Mbit top = LacksPointer set top
LacksMoved set matrices.Sens top = LacksPointer set top
LacksMoved set op top = Unit {0}

-- the two halves of a dividend
high-read : (set : Refs) (m n : Contents) (top : Operand) → SameIn set m n → HasOperand set top 2
    → high_of m top ≡ high_of n top
high-read set m n (Const k) same has = refl
high-read set m n (At at) same has = same at (has-first set at 2 (omega arith) has)

units-read : (set : Refs) (m n : Contents) (top : Operand) → SameIn set m n
    → HasOperand set top 2 → units_of m top ≡ units_of n top
units-read set m n (Const k) same has = refl
units-read set m n (At at) same has = same (ref_from at 1) (has 1 (omega arith))

pub math-same : (set : Refs) (op : MathOp) (top mid : Operand) (low : Ref) (inputs : NodePower)
    (m n : Contents) → SameIn set m n → ReadsOf set (Math op top mid low)
    → SameEffect set (math_effect op top mid low inputs m) (math_effect op top mid low inputs n)
math-same set math.Add top mid low inputs m n same reads =
    let one = operand-had set top 1 _ reads in
    let two = operand-had set mid 1 _ one.1 in
    add-same set _ _ _ _ low inputs m n same (number-read set m n top 1 (omega arith) same one.0)
    (number-read set m n mid 1 (omega arith) same two.0)
math-same set math.Sub top mid low inputs m n same reads =
    let one = operand-had set top 1 _ reads in
    let two = operand-had set mid 1 _ one.1 in
    sub-same set _ _ _ _ low inputs m n same (number-read set m n top 1 (omega arith) same one.0)
    (number-read set m n mid 1 (omega arith) same two.0)
math-same set math.Mul top mid low inputs m n same reads =
    let one = operand-had set top 1 _ reads in
    let two = operand-had set mid 1 _ one.1 in
    mul-same set _ _ _ _ low inputs m n same (number-read set m n top 1 (omega arith) same one.0)
    (number-read set m n mid 1 (omega arith) same two.0)
math-same set math.Div top mid low inputs m n same reads =
    let one = operand-had set top 2 _ reads in
    let two = operand-had set mid 1 _ one.1 in
    div-same set _ _ _ _ _ _ low inputs m n same (high-read set m n top same one.0)
    (units-read set m n top same one.0) (number-read set m n mid 1 (omega arith) same two.0)

pub move-same : (set : Refs) (op : MoveOp) (top mid : Ref) (size : ℕ) (inputs : NodePower)
    (m n : Contents) → SameIn set m n → ReadsOf set (Move op top mid size)
    → SameEffect set (move_effect op top mid size inputs m) (move_effect op top mid size inputs n)
move-same set moves.RegToTable top mid size inputs m n same reads =
    reg_to_table-same set top mid size inputs m n same (reads.0 refl) (reads.1.0 refl)
move-same set moves.TableToReg top mid size inputs m n same reads =
    table_to_reg-same set top mid size inputs m n same (reads.0 refl) (reads.1.0 refl)
move-same set moves.TableToTable top mid size inputs m n same reads =
    table_to_table-same set top mid size inputs m n same (reads.0 refl) (reads.1.0 refl)
move-same set moves.Copy top mid size inputs m n same reads =
    block_move-same set top mid size inputs m n same (reads.0 refl)
move-same set moves.FirstIn top mid size inputs m n same reads =
    first_in-same set top mid size inputs m n same (reads.0 refl) (reads.1.0 refl)
move-same set moves.FirstOut top mid size inputs m n same reads =
    first_out-same set top mid size inputs m n same (reads.0 refl)
move-same set moves.Search top mid size inputs m n same reads =
    search-same set top mid size inputs m n same (reads.0 refl) (reads.1.0 refl)

none-same : (set : Refs) (m n : Contents) → SameIn set m n
    → SameEffect set (no_effect m) (no_effect n)
none-same set m n same = record { outputs = refl; stored = same }

pub matrix-same : (set : Refs) (op : MatrixOp) (top : Operand) (mid : Ref) (size : ℕ)
    (inputs : NodePower) (m n : Contents) → SameIn set m n → ReadsOf set (Matrix op top mid size)
    → SameEffect set (matrix_effect op top mid size inputs m)
    (matrix_effect op top mid size inputs n)
matrix-same set matrices.And (Const k) mid size inputs m n same reads = none-same set m n same
matrix-same set matrices.And (At at) mid size inputs m n same reads =
    combine-same set bit_and at mid size inputs m n same (reads.0 refl) (reads.1.0 refl)
matrix-same set matrices.Or (Const k) mid size inputs m n same reads = none-same set m n same
matrix-same set matrices.Or (At at) mid size inputs m n same reads =
    combine-same set bit_or at mid size inputs m n same (reads.0 refl) (reads.1.0 refl)
matrix-same set matrices.Xor (Const k) mid size inputs m n same reads = none-same set m n same
matrix-same set matrices.Xor (At at) mid size inputs m n same reads =
    combine-same set bit_xor at mid size inputs m n same (reads.0 refl) (reads.1.0 refl)
matrix-same set matrices.Comp (Const k) mid size inputs m n same reads = none-same set m n same
matrix-same set matrices.Comp (At at) mid size inputs m n same reads =
    comp-same set at mid size inputs m n same (reads.0 refl)
matrix-same set matrices.Cmpr (Const k) mid size inputs m n same reads = none-same set m n same
matrix-same set matrices.Cmpr (At at) mid size inputs m n same reads =
    cmpr-same set at mid size inputs m n same (reads.0 refl) (reads.1.0 refl)
matrix-same set matrices.Brot (Const k) mid size inputs m n same reads = none-same set m n same
matrix-same set matrices.Brot (At at) mid size inputs m n same reads =
    brot-same set at mid size inputs m n same (reads.0 refl)
matrix-same set matrices.Mbit top mid size inputs m n same reads =
    let one = operand-had set top 1 _ reads in
    mbit-same set top mid size inputs m n same one.0 (one.1.0 refl)
matrix-same set matrices.Sens top mid size inputs m n same reads =
    let one = operand-had set top 1 _ reads in
    sens-same set top mid size inputs m n same one.0 (one.1.0 refl)

-- ---- where a set lacks all that is stored in

-- behind the numbers of a block comes where it stores
last-of : (set : Refs) (top mid : Operand) (a b : ℕ) (low : List Named)
    → AllByRecursion (LacksNamed set is_stored) (named_in top a ++ (named_in mid b ++ low))
    → AllByRecursion (LacksNamed set is_stored) low
last-of set top mid a b low all =
    all_second (LacksNamed set is_stored) (named_in mid b) low
    (all_second (LacksNamed set is_stored) (named_in top a) (named_in mid b ++ low) all)

pub math-leaves : (set : Refs) (op : MathOp) (top mid : Operand) (low : Ref) (inputs : NodePower)
    (m : Contents) → StoresOf set (Math op top mid low)
    → Leaves set m (math_effect op top mid low inputs m)
math-leaves set math.Add top mid low inputs m stores =
    add-leaves set _ _ low inputs m ((last-of set top mid 1 1 _ stores).0 refl)
math-leaves set math.Sub top mid low inputs m stores =
    sub-leaves set _ _ low inputs m ((last-of set top mid 1 1 _ stores).0 refl)
math-leaves set math.Mul top mid low inputs m stores =
    mul-leaves set _ _ low inputs m ((last-of set top mid 1 1 _ stores).0 refl)
math-leaves set math.Div top mid low inputs m stores =
    div-leaves set _ _ _ low inputs m ((last-of set top mid 2 1 _ stores).0 refl)

pub move-leaves : (set : Refs) (op : MoveOp) (top mid : Ref) (size : ℕ) (inputs : NodePower)
    (m : Contents) → StoresOf set (Move op top mid size)
    → Leaves set m (move_effect op top mid size inputs m)
move-leaves set moves.RegToTable top mid size inputs m stores =
    reg_to_table-leaves set top mid size inputs m (stores.1.0 refl)
move-leaves set moves.TableToReg top mid size inputs m stores =
    table_to_reg-leaves set top mid size inputs m (stores.1.0 refl)
move-leaves set moves.TableToTable top mid size inputs m stores =
    table_to_table-leaves set top mid size inputs m (stores.1.0 refl)
move-leaves set moves.Copy top mid size inputs m stores =
    block_move-leaves set top mid size inputs m (stores.1.0 refl)
move-leaves set moves.FirstIn top mid size inputs m stores =
    first_in-leaves set top mid size inputs m (stores.1.0 refl)
move-leaves set moves.FirstOut top mid size inputs m stores =
    first_out-leaves set top mid size inputs m (stores.0 refl) (stores.1.0 refl)
move-leaves set moves.Search top mid size inputs m stores =
    search-leaves set top mid size inputs m (stores.1.0 refl)

none-leaves : (set : Refs) (m : Contents) → SameIn set m m
none-leaves set m at has = refl

-- behind the first operand of a matrix block comes its matrix
behind : (set : Refs) (top : Operand) (count : ℕ) (rest : List Named)
    → AllByRecursion (LacksNamed set is_stored) (named_in top count ++ rest)
    → AllByRecursion (LacksNamed set is_stored) rest
behind set top count rest all = all_second (LacksNamed set is_stored) (named_in top count) rest all

pub matrix-leaves : (set : Refs) (op : MatrixOp) (top : Operand) (mid : Ref) (size : ℕ)
    (inputs : NodePower) (m : Contents) → StoresOf set (Matrix op top mid size)
    → LacksMoved set op top → Leaves set m (matrix_effect op top mid size inputs m)
matrix-leaves set matrices.And (Const k) mid size inputs m stores moved = none-leaves set m
matrix-leaves set matrices.And (At at) mid size inputs m stores moved =
    combine-leaves set bit_and at mid size inputs m (stores.1.0 refl)
matrix-leaves set matrices.Or (Const k) mid size inputs m stores moved = none-leaves set m
matrix-leaves set matrices.Or (At at) mid size inputs m stores moved =
    combine-leaves set bit_or at mid size inputs m (stores.1.0 refl)
matrix-leaves set matrices.Xor (Const k) mid size inputs m stores moved = none-leaves set m
matrix-leaves set matrices.Xor (At at) mid size inputs m stores moved =
    combine-leaves set bit_xor at mid size inputs m (stores.1.0 refl)
matrix-leaves set matrices.Comp (Const k) mid size inputs m stores moved = none-leaves set m
matrix-leaves set matrices.Comp (At at) mid size inputs m stores moved =
    comp-leaves set at mid size inputs m (stores.1.0 refl)
matrix-leaves set matrices.Cmpr (Const k) mid size inputs m stores moved = none-leaves set m
matrix-leaves set matrices.Cmpr (At at) mid size inputs m stores moved =
    cmpr-leaves set at mid size inputs m (stores.1.0 refl)
matrix-leaves set matrices.Brot (Const k) mid size inputs m stores moved = none-leaves set m
matrix-leaves set matrices.Brot (At at) mid size inputs m stores moved =
    brot-leaves set at mid size inputs m (stores.1.0 refl)
matrix-leaves set matrices.Mbit top mid size inputs m stores moved =
    mbit-leaves set top mid size inputs m moved ((behind set top 1 _ stores).0 refl)
matrix-leaves set matrices.Sens top mid size inputs m stores moved =
    sens-leaves set top mid size inputs m moved
