-- A block leaves the references of a set that lacks all that the block stores in.
use Rattle.std.proofs.Common.{◌≡◌, ℕ, ◌+◌, ◌-◌, ◌*◌, ◌/◌, ◌<◌, ◌≤◌, Bool, true, false, List}
use Rattle.std.proofs.Common.{[], ◌∷◌, length, drop, map, refl, arith}
use Rattle.std.proofs.Common.{◌==◌, length-append, length-drop}
use Rattle.std.specs.Prelude.{if◌then◌else◌, ◌&&◌, not, nat_le, nat_lt, zip}
use Rattle.std.specs.Int.{bit_not, w16}
use Rattle.std.specs.FinSet.{contains}
use Rattle.std.proofs.lemmas.Bool.{and_parts, leb-true, ltb-true}
use Rattle.std.proofs.lemmas.List.{length-map, length-take}
use Rattle.std.proofs.lemmas.List.FromFn.{length-map-range_with_len}
use Rattle.std.proofs.lemmas.Slice.Zip.{length-zip}
use Rattle.plant_types.specs.declared.element.Unit.{Unit as TimeBase}
use Rattle.plant_types.specs.declared.element.Operand.{Operand}
use Rattle.plant_types.specs.declared.element.Operand.TheVariants.{Const, At}
use Rattle.plant_types.specs.declared.reference.Ref.{Ref}
use Rattle.plant_types.specs.declared.power.NodePower.{NodePower}
use Rattle.plant_types.specs.Discretes.{Refs}
use Rattle.plant_types.specs.Effect.{Effect}
use Rattle.plant_types.specs.Operands.{operand_number}
use Rattle.plant_types.specs.Reference.{ref_from, is_holding}
use Rattle.plant_types.specs.Store.{Contents, word_at, words_from}
use Rattle.plant_types.proofs.RunLemmas.{length-words_from}
use Rattle.timer_ops.specs.declared.Clock.{Clock}
use Rattle.timer_ops.specs.Timer.{timer_effect}
use Rattle.timer_ops.specs.Counter.{up_count_effect, down_count_effect}
use Rattle.integer_ops.specs.Arithmetic.{add_effect, sub_effect, mul_effect, div_effect}
use Rattle.integer_ops.specs.Arithmetic.{quotient_effect, is_too_large, dividend}
use Rattle.table_ops.specs.Tables.{moved, table_behind, start_place, moves_on, table_move}
use Rattle.table_ops.specs.Tables.{reg_to_table_effect, table_to_reg_effect, table_to_table_effect}
use Rattle.table_ops.specs.Tables.{block_move_effect, first_in_effect, first_out_effect}
use Rattle.table_ops.specs.Tables.{search_effect}
use Rattle.matrix_ops.specs.Bits.{matrix_bits, matrix_words, matrix_word}
use Rattle.matrix_ops.specs.Matrices.{word_by_word, combine_effect, comp_effect, cmpr_effect}
use Rattle.matrix_ops.specs.Matrices.{left_turned, right_turned, brot_effect, with_pointer, is_pointer}
use Rattle.matrix_ops.specs.Matrices.{is_bit_of, with_matrix_bit, mbit_effect, sens_effect}
use Rattle.matrix_ops.proofs.BitLemmas.{length-matrix_bits}
use Rattle.cone_laws.specs.Agree.{SameIn}
use Rattle.cone_laws.proofs.Stores.{Lacks, lacks-first, lacks-part, insert-elsewhere}
use Rattle.cone_laws.proofs.Stores.{words-elsewhere, when-elsewhere, by-store, onward}
use Rattle.cone_laws.proofs.BothTables.{moves-within}
use Rattle.cone_laws.proofs.BothMatrices.{bit_out, turned}

-- an effect leaves the references of a set as they were
abbrev pub Leaves : Refs → Contents → Effect → Type 0
Leaves set m done = SameIn set m done.stored

either-few : (b : Bool) (xs ys : List Bool) (most : ℕ) → length xs ≤ most → length ys ≤ most
    → length (if b then xs else ys) ≤ most
either-few true xs ys most one other = one
either-few false xs ys most one other = other

by-effect : (set : Refs) (m : Contents) (b : Bool) (one other : Effect) → Leaves set m one
    → Leaves set m other → Leaves set m (if b then one else other)
by-effect set m true one other first second = first
by-effect set m false one other first second = second

-- ---- timers, counters and arithmetic

pub timer-leaves : (set : Refs) (unit : TimeBase) (preset : ℕ) (acc : Ref) (clock : Clock)
    (inputs : NodePower) (m : Contents) → Lacks set acc 1
    → Leaves set m (timer_effect unit preset acc clock inputs m)
unfolding timer_effect
timer-leaves set unit preset acc clock inputs m lacks =
    insert-elsewhere set m acc _ (lacks-first set acc 1 (omega arith) lacks)

pub up-leaves : (set : Refs) (preset : ℕ) (acc : Ref) (edge : Bool) (inputs : NodePower)
    (m : Contents) → Lacks set acc 1 → Leaves set m (up_count_effect preset acc edge inputs m)
unfolding up_count_effect
up-leaves set preset acc edge inputs m lacks =
    insert-elsewhere set m acc _ (lacks-first set acc 1 (omega arith) lacks)

pub down-leaves : (set : Refs) (preset : ℕ) (acc : Ref) (edge : Bool) (inputs : NodePower)
    (m : Contents) → Lacks set acc 1 → Leaves set m (down_count_effect preset acc edge inputs m)
unfolding down_count_effect
down-leaves set preset acc edge inputs m lacks =
    insert-elsewhere set m acc _ (lacks-first set acc 1 (omega arith) lacks)

nothing : (set : Refs) (m : Contents) → SameIn set m m
nothing set m at has = refl

pub add-leaves : (set : Refs) (a b : ℕ) (low : Ref) (inputs : NodePower) (m : Contents)
    → Lacks set low 1 → Leaves set m (add_effect a b low inputs m)
unfolding add_effect
add-leaves set a b low inputs m lacks =
    by-effect set m inputs.top _ _
    (insert-elsewhere set m low _ (lacks-first set low 1 (omega arith) lacks)) (nothing set m)

pub sub-leaves : (set : Refs) (a b : ℕ) (low : Ref) (inputs : NodePower) (m : Contents)
    → Lacks set low 1 → Leaves set m (sub_effect a b low inputs m)
unfolding sub_effect
sub-leaves set a b low inputs m lacks =
    by-effect set m inputs.top _ _
    (insert-elsewhere set m low _ (lacks-first set low 1 (omega arith) lacks)) (nothing set m)

pub mul-leaves : (set : Refs) (a b : ℕ) (low : Ref) (inputs : NodePower) (m : Contents)
    → Lacks set low 2 → Leaves set m (mul_effect a b low inputs m)
unfolding mul_effect
mul-leaves set a b low inputs m lacks =
    by-effect set m (inputs.top && not (is_too_large a) && not (is_too_large b)) _ _
    (words-elsewhere set m low _ 2 (omega arith) lacks) (nothing set m)

quotient-leaves : (set : Refs) (a b : ℕ) (low : Ref) (as_fraction : Bool) (m : Contents)
    → Lacks set low 2 → Leaves set m (quotient_effect a b low as_fraction m)
quotient-leaves set a b low as_fraction m lacks =
    by-effect set m (b == 0) _ _ (nothing set m)
    (by-effect set m (is_too_large (a / b)) _ _ (nothing set m)
    (words-elsewhere set m low _ 2 (omega arith) lacks))

pub div-leaves : (set : Refs) (high units by : ℕ) (low : Ref) (inputs : NodePower) (m : Contents)
    → Lacks set low 2 → Leaves set m (div_effect high units by low inputs m)
unfolding div_effect
div-leaves set high units by low inputs m lacks =
    by-effect set m
    (inputs.top && not (is_too_large high) && not (is_too_large units) && not (is_too_large by))
    _ _ (quotient-leaves set (dividend high units) by low inputs.middle m lacks) (nothing set m)

-- ---- tables

moved-leaves : (set : Refs) (m : Contents) (source target : Ref) (count : ℕ)
    → Lacks set target count → SameIn set m (moved m source target count)
moved-leaves set m source target count lacks =
    let e = length-words_from m source count in
    words-elsewhere set m target (words_from m source count) count (omega (arith, e)) lacks

move-leaves : (set : Refs) (moved_at : ℕ → Contents) (pointer : Ref) (size : ℕ)
    (inputs : NodePower) (m : Contents) → contains set pointer ≡ false
    → ((place : ℕ) → place < size → SameIn set m (moved_at place))
    → Leaves set m (table_move moved_at pointer size inputs m)
move-leaves set moved_at pointer size inputs m lacks moves =
    by-store set m (moves_on inputs size (start_place inputs (word_at m pointer))) _ _
    (λ on. onward set m (moved_at (start_place inputs (word_at m pointer))) _
    (moves (start_place inputs (word_at m pointer))
    (moves-within inputs size (start_place inputs (word_at m pointer)) on))
    (insert-elsewhere set _ pointer _ lacks))
    (when-elsewhere set inputs.bottom m _ (λ on. insert-elsewhere set m pointer 0 lacks))

pub reg_to_table-leaves : (set : Refs) (top mid : Ref) (size : ℕ) (inputs : NodePower)
    (m : Contents) → Lacks set mid (size + 1)
    → Leaves set m (reg_to_table_effect top mid size inputs m)
reg_to_table-leaves set top mid size inputs m lacks =
    move-leaves set _ mid size inputs m (lacks-first set mid (size + 1) (omega arith) lacks)
    (λ place below. moved-leaves set m top (ref_from (table_behind mid) place) 1
    (lacks-part set (table_behind mid) size place 1 (omega (arith, below))
    (lacks-part set mid (size + 1) 1 size (omega arith) lacks)))

pub table_to_reg-leaves : (set : Refs) (top mid : Ref) (size : ℕ) (inputs : NodePower)
    (m : Contents) → Lacks set mid 2 → Leaves set m (table_to_reg_effect top mid size inputs m)
table_to_reg-leaves set top mid size inputs m lacks =
    move-leaves set _ mid size inputs m (lacks-first set mid 2 (omega arith) lacks)
    (λ place below. moved-leaves set m (ref_from top place) (table_behind mid) 1
    (lacks-part set mid 2 1 1 (omega arith) lacks))

pub table_to_table-leaves : (set : Refs) (top mid : Ref) (size : ℕ) (inputs : NodePower)
    (m : Contents) → Lacks set mid (size + 1)
    → Leaves set m (table_to_table_effect top mid size inputs m)
table_to_table-leaves set top mid size inputs m lacks =
    move-leaves set _ mid size inputs m (lacks-first set mid (size + 1) (omega arith) lacks)
    (λ place below. moved-leaves set m (ref_from top place) (ref_from (table_behind mid) place) 1
    (lacks-part set (table_behind mid) size place 1 (omega (arith, below))
    (lacks-part set mid (size + 1) 1 size (omega arith) lacks)))

pub block_move-leaves : (set : Refs) (top mid : Ref) (size : ℕ) (inputs : NodePower)
    (m : Contents) → Lacks set mid size → Leaves set m (block_move_effect top mid size inputs m)
block_move-leaves set top mid size inputs m lacks =
    when-elsewhere set inputs.top m _ (λ on. moved-leaves set m top mid size lacks)

pub first_in-leaves : (set : Refs) (top mid : Ref) (size : ℕ) (inputs : NodePower) (m : Contents)
    → Lacks set mid (size + 1) → Leaves set m (first_in_effect top mid size inputs m)
first_in-leaves set top mid size inputs m lacks =
    when-elsewhere set (inputs.top && nat_lt (word_at m mid) size) m _
    (λ on. let below : word_at m mid < size =
    ltb-true (word_at m mid) size ((and_parts inputs.top (nat_lt (word_at m mid) size) on).1) in
    let behind = lacks-part set mid (size + 1) 1 size (omega arith) lacks in
    let shifted = moved-leaves set m (table_behind mid) (ref_from (table_behind mid) 1)
    (word_at m mid)
    (lacks-part set (table_behind mid) size 1 (word_at m mid) (omega (arith, below)) behind) in
    onward set m _ _ shifted (onward set _ _ _
    (insert-elsewhere set _ (table_behind mid) (word_at m top) (lacks 1 (omega (arith, below))))
    (insert-elsewhere set _ mid _ (lacks-first set mid (size + 1) (omega arith) lacks))))

pub first_out-leaves : (set : Refs) (top mid : Ref) (size : ℕ) (inputs : NodePower)
    (m : Contents) → Lacks set top (size + 1) → Lacks set mid 1
    → Leaves set m (first_out_effect top mid size inputs m)
first_out-leaves set top mid size inputs m source target =
    when-elsewhere set
    (inputs.top && nat_lt 0 (word_at m top) && nat_le (word_at m top) size) m _
    (λ on. onward set m (moved m (ref_from top (word_at m top)) mid 1) _
    (moved-leaves set m (ref_from top (word_at m top)) mid 1 target)
    (insert-elsewhere set _ top _ (lacks-first set top (size + 1) (omega arith) source)))

pub search-leaves : (set : Refs) (top mid : Ref) (size : ℕ) (inputs : NodePower) (m : Contents)
    → Lacks set mid 2 → Leaves set m (search_effect top mid size inputs m)
search-leaves set top mid size inputs m lacks =
    when-elsewhere set inputs.top m _
    (λ on. insert-elsewhere set m mid _ (lacks-first set mid 2 (omega arith) lacks))

-- ---- matrices

-- two matrices put together are no longer than the first
few-words : (rule : ℕ → ℕ → ℕ) (m : Contents) (top mid : Ref) (size : ℕ)
    → length (word_by_word rule (words_from m mid size) (words_from m top size)) ≤ size
few-words rule m top mid size =
    let one = length-words_from m mid size in
    let other = length-words_from m top size in
    let zipped = length-zip (words_from m mid size) (words_from m top size) in
    let mapped = length-map (zip (words_from m mid size) (words_from m top size))
    (λ (pair : ℕ × ℕ). rule pair.0 pair.1) in
    omega (arith, one, other, zipped, mapped)

pub combine-leaves : (set : Refs) (rule : ℕ → ℕ → ℕ) (top mid : Ref) (size : ℕ)
    (inputs : NodePower) (m : Contents) → Lacks set mid size
    → Leaves set m (combine_effect rule top mid size inputs m)
combine-leaves set rule top mid size inputs m lacks =
    when-elsewhere set inputs.top m _
    (λ on. words-elsewhere set m mid _ size (few-words rule m top mid size) lacks)

pub comp-leaves : (set : Refs) (top mid : Ref) (size : ℕ) (inputs : NodePower) (m : Contents)
    → Lacks set mid size → Leaves set m (comp_effect top mid size inputs m)
comp-leaves set top mid size inputs m lacks =
    let read = length-words_from m top size in
    let mapped = length-map (words_from m top size) (bit_not w16) in
    when-elsewhere set inputs.top m _
    (λ on. words-elsewhere set m mid (map (bit_not w16) (words_from m top size)) size
    (omega (arith, read, mapped)) lacks)

pub cmpr-leaves : (set : Refs) (top mid : Ref) (size : ℕ) (inputs : NodePower) (m : Contents)
    → Lacks set mid (size + 1) → Leaves set m (cmpr_effect top mid size inputs m)
cmpr-leaves set top mid size inputs m lacks =
    when-elsewhere set inputs.top m _
    (λ on. insert-elsewhere set m mid _ (lacks-first set mid (size + 1) (omega arith) lacks))

-- a matrix that is turned is no longer than it was
few-turned : (bits : List Bool) (size : ℕ) → length bits ≤ 16 * size + 1
    → length (matrix_words bits) ≤ size
unfolding matrix_words
few-turned bits size few =
    let e = length-map-range_with_len (matrix_word bits) 0 (length bits / 16) in
    omega (arith, e, few)

left-few : (bits : List Bool) (size : ℕ) (on : Bool) → length bits ≡ 16 * size
    → length (left_turned bits on) ≤ 16 * size + 1
left-few bits size on is =
    let joined = length-append (drop 1 bits) (on ∷ []) in
    let dropped = length-drop 1 bits in
    omega (arith, joined, dropped, is)

right-few : (bits : List Bool) (size : ℕ) (on : Bool) → length bits ≡ 16 * size
    → length (right_turned (16 * size) bits on) ≤ 16 * size + 1
right-few bits size on is =
    let taken = length-take (16 * size - 1) bits in
    omega (arith, taken, is)

pub brot-leaves : (set : Refs) (top mid : Ref) (size : ℕ) (inputs : NodePower) (m : Contents)
    → Lacks set mid size → Leaves set m (brot_effect top mid size inputs m)
brot-leaves set top mid size inputs m lacks =
    let read = length-words_from m top size in
    let bits = length-matrix_bits (words_from m top size) in
    let is : length (matrix_bits (words_from m top size)) ≡ 16 * size = omega (arith, read, bits) in
    let words = words_from m top size in
    let on = inputs.bottom && bit_out inputs size words in
    when-elsewhere set inputs.top m _
    (λ power. words-elsewhere set m mid (matrix_words (turned inputs size words)) size
    (few-turned (turned inputs size words) size (either-few inputs.middle _ _ (16 * size + 1)
    (left-few (matrix_bits words) size on is) (right-few (matrix_bits words) size on is))) lacks)

-- ---- one bit

-- a set lacks an operand that is a pointer
abbrev pub LacksPointer : Refs → Operand → Type 0
LacksPointer set (Const n) = Unit {0}
LacksPointer set (At at) = is_holding at.kind ≡ true → contains set at ≡ false

pointer-leaves : (set : Refs) (m : Contents) (top : Operand) (value : ℕ) → LacksPointer set top
    → SameIn set m (with_pointer m top value)
pointer-leaves set m (Const k) value lacks = nothing set m
pointer-leaves set m (At at) value lacks =
    when-elsewhere set (is_holding at.kind) m _
    (λ on. insert-elsewhere set m at value (lacks on))

bit-leaves : (set : Refs) (m : Contents) (mid : Ref) (size k : ℕ) (on : Bool)
    → is_bit_of size k ≡ true → Lacks set mid size → SameIn set m (with_matrix_bit m mid size k on)
bit-leaves set m mid size k on is lacks =
    let tests = and_parts (nat_le 1 k) (nat_le k (16 * size)) is in
    let from = leb-true 1 k tests.0 in
    let to = leb-true k (16 * size) tests.1 in
    insert-elsewhere set m (ref_from mid ((k - 1) / 16)) _
    (lacks ((k - 1) / 16) (omega (arith, from, to)))

pub mbit-leaves : (set : Refs) (top : Operand) (mid : Ref) (size : ℕ) (inputs : NodePower)
    (m : Contents) → LacksPointer set top → Lacks set mid size
    → Leaves set m (mbit_effect top mid size inputs m)
mbit-leaves set top mid size inputs m source target =
    when-elsewhere set (inputs.top && is_bit_of size (operand_number m top)) m _
    (λ on. let bit = bit-leaves set m mid size (operand_number m top) inputs.middle
    ((and_parts inputs.top (is_bit_of size (operand_number m top)) on).1) target in
    by-store set m inputs.bottom _ _
    (λ moves. onward set m _ _ bit (pointer-leaves set _ top (operand_number m top + 1) source)) bit)

pub sens-leaves : (set : Refs) (top : Operand) (mid : Ref) (size : ℕ) (inputs : NodePower)
    (m : Contents) → LacksPointer set top → Leaves set m (sens_effect top mid size inputs m)
sens-leaves set top mid size inputs m source =
    let k = if inputs.bottom && is_pointer top then 1 else operand_number m top in
    by-store set m (inputs.top && is_bit_of size k && inputs.middle) _ _
    (λ on. pointer-leaves set m top (k + 1) source)
    (when-elsewhere set (inputs.top && inputs.bottom) m _
    (λ on. pointer-leaves set m top 1 source))
