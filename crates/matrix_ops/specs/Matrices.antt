-- What each block that works on the bits of a matrix does when it is solved.
use Rattle.std.specs.Prelude.{◌≡◌, ◌≤◌, ℕ, ◌+◌, ◌-◌, ◌*◌, ◌/◌, Bool, false, not, ◌&&◌, nat_le}
use Rattle.std.specs.Prelude.{if◌then◌else◌, List, [], ◌∷◌, ◌++◌, length, take, drop, map, zip}
use Rattle.std.specs.Prelude.{slice_index_or, slice_set, bit_and, bit_or, bit_xor}
use Rattle.std.specs.Prelude.{Option, is_some, option_map, unwrap_or}
use Rattle.std.specs.Int.{bit_not, w16}
use Rattle.std.specs.List.{position_from}
use Rattle.std.specs.FinMap.{insert}
use Rattle.plant_types.specs.declared.element.Operand.{Operand}
use Rattle.plant_types.specs.declared.element.Operand.TheVariants.{Const, At}
use Rattle.plant_types.specs.declared.power.NodePower.{NodePower}
use Rattle.plant_types.specs.declared.reference.Ref.{Ref}
use Rattle.plant_types.specs.Effect.{Effect}
use Rattle.plant_types.specs.Operands.{operand_number}
use Rattle.plant_types.specs.Reference.{ref_from, is_holding}
use Rattle.plant_types.specs.Store.{Contents, word_at, words_from, with_words}
use Rattle.matrix_ops.specs.Bits.{matrix_bits, bit_number, matrix_words}

-- Two matrices put together word by word. This project's own.
abbrev pub word_by_word : (ℕ → ℕ → ℕ) → List ℕ → List ℕ → List ℕ
word_by_word rule words others = map (λ pair. rule pair.0 pair.1) (zip words others)

-- The contents after a matrix is put together with another, word by word. This project's own.
abbrev pub combined : (ℕ → ℕ → ℕ) → Ref → Ref → ℕ → Contents → Contents
combined rule top mid length m =
    with_words m mid (word_by_word rule (words_from m mid length) (words_from m top length))

-- AND, OR and XOR: the middle matrix is replaced, word by word, by what a rule gives for a word of
-- each matrix. Modicon Ladder Logic Block Library User Guide; the exact outputs are this project's
-- own.
abbrev pub combine_effect : (ℕ → ℕ → ℕ) → Ref → Ref → ℕ → NodePower → Contents → Effect
combine_effect rule top mid length inputs m = record {
  outputs = record { top = inputs.top; middle = false; bottom = false };
  stored = if inputs.top then combined rule top mid length m else m;
}

abbrev pub and_effect : Ref → Ref → ℕ → NodePower → Contents → Effect
and_effect = combine_effect bit_and

abbrev pub or_effect : Ref → Ref → ℕ → NodePower → Contents → Effect
or_effect = combine_effect bit_or

abbrev pub xor_effect : Ref → Ref → ℕ → NodePower → Contents → Effect
xor_effect = combine_effect bit_xor

-- COMP: a matrix becomes the inverse of another. Modicon Ladder Logic Block Library User Guide;
-- the exact outputs are this project's own.
abbrev pub comp_effect : Ref → Ref → ℕ → NodePower → Contents → Effect
comp_effect top mid length inputs m = record {
  outputs = record { top = inputs.top; middle = false; bottom = false };
  stored = if inputs.top then with_words m mid (map (bit_not w16) (words_from m top length)) else m;
}

-- Whether two bits differ. This project's own.
abbrev pub is_apart : Bool × Bool → Bool
is_apart pair = if pair.0 then not pair.1 else pair.1

-- The number, from 1, of the first bit behind so many bits in which two matrices differ.
-- Modicon Ladder Logic Block Library User Guide.
abbrev pub first_difference : ℕ → List Bool → List Bool → Option ℕ
first_difference behind bits others =
    position_from is_apart (behind + 1) (drop behind (zip bits others))

-- The same of two matrices in registers. Modicon Ladder Logic Block Library User Guide.
abbrev pub difference_in : Contents → ℕ → Ref → Ref → ℕ → Option ℕ
difference_in m behind top second length =
    first_difference behind (matrix_bits (words_from m top length))
    (matrix_bits (words_from m second length))

-- CMPR: the pointer is left at the first bit behind it that differs from the matrix behind the
-- pointer, or at 0. Modicon Ladder Logic Block Library User Guide; the exact inputs and outputs
-- are this project's own.
abbrev pub cmpr_effect : Ref → Ref → ℕ → NodePower → Contents → Effect
cmpr_effect top mid length inputs m =
    let bits = matrix_bits (words_from m top length) in
    let others = matrix_bits (words_from m (ref_from mid 1) length) in
    let found = first_difference (if inputs.middle then 0 else word_at m mid) bits others in
    record {
      outputs = record {
        top = inputs.top;
        middle = inputs.top && is_some found;
        bottom = inputs.top && unwrap_or (option_map (bit_number bits) found) false;
      };
      stored = if inputs.top then insert m mid (unwrap_or found 0) else m;
    }

-- BROT to the left: each bit takes the place before it. Modicon Ladder Logic Block Library User
-- Guide.
abbrev pub left_turned : List Bool → Bool → List Bool
left_turned bits bit_in = drop 1 bits ++ bit_in ∷ []

-- BROT to the right: each bit takes the place behind it, and the last one of so many goes out.
-- Modicon Ladder Logic Block Library User Guide.
abbrev pub right_turned : ℕ → List Bool → Bool → List Bool
right_turned count bits bit_in = bit_in ∷ take (count - 1) bits

-- The bits of a matrix of registers turned by one to the left, or to the right. Modicon Ladder
-- Logic Block Library User Guide.
abbrev pub turned_left : List ℕ → Bool → List Bool
turned_left words bit_in = left_turned (matrix_bits words) bit_in

abbrev pub turned_right : List ℕ → Bool → List Bool
turned_right words bit_in = right_turned (16 * length words) (matrix_bits words) bit_in

-- BROT: a matrix turned by one bit, which comes in again or not. Modicon Ladder Logic Block
-- Library User Guide; the exact inputs and outputs are this project's own.
abbrev pub brot_effect : Ref → Ref → ℕ → NodePower → Contents → Effect
brot_effect top mid length inputs m =
    let bits = matrix_bits (words_from m top length) in
    let bit_out = bit_number bits (if inputs.middle then 1 else 16 * length) in
    let bit_in = inputs.bottom && bit_out in
    let turned =
    if inputs.middle then left_turned bits bit_in else right_turned (16 * length) bits bit_in in
    record {
      outputs = record { top = inputs.top; middle = inputs.top && bit_out; bottom = false };
      stored = if inputs.top then with_words m mid (matrix_words turned) else m;
    }

-- Whether an operand is a pointer, which a block moves on. This project's own.
abbrev pub is_pointer : Operand → Bool
is_pointer (Const n) = false
is_pointer (At at) = is_holding at.kind

-- The contents after a number is stored in an operand that is a pointer. This project's own.
abbrev pub with_pointer : Contents → Operand → ℕ → Contents
with_pointer m (Const n) value = m
with_pointer m (At at) value = if is_holding at.kind then insert m at value else m

-- A number that a bit of a matrix of so many registers has. Modicon Ladder Logic Block Library
-- User Guide.
abbrev pub is_bit_of : ℕ → ℕ → Bool
is_bit_of length k = nat_le 1 k && nat_le k (16 * length)

-- The matrix with one of its bits, counted from 1, set on or off. Modicon Ladder Logic Block
-- Library User Guide.
abbrev pub with_bit_number : List Bool → ℕ → Bool → List Bool
with_bit_number bits k on = slice_set bits (k - 1) on

-- The contents after one bit of a matrix is set on or off: the register that holds it takes its
-- word of the matrix with that bit set. Modicon Ladder Logic Block Library User Guide.
abbrev pub with_matrix_bit : Contents → Ref → ℕ → ℕ → Bool → Contents
with_matrix_bit m matrix length k on =
    let bits = with_bit_number (matrix_bits (words_from m matrix length)) k on in
    let register = (k - 1) / 16 in
    insert m (ref_from matrix register) (slice_index_or (matrix_words bits) register 0)

-- To set one bit of a matrix changes it in the list of all bits, and no other. Modicon Ladder
-- Logic Block Library User Guide.
abbrev pub SetsOneBit : Type 0
SetsOneBit =
    (m : Contents) (matrix : Ref) (length k : ℕ) (on : Bool) → 1 ≤ k → k ≤ 16 * length
    → matrix_bits (words_from (with_matrix_bit m matrix length k on) matrix length)
    ≡ with_bit_number (matrix_bits (words_from m matrix length)) k on

-- MBIT: a bit of a matrix becomes the power of the middle node, and a pointer to it can move
-- on. Modicon Ladder Logic Block Library User Guide; the exact inputs and outputs are this
-- project's own.
abbrev pub mbit_effect : Operand → Ref → ℕ → NodePower → Contents → Effect
mbit_effect top mid length inputs m =
    let k = operand_number m top in
    let changed = with_matrix_bit m mid length k inputs.middle in
    record {
      outputs = record {
        top = inputs.top;
        middle = inputs.top && is_bit_of length k && inputs.middle;
        bottom = inputs.top && not (is_bit_of length k);
      };
      stored =
          if inputs.top && is_bit_of length k
          then (if inputs.bottom then with_pointer changed top (k + 1) else changed)
          else m;
    }

-- SENS: a bit of a matrix is told, and a pointer to it can begin at 1 and move on. Modicon
-- Ladder Logic Block Library User Guide; the exact inputs and outputs are this project's own.
abbrev pub sens_effect : Operand → Ref → ℕ → NodePower → Contents → Effect
sens_effect top mid length inputs m =
    let k = if inputs.bottom && is_pointer top then 1 else operand_number m top in
    record {
      outputs = record {
        top = inputs.top;
        middle = inputs.top && is_bit_of length k
            && bit_number (matrix_bits (words_from m mid length)) k;
        bottom = inputs.top && not (is_bit_of length k);
      };
      stored =
          if inputs.top && is_bit_of length k && inputs.middle then with_pointer m top (k + 1)
          else (if inputs.top && inputs.bottom then with_pointer m top 1 else m);
    }
