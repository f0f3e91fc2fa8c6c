-- What a matrix block does by references that a set has, it does alike in stores that agree on the
-- set.
use Rattle.std.proofs.Common.{◌≡◌, ℕ, ◌+◌, ◌-◌, ◌*◌, ◌/◌, Bool, false, List, refl}
use Rattle.std.proofs.Common.{ap, subst, arith}
use Rattle.std.specs.Prelude.{if◌then◌else◌, ◌&&◌, not, is_some, option_map, unwrap_or, map}
use Rattle.std.specs.Prelude.{slice_index_or, Option}
use Rattle.std.specs.Int.{bit_not, w16}
use Rattle.plant_types.specs.declared.element.Operand.{Operand}
use Rattle.plant_types.specs.declared.element.Operand.TheVariants.{Const, At}
use Rattle.plant_types.specs.declared.reference.Ref.{Ref}
use Rattle.plant_types.specs.declared.power.NodePower.{NodePower}
use Rattle.plant_types.specs.Discretes.{Refs}
use Rattle.plant_types.specs.Operands.{operand_number}
use Rattle.plant_types.specs.Reference.{ref_from, is_holding}
use Rattle.plant_types.specs.Store.{Contents, word_at, words_from}
use Rattle.matrix_ops.specs.Bits.{matrix_bits, bit_number, matrix_words}
use Rattle.matrix_ops.specs.Matrices.{word_by_word, combine_effect, comp_effect, first_difference}
use Rattle.matrix_ops.specs.Matrices.{cmpr_effect, left_turned, right_turned, brot_effect}
use Rattle.matrix_ops.specs.Matrices.{is_pointer, with_pointer, is_bit_of, with_bit_number}
use Rattle.matrix_ops.specs.Matrices.{with_matrix_bit, mbit_effect, sens_effect}
use Rattle.cone_laws.specs.Agree.{SameIn}
use Rattle.cone_laws.proofs.Stores.{Has, HasOperand, has-first, has-part, insert-both, either-both}
use Rattle.cone_laws.proofs.Stores.{words-read, number-read}
use Rattle.cone_laws.proofs.Both.{SameEffect, insert-same, words-same}

pub combine-same : (set : Refs) (rule : ℕ → ℕ → ℕ) (top mid : Ref) (length : ℕ)
    (inputs : NodePower) (m n : Contents) → SameIn set m n → Has set top length
    → Has set mid length
    → SameEffect set (combine_effect rule top mid length inputs m)
    (combine_effect rule top mid length inputs n)
combine-same set rule top mid length inputs m n same source target =
    let words = words-read set m n mid length same target in
    let others = words-read set m n top length same source in
    record {
      outputs = refl;
      stored = either-both set inputs.top _ _ _ _
          (words-same set m n mid _ _ (λ i. word_by_word rule (words i) (others i)) same) same;
    }

pub comp-same : (set : Refs) (top mid : Ref) (length : ℕ) (inputs : NodePower) (m n : Contents)
    → SameIn set m n → Has set top length
    → SameEffect set (comp_effect top mid length inputs m) (comp_effect top mid length inputs n)
comp-same set top mid length inputs m n same source =
    let words = words-read set m n top length same source in
    record {
      outputs = refl;
      stored = either-both set inputs.top _ _ _ _
          (words-same set m n mid _ _ (λ i. map (bit_not w16) (words i)) same) same;
    }

-- the first difference that CMPR finds, by the pointer and both matrices, and its outputs
abbrev difference : NodePower → ℕ → List ℕ → List ℕ → Option ℕ
difference inputs pointer words others =
    first_difference (if inputs.middle then 0 else pointer) (matrix_bits words)
    (matrix_bits others)

abbrev difference_outputs : NodePower → ℕ → List ℕ → List ℕ → NodePower
difference_outputs inputs pointer words others = record {
  top = inputs.top;
  middle = inputs.top && is_some (difference inputs pointer words others);
  bottom = inputs.top && unwrap_or (option_map (bit_number (matrix_bits words))
      (difference inputs pointer words others)) false;
}

pub cmpr-same : (set : Refs) (top mid : Ref) (length : ℕ) (inputs : NodePower) (m n : Contents)
    → SameIn set m n → Has set top length → Has set mid (length + 1)
    → SameEffect set (cmpr_effect top mid length inputs m) (cmpr_effect top mid length inputs n)
cmpr-same set top mid length inputs m n same source target =
    let pointer = same mid (has-first set mid (length + 1) (omega arith) target) in
    let words = words-read set m n top length same source in
    let others = words-read set m n (ref_from mid 1) length same
    (has-part set mid (length + 1) 1 length (omega arith) target) in
    let found : unwrap_or (difference inputs (word_at m mid) (words_from m top length)
    (words_from m (ref_from mid 1) length)) 0
    ≡ unwrap_or (difference inputs (word_at n mid) (words_from n top length)
    (words_from n (ref_from mid 1) length)) 0 =
    λ i. unwrap_or (difference inputs (pointer i) (words i) (others i)) 0 in
    record {
      outputs = λ i. difference_outputs inputs (pointer i) (words i) (others i);
      stored = either-both set inputs.top _ _ _ _ (insert-same set m n mid _ _ found same) same;
    }

-- the bit that leaves a matrix that is turned, and the matrix then
abbrev pub bit_out : NodePower → ℕ → List ℕ → Bool
bit_out inputs length words =
    bit_number (matrix_bits words) (if inputs.middle then 1 else 16 * length)

abbrev pub turned : NodePower → ℕ → List ℕ → List Bool
turned inputs length words =
    if inputs.middle
    then left_turned (matrix_bits words) (inputs.bottom && bit_out inputs length words)
    else right_turned (16 * length) (matrix_bits words) (inputs.bottom && bit_out inputs length words)

abbrev turn_outputs : NodePower → ℕ → List ℕ → NodePower
turn_outputs inputs length words = record {
  top = inputs.top;
  middle = inputs.top && bit_out inputs length words;
  bottom = false;
}

pub brot-same : (set : Refs) (top mid : Ref) (length : ℕ) (inputs : NodePower) (m n : Contents)
    → SameIn set m n → Has set top length
    → SameEffect set (brot_effect top mid length inputs m) (brot_effect top mid length inputs n)
brot-same set top mid length inputs m n same source =
    let words = words-read set m n top length same source in
    let after : matrix_words (turned inputs length (words_from m top length))
    ≡ matrix_words (turned inputs length (words_from n top length)) =
    λ i. matrix_words (turned inputs length (words i)) in
    record {
      outputs = λ i. turn_outputs inputs length (words i);
      stored = either-both set inputs.top _ _ _ _ (words-same set m n mid _ _ after same) same;
    }

-- ---- one bit

pub pointer-both : (set : Refs) (m n : Contents) (top : Operand) (value : ℕ) → SameIn set m n
    → SameIn set (with_pointer m top value) (with_pointer n top value)
pointer-both set m n (Const k) value same = same
pointer-both set m n (At at) value same =
    either-both set (is_holding at.kind) _ _ _ _ (insert-both set m n at value same) same

-- the word that holds a bit after it was set
abbrev bit_word : List ℕ → ℕ → Bool → ℕ
bit_word words k on =
    slice_index_or (matrix_words (with_bit_number (matrix_bits words) k on)) ((k - 1) / 16) 0

bit-both : (set : Refs) (m n : Contents) (mid : Ref) (length k : ℕ) (on : Bool) → SameIn set m n
    → Has set mid length
    → SameIn set (with_matrix_bit m mid length k on) (with_matrix_bit n mid length k on)
bit-both set m n mid length k on same has =
    let words = words-read set m n mid length same has in
    insert-same set m n (ref_from mid ((k - 1) / 16)) _ _ (λ i. bit_word (words i) k on) same

-- what MBIT stores where the number is this, and its outputs
abbrev bit_stored : Operand → Ref → ℕ → NodePower → Contents → ℕ → Contents
bit_stored top mid length inputs m k =
    if inputs.top && is_bit_of length k
    then (if inputs.bottom
    then with_pointer (with_matrix_bit m mid length k inputs.middle) top (k + 1)
    else with_matrix_bit m mid length k inputs.middle)
    else m

abbrev bit_outputs : ℕ → NodePower → ℕ → NodePower
bit_outputs length inputs k = record {
  top = inputs.top;
  middle = inputs.top && is_bit_of length k && inputs.middle;
  bottom = inputs.top && not (is_bit_of length k);
}

stored-bit : (set : Refs) (top : Operand) (mid : Ref) (length : ℕ) (inputs : NodePower)
    (m n : Contents) (k : ℕ) → SameIn set m n → Has set mid length
    → SameIn set (bit_stored top mid length inputs m k) (bit_stored top mid length inputs n k)
stored-bit set top mid length inputs m n k same has =
    let bit = bit-both set m n mid length k inputs.middle same has in
    either-both set (inputs.top && is_bit_of length k) _ _ _ _
    (either-both set inputs.bottom _ _ _ _ (pointer-both set _ _ top (k + 1) bit) bit) same

pub mbit-same : (set : Refs) (top : Operand) (mid : Ref) (length : ℕ) (inputs : NodePower)
    (m n : Contents) → SameIn set m n → HasOperand set top 1 → Has set mid length
    → SameEffect set (mbit_effect top mid length inputs m) (mbit_effect top mid length inputs n)
mbit-same set top mid length inputs m n same source target =
    let number = number-read set m n top 1 (omega arith) same source in
    record {
      outputs = ap (bit_outputs length inputs) number;
      stored = subst (λ (k : ℕ). SameIn set
          (bit_stored top mid length inputs m (operand_number m top))
          (bit_stored top mid length inputs n k)) number
          (stored-bit set top mid length inputs m n (operand_number m top) same target);
    }

-- the number that SENS goes by, what it stores where it is this, and its outputs
abbrev sensed : Operand → NodePower → ℕ → ℕ
sensed top inputs k = if inputs.bottom && is_pointer top then 1 else k

abbrev sense_stored : Operand → ℕ → NodePower → Contents → ℕ → Contents
sense_stored top length inputs m k =
    if inputs.top && is_bit_of length k && inputs.middle then with_pointer m top (k + 1)
    else (if inputs.top && inputs.bottom then with_pointer m top 1 else m)

abbrev sense_outputs : ℕ → NodePower → ℕ → List ℕ → NodePower
sense_outputs length inputs k words = record {
  top = inputs.top;
  middle = inputs.top && is_bit_of length k && bit_number (matrix_bits words) k;
  bottom = inputs.top && not (is_bit_of length k);
}

stored-sense : (set : Refs) (top : Operand) (length : ℕ) (inputs : NodePower) (m n : Contents)
    (k : ℕ) → SameIn set m n
    → SameIn set (sense_stored top length inputs m k) (sense_stored top length inputs n k)
stored-sense set top length inputs m n k same =
    either-both set (inputs.top && is_bit_of length k && inputs.middle) _ _ _ _
    (pointer-both set m n top (k + 1) same)
    (either-both set (inputs.top && inputs.bottom) _ _ _ _ (pointer-both set m n top 1 same) same)

pub sens-same : (set : Refs) (top : Operand) (mid : Ref) (length : ℕ) (inputs : NodePower)
    (m n : Contents) → SameIn set m n → HasOperand set top 1 → Has set mid length
    → SameEffect set (sens_effect top mid length inputs m) (sens_effect top mid length inputs n)
sens-same set top mid length inputs m n same source target =
    let number = ap (sensed top inputs) (number-read set m n top 1 (omega arith) same source) in
    let words = words-read set m n mid length same target in
    record {
      outputs = λ i. sense_outputs length inputs (number i) (words i);
      stored = subst (λ (k : ℕ). SameIn set
          (sense_stored top length inputs m (sensed top inputs (operand_number m top)))
          (sense_stored top length inputs n k)) number
          (stored-sense set top length inputs m n (sensed top inputs (operand_number m top)) same);
    }
