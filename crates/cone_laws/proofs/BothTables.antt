-- What a block on tables does by references that a set has, it does alike in stores that agree on
-- the set.
use Rattle.std.proofs.Common.{◌≡◌, ℕ, ◌+◌, ◌-◌, ◌<◌, ◌≤◌, Bool, true, false, List, refl, ap}
use Rattle.std.proofs.Common.{subst, arith}
use Rattle.std.specs.Prelude.{if◌then◌else◌, ◌&&◌, nat_lt, nat_le, is_some, option_map}
use Rattle.std.specs.Prelude.{unwrap_or}
use Rattle.std.specs.FinMap.{insert}
use Rattle.std.specs.FinSet.{contains}
use Rattle.std.proofs.lemmas.Bool.{and_parts, leb-true, ltb-true}
use Rattle.plant_types.specs.declared.reference.Ref.{Ref}
use Rattle.plant_types.specs.declared.power.NodePower.{NodePower}
use Rattle.plant_types.specs.Discretes.{Refs}
use Rattle.plant_types.specs.Reference.{ref_from}
use Rattle.plant_types.specs.Store.{Contents, word_at, words_from}
use Rattle.table_ops.specs.Tables.{moved, table_behind, start_place, moves_on, next_place}
use Rattle.table_ops.specs.Tables.{move_outputs, table_move, reg_to_table_effect}
use Rattle.table_ops.specs.Tables.{table_to_reg_effect, table_to_table_effect, block_move_effect}
use Rattle.table_ops.specs.Tables.{first_in_effect, first_out_effect, search_effect, queue_outputs}
use Rattle.table_ops.specs.Tables.{first_place}
use Rattle.cone_laws.specs.Agree.{SameIn}
use Rattle.cone_laws.proofs.Stores.{Has, has-first, has-part, insert-both, either-both, words-read}
use Rattle.cone_laws.proofs.Both.{SameEffect, insert-same, words-same, when-both}

pub moved-both : (set : Refs) (m n : Contents) (source target : Ref) (count : ℕ)
    → SameIn set m n → Has set source count
    → SameIn set (moved m source target count) (moved n source target count)
moved-both set m n source target count same has =
    words-same set m n target (words_from m source count) (words_from n source count)
    (words-read set m n source count same has) same

-- a move goes on within its table
pub moves-within : (inputs : NodePower) (length place : ℕ) → moves_on inputs length place ≡ true
    → place < length
moves-within inputs length place on =
    ltb-true place length ((and_parts inputs.top (nat_lt place length) on).1)

-- what a move stores that begins at a place
abbrev stored_at : (ℕ → Contents) → Ref → ℕ → NodePower → Contents → ℕ → Contents
stored_at moved_at pointer length inputs m place =
    if moves_on inputs length place
    then insert (moved_at place) pointer (next_place inputs length place)
    else (if inputs.bottom then insert m pointer 0 else m)

stored-both : (set : Refs) (one other : ℕ → Contents) (pointer : Ref) (length : ℕ)
    (inputs : NodePower) (m n : Contents) (place : ℕ) → SameIn set m n
    → (place < length → SameIn set (one place) (other place))
    → SameIn set (stored_at one pointer length inputs m place)
    (stored_at other pointer length inputs n place)
stored-both set one other pointer length inputs m n place same moves =
    when-both set (moves_on inputs length place) _ _ _ _
    (λ on. insert-both set (one place) (other place) pointer (next_place inputs length place)
    (moves (moves-within inputs length place on)))
    (either-both set inputs.bottom _ _ _ _ (insert-both set m n pointer 0 same) same)

move-same : (set : Refs) (one other : ℕ → Contents) (pointer : Ref) (length : ℕ)
    (inputs : NodePower) (m n : Contents) → SameIn set m n → contains set pointer ≡ true
    → ((place : ℕ) → place < length → SameIn set (one place) (other place))
    → SameEffect set (table_move one pointer length inputs m)
    (table_move other pointer length inputs n)
move-same set one other pointer length inputs m n same has moves =
    let place : start_place inputs (word_at m pointer) ≡ start_place inputs (word_at n pointer) =
    ap (start_place inputs) (same pointer has) in
    record {
      outputs = ap (move_outputs inputs length) place;
      stored = subst (λ (p : ℕ). SameIn set
          (stored_at one pointer length inputs m (start_place inputs (word_at m pointer)))
          (stored_at other pointer length inputs n p)) place
          (stored-both set one other pointer length inputs m n
          (start_place inputs (word_at m pointer)) same
          (moves (start_place inputs (word_at m pointer))));
    }

pub reg_to_table-same : (set : Refs) (top mid : Ref) (length : ℕ) (inputs : NodePower)
    (m n : Contents) → SameIn set m n → Has set top 1 → Has set mid (length + 1)
    → SameEffect set (reg_to_table_effect top mid length inputs m)
    (reg_to_table_effect top mid length inputs n)
reg_to_table-same set top mid length inputs m n same source target =
    move-same set _ _ mid length inputs m n same
    (has-first set mid (length + 1) (omega arith) target)
    (λ place below. moved-both set m n top (ref_from (table_behind mid) place) 1 same source)

pub table_to_reg-same : (set : Refs) (top mid : Ref) (length : ℕ) (inputs : NodePower)
    (m n : Contents) → SameIn set m n → Has set top length → Has set mid 2
    → SameEffect set (table_to_reg_effect top mid length inputs m)
    (table_to_reg_effect top mid length inputs n)
table_to_reg-same set top mid length inputs m n same source target =
    move-same set _ _ mid length inputs m n same (has-first set mid 2 (omega arith) target)
    (λ place below. moved-both set m n (ref_from top place) (table_behind mid) 1 same
    (has-part set top length place 1 (omega (arith, below)) source))

pub table_to_table-same : (set : Refs) (top mid : Ref) (length : ℕ) (inputs : NodePower)
    (m n : Contents) → SameIn set m n → Has set top length → Has set mid (length + 1)
    → SameEffect set (table_to_table_effect top mid length inputs m)
    (table_to_table_effect top mid length inputs n)
table_to_table-same set top mid length inputs m n same source target =
    move-same set _ _ mid length inputs m n same
    (has-first set mid (length + 1) (omega arith) target)
    (λ place below. moved-both set m n (ref_from top place) (ref_from (table_behind mid) place) 1
    same (has-part set top length place 1 (omega (arith, below)) source))

pub block_move-same : (set : Refs) (top mid : Ref) (length : ℕ) (inputs : NodePower)
    (m n : Contents) → SameIn set m n → Has set top length
    → SameEffect set (block_move_effect top mid length inputs m)
    (block_move_effect top mid length inputs n)
block_move-same set top mid length inputs m n same source =
    record {
      outputs = refl;
      stored = either-both set inputs.top _ _ _ _
          (moved-both set m n top mid length same source) same;
    }

-- ---- queues

-- FIN takes a word, and how many there are then
abbrev takes_in : NodePower → ℕ → ℕ → Bool
takes_in inputs length count = inputs.top && nat_lt count length

abbrev count_in : NodePower → ℕ → ℕ → ℕ
count_in inputs length count = if takes_in inputs length count then count + 1 else count

-- what FIN stores where the queue has so many words and this is the next
abbrev queued : Ref → ℕ → NodePower → Contents → ℕ → ℕ → Contents
queued mid length inputs m count word =
    if takes_in inputs length count
    then insert (insert (moved m (table_behind mid) (ref_from (table_behind mid) 1) count)
    (table_behind mid) word) mid (count_in inputs length count)
    else m

queued-both : (set : Refs) (mid : Ref) (length : ℕ) (inputs : NodePower) (m n : Contents)
    (count word : ℕ) → SameIn set m n → Has set mid (length + 1)
    → SameIn set (queued mid length inputs m count word) (queued mid length inputs n count word)
queued-both set mid length inputs m n count word same has =
    when-both set (takes_in inputs length count) _ _ _ _
    (λ on. let below : count < length =
    ltb-true count length ((and_parts inputs.top (nat_lt count length) on).1) in
    insert-both set _ _ mid (count_in inputs length count)
    (insert-both set _ _ (table_behind mid) word
    (moved-both set m n (table_behind mid) (ref_from (table_behind mid) 1) count same
    (has-part set mid (length + 1) 1 count (omega (arith, below)) has))))
    same

pub first_in-same : (set : Refs) (top mid : Ref) (length : ℕ) (inputs : NodePower)
    (m n : Contents) → SameIn set m n → Has set top 1 → Has set mid (length + 1)
    → SameEffect set (first_in_effect top mid length inputs m)
    (first_in_effect top mid length inputs n)
first_in-same set top mid length inputs m n same source target =
    let count = same mid (has-first set mid (length + 1) (omega arith) target) in
    let word = same top (has-first set top 1 (omega arith) source) in
    record {
      outputs = ap (λ (k : ℕ). queue_outputs inputs length (count_in inputs length k)) count;
      stored = subst (λ (q : ℕ × ℕ). SameIn set
          (queued mid length inputs m (word_at m mid) (word_at m top))
          (queued mid length inputs n q.0 q.1)) (λ i. (count i, word i))
          (queued-both set mid length inputs m n (word_at m mid) (word_at m top) same target);
    }

-- FOUT gives a word, and how many there are then
abbrev gives_out : NodePower → ℕ → ℕ → Bool
gives_out inputs length count = inputs.top && nat_lt 0 count && nat_le count length

abbrev count_out : NodePower → ℕ → ℕ → ℕ
count_out inputs length count = if gives_out inputs length count then count - 1 else count

-- what FOUT stores where the queue has so many words
abbrev given : Ref → Ref → ℕ → NodePower → Contents → ℕ → Contents
given top mid length inputs m count =
    if gives_out inputs length count
    then insert (moved m (ref_from top count) mid 1) top (count_out inputs length count) else m

-- a queue that gives has no more words than its table
pub gives-within : (inputs : NodePower) (length count : ℕ) → gives_out inputs length count ≡ true
    → count ≤ length
gives-within inputs length count on =
    leb-true count length
    ((and_parts (inputs.top && nat_lt 0 count) (nat_le count length) on).1)

given-both : (set : Refs) (top mid : Ref) (length : ℕ) (inputs : NodePower) (m n : Contents)
    (count : ℕ) → SameIn set m n → Has set top (length + 1)
    → SameIn set (given top mid length inputs m count) (given top mid length inputs n count)
given-both set top mid length inputs m n count same has =
    when-both set (gives_out inputs length count) _ _ _ _
    (λ on. let within = gives-within inputs length count on in
    insert-both set _ _ top (count_out inputs length count)
    (moved-both set m n (ref_from top count) mid 1 same
    (has-part set top (length + 1) count 1 (omega (arith, within)) has)))
    same

pub first_out-same : (set : Refs) (top mid : Ref) (length : ℕ) (inputs : NodePower)
    (m n : Contents) → SameIn set m n → Has set top (length + 1)
    → SameEffect set (first_out_effect top mid length inputs m)
    (first_out_effect top mid length inputs n)
first_out-same set top mid length inputs m n same source =
    let count = same top (has-first set top (length + 1) (omega arith) source) in
    record {
      outputs = ap (λ (k : ℕ). queue_outputs inputs length (count_out inputs length k)) count;
      stored = subst (λ (k : ℕ). SameIn set (given top mid length inputs m (word_at m top))
          (given top mid length inputs n k)) count
          (given-both set top mid length inputs m n (word_at m top) same source);
    }

-- ---- a search

-- the place that SRCH finds, by the pointer, the number and the table
abbrev found_place : NodePower → ℕ → ℕ → List ℕ → ℕ
found_place inputs pointer value words =
    unwrap_or (option_map (λ place. place + 1)
    (first_place (if inputs.middle then pointer else 0) value words)) 0

abbrev search_outputs : NodePower → ℕ → ℕ → List ℕ → NodePower
search_outputs inputs pointer value words = record {
  top = inputs.top;
  middle = inputs.top && is_some (first_place (if inputs.middle then pointer else 0) value words);
  bottom = false;
}

pub search-same : (set : Refs) (top mid : Ref) (length : ℕ) (inputs : NodePower)
    (m n : Contents) → SameIn set m n → Has set top length → Has set mid 2
    → SameEffect set (search_effect top mid length inputs m)
    (search_effect top mid length inputs n)
search-same set top mid length inputs m n same source target =
    let pointer = same mid (has-first set mid 2 (omega arith) target) in
    let value = same (ref_from mid 1) (target 1 (omega arith)) in
    let words = words-read set m n top length same source in
    let place : found_place inputs (word_at m mid) (word_at m (ref_from mid 1)) (words_from m top length)
    ≡ found_place inputs (word_at n mid) (word_at n (ref_from mid 1)) (words_from n top length) =
    λ i. found_place inputs (pointer i) (value i) (words i) in
    record {
      outputs = λ i. search_outputs inputs (pointer i) (value i) (words i);
      stored = either-both set inputs.top _ _ _ _ (insert-same set m n mid _ _ place same) same;
    }
