-- Outcomes where the references are in the map, and registers once words are stored.
use Rattle.std.proofs.Common.{◌≡◌, ◌≢◌, ℕ, ◌<◌, Bool, true, false, cond, List, length, get_or}
use Rattle.std.proofs.Common.{unwrap_or, Result, Ok, Err, refl, ap, ◌∙◌}
use Rattle.plant_types.specs.declared.reference.Ref.{Ref}
use Rattle.plant_types.specs.declared.reference.RefKind.TheVariants as kinds
use Rattle.plant_types.specs.Reference.{ref_from}
use Rattle.plant_types.specs.Store.{Contents, word_at, with_words}
use Rattle.plant_types.proofs.RunLemmas.{get-with_words_at, get-with_words_other}
use Rattle.modbus_exec.specs.Answer.{Execution}

-- The outcome where a test holds, else exception 2. This project's own.
abbrev pub chosen : Bool → Execution → Result Execution ℕ
chosen b outcome = cond b (Ok outcome) (Err 2)

-- There is an outcome where the references are in the map.
pub is_there : (b : Bool) (outcome : Execution) → true ≡ b
    → (found : Execution) × (chosen b outcome ≡ Ok found)
is_there true outcome e = (outcome, refl)
is_there false outcome e = absurd cc

-- A register that was written has the word.
pub word_written : (m : Contents) (to : Ref) (words : List ℕ) (at : Ref) (i : ℕ)
    → i < length words → at ≡ ref_from to i
    → word_at (with_words m to words) at ≡ get_or words i 0
word_written m to words at i lt e = ap (word_at (with_words m to words)) e
    ∙ ap (λ o. unwrap_or o 0) (get-with_words_at m to words i 0 lt)

-- A register that was not keeps its own.
pub word_kept : (m : Contents) (to : Ref) (words : List ℕ) (at : Ref)
    → ((i : ℕ) → i < length words → ref_from to i ≢ at)
    → word_at (with_words m to words) at ≡ word_at m at
word_kept m to words at other = ap (λ o. unwrap_or o 0) (get-with_words_other m to words at other)

-- A holding register by its number. This project's own.
abbrev pub register : ℕ → Ref
register number = record { kind = kinds.Register; number = number }
