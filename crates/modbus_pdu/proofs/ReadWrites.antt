-- Requests that write and then read registers, behind their function code.
use Rattle.std.proofs.Common.{◌≡◌, ℕ, suc, ◌^◌, ◌<◌, get_or, ◌*◌, List, ◌∷◌, ◌++◌, length}
use Rattle.std.proofs.Common.{refl, ap, subst, sym, ◌∙◌, arith}
use Rattle.modbus_pdu.specs.Bytes.{word_bytes, words_bytes, words_in, counted_words}
use Rattle.modbus_pdu.specs.Quantities.{IsUpTo, most_registers_read, most_registers_exchanged}
use Rattle.modbus_pdu.specs.declared.request.Request.{Request}
use Rattle.modbus_pdu.specs.declared.request.Request.TheVariants.{ReadWrite}
use Rattle.modbus_pdu.proofs.Bytes.{IsBytes, length-words_bytes, words_again}
use Rattle.modbus_pdu.specs.Steps.{CountsBoth, SpellsFields}
use Rattle.modbus_pdu.proofs.Registers.{counted_is}

-- What is counted in bytes is bytes.
both_fit : (fields : List ℕ) (a q w n : ℕ) (x : List ℕ) → IsBytes fields
    → CountsBoth fields a q w n x → IsBytes x
both_fit fields a q w n x fits e i =
    let nine : ℕ → ℕ = λ k. suc (suc (suc (suc (suc (suc (suc (suc (suc k)))))))) in
    subst (λ (bytes : List ℕ). get_or bytes (nine i) 0 < 2 ^ 8) e (fits (nine i))

-- No registers are written and read where nothing is counted.
pub no_read_write : (fields : List ℕ)
    → ((read quantity write count : ℕ) (rest : List ℕ)
    → ¬ CountsBoth fields read quantity write count rest)
    → (request : Request) → ¬ SpellsFields 23 fields request
no_read_write fields none (ReadWrite a q w words) s =
    none a q w (length words) (words_bytes words)
    (s.form ∙ ap (λ (rest : List ℕ). word_bytes a ++ word_bytes q ++ word_bytes w
    ++ word_bytes (length words) ++ rest) (counted_is words))
no_read_write fields none _ s = absurd (omega arith)

-- Registers that were read from the bytes are the request.
pub read_write_read : (fields : List ℕ) (a q w n : ℕ) (x words : List ℕ)
    → CountsBoth fields a q w n x → IsUpTo most_registers_read q → IsUpTo most_registers_exchanged n
    → length x ≡ 2 * n → words_bytes words ≡ x → SpellsFields 23 fields (ReadWrite a q w words)
read_write_read fields a q w n x words e reads writes count is =
    let long : length words ≡ n = omega (arith, length-words_bytes words, ap length is) in
    let same : counted_words words ≡ length x ∷ x = counted_is words
    ∙ ap (λ (rest : List ℕ). length rest ∷ rest) is in
    record {
      code = refl;
      range = (reads, (record { from = omega arith; to = omega arith }, tt));
      form = e ∙ (λ i. word_bytes a ++ word_bytes q ++ word_bytes w ++ word_bytes (sym long i)
          ++ sym same i);
    }

-- The registers that bytes write and read.
pub read_write_there : (fields : List ℕ) (a q w n : ℕ) (x : List ℕ) → IsBytes fields
    → CountsBoth fields a q w n x → IsUpTo most_registers_read q → IsUpTo most_registers_exchanged n
    → length x ≡ 2 * n → SpellsFields 23 fields (ReadWrite a q w (words_in x))
read_write_there fields a q w n x fits e reads writes count =
    read_write_read fields a q w n x (words_in x) e reads writes count
    (words_again x n (both_fit fields a q w n x fits e) count)
