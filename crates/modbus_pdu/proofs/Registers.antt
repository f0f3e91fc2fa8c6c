-- Requests that write registers, behind their function code.
use Rattle.std.proofs.Common.{◌≡◌, ℕ, ◌*◌, List, ◌∷◌, ◌++◌, length, refl, ap, sym, ◌∙◌, arith}
use Rattle.modbus_pdu.specs.Bytes.{word_bytes, words_bytes, words_in, counted_words}
use Rattle.modbus_pdu.specs.Quantities.{IsUpTo, most_registers_written}
use Rattle.modbus_pdu.specs.declared.request.Request.{Request}
use Rattle.modbus_pdu.specs.declared.request.Request.TheVariants.{WriteRegisters}
use Rattle.modbus_pdu.proofs.Bytes.{IsBytes, counted_fits, length-words_bytes, words_again}
use Rattle.modbus_pdu.specs.Steps.{Counts, SpellsFields}

-- Words as they are counted.
pub counted_is : (words : List ℕ)
    → counted_words words ≡ length (words_bytes words) ∷ words_bytes words
counted_is words = rw (length-words_bytes words) refl

-- No registers are written where nothing is counted.
pub no_registers : (fields : List ℕ)
    → ((address quantity : ℕ) (rest : List ℕ) → ¬ Counts fields address quantity rest)
    → (request : Request) → ¬ SpellsFields 16 fields request
no_registers fields none (WriteRegisters address words) s =
    none address (length words) (words_bytes words)
    (s.form ∙ ap (λ (rest : List ℕ). word_bytes address ++ word_bytes (length words) ++ rest)
    (counted_is words))
no_registers fields none _ s = absurd (omega arith)

-- Registers that were read from the bytes are the request.
pub registers_read : (fields : List ℕ) (a q : ℕ) (x words : List ℕ) → Counts fields a q x
    → IsUpTo most_registers_written q → length x ≡ 2 * q → words_bytes words ≡ x
    → SpellsFields 16 fields (WriteRegisters a words)
registers_read fields a q x words e range count is =
    let long : length words ≡ q = omega (arith, length-words_bytes words, ap length is) in
    let same : counted_words words ≡ length x ∷ x = counted_is words
    ∙ ap (λ (rest : List ℕ). length rest ∷ rest) is in
    record {
      code = refl;
      range = (record { from = omega arith; to = omega arith }, tt);
      form = e ∙ (λ i. word_bytes a ++ word_bytes (sym long i) ++ sym same i);
    }

-- The registers that bytes write.
pub registers_there : (fields : List ℕ) (a q : ℕ) (x : List ℕ) → IsBytes fields
    → Counts fields a q x → IsUpTo most_registers_written q → length x ≡ 2 * q
    → SpellsFields 16 fields (WriteRegisters a (words_in x))
registers_there fields a q x fits e range count =
    registers_read fields a q x (words_in x) e range count
    (words_again x q (counted_fits fields a q x fits e) count)
