-- Which requests stand behind a function code.
use Rattle.std.proofs.Common.{◌≡◌, ◌≢◌, ℕ, ◌≤◌, List, [], ◌∷◌, ◌++◌, length, drop, slice_index}
use Rattle.std.proofs.Common.{cond, Result, Ok, Err, refl, ap, inr, arith, ◌↔◌}
use Rattle.std.specs.Prelude.{IfOk, IfErr, IsErrOf}
use Rattle.plant_types.specs.declared.reference.RefKind.{RefKind}
use Rattle.plant_types.specs.declared.reference.RefKind.TheVariants.{Coil, Input, InputRegister}
use Rattle.plant_types.specs.declared.reference.RefKind.TheVariants.{Register}
use Rattle.modbus_pdu.specs.Bytes.{word_bytes}
use Rattle.modbus_pdu.specs.Decoding.{IsSpelled, IsOnlyRequest, IsUnspelled, IsDecodeEnd}
use Rattle.modbus_pdu.specs.Exceptions.{illegal_function, illegal_value}
use Rattle.modbus_pdu.specs.Quantities.{IsUpTo}
use Rattle.modbus_pdu.specs.Spelling.{Spells}
use Rattle.modbus_pdu.specs.declared.end.DecodeEnd.{DecodeEnd}
use Rattle.modbus_pdu.specs.declared.end.DecodeEnd.TheVariants.{Exception, NoMemory}
use Rattle.modbus_pdu.specs.declared.request.Request.{Request}
use Rattle.modbus_pdu.specs.declared.request.Request.TheVariants.{ReadCoils, ReadInputs}
use Rattle.modbus_pdu.specs.declared.request.Request.TheVariants.{ReadRegisters, ReadInputRegisters}
use Rattle.modbus_pdu.specs.declared.request.Request.TheVariants.{WriteCoils, Echo, Stats}
use Rattle.modbus_pdu.specs.Steps.{SpellsFields, Decodes, reading_function, read_request, most_read}
use Rattle.modbus_pdu.proofs.Reading.{one_spelled}

-- An address and a quantity in range are a request that reads.
pub reading_there : (kind : RefKind) (fields : List ℕ) (a q : ℕ) → IsUpTo (most_read kind) q
    → fields ≡ word_bytes a ++ word_bytes q
    → SpellsFields (reading_function kind) fields (read_request kind a q)
reading_there Coil fields a q range e = record { code = refl; range = (range, tt); form = e }
reading_there Input fields a q range e = record { code = refl; range = (range, tt); form = e }
reading_there Register fields a q range e = record { code = refl; range = (range, tt); form = e }
reading_there InputRegister fields a q range e =
    record { code = refl; range = (range, tt); form = e }

-- Other bytes are none.
pub no_reading : (kind : RefKind) (fields : List ℕ)
    → ((a q : ℕ) → IsUpTo (most_read kind) q → fields ≢ word_bytes a ++ word_bytes q)
    → (request : Request) → ¬ SpellsFields (reading_function kind) fields request
no_reading Coil fields none (ReadCoils a q) s = none a q s.range.0 s.form
no_reading Coil fields none _ s = absurd (omega arith)
no_reading Input fields none (ReadInputs a q) s = none a q s.range.0 s.form
no_reading Input fields none _ s = absurd (omega arith)
no_reading Register fields none (ReadRegisters a q) s = none a q s.range.0 s.form
no_reading Register fields none _ s = absurd (omega arith)
no_reading InputRegister fields none (ReadInputRegisters a q) s = none a q s.range.0 s.form
no_reading InputRegister fields none _ s = absurd (omega arith)

-- A diagnostic request has two numbers.
pub no_diagnosis : (fields : List ℕ)
    → ((first second : ℕ) → fields ≢ word_bytes first ++ word_bytes second)
    → (request : Request) → ¬ SpellsFields 8 fields request
no_diagnosis fields none (Echo word) s = none 0 word s.form
no_diagnosis fields none (Stats clear) s = none 21 (cond clear 4 3) s.form
no_diagnosis fields none _ s = absurd (omega arith)

-- What stands behind a function code is a spelling with it.
pub with_code : (function : ℕ) (fields : List ℕ) (request : Request)
    → SpellsFields function fields request → Spells (function ∷ fields) request
with_code function fields (WriteCoils address bits) s = record {
  range = s.range;
  form = (s.form.0, s.form.1, λ i. s.code i ∷ s.form.2 i);
}
with_code function fields request s = record { range = s.range; form = λ i. s.code i ∷ s.form i }

-- And the other way round.
pub behind_code : (function : ℕ) (fields : List ℕ) (request : Request)
    → Spells (function ∷ fields) request → SpellsFields function fields request
behind_code function fields (WriteCoils address bits) s = record {
  code = ap (λ (bytes : List ℕ). slice_index bytes 0) s.form.2;
  range = s.range;
  form = (s.form.0, s.form.1, ap (drop 1) s.form.2);
}
behind_code function fields request s = record {
  code = ap (λ (bytes : List ℕ). slice_index bytes 0) s.form;
  range = s.range;
  form = ap (drop 1) s.form;
}

-- What decoding says of bytes that begin with a listed function.
pub record Decoded (bytes : List ℕ) (result : Result Request DecodeEnd) : Type 0 where
  pub spelled : IfOk result (Spells bytes)
  pub only : IfOk result (IsOnlyRequest bytes)
  pub unlisted : ¬ IsErrOf result (Exception illegal_function)
  pub unspelled : IsErrOf result (Exception illegal_value) ↔ IsUnspelled bytes
  pub ends : IfErr result IsDecodeEnd
  pub memory : IsErrOf result NoMemory → IsSpelled bytes

-- It says so of what its steps answer.
pub decoded : (bytes : List ℕ) (result : Result Request DecodeEnd) → 1 ≤ length bytes
    → Decodes (slice_index bytes 0) (drop 1 bytes) result → Decoded bytes result
decoded [] result long h = absurd (omega arith)
decoded (function ∷ fields) (Ok request) long h =
    let here = with_code function fields request h in record {
      spelled = here;
      only = λ other s. one_spelled (function ∷ fields) other request s here;
      unlisted = λ e. absurd cc;
      unspelled = (λ e. absurd cc, λ none. absurd (none request here));
      ends = tt;
      memory = λ e. absurd cc;
    }
decoded (function ∷ fields) (Err (Exception code)) long h = record {
  spelled = tt;
  only = tt;
  unlisted = λ e. let same : code ≡ illegal_function = cc in absurd (omega (arith, h.0));
  unspelled = (
    λ e request s. h.1 request (behind_code function fields request s),
    λ none. ap (λ (c : ℕ). Err (Exception c)) h.0,
  );
  ends = inr h.0;
  memory = λ e. absurd cc;
}
decoded (function ∷ fields) (Err NoMemory) long h =
    let here = with_code function fields h.0 h.1 in record {
      spelled = tt;
      only = tt;
      unlisted = λ e. absurd cc;
      unspelled = (λ e. absurd cc, λ none. absurd (none h.0 here));
      ends = tt;
      memory = λ e. (h.0, here);
    }
