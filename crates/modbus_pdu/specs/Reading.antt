-- The request that bytes spell, as a function of the bytes.
use Rattle.std.specs.Prelude.{ℕ, Bool, true, false, ◌&&◌, List, [], ◌∷◌, length, take, drop}
use Rattle.std.specs.Prelude.{Option, find}
use Rattle.std.specs.Str.{bytes_eq}
use Rattle.modbus_pdu.specs.Bytes.{word_in, words_in, unpacked}
use Rattle.modbus_pdu.specs.Quantities.{are_up_to}
use Rattle.modbus_pdu.specs.Spelling.{quantities_of, request_bytes}
use Rattle.modbus_pdu.specs.declared.request.Request.{Request}
use Rattle.modbus_pdu.specs.declared.request.Request.TheVariants as requests

-- Each form of a request, its fields taken from their places.
-- Modicon Modbus Protocol Reference Guide.
abbrev pub forms_of : List ℕ → List Request
forms_of bytes =
    let first = word_in bytes 1 in
    let second = word_in bytes 3 in
    let third = word_in bytes 5 in
    requests.ReadCoils first second
    ∷ requests.ReadInputs first second
    ∷ requests.ReadRegisters first second
    ∷ requests.ReadInputRegisters first second
    ∷ requests.WriteCoil first true
    ∷ requests.WriteCoil first false
    ∷ requests.WriteRegister first second
    ∷ requests.Echo second
    ∷ requests.Stats true
    ∷ requests.Stats false
    ∷ requests.WriteCoils first (take second (unpacked (drop 6 bytes)))
    ∷ requests.WriteRegisters first (words_in (drop 6 bytes))
    ∷ requests.Mask first second third
    ∷ requests.ReadWrite first second third (words_in (drop 10 bytes))
    ∷ []

-- The spare bits in the bytes of a request. Modicon Modbus Protocol Reference Guide.
abbrev pub spare_in : List ℕ → Request → List Bool
spare_in bytes (requests.WriteCoils address bits) = drop (length bits) (unpacked (drop 6 bytes))
spare_in bytes _ = []

-- Whether the bytes are a spelling of the request. This project's own.
abbrev pub is_spelled : List ℕ → Request → Bool
is_spelled bytes request =
    are_up_to (quantities_of request)
    && bytes_eq bytes (request_bytes (spare_in bytes request) request)

-- The request that the bytes spell, or none. This project's own.
abbrev pub spelled_request : List ℕ → Option Request
spelled_request bytes = find (is_spelled bytes) (forms_of bytes)
