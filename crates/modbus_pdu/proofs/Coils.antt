-- Requests that write coils, behind their function code.
use Rattle.std.proofs.Common.{◌≡◌, ℕ, ◌*◌, ◌≤◌, Bool, List, ◌++◌, length, take, drop}
use Rattle.std.proofs.Common.{refl, ap, ◌∙◌, arith}
use Rattle.std.proofs.lemmas.List.{take-append-drop, length-take, length-drop}
use Rattle.modbus_pdu.specs.Bytes.{word_bytes, bytes_for, packed, unpacked, counted_bits}
use Rattle.modbus_pdu.specs.Quantities.{IsUpTo, most_coils_written}
use Rattle.modbus_pdu.specs.declared.request.Request.{Request}
use Rattle.modbus_pdu.specs.declared.request.Request.TheVariants.{WriteCoils}
use Rattle.modbus_pdu.proofs.Bytes.{IsBytes, counted_fits}
use Rattle.modbus_pdu.specs.Steps.{Counts, SpellsFields}
use Rattle.modbus_pdu.proofs.Packing.{length-packed, length-unpacked, packed-unpacked}

-- Bits that fill so many bytes, as these are counted.
counted_packed : (fields : List ℕ) (address : ℕ) (bits spare : List Bool)
    → fields ≡ word_bytes address ++ word_bytes (length bits) ++ counted_bits bits spare
    → Counts fields address (length bits) (packed (bytes_for (length bits)) (bits ++ spare))
counted_packed fields address bits spare e =
    rw (length-packed (bytes_for (length bits)) (bits ++ spare)) e

-- No coils are written where nothing is counted.
pub no_coils : (fields : List ℕ)
    → ((address quantity : ℕ) (rest : List ℕ) → ¬ Counts fields address quantity rest)
    → (request : Request) → ¬ SpellsFields 15 fields request
no_coils fields none (WriteCoils address bits) s =
    none address (length bits) _ (counted_packed fields address bits s.form.0 s.form.2)
no_coils fields none _ s = absurd (omega arith)

-- The coils that bytes write.
pub coils_there : (fields : List ℕ) (a q : ℕ) (x : List ℕ) → IsBytes fields → Counts fields a q x
    → IsUpTo most_coils_written q → length x ≡ bytes_for q
    → SpellsFields 15 fields (WriteCoils a (take q (unpacked x)))
coils_there fields a q x fits e range count =
    let bits = take q (unpacked x) in
    let enough : q ≤ 8 * length x = omega arith in
    let long : length bits ≡ q = omega (arith, length-take q (unpacked x), length-unpacked x) in
    let back : packed (length x) (bits ++ drop q (unpacked x)) ≡ x =
    ap (packed (length x)) (take-append-drop q (unpacked x))
    ∙ packed-unpacked x (counted_fits fields a q x fits e) in
    record {
      code = refl;
      range = (record { from = omega arith; to = omega arith }, tt);
      form = (
        drop q (unpacked x),
        omega (arith, length-drop q (unpacked x), length-unpacked x),
        rw (long, ← count, back) e,
      );
    }
