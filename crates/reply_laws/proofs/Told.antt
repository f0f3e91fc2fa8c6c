-- What the bytes of a reply tell, by the request that was asked.
use Rattle.std.proofs.Common.{◌≡◌, ℕ, ◌+◌, ◌*◌, Bool, true, false, List, [], ◌++◌, length}
use Rattle.std.proofs.Common.{take, drop, Some, None, refl, ap, subst, sym, ◌∙◌, inl, inr, arith}
use Rattle.std.specs.Prelude.{if◌then◌else◌, ◌||◌, ◌&&◌, slice_index}
use Rattle.std.specs.Str.{bytes_eq}
use Rattle.std.proofs.lemmas.Bool.{and_from, eq-eqb, le-leb}
use Rattle.modbus_pdu.specs.Bytes.{bytes_for, word_in}
use Rattle.modbus_pdu.specs.Quantities.{IsUpTo, is_up_to, most_coils_written, most_discretes_read}
use Rattle.modbus_pdu.specs.Quantities.{most_registers_exchanged, most_registers_read}
use Rattle.modbus_pdu.specs.Quantities.{most_registers_written}
use Rattle.modbus_pdu.specs.Spelling.{Spells, request_bytes}
use Rattle.modbus_pdu.specs.declared.request.Request.{Request}
use Rattle.modbus_pdu.specs.declared.request.Request.TheVariants.{ReadCoils, ReadInputs}
use Rattle.modbus_pdu.specs.declared.request.Request.TheVariants.{ReadRegisters, ReadInputRegisters}
use Rattle.modbus_pdu.specs.declared.request.Request.TheVariants.{WriteCoil, WriteRegister, Echo}
use Rattle.modbus_pdu.specs.declared.request.Request.TheVariants.{Stats, WriteCoils, WriteRegisters}
use Rattle.modbus_pdu.specs.declared.request.Request.TheVariants.{Mask, ReadWrite}
use Rattle.modbus_pdu.proofs.Bytes.{IsBytes, length-words_bytes}
use Rattle.modbus_pdu.proofs.Matching.{read_coils_reply, read_inputs_reply, read_registers_reply}
use Rattle.modbus_pdu.proofs.Matching.{read_input_registers_reply, write_coil_reply}
use Rattle.modbus_pdu.proofs.Matching.{write_register_reply, echo_reply, stats_reply}
use Rattle.modbus_pdu.proofs.Matching.{write_coils_reply, write_registers_reply, mask_reply}
use Rattle.modbus_pdu.proofs.Matching.{read_write_reply}
use Rattle.modbus_pdu.proofs.Packing.{length-packed}
use Rattle.ring_core.specs.Statistics.{get_statistics}
use Rattle.reply_laws.specs.Result.{has_byte_count, exchanges_registers, fits_plainly, is_echoed}
use Rattle.reply_laws.specs.Result.{reads_discretes, reads_registers, tells_bits, tells_bytes}
use Rattle.reply_laws.specs.Result.{tells_statistics, told_bytes, writes_coils, writes_registers}
use Rattle.reply_laws.proofs.Sorts.{Comes, bits-come, clear-comes, same-comes, stats-come}
use Rattle.reply_laws.proofs.Sorts.{words-come, written-comes}

-- ---- by what a request is

or-none : (t : Bool) → (t || false) ≡ t
or-none true = refl
or-none false = refl

told-words : (ask bytes : List ℕ) (q : ℕ) → (reads_registers ask || exchanges_registers ask) ≡ true
    → word_in ask 3 ≡ q
    → bytes_eq ask get_statistics ≡ false → fits_plainly ask bytes ≡ false
    → told_bytes ask bytes ≡ (if tells_bytes (2 * q) ask bytes then Some (drop 2 bytes) else None)
told-words ask bytes q reads quantity other plain i =
    if reads i && tells_bytes (2 * quantity i) ask bytes then Some (drop 2 bytes)
    else if other i && tells_statistics bytes then Some (drop 5 bytes)
    else if plain i then Some [] else None

pub told-plain : (ask bytes : List ℕ) (t : Bool)
    → (reads_registers ask || exchanges_registers ask) ≡ false
    → bytes_eq ask get_statistics ≡ false → fits_plainly ask bytes ≡ t
    → told_bytes ask bytes ≡ (if t then Some [] else None)
told-plain ask bytes t reads other plain i =
    if reads i && tells_bytes (2 * word_in ask 3) ask bytes then Some (drop 2 bytes)
    else if other i && tells_statistics bytes then Some (drop 5 bytes)
    else if plain i then Some [] else None

plain-bits : (ask bytes : List ℕ) (q : ℕ) → reads_discretes ask ≡ true → word_in ask 3 ≡ q
    → is_echoed ask ≡ false
    → (writes_coils ask || writes_registers ask) ≡ false
    → fits_plainly ask bytes ≡ tells_bits q ask bytes
plain-bits ask bytes q reads quantity echoed writes =
    let part : fits_plainly ask bytes ≡ ((tells_bits q ask bytes || false) || false) =
    λ i. (reads i && tells_bits (quantity i) ask bytes) || (echoed i && bytes_eq bytes ask)
    || (writes i && bytes_eq bytes (take 5 ask)) in
    part ∙ or-none (tells_bits q ask bytes || false) ∙ or-none (tells_bits q ask bytes)

plain-same : (ask bytes : List ℕ) → reads_discretes ask ≡ false → is_echoed ask ≡ true
    → (writes_coils ask || writes_registers ask) ≡ false
    → fits_plainly ask bytes ≡ bytes_eq bytes ask
plain-same ask bytes reads echoed writes =
    let part : fits_plainly ask bytes ≡ (bytes_eq bytes ask || false) =
    λ i. (reads i && tells_bits (word_in ask 3) ask bytes) || (echoed i && bytes_eq bytes ask)
    || (writes i && bytes_eq bytes (take 5 ask)) in
    part ∙ or-none (bytes_eq bytes ask)

plain-written : (ask bytes : List ℕ) → reads_discretes ask ≡ false → is_echoed ask ≡ false
    → (writes_coils ask || writes_registers ask) ≡ true
    → fits_plainly ask bytes ≡ bytes_eq bytes (take 5 ask)
plain-written ask bytes reads echoed writes i =
    (reads i && tells_bits (word_in ask 3) ask bytes) || (echoed i && bytes_eq bytes ask)
    || (writes i && bytes_eq bytes (take 5 ask))

up-to : (most w q : ℕ) → w ≡ q → IsUpTo most q → is_up_to most w ≡ true
up-to most w q same range =
    and_from _ _ (le-leb 1 w (omega (arith, range.from))) (le-leb w most (omega (arith, range.to)))

-- ---- reads

coils-read : (a q : ℕ) (bytes : List ℕ) → IsUpTo most_discretes_read q → IsBytes bytes
    → Comes (ReadCoils a q) (request_bytes [] (ReadCoils a q)) bytes
coils-read a q bytes range fits =
    let ask = request_bytes [] (ReadCoils a q) in
    let quantity : word_in ask 3 ≡ q = omega arith in
    let up = up-to most_discretes_read (word_in ask 3) q quantity range in
    bits-come (ReadCoils a q) 1 q ask bytes (inl refl) range fits refl
    (told-plain ask bytes (tells_bits q ask bytes) refl refl
    (plain-bits ask bytes q up quantity refl refl)) (read_coils_reply a q bytes)

inputs-read : (a q : ℕ) (bytes : List ℕ) → IsUpTo most_discretes_read q → IsBytes bytes
    → Comes (ReadInputs a q) (request_bytes [] (ReadInputs a q)) bytes
inputs-read a q bytes range fits =
    let ask = request_bytes [] (ReadInputs a q) in
    let quantity : word_in ask 3 ≡ q = omega arith in
    let up = up-to most_discretes_read (word_in ask 3) q quantity range in
    bits-come (ReadInputs a q) 2 q ask bytes (inr refl) range fits refl
    (told-plain ask bytes (tells_bits q ask bytes) refl refl
    (plain-bits ask bytes q up quantity refl refl)) (read_inputs_reply a q bytes)

registers-read : (a q : ℕ) (bytes : List ℕ) → IsUpTo most_registers_read q → IsBytes bytes
    → Comes (ReadRegisters a q) (request_bytes [] (ReadRegisters a q)) bytes
registers-read a q bytes range fits =
    let ask = request_bytes [] (ReadRegisters a q) in
    let quantity : word_in ask 3 ≡ q = omega arith in
    let up = up-to most_registers_read (word_in ask 3) q quantity range in
    words-come (ReadRegisters a q) 3 q ask bytes (inl refl) range fits refl
    (told-words ask bytes q (ap (λ (b : Bool). b || false) up) quantity refl refl)
    (read_registers_reply a q bytes)

input-registers-read : (a q : ℕ) (bytes : List ℕ) → IsUpTo most_registers_read q → IsBytes bytes
    → Comes (ReadInputRegisters a q) (request_bytes [] (ReadInputRegisters a q)) bytes
input-registers-read a q bytes range fits =
    let ask = request_bytes [] (ReadInputRegisters a q) in
    let quantity : word_in ask 3 ≡ q = omega arith in
    let up = up-to most_registers_read (word_in ask 3) q quantity range in
    words-come (ReadInputRegisters a q) 4 q ask bytes (inr (inl refl)) range fits refl
    (told-words ask bytes q (ap (λ (b : Bool). b || false) up) quantity refl refl)
    (read_input_registers_reply a q bytes)

exchanged : (read q write : ℕ) (words bytes : List ℕ) → IsUpTo most_registers_read q
    → IsUpTo most_registers_exchanged (length words) → IsBytes bytes
    → Comes (ReadWrite read q write words) (request_bytes [] (ReadWrite read q write words)) bytes
exchanged read q write words bytes range most fits =
    let ask = request_bytes [] (ReadWrite read q write words) in
    let long = length-words_bytes words in
    let quantity : word_in ask 3 ≡ q = omega arith in
    let count : word_in ask 7 ≡ length words = omega arith in
    let size : length ask ≡ 10 + 2 * length words = omega (arith, long) in
    let enough = le-leb 10 (length ask) (omega (arith, size)) in
    let up = up-to most_registers_read (word_in ask 3) q quantity range in
    let up-written = up-to most_registers_exchanged (word_in ask 7) (length words) count most in
    let told = eq-eqb (slice_index ask 9) (2 * word_in ask 7) (omega (arith, count)) in
    let whole = eq-eqb (length ask) (10 + 2 * word_in ask 7) (omega (arith, size, count)) in
    let exchanges : exchanges_registers ask ≡ true =
    and_from _ _ (and_from _ _ (and_from _ _ (and_from _ _ enough up) up-written) told) whole in
    words-come (ReadWrite read q write words) 23 q ask bytes (inr (inr refl)) range fits refl
    (told-words ask bytes q exchanges quantity refl refl)
    (read_write_reply read q write words bytes)

-- ---- writes and echoes

coil-written : (a : ℕ) (on : Bool) (bytes : List ℕ)
    → Comes (WriteCoil a on) (request_bytes [] (WriteCoil a on)) bytes
coil-written a true bytes =
    let ask = request_bytes [] (WriteCoil a true) in
    same-comes (WriteCoil a true) ask bytes tt refl
    (told-plain ask bytes (bytes_eq bytes ask) refl refl (plain-same ask bytes refl refl refl))
    (write_coil_reply a true bytes)
coil-written a false bytes =
    let ask = request_bytes [] (WriteCoil a false) in
    same-comes (WriteCoil a false) ask bytes tt refl
    (told-plain ask bytes (bytes_eq bytes ask) refl refl (plain-same ask bytes refl refl refl))
    (write_coil_reply a false bytes)

register-written : (a value : ℕ) (bytes : List ℕ)
    → Comes (WriteRegister a value) (request_bytes [] (WriteRegister a value)) bytes
register-written a value bytes =
    let ask = request_bytes [] (WriteRegister a value) in
    same-comes (WriteRegister a value) ask bytes tt refl
    (told-plain ask bytes (bytes_eq bytes ask) refl refl (plain-same ask bytes refl refl refl))
    (write_register_reply a value bytes)

word-echoed : (word : ℕ) (bytes : List ℕ) → Comes (Echo word) (request_bytes [] (Echo word)) bytes
word-echoed word bytes =
    let ask = request_bytes [] (Echo word) in
    same-comes (Echo word) ask bytes tt refl
    (told-plain ask bytes (bytes_eq bytes ask) refl refl (plain-same ask bytes refl refl refl))
    (echo_reply word bytes)

masked : (a and_mask or_mask : ℕ) (bytes : List ℕ)
    → Comes (Mask a and_mask or_mask) (request_bytes [] (Mask a and_mask or_mask)) bytes
masked a and_mask or_mask bytes =
    let ask = request_bytes [] (Mask a and_mask or_mask) in
    same-comes (Mask a and_mask or_mask) ask bytes tt refl
    (told-plain ask bytes (bytes_eq bytes ask) refl refl (plain-same ask bytes refl refl refl))
    (mask_reply a and_mask or_mask bytes)

coils-written : (a : ℕ) (bits spare : List Bool) (bytes : List ℕ)
    → IsUpTo most_coils_written (length bits)
    → Comes (WriteCoils a bits) (request_bytes spare (WriteCoils a bits)) bytes
coils-written a bits spare bytes range =
    let ask = request_bytes spare (WriteCoils a bits) in
    let n = bytes_for (length bits) in
    let long = length-packed n (bits ++ spare) in
    let quantity : word_in ask 3 ≡ length bits = omega arith in
    let same = ap bytes_for quantity in
    let size : length ask ≡ 6 + n = omega (arith, long) in
    let enough = le-leb 6 (length ask) (omega (arith, size)) in
    let up = up-to most_coils_written (word_in ask 3) (length bits) quantity range in
    let told = eq-eqb (slice_index ask 5) (bytes_for (word_in ask 3)) (sym same) in
    let whole = eq-eqb (length ask) (6 + bytes_for (word_in ask 3))
    (size ∙ ap (λ (m : ℕ). 6 + m) (sym same)) in
    let counted : has_byte_count (bytes_for (word_in ask 3)) ask ≡ true = and_from _ _ told whole in
    let writes : writes_coils ask ≡ true = and_from _ _ (and_from _ _ enough up) counted in
    written-comes (WriteCoils a bits) 15 a (length bits) ask bytes (inl (refl, range)) refl
    (told-plain ask bytes (bytes_eq bytes (take 5 ask)) refl refl
    (plain-written ask bytes refl refl (ap (λ (b : Bool). b || false) writes)))
    (write_coils_reply a bits bytes)

registers-written : (a : ℕ) (words bytes : List ℕ) → IsUpTo most_registers_written (length words)
    → Comes (WriteRegisters a words) (request_bytes [] (WriteRegisters a words)) bytes
registers-written a words bytes range =
    let ask = request_bytes [] (WriteRegisters a words) in
    let long = length-words_bytes words in
    let quantity : word_in ask 3 ≡ length words = omega arith in
    let size : length ask ≡ 6 + 2 * length words = omega (arith, long) in
    let enough = le-leb 6 (length ask) (omega (arith, size)) in
    let up = up-to most_registers_written (word_in ask 3) (length words) quantity range in
    let told = eq-eqb (slice_index ask 5) (2 * word_in ask 3) (omega (arith, quantity)) in
    let whole = eq-eqb (length ask) (6 + 2 * word_in ask 3) (omega (arith, size, quantity)) in
    let counted : has_byte_count (2 * word_in ask 3) ask ≡ true = and_from _ _ told whole in
    let writes : writes_registers ask ≡ true = and_from _ _ (and_from _ _ enough up) counted in
    written-comes (WriteRegisters a words) 16 a (length words) ask bytes (inr (refl, range)) refl
    (told-plain ask bytes (bytes_eq bytes (take 5 ask)) refl refl
    (plain-written ask bytes refl refl writes))
    (write_registers_reply a words bytes)

-- ---- statistics

statistics : (clear : Bool) (bytes : List ℕ) → IsBytes bytes
    → Comes (Stats clear) (request_bytes [] (Stats clear)) bytes
statistics false bytes fits =
    stats-come (Stats false) (request_bytes [] (Stats false)) bytes fits refl
    (stats_reply false bytes)
statistics true bytes fits =
    let ask = request_bytes [] (Stats true) in
    clear-comes (Stats true) ask bytes
    (told-plain ask bytes (bytes_eq bytes ask) refl refl (plain-same ask bytes refl refl refl))
    (stats_reply true bytes)

-- What the bytes come to as a reply to the request that was asked.
pub came : (request : Request) (ask bytes : List ℕ) → Spells ask request → IsBytes bytes
    → Comes request ask bytes
came (ReadCoils a q) ask bytes s fits =
    subst (λ (l : List ℕ). Comes (ReadCoils a q) l bytes) (sym s.form)
    (coils-read a q bytes s.range.0 fits)
came (ReadInputs a q) ask bytes s fits =
    subst (λ (l : List ℕ). Comes (ReadInputs a q) l bytes) (sym s.form)
    (inputs-read a q bytes s.range.0 fits)
came (ReadRegisters a q) ask bytes s fits =
    subst (λ (l : List ℕ). Comes (ReadRegisters a q) l bytes) (sym s.form)
    (registers-read a q bytes s.range.0 fits)
came (ReadInputRegisters a q) ask bytes s fits =
    subst (λ (l : List ℕ). Comes (ReadInputRegisters a q) l bytes) (sym s.form)
    (input-registers-read a q bytes s.range.0 fits)
came (WriteCoil a on) ask bytes s fits =
    subst (λ (l : List ℕ). Comes (WriteCoil a on) l bytes) (sym s.form) (coil-written a on bytes)
came (WriteRegister a value) ask bytes s fits =
    subst (λ (l : List ℕ). Comes (WriteRegister a value) l bytes) (sym s.form)
    (register-written a value bytes)
came (Echo word) ask bytes s fits =
    subst (λ (l : List ℕ). Comes (Echo word) l bytes) (sym s.form) (word-echoed word bytes)
came (Stats clear) ask bytes s fits =
    subst (λ (l : List ℕ). Comes (Stats clear) l bytes) (sym s.form) (statistics clear bytes fits)
came (WriteCoils a bits) ask bytes s fits =
    subst (λ (l : List ℕ). Comes (WriteCoils a bits) l bytes) (sym s.form.2)
    (coils-written a bits s.form.0 bytes s.range.0)
came (WriteRegisters a words) ask bytes s fits =
    subst (λ (l : List ℕ). Comes (WriteRegisters a words) l bytes) (sym s.form)
    (registers-written a words bytes s.range.0)
came (Mask a and_mask or_mask) ask bytes s fits =
    subst (λ (l : List ℕ). Comes (Mask a and_mask or_mask) l bytes) (sym s.form)
    (masked a and_mask or_mask bytes)
came (ReadWrite read q write words) ask bytes s fits =
    subst (λ (l : List ℕ). Comes (ReadWrite read q write words) l bytes) (sym s.form)
    (exchanged read q write words bytes s.range.0 s.range.1.0 fits)
