-- A reply to bytes that spell no request tells nothing, but for an exception's code.
use Rattle.std.proofs.Common.{◌≡◌, ◌≢◌, ℕ, suc, ◌+◌, ◌*◌, ◌/◌, ◌%◌, ◌≤◌, Bool, true, false, List}
use Rattle.std.proofs.Common.{[]}
use Rattle.std.proofs.Common.{◌∷◌, ◌++◌, length, take, drop, None, Option, refl, ap, subst, sym}
use Rattle.std.proofs.Common.{◌∙◌, inl, inr, ⊎_elim, arith}
use Rattle.std.specs.Prelude.{◌||◌, ◌&&◌, ◌==◌, nat_le, slice_index}
use Rattle.std.specs.Str.{bytes_eq}
use Rattle.std.proofs.lemmas.Bool.{and_parts, eqb-true, false_from_ne_true, leb-true, or_cases}
use Rattle.std.proofs.lemmas.Bool.{or_from}
use Rattle.std.proofs.lemmas.List.{length-drop}
use Rattle.std.proofs.lemmas.Slice.Eq.{bytes_eq-Decides}
use Rattle.modbus_pdu.specs.Bytes.{bytes_for, word_bytes, word_in, words_in, unpacked}
use Rattle.modbus_pdu.specs.Decoding.{IsUnspelled}
use Rattle.modbus_pdu.specs.Quantities.{IsUpTo, is_up_to, most_coils_written, most_discretes_read}
use Rattle.modbus_pdu.specs.Quantities.{most_registers_exchanged, most_registers_read}
use Rattle.modbus_pdu.specs.Quantities.{most_registers_written}
use Rattle.modbus_pdu.specs.Spelling.{Spells, exception_code}
use Rattle.modbus_pdu.specs.declared.request.Request.TheVariants.{ReadCoils, ReadInputs}
use Rattle.modbus_pdu.specs.declared.request.Request.TheVariants.{ReadRegisters, ReadInputRegisters}
use Rattle.modbus_pdu.specs.declared.request.Request.TheVariants.{WriteCoil, WriteRegister, Echo}
use Rattle.modbus_pdu.specs.declared.request.Request.TheVariants.{Stats, WriteCoils, WriteRegisters}
use Rattle.modbus_pdu.specs.declared.request.Request.TheVariants.{Mask, ReadWrite}
use Rattle.modbus_pdu.proofs.Bytes.{IsBytes}
use Rattle.modbus_pdu.proofs.Coils.{coils_there}
use Rattle.modbus_pdu.proofs.ReadWrites.{read_write_there}
use Rattle.modbus_pdu.proofs.Registers.{registers_there}
use Rattle.modbus_pdu.proofs.Requests.{with_code}
use Rattle.ring_core.specs.Statistics.{clear_statistics, get_statistics}
use Rattle.reply_laws.specs.Result.{has_byte_count, echoes, exchanges_registers, fits_plainly}
use Rattle.reply_laws.specs.Result.{function_in, is_echoed, or_good, reads, reads_discretes}
use Rattle.reply_laws.specs.Result.{reads_registers, result_of, tells_bits, told_bytes, writes_coil}
use Rattle.reply_laws.specs.Result.{writes_coils, writes_registers, exception_result, no_result}
use Rattle.reply_laws.specs.Results.{UnaskedGiveCodes}
use Rattle.reply_laws.proofs.Tests.{bytes-are, code-told, exceptions}
use Rattle.reply_laws.proofs.Told.{told-plain}

-- ---- bytes by their places

again : (high low : ℕ) → low ≤ 255 → word_bytes (256 * high + low) ≡ high ∷ low ∷ []
again high low fits =
    let first : (256 * high + low) / 256 ≡ high = omega arith in
    let second : (256 * high + low) % 256 ≡ low = omega arith in
    λ i. first i ∷ second i ∷ []

five : (ask : List ℕ) → IsBytes ask → length ask ≡ 5
    → ask ≡ function_in ask ∷ word_bytes (word_in ask 1) ++ word_bytes (word_in ask 3)
five (f ∷ a ∷ b ∷ c ∷ d ∷ []) fits long =
    let low = fits 2 in
    let second = fits 4 in
    λ i. f ∷ sym (again a b (omega arith)) i ++ sym (again c d (omega arith)) i
five _ fits long = absurd (omega arith)

seven : (ask : List ℕ) → IsBytes ask → length ask ≡ 7
    → ask ≡ function_in ask ∷ word_bytes (word_in ask 1) ++ word_bytes (word_in ask 3)
    ++ word_bytes (word_in ask 5)
seven (f ∷ a ∷ b ∷ c ∷ d ∷ m ∷ n ∷ []) fits long =
    let low = fits 2 in
    let second = fits 4 in
    let third = fits 6 in
    λ i. f ∷ sym (again a b (omega arith)) i ++ sym (again c d (omega arith)) i
    ++ sym (again m n (omega arith)) i
seven _ fits long = absurd (omega arith)

six : (ask : List ℕ) → IsBytes ask → 6 ≤ length ask
    → ask ≡ function_in ask ∷ word_bytes (word_in ask 1) ++ word_bytes (word_in ask 3)
    ++ slice_index ask 5 ∷ drop 6 ask
six (f ∷ a ∷ b ∷ c ∷ d ∷ n ∷ rest) fits long =
    let low = fits 2 in
    let second = fits 4 in
    λ i. f ∷ sym (again a b (omega arith)) i ++ sym (again c d (omega arith)) i ++ n ∷ rest
six _ fits long = absurd (omega arith)

ten : (ask : List ℕ) → IsBytes ask → 10 ≤ length ask
    → ask ≡ function_in ask ∷ word_bytes (word_in ask 1) ++ word_bytes (word_in ask 3)
    ++ word_bytes (word_in ask 5) ++ word_bytes (word_in ask 7)
    ++ slice_index ask 9 ∷ drop 10 ask
ten (f ∷ a ∷ b ∷ c ∷ d ∷ m ∷ n ∷ o ∷ p ∷ count ∷ rest) fits long =
    let low = fits 2 in
    let second = fits 4 in
    let third = fits 6 in
    let fourth = fits 8 in
    λ i. f ∷ sym (again a b (omega arith)) i ++ sym (again c d (omega arith)) i
    ++ sym (again m n (omega arith)) i ++ sym (again o p (omega arith)) i
    ++ count ∷ rest
ten _ fits long = absurd (omega arith)

in-range : (most count : ℕ) → is_up_to most count ≡ true → IsUpTo most count
in-range most count t =
    let both = and_parts (nat_le 1 count) (nat_le count most) t in
    record { from = leb-true 1 count both.0; to = leb-true count most both.1 }

-- ---- bytes that spell no request pass no test of one

-- An address and a quantity, where a test of the function says which request that would be.
read-parts : (most : ℕ) (ask : List ℕ) (function : Bool) → (function && reads most ask) ≡ true
    → (function ≡ true) × (length ask ≡ 5) × IsUpTo most (word_in ask 3)
read-parts most ask function t =
    let one = and_parts function (reads most ask) t in
    let two = and_parts (length ask == 5) (is_up_to most (word_in ask 3)) one.1 in
    (one.0, eqb-true (length ask) 5 two.0, in-range most (word_in ask 3) two.1)

-- The bytes of a request with an address and one more word.
two-words : (ask : List ℕ) (f : ℕ) → IsBytes ask → length ask ≡ 5 → function_in ask ≡ f
    → ask ≡ f ∷ word_bytes (word_in ask 1) ++ word_bytes (word_in ask 3)
two-words ask f fits long is = five ask fits long
    ∙ ap (λ (g : ℕ). g ∷ word_bytes (word_in ask 1) ++ word_bytes (word_in ask 3)) is

no-discretes : (ask : List ℕ) → IsBytes ask → IsUnspelled ask → reads_discretes ask ≡ false
no-discretes ask fits none = false_from_ne_true (reads_discretes ask) (λ t.
    let p = read-parts most_discretes_read ask (function_in ask == 1 || function_in ask == 2) t in
    ⊎_elim
    (λ (is : (function_in ask == 1) ≡ true).
    none (ReadCoils (word_in ask 1) (word_in ask 3))
    (record {
      range = (p.2, tt);
      form = two-words ask 1 fits p.1 (eqb-true (function_in ask) 1 is);
    }))
    (λ (is : (function_in ask == 2) ≡ true).
    none (ReadInputs (word_in ask 1) (word_in ask 3))
    (record {
      range = (p.2, tt);
      form = two-words ask 2 fits p.1 (eqb-true (function_in ask) 2 is);
    }))
    (or_cases (function_in ask == 1) (function_in ask == 2) p.0))

no-registers : (ask : List ℕ) → IsBytes ask → IsUnspelled ask → reads_registers ask ≡ false
no-registers ask fits none = false_from_ne_true (reads_registers ask) (λ t.
    let p = read-parts most_registers_read ask (function_in ask == 3 || function_in ask == 4) t in
    ⊎_elim
    (λ (is : (function_in ask == 3) ≡ true).
    none (ReadRegisters (word_in ask 1) (word_in ask 3))
    (record {
      range = (p.2, tt);
      form = two-words ask 3 fits p.1 (eqb-true (function_in ask) 3 is);
    }))
    (λ (is : (function_in ask == 4) ≡ true).
    none (ReadInputRegisters (word_in ask 1) (word_in ask 3))
    (record {
      range = (p.2, tt);
      form = two-words ask 4 fits p.1 (eqb-true (function_in ask) 4 is);
    }))
    (or_cases (function_in ask == 3) (function_in ask == 4) p.0))

no-coil : (ask : List ℕ) → IsBytes ask → IsUnspelled ask → writes_coil ask ≡ false
no-coil ask fits none = false_from_ne_true (writes_coil ask) (λ t.
    let p = and_parts (function_in ask == 5 && length ask == 5)
    (word_in ask 3 == 0xff00 || word_in ask 3 == 0) t in
    let q = and_parts (function_in ask == 5) (length ask == 5) p.0 in
    let form = two-words ask 5 fits (eqb-true (length ask) 5 q.1)
    (eqb-true (function_in ask) 5 q.0) in
    let put = λ (value : ℕ). 5 ∷ word_bytes (word_in ask 1) ++ word_bytes value in
    ⊎_elim
    (λ (is : (word_in ask 3 == 0xff00) ≡ true).
    none (WriteCoil (word_in ask 1) true)
    (record { range = tt; form = form ∙ ap put (eqb-true (word_in ask 3) 0xff00 is) }))
    (λ (is : (word_in ask 3 == 0) ≡ true).
    none (WriteCoil (word_in ask 1) false)
    (record { range = tt; form = form ∙ ap put (eqb-true (word_in ask 3) 0 is) }))
    (or_cases (word_in ask 3 == 0xff00) (word_in ask 3 == 0) p.1))

no-register : (ask : List ℕ) → IsBytes ask → IsUnspelled ask
    → (function_in ask == 6 && length ask == 5) ≡ false
no-register ask fits none = false_from_ne_true (function_in ask == 6 && length ask == 5) (λ t.
    let q = and_parts (function_in ask == 6) (length ask == 5) t in
    none (WriteRegister (word_in ask 1) (word_in ask 3))
    (record {
      range = tt;
      form = two-words ask 6 fits (eqb-true (length ask) 5 q.1) (eqb-true (function_in ask) 6 q.0);
    }))

no-echo : (ask : List ℕ) → IsBytes ask → IsUnspelled ask → echoes ask ≡ false
no-echo ask fits none = false_from_ne_true (echoes ask) (λ t.
    let p = and_parts (function_in ask == 8 && length ask == 5) (word_in ask 1 == 0) t in
    let q = and_parts (function_in ask == 8) (length ask == 5) p.0 in
    let form = two-words ask 8 fits (eqb-true (length ask) 5 q.1)
    (eqb-true (function_in ask) 8 q.0) in
    none (Echo (word_in ask 3))
    (record {
      range = tt;
      form = form ∙ ap (λ (w : ℕ). 8 ∷ word_bytes w ++ word_bytes (word_in ask 3))
          (eqb-true (word_in ask 1) 0 p.1);
    }))

no-mask : (ask : List ℕ) → IsBytes ask → IsUnspelled ask
    → (function_in ask == 22 && length ask == 7) ≡ false
no-mask ask fits none = false_from_ne_true (function_in ask == 22 && length ask == 7) (λ t.
    let q = and_parts (function_in ask == 22) (length ask == 7) t in
    let first = eqb-true (function_in ask) 22 q.0 in
    none (Mask (word_in ask 1) (word_in ask 3) (word_in ask 5))
    (record {
      range = tt;
      form = seven ask fits (eqb-true (length ask) 7 q.1)
          ∙ ap (λ (g : ℕ). g ∷ word_bytes (word_in ask 1) ++ word_bytes (word_in ask 3)
          ++ word_bytes (word_in ask 5)) first;
    }))

no-clear : (ask : List ℕ) → IsUnspelled ask → bytes_eq ask clear_statistics ≡ false
no-clear ask none = false_from_ne_true (bytes_eq ask clear_statistics) (λ t.
    none (Stats true) (record { range = tt; form = (bytes_eq-Decides ask clear_statistics).0 t }))

no-statistics : (ask : List ℕ) → IsUnspelled ask → bytes_eq ask get_statistics ≡ false
no-statistics ask none = false_from_ne_true (bytes_eq ask get_statistics) (λ t.
    none (Stats false) (record { range = tt; form = (bytes_eq-Decides ask get_statistics).0 t }))

no-echoed : (ask : List ℕ) → IsBytes ask → IsUnspelled ask → is_echoed ask ≡ false
no-echoed ask fits none =
    or_from _ _
    (or_from _ _ (or_from _ _ (or_from _ _ (no-coil ask fits none) (no-register ask fits none))
    (no-echo ask fits none)) (no-mask ask fits none))
    (no-clear ask none)

-- Bytes whose test says how many bytes there are behind their count.
behind-count : (ask : List ℕ) (f size : ℕ) → IsBytes ask → (function_in ask == f) ≡ true
    → nat_le 6 (length ask) ≡ true → has_byte_count size ask ≡ true
    → (ask ≡ f ∷ word_bytes (word_in ask 1) ++ word_bytes (word_in ask 3)
    ++ length (drop 6 ask) ∷ drop 6 ask) × (length (drop 6 ask) ≡ size)
behind-count ask f size fits first enough counted =
    let both = and_parts (slice_index ask 5 == size) (length ask == 6 + size) counted in
    let whole : length ask ≡ 6 + size = eqb-true (length ask) (6 + size) both.1 in
    let left : length (drop 6 ask) ≡ size = omega (arith, length-drop 6 ask, whole) in
    let count : slice_index ask 5 ≡ length (drop 6 ask) =
    eqb-true (slice_index ask 5) size both.0 ∙ sym left in
    let head = eqb-true (function_in ask) f first in (
      six ask fits (leb-true 6 (length ask) enough)
          ∙ (λ i. head i ∷ word_bytes (word_in ask 1) ++ word_bytes (word_in ask 3)
          ++ count i ∷ drop 6 ask),
      left,
    )

no-coils : (ask : List ℕ) → IsBytes ask → IsUnspelled ask → writes_coils ask ≡ false
no-coils ask fits none = false_from_ne_true (writes_coils ask) (λ t.
    let w = word_in ask 3 in
    let x = drop 6 ask in
    let p = and_parts ((function_in ask == 15 && nat_le 6 (length ask))
    && is_up_to most_coils_written w) (has_byte_count (bytes_for w) ask) t in
    let q = and_parts (function_in ask == 15 && nat_le 6 (length ask))
    (is_up_to most_coils_written w) p.0 in
    let r = and_parts (function_in ask == 15) (nat_le 6 (length ask)) q.0 in
    let b = behind-count ask 15 (bytes_for w) fits r.0 r.1 p.1 in
    let fields = word_bytes (word_in ask 1) ++ word_bytes w ++ length x ∷ x in
    let all : IsBytes (15 ∷ fields) = subst IsBytes b.0 fits in
    let request = WriteCoils (word_in ask 1) (take w (unpacked x)) in
    none request
    (subst (λ (l : List ℕ). Spells l request) (sym b.0)
    (with_code 15 fields request (coils_there fields (word_in ask 1) w x (λ i. all (suc i)) refl
    (in-range most_coils_written w q.1) b.1))))

no-words : (ask : List ℕ) → IsBytes ask → IsUnspelled ask → writes_registers ask ≡ false
no-words ask fits none = false_from_ne_true (writes_registers ask) (λ t.
    let w = word_in ask 3 in
    let x = drop 6 ask in
    let p = and_parts ((function_in ask == 16 && nat_le 6 (length ask))
    && is_up_to most_registers_written w) (has_byte_count (2 * w) ask) t in
    let q = and_parts (function_in ask == 16 && nat_le 6 (length ask))
    (is_up_to most_registers_written w) p.0 in
    let r = and_parts (function_in ask == 16) (nat_le 6 (length ask)) q.0 in
    let b = behind-count ask 16 (2 * w) fits r.0 r.1 p.1 in
    let fields = word_bytes (word_in ask 1) ++ word_bytes w ++ length x ∷ x in
    let all : IsBytes (16 ∷ fields) = subst IsBytes b.0 fits in
    let request = WriteRegisters (word_in ask 1) (words_in x) in
    none request
    (subst (λ (l : List ℕ). Spells l request) (sym b.0)
    (with_code 16 fields request (registers_there fields (word_in ask 1) w x (λ i. all (suc i)) refl
    (in-range most_registers_written w q.1) b.1))))

no-exchange : (ask : List ℕ) → IsBytes ask → IsUnspelled ask → exchanges_registers ask ≡ false
no-exchange ask fits none = false_from_ne_true (exchanges_registers ask) (λ t.
    let a = word_in ask 1 in
    let w = word_in ask 3 in
    let to = word_in ask 5 in
    let n = word_in ask 7 in
    let x = drop 10 ask in
    let first = function_in ask == 23 in
    let long = nat_le 10 (length ask) in
    let read = is_up_to most_registers_read w in
    let written = is_up_to most_registers_exchanged n in
    let p = and_parts ((((first && long) && read) && written) && slice_index ask 9 == 2 * n)
    (length ask == 10 + 2 * n) t in
    let q = and_parts (((first && long) && read) && written) (slice_index ask 9 == 2 * n) p.0 in
    let r = and_parts ((first && long) && read) written q.0 in
    let s = and_parts (first && long) read r.0 in
    let u = and_parts first long s.0 in
    let whole : length ask ≡ 10 + 2 * n = eqb-true (length ask) (10 + 2 * n) p.1 in
    let left : length x ≡ 2 * n = omega (arith, length-drop 10 ask, whole) in
    let count : slice_index ask 9 ≡ length x =
    eqb-true (slice_index ask 9) (2 * n) q.1 ∙ sym left in
    let head = eqb-true (function_in ask) 23 u.0 in
    let fields = word_bytes a ++ word_bytes w ++ word_bytes to ++ word_bytes n ++ length x ∷ x in
    let is : ask ≡ 23 ∷ fields =
    ten ask fits (leb-true 10 (length ask) u.1)
    ∙ (λ i. head i ∷ word_bytes a ++ word_bytes w ++ word_bytes to ++ word_bytes n ++ count i ∷ x)
    in
    let all : IsBytes (23 ∷ fields) = subst IsBytes is fits in
    let request = ReadWrite a w to (words_in x) in
    none request
    (subst (λ (l : List ℕ). Spells l request) (sym is)
    (with_code 23 fields request
    (read_write_there fields a w to n x (λ i. all (suc i)) refl (in-range most_registers_read w s.1)
    (in-range most_registers_exchanged n r.1) left))))

-- So no reply tells anything.
untold : (ask bytes : List ℕ) → IsBytes ask → IsUnspelled ask → told_bytes ask bytes ≡ None
untold ask bytes fits none =
    told-plain ask bytes false (or_from _ _ (no-registers ask fits none)
    (no-exchange ask fits none)) (no-statistics ask none) plain
  where
    plain : fits_plainly ask bytes ≡ false
    plain =
        let read = no-discretes ask fits none in
        let echoed = no-echoed ask fits none in
        let written : (writes_coils ask || writes_registers ask) ≡ false =
        or_from _ _ (no-coils ask fits none) (no-words ask fits none) in
        λ i. (read i && tells_bits (word_in ask 3) ask bytes) || (echoed i && bytes_eq bytes ask)
        || (written i && bytes_eq bytes (take 5 ask))

pub unasked : UnaskedGiveCodes
unasked ask bytes all none = record { code = code; other = other }
  where
    code : (c : ℕ) → bytes ≡ exception_code (function_in ask) ∷ c ∷ []
        → result_of ask bytes ≡ exception_result c
    code c e =
        ap (result_of ask) e
        ∙ ap (λ (o : Option ℕ). or_good o (told_bytes ask
        (exception_code (function_in ask) ∷ c ∷ []))) (code-told (function_in ask) c)

    other : ((c : ℕ) → bytes ≢ exception_code (function_in ask) ∷ c ∷ [])
        → result_of ask bytes ≡ no_result
    other unlike = elim (exceptions (function_in ask) bytes) [
      | inl e ↦ absurd (unlike e.0 e.1)
      | inr plain ↦ (λ i. or_good (plain i) (untold ask bytes (bytes-are ask all) none i))
    ]
