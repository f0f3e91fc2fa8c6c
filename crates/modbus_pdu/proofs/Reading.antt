-- The request that bytes spell is read from the places of its fields.
use Rattle.std.specs.Prelude.{if◌then◌else◌, find}
use Rattle.std.specs.Cmp.{first_so, second_so}
use Rattle.std.specs.Cmp.Derive.{both_true}
use Rattle.std.proofs.Common.{◌≡◌, ℕ, zero, suc, ◌+◌, ◌*◌, ◌/◌, ◌%◌, ◌<◌, Bool, true, false}
use Rattle.std.proofs.Common.{List, [], ◌∷◌, ◌++◌, length, take, drop, get_or, slice_index}
use Rattle.std.proofs.Common.{Option, Some, None, refl, ap, sym, ◌∙◌, arith}
use Rattle.std.proofs.lemmas.Bool.{leb-true, le-leb}
use Rattle.std.proofs.lemmas.List.{take_at, drop_at, length-append, length-drop}
use Rattle.std.proofs.lemmas.Slice.Eq.{bytes_eq-Decides}
use Rattle.modbus_pdu.specs.Bytes.{word_bytes, word_in, words_in, packed, unpacked}
use Rattle.modbus_pdu.specs.Bytes.{bytes_for, spare_count}
use Rattle.modbus_pdu.specs.Quantities.{Quantity, EachUpTo, are_up_to}
use Rattle.modbus_pdu.specs.Spelling.{Spells, HasForm, function_of, request_bytes, quantities_of}
use Rattle.modbus_pdu.specs.Reading.{forms_of, spare_in, is_spelled, spelled_request}
use Rattle.modbus_pdu.specs.declared.request.Request.{Request}
use Rattle.modbus_pdu.specs.declared.request.Request.TheVariants.{ReadCoils, ReadInputs}
use Rattle.modbus_pdu.specs.declared.request.Request.TheVariants.{ReadRegisters, ReadInputRegisters}
use Rattle.modbus_pdu.specs.declared.request.Request.TheVariants.{WriteCoil, WriteRegister, Echo}
use Rattle.modbus_pdu.specs.declared.request.Request.TheVariants.{Stats, WriteCoils, WriteRegisters}
use Rattle.modbus_pdu.specs.declared.request.Request.TheVariants.{Mask, ReadWrite}
use Rattle.modbus_pdu.proofs.Bytes.{words_in-words_bytes}
use Rattle.modbus_pdu.proofs.Packing.{length-packed, length-unpacked, unpacked-packed}

-- A word is made again from its two bytes.
whole : (word : ℕ) → 256 * (word / 256) + word % 256 ≡ word
whole word = omega arith

-- The bytes of a request and the spare bits in them.
pub filled_form : (bytes : List ℕ) (request : Request) → Spells bytes request
    → bytes ≡ request_bytes (spare_in bytes request) request
filled_form bytes (WriteCoils address bits) s =
    let spare = s.form.0 in
    let count = bytes_for (length bits) in
    let full : length (bits ++ spare) ≡ 8 * count =
    omega (arith, length-append bits spare, s.form.1) in
    let behind : drop (length bits) (unpacked (drop 6 bytes)) ≡ spare =
    ap (λ (b : List ℕ). drop (length bits) (unpacked (drop 6 b))) s.form.2
    ∙ ap (drop (length bits)) (unpacked-packed count (bits ++ spare) full)
    ∙ drop_at bits spare (length bits) refl in
    s.form.2
    ∙ ap (λ (others : List Bool). request_bytes others (WriteCoils address bits)) (sym behind)
filled_form bytes request s = s.form

-- The form of a request, its fields taken from their places in bytes.
abbrev refilled : Request → List ℕ → Request
refilled (ReadCoils address quantity) bytes = ReadCoils (word_in bytes 1) (word_in bytes 3)
refilled (ReadInputs address quantity) bytes = ReadInputs (word_in bytes 1) (word_in bytes 3)
refilled (ReadRegisters address quantity) bytes = ReadRegisters (word_in bytes 1) (word_in bytes 3)
refilled (ReadInputRegisters address quantity) bytes =
    ReadInputRegisters (word_in bytes 1) (word_in bytes 3)
refilled (WriteCoil address on) bytes = WriteCoil (word_in bytes 1) on
refilled (WriteRegister address value) bytes = WriteRegister (word_in bytes 1) (word_in bytes 3)
refilled (Echo word) bytes = Echo (word_in bytes 3)
refilled (Stats clear) bytes = Stats clear
refilled (WriteCoils address bits) bytes =
    WriteCoils (word_in bytes 1) (take (word_in bytes 3) (unpacked (drop 6 bytes)))
refilled (WriteRegisters address words) bytes =
    WriteRegisters (word_in bytes 1) (words_in (drop 6 bytes))
refilled (Mask address and_mask or_mask) bytes =
    Mask (word_in bytes 1) (word_in bytes 3) (word_in bytes 5)
refilled (ReadWrite read quantity write words) bytes =
    ReadWrite (word_in bytes 1) (word_in bytes 3) (word_in bytes 5) (words_in (drop 10 bytes))

-- The fields of a request are found at their places in its bytes.
pub refilled_again : (bytes : List ℕ) (request : Request) → Spells bytes request
    → refilled request bytes ≡ request
refilled_again bytes (ReadCoils a q) s =
    ap (refilled (ReadCoils a q)) s.form ∙ (λ i. ReadCoils (whole a i) (whole q i))
refilled_again bytes (ReadInputs a q) s =
    ap (refilled (ReadInputs a q)) s.form ∙ (λ i. ReadInputs (whole a i) (whole q i))
refilled_again bytes (ReadRegisters a q) s =
    ap (refilled (ReadRegisters a q)) s.form ∙ (λ i. ReadRegisters (whole a i) (whole q i))
refilled_again bytes (ReadInputRegisters a q) s =
    ap (refilled (ReadInputRegisters a q)) s.form
    ∙ (λ i. ReadInputRegisters (whole a i) (whole q i))
refilled_again bytes (WriteCoil a on) s =
    ap (refilled (WriteCoil a on)) s.form ∙ (λ i. WriteCoil (whole a i) on)
refilled_again bytes (WriteRegister a v) s =
    ap (refilled (WriteRegister a v)) s.form ∙ (λ i. WriteRegister (whole a i) (whole v i))
refilled_again bytes (Echo w) s = ap (refilled (Echo w)) s.form ∙ (λ i. Echo (whole w i))
refilled_again bytes (Stats clear) s = refl
refilled_again bytes (WriteCoils a bits) s =
    let spare = s.form.0 in
    let count = bytes_for (length bits) in
    let full : length (bits ++ spare) ≡ 8 * count =
    omega (arith, length-append bits spare, s.form.1) in
    let all : take (length bits) (unpacked (packed count (bits ++ spare))) ≡ bits =
    ap (take (length bits)) (unpacked-packed count (bits ++ spare) full)
    ∙ take_at bits spare (length bits) refl in
    ap (refilled (WriteCoils a bits)) s.form.2
    ∙ (λ i. WriteCoils (whole a i)
    (take (whole (length bits) i) (unpacked (packed count (bits ++ spare)))))
    ∙ ap (λ (b : List Bool). WriteCoils a b) all
refilled_again bytes (WriteRegisters a words) s =
    ap (refilled (WriteRegisters a words)) s.form
    ∙ (λ i. WriteRegisters (whole a i) (words_in-words_bytes words i))
refilled_again bytes (Mask a m o) s =
    ap (refilled (Mask a m o)) s.form ∙ (λ i. Mask (whole a i) (whole m i) (whole o i))
refilled_again bytes (ReadWrite r q w words) s =
    ap (refilled (ReadWrite r q w words)) s.form
    ∙ (λ i. ReadWrite (whole r i) (whole q i) (whole w i) (words_in-words_bytes words i))

-- The function code stands first.
pub code_first : (bytes : List ℕ) (request : Request) → Spells bytes request
    → slice_index bytes 0 ≡ function_of request
code_first bytes request s = ap (λ (b : List ℕ). slice_index b 0) (filled_form bytes request s)

-- The number that writes a coil on or off, and the operation that clears statistics or gives them.
abbrev coil_value : Bool → ℕ
coil_value on = if on then 0xff00 else 0

abbrev operation : Bool → ℕ
operation clear = if clear then 4 else 3

coil_is : (one other : Bool) → coil_value one ≡ coil_value other → one ≡ other
coil_is true true e = refl
coil_is true false e = absurd (omega arith)
coil_is false true e = absurd (omega arith)
coil_is false false e = refl

operation_is : (one other : Bool) → operation one ≡ operation other → one ≡ other
operation_is true true e = refl
operation_is true false e = absurd (omega arith)
operation_is false true e = absurd (omega arith)
operation_is false false e = refl

-- The first and second word of a request with two of them.
first_word : (bytes : List ℕ) (f a b : ℕ) → bytes ≡ f ∷ word_bytes a ++ word_bytes b
    → word_in bytes 1 ≡ a
first_word bytes f a b e = ap (λ (bs : List ℕ). word_in bs 1) e ∙ whole a

second_word : (bytes : List ℕ) (f a b : ℕ) → bytes ≡ f ∷ word_bytes a ++ word_bytes b
    → word_in bytes 3 ≡ b
second_word bytes f a b e = ap (λ (bs : List ℕ). word_in bs 3) e ∙ whole b

-- Two requests of one form are one.
same : (bytes : List ℕ) (one other : Request) → Spells bytes one → Spells bytes other
    → refilled one bytes ≡ refilled other bytes → one ≡ other
same bytes one other s t e = sym (refilled_again bytes one s) ∙ e ∙ refilled_again bytes other t

apart : (bytes : List ℕ) (one other : Request) → Spells bytes one → Spells bytes other
    → function_of one ≡ function_of other
apart bytes one other s t = sym (code_first bytes one s) ∙ code_first bytes other t

-- Bytes spell one request at most.
pub one_spelled : (bytes : List ℕ) (one other : Request) → Spells bytes one
    → Spells bytes other → one ≡ other
one_spelled bytes (ReadCoils a q) (ReadCoils b p) s t =
    same bytes (ReadCoils a q) (ReadCoils b p) s t refl
one_spelled bytes (ReadCoils a q) other s t =
    absurd (omega (arith, apart bytes (ReadCoils a q) other s t))
one_spelled bytes (ReadInputs a q) (ReadInputs b p) s t =
    same bytes (ReadInputs a q) (ReadInputs b p) s t refl
one_spelled bytes (ReadInputs a q) other s t =
    absurd (omega (arith, apart bytes (ReadInputs a q) other s t))
one_spelled bytes (ReadRegisters a q) (ReadRegisters b p) s t =
    same bytes (ReadRegisters a q) (ReadRegisters b p) s t refl
one_spelled bytes (ReadRegisters a q) other s t =
    absurd (omega (arith, apart bytes (ReadRegisters a q) other s t))
one_spelled bytes (ReadInputRegisters a q) (ReadInputRegisters b p) s t =
    same bytes (ReadInputRegisters a q) (ReadInputRegisters b p) s t refl
one_spelled bytes (ReadInputRegisters a q) other s t =
    absurd (omega (arith, apart bytes (ReadInputRegisters a q) other s t))
one_spelled bytes (WriteCoil a on) (WriteCoil b off) s t =
    let value = sym (second_word bytes 5 a _ s.form) ∙ second_word bytes 5 b _ t.form in
    same bytes (WriteCoil a on) (WriteCoil b off) s t
    (ap (λ (bit : Bool). WriteCoil (word_in bytes 1) bit) (coil_is on off value))
one_spelled bytes (WriteCoil a on) other s t =
    absurd (omega (arith, apart bytes (WriteCoil a on) other s t))
one_spelled bytes (WriteRegister a v) (WriteRegister b w) s t =
    same bytes (WriteRegister a v) (WriteRegister b w) s t refl
one_spelled bytes (WriteRegister a v) other s t =
    absurd (omega (arith, apart bytes (WriteRegister a v) other s t))
one_spelled bytes (Echo w) (Echo v) s t = same bytes (Echo w) (Echo v) s t refl
one_spelled bytes (Echo w) (Stats c) s t =
    absurd (omega (arith, first_word bytes 8 0 w s.form, first_word bytes 8 21 _ t.form))
one_spelled bytes (Echo w) other s t = absurd (omega (arith, apart bytes (Echo w) other s t))
one_spelled bytes (Stats c) (Stats d) s t =
    let value = sym (second_word bytes 8 21 _ s.form) ∙ second_word bytes 8 21 _ t.form in
    ap (λ (clear : Bool). Stats clear) (operation_is c d value)
one_spelled bytes (Stats c) (Echo w) s t =
    absurd (omega (arith, first_word bytes 8 21 _ s.form, first_word bytes 8 0 w t.form))
one_spelled bytes (Stats c) other s t = absurd (omega (arith, apart bytes (Stats c) other s t))
one_spelled bytes (WriteCoils a bits) (WriteCoils b others) s t =
    same bytes (WriteCoils a bits) (WriteCoils b others) s t refl
one_spelled bytes (WriteCoils a bits) other s t =
    absurd (omega (arith, apart bytes (WriteCoils a bits) other s t))
one_spelled bytes (WriteRegisters a words) (WriteRegisters b others) s t =
    same bytes (WriteRegisters a words) (WriteRegisters b others) s t refl
one_spelled bytes (WriteRegisters a words) other s t =
    absurd (omega (arith, apart bytes (WriteRegisters a words) other s t))
one_spelled bytes (Mask a m o) (Mask b n p) s t = same bytes (Mask a m o) (Mask b n p) s t refl
one_spelled bytes (Mask a m o) other s t =
    absurd (omega (arith, apart bytes (Mask a m o) other s t))
one_spelled bytes (ReadWrite r q w words) (ReadWrite p k v others) s t =
    same bytes (ReadWrite r q w words) (ReadWrite p k v others) s t refl
one_spelled bytes (ReadWrite r q w words) other s t =
    absurd (omega (arith, apart bytes (ReadWrite r q w words) other s t))

-- Quantities are within their bounds where the test says so.
within : (quantities : List Quantity) → are_up_to quantities ≡ true → EachUpTo quantities
within [] e = tt
within (q ∷ qs) e =
    let here = first_so _ (are_up_to qs) e in (
      record {
        from = leb-true _ _ (first_so _ _ here);
        to = leb-true _ _ (second_so _ _ here);
      },
      within qs (second_so _ (are_up_to qs) e),
    )

is_within : (quantities : List Quantity) → EachUpTo quantities → are_up_to quantities ≡ true
is_within [] h = refl
is_within (q ∷ qs) h =
    both_true (both_true (le-leb _ _ h.0.from) (le-leb _ _ h.0.to)) (is_within qs h.1)

-- The test of a spelling.
spelled_test : (bytes : List ℕ) (request : Request) → Spells bytes request
    → is_spelled bytes request ≡ true
spelled_test bytes request s =
    both_true (is_within (quantities_of request) s.range)
    ((bytes_eq-Decides bytes _).1 (filled_form bytes request s))

-- Bytes with the form of a request and the spare bits in them have its form.
form_of : (bytes : List ℕ) (request : Request)
    → bytes ≡ request_bytes (spare_in bytes request) request → HasForm bytes request
form_of bytes (WriteCoils address bits) e =
    let all = bits ++ drop (length bits) (unpacked (drop 6 bytes)) in
    let size : length (drop 6 bytes) ≡ bytes_for (length bits) =
    ap (λ (b : List ℕ). length (drop 6 b)) e ∙ length-packed (bytes_for (length bits)) all in
    let spare : length (drop (length bits) (unpacked (drop 6 bytes))) ≡ spare_count (length bits) =
    omega (
      arith,
      length-drop (length bits) (unpacked (drop 6 bytes)),
      length-unpacked (drop 6 bytes),
      size,
    ) in
    (drop (length bits) (unpacked (drop 6 bytes)), spare, e)
form_of bytes request e = e

test_spelled : (bytes : List ℕ) (request : Request) → is_spelled bytes request ≡ true
    → Spells bytes request
test_spelled bytes request e =
    let range = first_so (are_up_to (quantities_of request)) _ e in
    let equal = second_so (are_up_to (quantities_of request)) _ e in record {
      range = within (quantities_of request) range;
      form = form_of bytes request ((bytes_eq-Decides bytes _).0 equal);
    }

-- An element that a search finds.
record Found {A : Type 0} (test : A → Bool) (xs : List A) : Type 0 where
  value : A
  found : find test xs ≡ Some value
  passes : test value ≡ true

first_or : {A : Type 0} (test : A → Bool) (x : A) (xs : List A) (b : Bool) → test x ≡ b
    → (b ≡ false → Found test xs) → Found test (x ∷ xs)
first_or test x xs true is rest = record { value = x; found = rw is refl; passes = is }
first_or test x xs false is rest =
    let later = rest refl in
    record { value = later.value; found = rw is later.found; passes = later.passes }

-- Where an element passes, a search finds one that does.
found_at : {A : Type 0} (test : A → Bool) (xs : List A) (i : ℕ) (d : A) → i < length xs
    → test (get_or xs i d) ≡ true → Found test xs
found_at test [] i d lt e = absurd (omega arith)
found_at test (x ∷ xs) zero d lt e = first_or test x xs (test x) refl (λ other. absurd cc)
found_at test (x ∷ xs) (suc i) d lt e =
    first_or test x xs (test x) refl (λ other. found_at test xs i d (omega arith) e)

passes_or : {A : Type 0} (test : A → Bool) (x : A) (xs : List A) (y : A) (b : Bool)
    → test x ≡ b → find test (x ∷ xs) ≡ Some y → (find test xs ≡ Some y → test y ≡ true)
    → test y ≡ true
passes_or test x xs y true is e rest =
    let same : x ≡ y = let here : Some x ≡ Some y = rw is at e in cc in rw (← same) is
passes_or test x xs y false is e rest = rest (rw is at e)

-- What a search finds passes.
pub find_passes : {A : Type 0} (test : A → Bool) (xs : List A) (y : A) → find test xs ≡ Some y
    → test y ≡ true
find_passes test [] y e = absurd cc
find_passes test (x ∷ xs) y e = passes_or test x xs y (test x) refl e (find_passes test xs y)

-- The form of a request stands among the forms.
record Stands (bytes : List ℕ) (request : Request) : Type 0 where
  place : ℕ
  near : place < 14
  form : get_or (forms_of bytes) place request ≡ refilled request bytes

stands : (bytes : List ℕ) (request : Request) → Stands bytes request
stands bytes (ReadCoils a q) = record { place = 0; near = omega arith; form = refl }
stands bytes (ReadInputs a q) = record { place = 1; near = omega arith; form = refl }
stands bytes (ReadRegisters a q) = record { place = 2; near = omega arith; form = refl }
stands bytes (ReadInputRegisters a q) = record { place = 3; near = omega arith; form = refl }
stands bytes (WriteCoil a true) = record { place = 4; near = omega arith; form = refl }
stands bytes (WriteCoil a false) = record { place = 5; near = omega arith; form = refl }
stands bytes (WriteRegister a v) = record { place = 6; near = omega arith; form = refl }
stands bytes (Echo w) = record { place = 7; near = omega arith; form = refl }
stands bytes (Stats true) = record { place = 8; near = omega arith; form = refl }
stands bytes (Stats false) = record { place = 9; near = omega arith; form = refl }
stands bytes (WriteCoils a bits) = record { place = 10; near = omega arith; form = refl }
stands bytes (WriteRegisters a words) = record { place = 11; near = omega arith; form = refl }
stands bytes (Mask a m o) = record { place = 12; near = omega arith; form = refl }
stands bytes (ReadWrite r q w words) = record { place = 13; near = omega arith; form = refl }

-- The request that bytes spell is found.
pub request_found : (bytes : List ℕ) (request : Request) → Spells bytes request
    → spelled_request bytes ≡ Some request
request_found bytes request s =
    let here = stands bytes request in
    let test : is_spelled bytes (get_or (forms_of bytes) here.place request) ≡ true =
    ap (is_spelled bytes) (here.form ∙ refilled_again bytes request s)
    ∙ spelled_test bytes request s in
    let found = found_at (is_spelled bytes) (forms_of bytes) here.place request here.near test in
    let other = test_spelled bytes found.value found.passes in
    found.found ∙ ap (λ (r : Request). Some r) (one_spelled bytes found.value request other s)

-- What is found is spelled.
pub found_spelled : (bytes : List ℕ) (request : Request) → spelled_request bytes ≡ Some request
    → Spells bytes request
found_spelled bytes request e =
    test_spelled bytes request (find_passes (is_spelled bytes) (forms_of bytes) request e)

none_of : (bytes : List ℕ) (found : Option Request) → spelled_request bytes ≡ found
    → ((request : Request) → ¬ Spells bytes request) → found ≡ None
none_of bytes None e none = refl
none_of bytes (Some request) e none = absurd (none request (found_spelled bytes request e))

-- Where no request is spelled, none is found.
pub none_found : (bytes : List ℕ) → ((request : Request) → ¬ Spells bytes request)
    → spelled_request bytes ≡ None
none_found bytes none = none_of bytes (spelled_request bytes) refl none
