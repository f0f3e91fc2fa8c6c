-- Bytes and words are read from hexadecimal digits as they are written.
use Rattle.std.proofs.Common.{◌≡◌, ℕ, ◌+◌, ◌*◌, ◌/◌, ◌%◌, ◌<◌, ◌≤◌, Bool, true, false, not, ◌&&◌}
use Rattle.std.proofs.Common.{◌||◌, inl, inr, List, [], ◌∷◌, ◌++◌, length, Option, Some, None}
use Rattle.std.proofs.Common.{Result, Ok, Err, All, refl, sym, ap, subst, ◌∙◌, arith, append_assoc}
use Rattle.std.proofs.Common.{cond, unwrap_or}
use Rattle.std.specs.Prelude.{codes, nat_le, ◌==◌, slice_index, option_map}
use Rattle.std.specs.Fmt.{digit_glyph}
use Rattle.std.specs.List.{list_all, flat_map}
use Rattle.std.specs.Str.{bytes_eq}
use Rattle.std.proofs.lemmas.Bool.{and_parts, eqb-true, cases_lt}
use Rattle.std.proofs.lemmas.Bool.Decides.{nat_tests}
use Rattle.std.proofs.lemmas.Fmt.{hex_one_digit}
use Rattle.std.proofs.lemmas.List.{append-nil, get_or_past}
use Rattle.std.proofs.lemmas.List.Concat.{flat_map-cons}
use Rattle.std.proofs.lemmas.List.Elements.{All-nil, All-cons, All-head, All-tail, All-get_or}
use Rattle.std.proofs.lemmas.List.Elements.{All-from_get_or}
use Rattle.hex.specs.Hex.{IsBytes, decode_of, decode_pairs, digit_or_error, hex_digit_value}
use Rattle.hex.specs.Hex.{encode_lower, encode_with, lower_digits, pair_value, value_at}
use Rattle.hex.specs.Hex.{◌>>=◌ as ◌>=>◌}
use Rattle.hex.specs.declared.error.FromHexError.{FromHexError}
use Rattle.hex.proofs.HexLemmas.{decode_of-encode_lower, decode_of-ok, decode_of-even}
use Rattle.plant_types.specs.Words.{pdu_of, most_block_words, most_pdu_bytes}
use Rattle.journal_lines.specs.Fields.{small_digit, hex_byte, hex_word, hex_bytes, hex_words}
use Rattle.journal_lines.specs.Sizes.{IsSmall, IsWord, IsPdu, AreBlockWords, AreWords}
use Rattle.journal_reading.specs.Reading.{◌>>=◌, is_capital, decoded, read_hex_bytes, read_pdu}
use Rattle.journal_reading.specs.Reading.{words_joined, one_word, some_words, read_joined}
use Rattle.journal_reading.specs.Reading.{read_hex_words, read_hex_word, read_block}
use Rattle.journal_reading.proofs.Ranges.{chosen, lies, all_lie, wider, outside, all-flat_map}
use Rattle.journal_reading.proofs.Ranges.{all_below-at}
use Rattle.journal_reading.proofs.ReadLaws.{IsField}
use Rattle.journal_reading.proofs.Cuts.{some_is, bind_some, none_some, text_is}

-- a digit from 0 to f is that of the table
glyph_test : ℕ → Bool
glyph_test d = digit_glyph false d == slice_index lower_digits d

glyph : (d : ℕ) → d < 16 → digit_glyph false d ≡ slice_index lower_digits d
unfolding glyph_test
glyph d less = eqb-true _ _ (all_below-at glyph_test 16 d refl less)

digit_is : (d : ℕ) → d < 16 → small_digit d ≡ slice_index lower_digits d ∷ []
digit_is d less = hex_one_digit false d less ∙ ap (λ (c : ℕ). c ∷ []) (glyph d less)

byte_is : (b : ℕ) → b < 256
    → hex_byte b ≡ slice_index lower_digits (b / 16) ∷ slice_index lower_digits (b % 16) ∷ []
byte_is b less = rw (digit_is (b / 16) (omega arith), digit_is (b % 16) (omega arith)) refl

-- bytes as their digits
pub bytes_are : (bytes : List ℕ) → All IsSmall bytes → hex_bytes bytes ≡ encode_lower bytes
unfolding encode_with
bytes_are [] each = refl
bytes_are (b ∷ bytes) each =
    rw (
      flat_map-cons hex_byte b bytes,
      byte_is b (All-head IsSmall b bytes each),
      bytes_are bytes (All-tail IsSmall b bytes each),
    ) refl

from_index : (bytes : List ℕ) → IsBytes bytes → All IsSmall bytes
from_index bytes each = All-from_get_or IsSmall bytes 0 (λ i within. each i)

to_index : (bytes : List ℕ) → All IsSmall bytes → IsBytes bytes
to_index bytes each i =
    elim (cases_lt i (length bytes)) [
      | inl less ↦ All-get_or IsSmall bytes i 0 less each
      | inr past ↦ rw (get_or_past bytes i 0 past) (omega arith)
    ]

-- a digit that is no capital is that of its value
back_test : ℕ → Bool
back_test c = is_capital c
    || (unwrap_or (option_map (λ v. slice_index lower_digits v) (hex_digit_value c)) c == c)

back_small : (c v : ℕ) → hex_digit_value c ≡ Some v → (c < 128) × (v < 16)
back_small c v e = (grind (arith), grind (arith))

or_false : (a b : Bool) → (a || b) ≡ true → a ≡ false → b ≡ true
or_false true b e apart = absurd (cc)
or_false false b e apart = e

not_true : (a : Bool) → not a ≡ true → a ≡ false
not_true true e = absurd (cc)
not_true false e = refl

back : (c v : ℕ) → hex_digit_value c ≡ Some v → not (is_capital c) ≡ true
    → slice_index lower_digits v ≡ c
unfolding back_test
back c v e small =
    let test = or_false (is_capital c)
    (unwrap_or (option_map (λ w. slice_index lower_digits w) (hex_digit_value c)) c == c)
    (all_below-at back_test 128 c refl (back_small c v e).0) (not_true (is_capital c) small) in
    let same : unwrap_or (option_map (λ w. slice_index lower_digits w) (hex_digit_value c)) c ≡ c =
    eqb-true _ _ test in
    rw e at same

-- what decodes, with no capital, is the text of its bytes
hex_ok : {A B : Type 0} (r : Result A FromHexError) (f : A → Result B FromHexError) (y : B)
    → (r >=> f) ≡ Ok y → (x : A) × (r ≡ Ok x) × (f x ≡ Ok y)
hex_ok (Ok x) f y e = (x, refl, e)
hex_ok (Err d) f y e = absurd cc

abbrev ok : {A : Type 0} → A → Result A FromHexError
ok x = Ok x

ok_is : {A : Type 0} (x y : A) → ok x ≡ ok y → x ≡ y
ok_is x y e = cc

value_is : (c i : ℕ) (o : Option ℕ) (v : ℕ) → digit_or_error c i o ≡ Ok v → o ≡ Some v
value_is c i (Some w) v e = ap Some (ok_is w v e)
value_is c i None v e = absurd cc

decodes : (i : ℕ) (text bytes : List ℕ) → decode_pairs i text ≡ Ok bytes
    → list_all (λ byte. not (is_capital byte)) text ≡ true → encode_lower bytes ≡ text
unfolding decode_pairs encode_with
decodes i [] bytes e small = ap encode_lower (sym (ok_is [] bytes e))
decodes i (a ∷ []) bytes e small = absurd cc
decodes i (a ∷ b ∷ rest) bytes e small =
    let pair = hex_ok (pair_value a b i)
    (λ byte. decode_pairs (i + 2) rest >=> λ bytes. Ok (byte ∷ bytes)) bytes e in
    let high = hex_ok (value_at a i) (λ h. value_at b (i + 1) >=> λ l. Ok (h * 16 + l))
    pair.0 pair.1 in
    let low = hex_ok (value_at b (i + 1)) (λ l. Ok (high.0 * 16 + l)) pair.0 high.2 in
    let more = hex_ok (decode_pairs (i + 2) rest) (λ bytes. Ok (pair.0 ∷ bytes)) bytes pair.2 in
    let (a_small, tail) = and_parts (not (is_capital a))
    (not (is_capital b) && list_all (λ byte. not (is_capital byte)) rest) small in
    let (b_small, rest_small) = and_parts (not (is_capital b))
    (list_all (λ byte. not (is_capital byte)) rest) tail in
    let a_value = value_is a i (hex_digit_value a) high.0 high.1 in
    let b_value = value_is b (i + 1) (hex_digit_value b) low.0 low.1 in
    let below = (back_small b low.0 b_value).1 in
    let byte : pair.0 ≡ high.0 * 16 + low.0 = sym (ok_is (high.0 * 16 + low.0) pair.0 low.2) in
    let first : pair.0 / 16 ≡ high.0 = omega arith in
    let second : pair.0 % 16 ≡ low.0 = omega arith in
    let ih = decodes (i + 2) rest more.0 more.1 rest_small in
    ap encode_lower (sym (ok_is (pair.0 ∷ more.0) bytes more.2))
    ∙ rw (first, second, back a high.0 a_value a_small, back b low.0 b_value b_small, ih) refl

decoded_ok : (r : Result (List ℕ) FromHexError) (bytes : List ℕ) → decoded r ≡ Some bytes
    → r ≡ Ok bytes
decoded_ok (Ok found) bytes e = ap Ok (some_is found bytes e)
decoded_ok (Err d) bytes e = none_some (Err d ≡ Ok bytes) bytes e

pub bytes_takes : (text bytes : List ℕ) → read_hex_bytes text ≡ Some bytes
    → (text ≡ hex_bytes bytes) × All IsSmall bytes
unfolding read_hex_bytes
bytes_takes text bytes e =
    elim (chosen (list_all (λ byte. not (is_capital byte)) text) (decoded (decode_of text)) None
    (Some bytes) e) [
      | inl passed ↦
          let ok = decoded_ok (decode_of text) bytes passed.1 in
          let facts = decode_of-ok text bytes ok in
          let each = from_index bytes facts.3 in
          let pairs = sym (decode_of-even text facts.0) ∙ ok in
          (sym (decodes 0 text bytes pairs passed.0) ∙ sym (bytes_are bytes each), each)
      | inr apart ↦ none_some ((text ≡ hex_bytes bytes) × All IsSmall bytes) bytes apart.1
    ]

-- what is written of bytes are digits without a capital
lower_test : ℕ → Bool
lower_test d = lies 48 102 (slice_index lower_digits d)
    && not (is_capital (slice_index lower_digits d))

lower : (d : ℕ) → d < 16 → (lies 48 102 (slice_index lower_digits d) ≡ true)
    × (not (is_capital (slice_index lower_digits d)) ≡ true)
unfolding lower_test
lower d less =
    let (lie, small) = and_parts (lies 48 102 (slice_index lower_digits d))
    (not (is_capital (slice_index lower_digits d))) (all_below-at lower_test 16 d refl less) in
    (lie, small)

digits_all : (p : ℕ → Bool) → ((d : ℕ) → d < 16 → p (slice_index lower_digits d) ≡ true) → (b : ℕ)
    → IsSmall b → list_all p (hex_byte b) ≡ true
digits_all p each b less =
    rw (byte_is b less, each (b / 16) (omega arith), each (b % 16) (omega arith)) refl

pub bytes_lie : (bytes : List ℕ) → All IsSmall bytes → all_lie 48 102 (hex_bytes bytes) ≡ true
bytes_lie bytes each =
    all-flat_map (lies 48 102) hex_byte IsSmall
    (λ b less. digits_all (lies 48 102) (λ d few. (lower d few).0) b less) bytes each

pub bytes_again : (bytes : List ℕ) → All IsSmall bytes
    → read_hex_bytes (hex_bytes bytes) ≡ Some bytes
unfolding read_hex_bytes
bytes_again bytes each =
    let small = all-flat_map (λ c. not (is_capital c)) hex_byte IsSmall
    (λ b less. digits_all (λ c. not (is_capital c)) (λ d few. (lower d few).1) b less) bytes each in
    let read : decode_of (hex_bytes bytes) ≡ Ok bytes = ap decode_of (bytes_are bytes each)
    ∙ decode_of-encode_lower bytes (to_index bytes each) in
    rw (small, read) refl

-- tests of sizes
le_of : (a b : ℕ) → nat_le a b ≡ true → a ≤ b
le_of a b e = grind (arith, nat_tests)

le_test : (a b : ℕ) → a ≤ b → nat_le a b ≡ true
le_test a b e = grind (arith, nat_tests)

length_of : (n : ℕ) → (nat_le 1 n && nat_le n most_pdu_bytes) ≡ true
    → (1 ≤ n) × (n ≤ most_pdu_bytes)
length_of n e = let (low, high) = and_parts (nat_le 1 n)
    (nat_le n most_pdu_bytes) e in (le_of 1 n low, le_of n most_pdu_bytes high)

-- a PDU
pub pdu_takes : (text pdu : List ℕ) → read_pdu text ≡ Some pdu → (text ≡ hex_bytes pdu) × IsPdu pdu
unfolding read_pdu
pdu_takes text pdu e =
    let a = bind_some (read_hex_bytes text) pdu_of pdu e in
    let read = bytes_takes text a.0 a.1 in
    elim (chosen (nat_le 1 (length a.0) && nat_le (length a.0) most_pdu_bytes) (Some a.0) None
    (Some pdu) a.2) [
      | inl passed ↦
          subst (λ (p : List ℕ). (text ≡ hex_bytes p) × IsPdu p) (some_is a.0 pdu passed.1)
          (read.0, record { count = length_of (length a.0) passed.0; each = read.1 })
      | inr apart ↦ none_some ((text ≡ hex_bytes pdu) × IsPdu pdu) pdu apart.1
    ]

pub pdu_again : (pdu : List ℕ) → IsPdu pdu → read_pdu (hex_bytes pdu) ≡ Some pdu
unfolding read_pdu
pdu_again pdu is =
    rw (
      bytes_again pdu is.each,
      le_test 1 (length pdu) is.count.0,
      le_test (length pdu) most_pdu_bytes is.count.1,
    ) refl

-- words, as bytes in twos
two_digits : (h l : ℕ) → h < 256 → l < 256 → hex_word (h * 256 + l) ≡ hex_byte h ++ hex_byte l
two_digits h l high low =
    let a : (h * 256 + l) / 4096 ≡ h / 16 = omega arith in
    let b : (h * 256 + l) / 256 % 16 ≡ h % 16 = omega arith in
    let c : (h * 256 + l) / 16 % 16 ≡ l / 16 = omega arith in
    let d : (h * 256 + l) % 16 ≡ l % 16 = omega arith in
    rw (
      a,
      b,
      c,
      d,
      digit_is (h / 16) (omega arith),
      digit_is (h % 16) (omega arith),
      digit_is (l / 16) (omega arith),
      digit_is (l % 16) (omega arith),
    ) refl

joined_takes : (bytes words : List ℕ) → words_joined bytes ≡ Some words → All IsSmall bytes
    → (hex_bytes bytes ≡ flat_map hex_word words) × AreWords words
joined_takes [] words e each =
    subst (λ (ws : List ℕ). ([] ≡ flat_map hex_word ws) × AreWords ws) (some_is [] words e)
    (refl, All-nil IsWord)
joined_takes (h ∷ []) words e each =
    none_some ((hex_bytes (h ∷ []) ≡ flat_map hex_word words) × AreWords words) words e
joined_takes (h ∷ l ∷ bytes) words e each =
    let a = bind_some (words_joined bytes) (λ ws. Some ((h * 256 + l) ∷ ws)) words e in
    let high = All-head IsSmall h (l ∷ bytes) each in
    let tail = All-tail IsSmall h (l ∷ bytes) each in
    let low = All-head IsSmall l bytes tail in
    let ih = joined_takes bytes a.0 a.1 (All-tail IsSmall l bytes tail) in
    let whole : hex_bytes (h ∷ l ∷ bytes) ≡ flat_map hex_word ((h * 256 + l) ∷ a.0) =
    rw (
      flat_map-cons hex_byte h (l ∷ bytes),
      flat_map-cons hex_byte l bytes,
      flat_map-cons hex_word (h * 256 + l) a.0,
      two_digits h l high low,
      ih.0,
    )
    (sym (append_assoc (hex_byte h) (hex_byte l) (flat_map hex_word a.0))) in
    subst (λ (ws : List ℕ). (hex_bytes (h ∷ l ∷ bytes) ≡ flat_map hex_word ws) × AreWords ws)
    (some_is ((h * 256 + l) ∷ a.0) words a.2)
    (whole, All-cons IsWord (h * 256 + l) a.0 (omega arith) ih.1)

-- the bytes of words
split_words : List ℕ → List ℕ
split_words [] = []
split_words (w ∷ words) = (w / 256) ∷ (w % 256) ∷ split_words words

split_small : (words : List ℕ) → AreWords words → All IsSmall (split_words words)
unfolding split_words
split_small [] each = All-nil IsSmall
split_small (w ∷ words) each =
    let word = All-head IsWord w words each in
    All-cons IsSmall (w / 256) (w % 256 ∷ split_words words) (omega arith)
    (All-cons IsSmall (w % 256) (split_words words) (omega arith)
    (split_small words (All-tail IsWord w words each)))

split_again : (words : List ℕ) → words_joined (split_words words) ≡ Some words
unfolding split_words
split_again [] = refl
split_again (w ∷ words) =
    let whole : w / 256 * 256 + w % 256 ≡ w = omega arith in
    rw (split_again words, whole) refl

split_text : (words : List ℕ) → AreWords words
    → flat_map hex_word words ≡ hex_bytes (split_words words)
split_text words each =
    sym (joined_takes (split_words words) words (split_again words) (split_small words each)).0

-- some words one after another
some_words_is : (words found : List ℕ) → some_words words ≡ Some found
    → (words ≡ found) × (0 < length found)
some_words_is [] found e = none_some (([] ≡ found) × (0 < length found)) found e
some_words_is (w ∷ words) found e =
    let same : (w ∷ words) ≡ found = some_is (w ∷ words) found e in
    (same, subst (λ (ws : List ℕ). 0 < length ws) same (omega arith))

joined_words_takes : (text words : List ℕ) → read_joined text ≡ Some words
    → (text ≡ flat_map hex_word words) × AreWords words × (0 < length words)
unfolding read_joined
joined_words_takes text words e =
    let a = bind_some (read_hex_bytes text) (λ bytes. words_joined bytes >>= some_words) words e in
    let b = bind_some (words_joined a.0) some_words words a.2 in
    let read = bytes_takes text a.0 a.1 in
    let made = joined_takes a.0 b.0 b.1 read.1 in
    let some = some_words_is b.0 words b.2 in
    (read.0 ∙ made.0 ∙ ap (flat_map hex_word) some.0, subst AreWords some.0 made.1, some.1)

joined_words_again : (w : ℕ) (words : List ℕ) → AreWords (w ∷ words)
    → read_joined (flat_map hex_word (w ∷ words)) ≡ Some (w ∷ words)
unfolding read_joined
joined_words_again w words each =
    ap read_joined (split_text (w ∷ words) each)
    ∙ rw (
      bytes_again (split_words (w ∷ words)) (split_small (w ∷ words) each),
      split_again (w ∷ words),
    ) refl

words_lie : (words : List ℕ) → AreWords words → all_lie 48 102 (flat_map hex_word words) ≡ true
words_lie words each =
    rw (split_text words each) (bytes_lie (split_words words) (split_small words each))

-- words, where a dash stands for none
pub hex_words_lie : (words : List ℕ) → AreWords words → all_lie 45 102 (hex_words words) ≡ true
hex_words_lie [] each = refl
hex_words_lie (w ∷ words) each = wider 48 102 45 102 (omega arith) (omega arith)
    (flat_map hex_word (w ∷ words)) (words_lie (w ∷ words) each)

some_text : (text words : List ℕ) → text ≡ flat_map hex_word words → 0 < length words
    → text ≡ hex_words words
some_text text [] e some = absurd (omega arith)
some_text text (w ∷ words) e some = e

pub words_takes : (text words : List ℕ) → read_hex_words text ≡ Some words
    → (text ≡ hex_words words) × AreWords words
unfolding read_hex_words
words_takes text words e =
    elim (chosen (bytes_eq text (codes "-")) (Some []) (read_joined text) (Some words) e) [
      | inl dash ↦
          subst (λ (ws : List ℕ). (text ≡ hex_words ws) × AreWords ws) (some_is [] words dash.1)
          (text_is text (codes "-") dash.0, All-nil IsWord)
      | inr more ↦
          let read = joined_words_takes text words more.1 in
          (some_text text words read.0 read.2, read.1)
    ]

no_dash : (text : List ℕ) → all_lie 48 102 text ≡ true → bytes_eq text (45 ∷ []) ≡ false
no_dash [] lie = refl
no_dash (b ∷ text) lie =
    let (here, more) = and_parts (lies 48 102 b) (all_lie 48 102 text) lie in
    rw (outside 48 102 45 b (inl (omega arith)) here) refl

pub words_again : (words : List ℕ) → AreWords words → read_hex_words (hex_words words) ≡ Some words
unfolding read_hex_words
words_again [] each = refl
words_again (w ∷ words) each =
    rw (
      no_dash (flat_map hex_word (w ∷ words)) (words_lie (w ∷ words) each),
      joined_words_again w words each,
    ) refl

-- one word
one_word_is : (words : List ℕ) (word : ℕ) → one_word words ≡ Some word → words ≡ word ∷ []
one_word_is [] word e = none_some ([] ≡ word ∷ []) word e
one_word_is (w ∷ []) word e = ap (λ (x : ℕ). x ∷ []) (some_is w word e)
one_word_is (w ∷ v ∷ words) word e = none_some (w ∷ v ∷ words ≡ word ∷ []) word e

one_text : (word : ℕ) → flat_map hex_word (word ∷ []) ≡ hex_word word
one_text word = flat_map-cons hex_word word [] ∙ append-nil (hex_word word)

pub word_takes : (text : List ℕ) (word : ℕ) → read_hex_word text ≡ Some word
    → (text ≡ hex_word word) × IsWord word
unfolding read_hex_word
word_takes text word e =
    let a = bind_some (read_joined text) one_word word e in
    let read = joined_words_takes text a.0 a.1 in
    let one = one_word_is a.0 word a.2 in
    let each = subst AreWords one read.1 in
    (read.0 ∙ ap (flat_map hex_word) one ∙ one_text word, All-head IsWord word [] each)

pub word_again : (word : ℕ) → IsWord word → read_hex_word (hex_word word) ≡ Some word
unfolding read_hex_word
word_again word is =
    let read = joined_words_again word [] (All-cons IsWord word [] is (All-nil IsWord)) in
    rw (ap read_joined (sym (one_text word)) ∙ read) refl

pub word_lies : (word : ℕ) → IsWord word → all_lie 48 102 (hex_word word) ≡ true
word_lies word is = subst (λ (t : List ℕ). all_lie 48 102 t ≡ true) (one_text word)
    (words_lie (word ∷ []) (All-cons IsWord word [] is (All-nil IsWord)))

-- a block
pub block_takes : (text words : List ℕ) → read_block text ≡ Some words
    → (text ≡ hex_words words) × AreBlockWords words
unfolding read_block
block_takes text words e =
    let a = bind_some (read_hex_words text)
    (λ ws. cond (nat_le (length ws) most_block_words) (Some ws) None) words e in
    let read = words_takes text a.0 a.1 in
    elim (chosen (nat_le (length a.0) most_block_words) (Some a.0) None (Some words) a.2) [
      | inl passed ↦
          subst (λ (ws : List ℕ). (text ≡ hex_words ws) × AreBlockWords ws)
          (some_is a.0 words passed.1)
          (read.0, record { count = le_of (length a.0) most_block_words passed.0; each = read.1 })
      | inr apart ↦ none_some ((text ≡ hex_words words) × AreBlockWords words) words apart.1
    ]

pub block_again : (words : List ℕ) → AreBlockWords words → read_block (hex_words words) ≡ Some words
unfolding read_block
block_again words is =
    rw (words_again words is.each, le_test (length words) most_block_words is.count) refl

-- as fields
pub pdu_field : IsField read_pdu hex_bytes IsPdu 48 102
pdu_field = record { takes = pdu_takes; again = pdu_again; lie = λ pdu is. bytes_lie pdu is.each }

pub words_field : IsField read_hex_words hex_words AreWords 45 102
words_field = record { takes = words_takes; again = words_again; lie = hex_words_lie }

pub word_field : IsField read_hex_word hex_word IsWord 48 102
word_field = record { takes = word_takes; again = word_again; lie = word_lies }

pub block_field : IsField read_block hex_words AreBlockWords 45 102
block_field = record {
  takes = block_takes;
  again = block_again;
  lie = λ words is. hex_words_lie words is.each;
}
