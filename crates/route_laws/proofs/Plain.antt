-- An exception reply tells no good result.
use Rattle.std.proofs.Common.{◌≡◌, ℕ, ◌*◌, ◌<◌, Bool, true, false, List, [], ◌∷◌, take, Option}
use Rattle.std.proofs.Common.{Some, None, refl, sym, ap, ◌∙◌, subst, ⊎_elim, arith}
use Rattle.std.specs.Prelude.{drop, if◌then◌else◌, ◌==◌, ◌&&◌, ◌||◌, length}
use Rattle.std.specs.Str.{bytes_eq}
use Rattle.std.proofs.lemmas.Bool.{and_parts, eqb-true, leb-true, or_cases}
use Rattle.std.proofs.lemmas.Slice.Eq.{bytes_eq-Decides}
use Rattle.mstr_block.specs.declared.call.MstrResult.TheVariants.{Good, Bad}
use Rattle.modbus_pdu.specs.Bytes.{bytes_for, word_in}
use Rattle.ring_core.specs.Statistics.{clear_statistics, get_statistics}
use Rattle.reply_laws.specs.Result.{echoes, exception_told, exchanges_registers, fits_plainly}
use Rattle.reply_laws.specs.Result.{fits_statistics, fits_words, function_in, good, is_echoed}
use Rattle.reply_laws.specs.Result.{or_good, reads_discretes, reads_registers, result_of}
use Rattle.reply_laws.specs.Result.{tells_bytes, told_bytes, writes_coil, writes_coils}
use Rattle.reply_laws.specs.Result.{writes_registers}
use Rattle.effect_laws.specs.Success.{is_exception_reply}

either : (a b : Bool) (P : Type 0) → (a || b) ≡ true → (a ≡ true → P) → (b ≡ true → P) → P
either a b P is one two =
    ⊎_elim (λ (x : a ≡ true). one x) (λ (y : b ≡ true). two y) (or_cases a b is)

-- a function code that is one of the public ones
named : (f x : ℕ) → (f == x) ≡ true → x < 128 → f < 128
named f x is low = let same = eqb-true f x is in omega (arith, same, low)

asks-registers : (ask : List ℕ) → reads_registers ask ≡ true → function_in ask < 128
asks-registers ask is =
    let f = function_in ask in
    either (f == 3) (f == 4) (f < 128) (and_parts (f == 3 || f == 4) _ is).0
    (λ e. named f 3 e (omega arith)) (λ e. named f 4 e (omega arith))

asks-discretes : (ask : List ℕ) → reads_discretes ask ≡ true → function_in ask < 128
asks-discretes ask is =
    let f = function_in ask in
    either (f == 1) (f == 2) (f < 128) (and_parts (f == 1 || f == 2) _ is).0
    (λ e. named f 1 e (omega arith)) (λ e. named f 2 e (omega arith))

asks-exchange : (ask : List ℕ) → exchanges_registers ask ≡ true → function_in ask < 128
asks-exchange ask is =
    named (function_in ask) 23
    (and_parts _ _ (and_parts _ _ (and_parts _ _ (and_parts _ _ (and_parts _ _ is).0).0).0).0).0
    (omega arith)

asks-coils : (ask : List ℕ) → writes_coils ask ≡ true → function_in ask < 128
asks-coils ask is =
    named (function_in ask) 15 (and_parts _ _ (and_parts _ _ (and_parts _ _ is).0).0).0
    (omega arith)

asks-words : (ask : List ℕ) → writes_registers ask ≡ true → function_in ask < 128
asks-words ask is =
    named (function_in ask) 16 (and_parts _ _ (and_parts _ _ (and_parts _ _ is).0).0).0
    (omega arith)

asks-coil : (ask : List ℕ) → writes_coil ask ≡ true → function_in ask < 128
asks-coil ask is = named (function_in ask) 5 (and_parts _ _ (and_parts _ _ is).0).0 (omega arith)

asks-echo : (ask : List ℕ) → is_echoed ask ≡ true → function_in ask < 128
asks-echo ask is =
    let f = function_in ask in
    let P = f < 128 in
    let coil = writes_coil ask in
    let word = f == 6 && length ask == 5 in
    let echo = echoes ask in
    let mask = f == 22 && length ask == 7 in
    either (coil || word || echo || mask) (bytes_eq ask clear_statistics) P is
    (λ a. either (coil || word || echo) mask P a
    (λ b. either (coil || word) echo P b
    (λ c. either coil word P c (asks-coil ask)
    (λ d. named f 6 (and_parts (f == 6) (length ask == 5) d).0 (omega arith)))
    (λ c. named f 8 (and_parts (f == 8) (length ask == 5)
    (and_parts (f == 8 && length ask == 5) (word_in ask 1 == 0) c).0).0 (omega arith)))
    (λ b. named f 22 (and_parts (f == 22) (length ask == 7) b).0 (omega arith)))
    (λ a. subst (λ (l : List ℕ). function_in l < 128)
    (sym ((bytes_eq-Decides ask clear_statistics).0 a)) (omega arith))

-- a reply of the request's function
tells-same : (size : ℕ) (ask reply : List ℕ) → tells_bytes size ask reply ≡ true
    → function_in reply ≡ function_in ask
tells-same size ask reply is =
    eqb-true (function_in reply) (function_in ask) (and_parts _ _ (and_parts _ _ is).0).1

first-five : (ask : List ℕ) → function_in (take 5 ask) ≡ function_in ask
first-five [] = refl
first-five (x ∷ rest) = refl

low-words : (ask reply : List ℕ) → fits_words ask reply ≡ true → function_in reply < 128
low-words ask reply is =
    let two = and_parts _ _ is in
    let same = tells-same (2 * word_in ask 3) ask reply two.1 in
    subst (λ (n : ℕ). n < 128) (sym same)
    (either (reads_registers ask) (exchanges_registers ask) (function_in ask < 128) two.0
    (asks-registers ask) (asks-exchange ask))

low-statistics : (ask reply : List ℕ) → fits_statistics ask reply ≡ true
    → function_in reply < 128
low-statistics ask reply is =
    let begins = bytes_eq (take 5 reply) get_statistics in
    let tells = (and_parts (bytes_eq ask get_statistics) (length reply == 45 && begins) is).1 in
    let head = (bytes_eq-Decides (take 5 reply) get_statistics).0
    (and_parts (length reply == 45) begins tells).1 in
    let same : function_in reply ≡ 8 = sym (first-five reply) ∙ ap function_in head in
    omega (arith, same)

low-plainly : (ask reply : List ℕ) → fits_plainly ask reply ≡ true → function_in reply < 128
low-plainly ask reply is =
    let P = function_in reply < 128 in
    either _ _ P is
    (λ a. either _ _ P a
    (λ b. let two = and_parts (reads_discretes ask) _ b in
    let same = tells-same (bytes_for (word_in ask 3)) ask reply (and_parts _ _ two.1).0 in
    subst (λ (n : ℕ). n < 128) (sym same) (asks-discretes ask two.0))
    (λ b. let two = and_parts (is_echoed ask) _ b in
    subst (λ (l : List ℕ). function_in l < 128) (sym ((bytes_eq-Decides reply ask).0 two.1))
    (asks-echo ask two.0)))
    (λ a. let two = and_parts (writes_coils ask || writes_registers ask) _ a in
    let same = (bytes_eq-Decides reply (take 5 ask)).0 two.1 in
    subst (λ (n : ℕ). n < 128) (sym (ap function_in same ∙ first-five ask))
    (either (writes_coils ask) (writes_registers ask) (function_in ask < 128) two.0
    (asks-coils ask) (asks-words ask)))

told-low : (ask reply : List ℕ) (bytes : List ℕ) → told_bytes ask reply ≡ Some bytes
    → function_in reply < 128
told-low ask reply bytes is =
    at (fits_words ask reply) (fits_statistics ask reply) (fits_plainly ask reply) refl refl refl is
  where
    at : (a b c : Bool) → fits_words ask reply ≡ a → fits_statistics ask reply ≡ b
        → fits_plainly ask reply ≡ c
        → (if a then Some (drop 2 reply) else if b then Some (drop 5 reply)
        else if c then Some [] else None) ≡ Some bytes
        → function_in reply < 128
    at true b c one two three is' = low-words ask reply one
    at false true c one two three is' = low-statistics ask reply two
    at false false true one two three is' = low-plainly ask reply three
    at false false false one two three is' = absurd cc

good-told : (told : Option (List ℕ)) (words : List ℕ) → good told ≡ Good words
    → (bytes : List ℕ) × (told ≡ Some bytes)
good-told None words is = absurd (bad-good _ _ is)
  where
    bad-good : (word : ℕ) (ws : List ℕ) → Bad word ≡ Good ws → ⊥
    bad-good word ws e = cc
good-told (Some bytes) words is = (bytes, refl)

-- a reply that tells a good result is no exception
pub good-plain : (ask reply words : List ℕ) → result_of ask reply ≡ Good words
    → is_exception_reply reply ≡ true → ⊥
good-plain ask reply words is high =
    at (exception_told (function_in ask) reply) is
  where
    at : (o : Option ℕ) → or_good o (told_bytes ask reply) ≡ Good words → ⊥
    at (Some code) is' = cc
    at None is' =
        let told = good-told (told_bytes ask reply) words is' in
        let low = told-low ask reply told.0 told.1 in
        let up = leb-true 128 (function_in reply) high in
        omega (arith, low, up)
