-- What the tests of a reply's bytes say.
use Rattle.std.proofs.Common.{◌≡◌, ℕ, suc, ◌+◌, ◌*◌, ◌^◌, ◌<◌, Bool, true, List, [], ◌∷◌}
use Rattle.std.proofs.Common.{length, drop, Some, None, refl, ap, subst, sym, ◌∙◌, inl, inr}
use Rattle.std.proofs.Common.{arith}
use Rattle.std.specs.Prelude.{if◌then◌else◌, ◌⊎◌, ◌==◌, ◌&&◌}
use Rattle.std.proofs.lemmas.Bool.{and_from, and_parts, cases_eq, cases_lt, eq-eqb, eqb-true}
use Rattle.std.proofs.lemmas.Bool.{le-leb, lt-leb, ne_eqb}
use Rattle.std.proofs.lemmas.List.{get_or-drop, get_or_past}
use Rattle.std.proofs.lemmas.List.Elements.{All-get_or}
use Rattle.ring_core.specs.MstrBlock.{Good}
use Rattle.modbus_pdu.specs.Bytes.{words_in}
use Rattle.modbus_pdu.specs.Spelling.{exception_code}
use Rattle.modbus_pdu.proofs.Bytes.{IsBytes, length-words_bytes, words_again}
use Rattle.modbus_pdu.proofs.Replies.{Behind}
use Rattle.reply_laws.specs.Result.{exception_told, function_in, good, no_result, tells_bytes}
use Rattle.reply_laws.specs.Results.{AreBytes, result_with}

-- A reply is an exception reply of a function, or tells no code of it.
pub exceptions : (f : ℕ) (bytes : List ℕ)
    → ((code : ℕ) × (bytes ≡ exception_code f ∷ code ∷ [])) ⊎ (exception_told f bytes ≡ None)
exceptions f [] = inr refl
exceptions f (a ∷ []) = inr refl
exceptions f (a ∷ b ∷ c ∷ rest) = inr refl
exceptions f (a ∷ b ∷ []) = elim (cases_eq a (exception_code f)) [
  | inl e ↦ inl (b, ap (λ (x : ℕ). x ∷ b ∷ []) e)
  | inr other ↦
      inr (ap (λ (t : Bool). if t then Some b else None) (ne_eqb a (exception_code f) other))
]

-- An exception reply tells its code.
pub code-told : (f code : ℕ) → exception_told f (exception_code f ∷ code ∷ []) ≡ Some code
code-told f code = ap (λ (t : Bool). if t then Some code else None)
    (eq-eqb (exception_code f) (exception_code f) refl)

-- What is left of bytes is bytes.
pub fits-drop : (n : ℕ) (bytes : List ℕ) → IsBytes bytes → IsBytes (drop n bytes)
fits-drop n bytes fits i =
    subst (λ (b : ℕ). b < 2 ^ 8) (sym (get_or-drop n bytes i 0)) (fits (n + i))

-- A reply that tells so many bytes has these behind its count.
pub tells-behind : (size f : ℕ) (ask bytes : List ℕ) → function_in ask ≡ f
    → tells_bytes size ask bytes ≡ true
    → Behind f bytes (drop 2 bytes) × (length (drop 2 bytes) ≡ size)
tells-behind size f ask [] same t =
    let first = and_parts (0 == 2 + size && 0 == function_in ask) (0 == size) t in
    let long = eqb-true 0 (2 + size) (and_parts (0 == 2 + size) (0 == function_in ask) first.0).0 in
    absurd (omega arith)
tells-behind size f ask (a ∷ []) same t =
    let first = and_parts (1 == 2 + size && a == function_in ask) (0 == size) t in
    let long = eqb-true 1 (2 + size) (and_parts (1 == 2 + size) (a == function_in ask) first.0).0 in
    absurd (omega arith)
tells-behind size f ask (a ∷ b ∷ rest) same t =
    let whole = suc (suc (length rest)) in
    let first = and_parts (whole == 2 + size && a == function_in ask) (b == size) t in
    let second = and_parts (whole == 2 + size) (a == function_in ask) first.0 in
    let long = eqb-true whole (2 + size) second.0 in
    let head : a ≡ f = eqb-true a (function_in ask) second.1 ∙ same in
    let left : length rest ≡ size = omega arith in
    let count : b ≡ length rest = eqb-true b size first.1 ∙ sym left in
    ((λ i. head i ∷ count i ∷ rest), left)

-- A reply with so many bytes behind their count tells them.
pub behind-tells : (size f : ℕ) (ask bytes x : List ℕ) → function_in ask ≡ f → Behind f bytes x
    → length x ≡ size → tells_bytes size ask bytes ≡ true
behind-tells size f ask bytes x same e long =
    subst (λ (r : List ℕ). tells_bytes size ask r ≡ true) (sym e)
    (and_from _ _ (and_from _ _ (eq-eqb (suc (suc (length x))) (2 + size) (omega arith))
    (eq-eqb f (function_in ask) (sym same)))
    (eq-eqb (length x) size long))

-- Bytes are a result just where the words that they are make one.
pub good-words : (bytes : List ℕ) (count : ℕ) → IsBytes bytes → length bytes ≡ 2 * count
    → good (Some bytes) ≡ result_with (words_in bytes)
good-words bytes count fits even =
    let words = words_in bytes in
    let back = words_again bytes count fits even in
    let long : length bytes ≡ 2 * length words = ap length (sym back) ∙ length-words_bytes words in
    let one = λ (t : Bool). if t then Good words else no_result in
    elim (cases_lt 100 (length words)) [
      | inl more ↦ ap one (lt-leb (length bytes) 200 (omega arith))
          ∙ sym (ap one (lt-leb (length words) 100 more))
      | inr few ↦ ap one (le-leb (length bytes) 200 (omega arith))
          ∙ sym (ap one (le-leb (length words) 100 few))
    ]

-- All of them are bytes, where each is.
pub bytes-are : (bytes : List ℕ) → AreBytes bytes → IsBytes bytes
bytes-are bytes all i = elim (cases_lt i (length bytes)) [
  | inl within ↦ All-get_or (λ (b : ℕ). b < 2 ^ 8) bytes i 0 within all
  | inr past ↦ subst (λ (b : ℕ). b < 2 ^ 8) (sym (get_or_past bytes i 0 past)) (omega arith)
]
