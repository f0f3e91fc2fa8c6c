-- What a reply of each sort comes to.
use Rattle.std.proofs.Common.{◌≡◌, ℕ, ◌*◌, ◌≤◌, Bool, true, false, List, [], ◌∷◌, ◌++◌}
use Rattle.std.proofs.Common.{length, take, drop, Some, None, Result, Ok, Err, refl, ap}
use Rattle.std.proofs.Common.{subst, sym, ◌∙◌, inl, inr, arith}
use Rattle.std.specs.Prelude.{if◌then◌else◌, ◌⊎◌, ◌==◌}
use Rattle.std.specs.Str.{bytes_eq}
use Rattle.std.proofs.lemmas.Bool.{and_from, and_parts, both_ways, eq-eqb, eqb-true}
use Rattle.std.proofs.lemmas.Bool.{false_from_ne_true}
use Rattle.std.proofs.lemmas.List.{length-drop, take-append-drop}
use Rattle.std.proofs.lemmas.Slice.Eq.{bytes_eq-Decides}
use Rattle.plant_types.specs.Words.{statistics_words}
use Rattle.modbus_pdu.specs.Bytes.{bytes_for, clear_spare, packed, unpacked, word_bytes}
use Rattle.modbus_pdu.specs.Bytes.{words_bytes}
use Rattle.modbus_pdu.specs.Bytes.{words_in}
use Rattle.modbus_pdu.specs.Quantities.{IsUpTo, most_discretes_read, most_registers_read}
use Rattle.modbus_pdu.specs.Spelling.{IsEchoed, IsReplyInRange, request_bytes}
use Rattle.modbus_pdu.specs.Steps.{Finds, IsBits, IsNormal, IsSame, IsStats, IsWords, IsWritten}
use Rattle.modbus_pdu.specs.Steps.{IsClear}
use Rattle.modbus_pdu.specs.declared.end.BadReply.{BadReply}
use Rattle.modbus_pdu.specs.declared.end.BadReply.TheVariants.{Form}
use Rattle.modbus_pdu.specs.declared.reply.Reply.{Reply}
use Rattle.modbus_pdu.specs.declared.reply.Reply.TheVariants as replies
use Rattle.modbus_pdu.specs.declared.request.Request.{Request}
use Rattle.modbus_pdu.proofs.Bytes.{IsBytes, length-words_bytes, words_again}
use Rattle.modbus_pdu.proofs.Packing.{length-packed}
use Rattle.modbus_pdu.proofs.Registers.{counted_is}
use Rattle.modbus_pdu.proofs.Replies.{Behind, bits_found, bits_unclear, stats_found, words_found}
use Rattle.ring_core.specs.Statistics.{clear_statistics, get_statistics}
use Rattle.reply_laws.specs.Result.{function_in, good, has_clear_spare, tells_bits, tells_bytes}
use Rattle.reply_laws.specs.Result.{tells_statistics, told_bytes}
use Rattle.reply_laws.specs.Results.{result_by}
use Rattle.reply_laws.proofs.Clear.{clear-spare, spare-clear}
use Rattle.reply_laws.proofs.Tests.{behind-tells, fits-drop, good-words, tells-behind}

-- The bytes spell one normal reply to the request, and come to its result; or none, and tell none.
pub data Comes (request : Request) (ask bytes : List ℕ) : Type 0 where
  to_reply : (x : Reply) → Finds (IsNormal request bytes) (Ok x)
      → good (told_bytes ask bytes) ≡ result_by x → Comes request ask bytes
  to_none : Finds (IsNormal request bytes) (Err Form) → told_bytes ask bytes ≡ None
      → Comes request ask bytes

-- What a fact of the bytes finds, is what normal replies are found.
abbrev pub Serves : Request → List ℕ → (Reply → Type 0) → Type 0
Serves request bytes P = (r : Result Reply BadReply) → Finds P r → Finds (IsNormal request bytes) r

-- By a test that the bytes pass just where they spell the reply.
comes : (request : Request) (ask bytes : List ℕ) (P : Reply → Type 0) (t : Bool)
    (told : List ℕ) (x : Reply)
    → Serves request bytes P → told_bytes ask bytes ≡ (if t then Some told else None)
    → (t ≡ true → P x × ((y : Reply) → P y → y ≡ x) × (good (Some told) ≡ result_by x))
    → (t ≡ false → (y : Reply) → ¬ P y) → Comes request ask bytes
comes request ask bytes P true told x serves is passes fails =
    let p = passes refl in
    to_reply x (serves (Ok x) (p.0, p.1)) (ap good is ∙ p.2)
comes request ask bytes P false told x serves is passes fails =
    to_none (serves (Err Form) (fails refl)) is

-- ---- words

not-words : (f q : ℕ) (ask bytes : List ℕ) → function_in ask ≡ f
    → tells_bytes (2 * q) ask bytes ≡ false → (y : Reply) → ¬ IsWords f q bytes y
not-words f q ask bytes same t (replies.Words code words) h =
    let behind : Behind f bytes (words_bytes words) =
    h.1.form ∙ ap (λ (rest : List ℕ). code ∷ rest) (counted_is words)
    ∙ ap (λ (c : ℕ). c ∷ length (words_bytes words) ∷ words_bytes words) h.0.0 in
    let long : length (words_bytes words) ≡ 2 * q = length-words_bytes words
    ∙ ap (λ (n : ℕ). 2 * n) h.0.1 in
    both_ways (tells_bytes (2 * q) ask bytes) t
    (behind-tells (2 * q) f ask bytes (words_bytes words) same behind long)
not-words f q ask bytes same t _ h = absurd h

pub words-come : (request : Request) (f q : ℕ) (ask bytes : List ℕ) → (f ≡ 3) ⊎ (f ≡ 4) ⊎ (f ≡ 23)
    → IsUpTo most_registers_read q → IsBytes bytes → function_in ask ≡ f
    → told_bytes ask bytes ≡ (if tells_bytes (2 * q) ask bytes then Some (drop 2 bytes) else None)
    → Serves request bytes (IsWords f q bytes) → Comes request ask bytes
words-come request f q ask bytes listed range fits same told serves =
    let x = drop 2 bytes in
    let behind = fits-drop 2 bytes fits in
    comes request ask bytes (IsWords f q bytes) (tells_bytes (2 * q) ask bytes) x
    (replies.Words f (words_in x)) serves told
    (λ t.
    let b = tells-behind (2 * q) f ask bytes same t in
    let found = words_found f q bytes x (words_in x) listed b.0 range b.1
    (words_again x q behind b.1) in
    (found.0, found.1, good-words x q behind b.1))
    (not-words f q ask bytes same)

-- ---- bits

not-bits : (f q : ℕ) (ask bytes : List ℕ) → function_in ask ≡ f → 1 ≤ q → IsBytes bytes
    → tells_bits q ask bytes ≡ false → (y : Reply) → ¬ IsBits f q bytes y
not-bits f q ask bytes same some fits t (replies.Bits code bits) h =
    let n = bytes_for (length bits) in
    let x = packed n (bits ++ clear_spare (length bits)) in
    let long : length x ≡ n = length-packed n (bits ++ clear_spare (length bits)) in
    let behind : Behind f bytes x = h.1.form ∙ (λ i. h.0.0 i ∷ sym long i ∷ x) in
    let tells = behind-tells (bytes_for q) f ask bytes x same behind (long ∙ ap bytes_for h.0.1) in
    let b = tells-behind (bytes_for q) f ask bytes same tells in
    let unclear : has_clear_spare q bytes ≡ false =
    false_from_ne_true (has_clear_spare q bytes)
    (λ clear. both_ways (tells_bits q ask bytes) t (and_from _ _ tells clear)) in
    bits_unclear f q bytes (drop 2 bytes) b.0
    (λ clear. both_ways (has_clear_spare q bytes) unclear
    (clear-spare q bytes some b.1 (fits-drop 2 bytes fits) clear))
    (replies.Bits code bits) h
not-bits f q ask bytes same some fits t _ h = absurd h

pub bits-come : (request : Request) (f q : ℕ) (ask bytes : List ℕ) → (f ≡ 1) ⊎ (f ≡ 2)
    → IsUpTo most_discretes_read q → IsBytes bytes → function_in ask ≡ f
    → told_bytes ask bytes ≡ (if tells_bits q ask bytes then Some [] else None)
    → Serves request bytes (IsBits f q bytes) → Comes request ask bytes
bits-come request f q ask bytes listed range fits same told serves =
    let x = drop 2 bytes in
    comes request ask bytes (IsBits f q bytes) (tells_bits q ask bytes) []
    (replies.Bits f (take q (unpacked x))) serves told
    (λ t.
    let both = and_parts (tells_bytes (bytes_for q) ask bytes) (has_clear_spare q bytes) t in
    let b = tells-behind (bytes_for q) f ask bytes same both.0 in
    let clear : IsClear x q = spare-clear q bytes range.from b.1 both.1 in
    let found = bits_found f q bytes x (take q (unpacked x)) listed fits b.0 range b.1 clear refl in
    (found.0, found.1, refl))
    (not-bits f q ask bytes same range.from fits)

-- ---- the request again

pub same-comes : (request : Request) (ask bytes : List ℕ) → IsEchoed request
    → ask ≡ request_bytes [] request
    → told_bytes ask bytes ≡ (if bytes_eq bytes ask then Some [] else None)
    → Serves request bytes (IsSame request bytes) → Comes request ask bytes
same-comes request ask bytes echoed form told serves =
    comes request ask bytes (IsSame request bytes) (bytes_eq bytes ask) []
    (replies.Same request) serves told
    (λ t.
    ((refl, record { range = echoed; form = (bytes_eq-Decides bytes ask).0 t ∙ form }), only, refl))
    none
  where
    only : (y : Reply) → IsSame request bytes y → y ≡ replies.Same request
    only (replies.Same again) h = ap (λ (r : Request). replies.Same r) h.0
    only _ h = absurd h

    none : bytes_eq bytes ask ≡ false → (y : Reply) → ¬ IsSame request bytes y
    none t (replies.Same again) h =
        both_ways (bytes_eq bytes ask) t ((bytes_eq-Decides bytes ask).1 (h.1.form
        ∙ ap (λ (r : Request). request_bytes [] r) h.0 ∙ sym form))
    none t _ h = absurd h

-- ---- how many were written

pub written-comes : (request : Request) (f a q : ℕ) (ask bytes : List ℕ)
    → IsReplyInRange (replies.Written f a q)
    → take 5 ask ≡ f ∷ word_bytes a ++ word_bytes q
    → told_bytes ask bytes ≡ (if bytes_eq bytes (take 5 ask) then Some [] else None)
    → Serves request bytes (IsWritten f a q bytes) → Comes request ask bytes
written-comes request f a q ask bytes range head told serves =
    comes request ask bytes (IsWritten f a q bytes) (bytes_eq bytes (take 5 ask)) []
    (replies.Written f a q) serves told
    (λ t. (
      (
        (refl, refl, refl),
        record { range = range; form = (bytes_eq-Decides bytes (take 5 ask)).0 t ∙ head },
      ),
      only,
      refl,
    )) none
  where
    only : (y : Reply) → IsWritten f a q bytes y → y ≡ replies.Written f a q
    only (replies.Written code first count) h = λ i. replies.Written (h.0.0 i) (h.0.1 i) (h.0.2 i)
    only _ h = absurd h

    none : bytes_eq bytes (take 5 ask) ≡ false → (y : Reply) → ¬ IsWritten f a q bytes y
    none t (replies.Written code first count) h =
        both_ways (bytes_eq bytes (take 5 ask)) t
        ((bytes_eq-Decides bytes (take 5 ask)).1
        (h.1.form ∙ (λ i. h.0.0 i ∷ word_bytes (h.0.1 i) ++ word_bytes (h.0.2 i)) ∙ sym head))
    none t _ h = absurd h

-- ---- statistics

not-stats : (bytes : List ℕ) → tells_statistics bytes ≡ false → (y : Reply)
    → ¬ IsStats statistics_words bytes y
not-stats bytes t (replies.Stats words) h =
    let long : length (words_bytes words) ≡ 40 = length-words_bytes words
    ∙ ap (λ (n : ℕ). 2 * n) h.0 in
    let form : bytes ≡ get_statistics ++ words_bytes words =
    h.1.form ∙ ap (λ (n : ℕ). 8 ∷ word_bytes 21 ++ word_bytes (if n == 0 then 4 else 3)
    ++ words_bytes words) h.0 in
    let whole : tells_statistics (get_statistics ++ words_bytes words) ≡ true =
    and_from _ _ (eq-eqb (length (get_statistics ++ words_bytes words)) 45 (omega arith)) refl in
    both_ways (tells_statistics bytes) t
    (subst (λ (b : List ℕ). tells_statistics b ≡ true) (sym form) whole)
not-stats bytes t _ h = absurd h

pub stats-come : (request : Request) (ask bytes : List ℕ) → IsBytes bytes
    → told_bytes ask bytes ≡ (if tells_statistics bytes then Some (drop 5 bytes) else None)
    → Serves request bytes (IsStats statistics_words bytes) → Comes request ask bytes
stats-come request ask bytes fits told serves =
    let x = drop 5 bytes in
    let behind = fits-drop 5 bytes fits in
    comes request ask bytes (IsStats statistics_words bytes) (tells_statistics bytes) x
    (replies.Stats (words_in x)) serves told
    (λ t.
    let both = and_parts (length bytes == 45) (bytes_eq (take 5 bytes) get_statistics) t in
    let whole : length bytes ≡ 45 = eqb-true (length bytes) 45 both.0 in
    let long : length x ≡ 2 * 20 = omega (arith, length-drop 5 bytes) in
    let head : take 5 bytes ≡ get_statistics =
    (bytes_eq-Decides (take 5 bytes) get_statistics).0 both.1 in
    let form : bytes ≡ get_statistics ++ x = sym (take-append-drop 5 bytes)
    ∙ ap (λ (front : List ℕ). front ++ x) head in
    let found = stats_found statistics_words bytes 3 x (words_in x) (inr refl) form refl long
    (words_again x 20 behind long) in
    (found.0, found.1, good-words x 20 behind long))
    (not-stats bytes)

-- ---- a clear of the statistics

not-cleared : (bytes : List ℕ) → bytes_eq bytes clear_statistics ≡ false → (y : Reply)
    → ¬ IsStats 0 bytes y
not-cleared bytes t (replies.Stats []) h = both_ways (bytes_eq bytes clear_statistics) t
    ((bytes_eq-Decides bytes clear_statistics).1 h.1.form)
not-cleared bytes t (replies.Stats (w ∷ words)) h = absurd (omega (arith, h.0))
not-cleared bytes t _ h = absurd h

pub clear-comes : (request : Request) (ask bytes : List ℕ)
    → told_bytes ask bytes ≡ (if bytes_eq bytes clear_statistics then Some [] else None)
    → Serves request bytes (IsStats 0 bytes) → Comes request ask bytes
clear-comes request ask bytes told serves =
    comes request ask bytes (IsStats 0 bytes) (bytes_eq bytes clear_statistics) []
    (replies.Stats []) serves told
    (λ t.
    let found = stats_found 0 bytes 4 [] [] (inl refl)
    ((bytes_eq-Decides bytes clear_statistics).0 t) refl refl refl in
    (found.0, found.1, refl))
    (not-cleared bytes)
