-- Which replies with bits or words the bytes spell.
use Rattle.std.proofs.Common.{◌≡◌, ◌≢◌, ℕ, zero, suc, ◌+◌, ◌-◌, ◌*◌, ◌^◌, ◌<◌, Bool, false}
use Rattle.std.proofs.Common.{List, [], ◌∷◌, ◌++◌, length, take, drop, replicate, get_or, Ok, Err}
use Rattle.std.proofs.Common.{refl, ap, subst, sym, ◌∙◌, arith}
use Rattle.std.specs.Prelude.{◌⊎◌}
use Rattle.std.proofs.lemmas.List.{take_at, drop_at, take-append-drop, length-append, length-take}
use Rattle.std.proofs.lemmas.List.{length-drop, length-replicate, get_or-drop}
use Rattle.modbus_pdu.specs.Bytes.{word_bytes, words_bytes, words_in, packed, unpacked, bytes_for}
use Rattle.modbus_pdu.specs.Bytes.{clear_spare, spare_count, counted_bits, counted_words}
use Rattle.plant_types.specs.Words.{statistics_words}
use Rattle.modbus_pdu.specs.Quantities.{IsUpTo, most_discretes_read, most_registers_read}
use Rattle.modbus_pdu.specs.Spelling.{operation_for}
use Rattle.modbus_pdu.specs.Steps.{IsOperation, IsClear, Finds, IsBits, IsWords, IsStats}
use Rattle.modbus_pdu.specs.declared.end.BadReply.TheVariants.{NoMemory}
use Rattle.modbus_pdu.specs.declared.reply.Reply.{Reply}
use Rattle.modbus_pdu.specs.declared.reply.Reply.TheVariants as replies
use Rattle.modbus_pdu.proofs.Bytes.{IsBytes, word_is, length-words_bytes, words_is, words_again}
use Rattle.modbus_pdu.proofs.Packing.{length-packed, length-unpacked, packed-unpacked}
use Rattle.modbus_pdu.proofs.Packing.{unpacked-packed}
use Rattle.modbus_pdu.proofs.Registers.{counted_is}

-- What stands behind a function code and a byte that counts it.
abbrev pub Behind : ℕ → List ℕ → List ℕ → Type 0
Behind function bytes rest = bytes ≡ function ∷ length rest ∷ rest

-- What is counted in bytes is bytes.
behind_fits : (function : ℕ) (bytes rest : List ℕ) → IsBytes bytes → Behind function bytes rest
    → IsBytes rest
behind_fits function bytes rest fits e i =
    subst (λ (xs : List ℕ). get_or xs (suc (suc i)) 0 < 2 ^ 8) e (fits (suc (suc i)))

-- Bytes have one such rest.
behind_one : (f g : ℕ) (bytes x y : List ℕ) → Behind f bytes x → Behind g bytes y → x ≡ y
behind_one f g bytes x y e h = let both : f ∷ length x ∷ x ≡ g ∷ length y ∷ y = sym e ∙ h in cc

-- Words stand behind their count.
words_behind : (f code : ℕ) (bytes words : List ℕ) → code ≡ f → bytes ≡ code ∷ counted_words words
    → Behind f bytes (words_bytes words)
words_behind f code bytes words same e =
    e ∙ ap (λ (rest : List ℕ). code ∷ rest) (counted_is words)
    ∙ ap (λ (c : ℕ). c ∷ length (words_bytes words) ∷ words_bytes words) same

-- No words are told where nothing is counted.
pub no_words : (f q : ℕ) (bytes : List ℕ) → ((rest : List ℕ) → bytes ≢ f ∷ length rest ∷ rest)
    → (reply : Reply) → ¬ IsWords f q bytes reply
no_words f q bytes none (replies.Words code words) h =
    none (words_bytes words) (words_behind f code bytes words h.0.0 h.1.form)
no_words f q bytes none _ h = absurd h

-- Words that were read from the bytes are the reply.
pub words_found : (f q : ℕ) (bytes x words : List ℕ) → (f ≡ 3) ⊎ (f ≡ 4) ⊎ (f ≡ 23)
    → Behind f bytes x → IsUpTo most_registers_read q → length x ≡ 2 * q → words_bytes words ≡ x
    → Finds (IsWords f q bytes) (Ok (replies.Words f words))
words_found f q bytes x words listed e range count is =
    let long : length words ≡ q = omega (arith, length-words_bytes words, ap length is) in
    let same : counted_words words ≡ length x ∷ x = counted_is words
    ∙ ap (λ (rest : List ℕ). length rest ∷ rest) is in (
      (
        (refl, long),
        record {
          range = (listed, record { from = omega arith; to = omega arith });
          form = e ∙ ap (λ (rest : List ℕ). f ∷ rest) (sym same);
        },
      ),
      only,
    )
  where
    only : (other : Reply) → IsWords f q bytes other → other ≡ replies.Words f words
    only (replies.Words code others) h =
        let rest : words_bytes others ≡ x = behind_one f f bytes (words_bytes others) x
        (words_behind f code bytes others h.0.0 h.1.form) e in
        let second : others ≡ words = words_is others words (rest ∙ sym is) in
        let first : code ≡ f = h.0.0 in
        cc
    only _ h = absurd h

-- The words that bytes tell.
pub words_there : (f q : ℕ) (bytes x : List ℕ) → (f ≡ 3) ⊎ (f ≡ 4) ⊎ (f ≡ 23) → IsBytes bytes
    → Behind f bytes x → IsUpTo most_registers_read q → length x ≡ 2 * q
    → Finds (IsWords f q bytes) (Err NoMemory)
words_there f q bytes x listed fits e range count = (
  replies.Words f (words_in x),
  (words_found f q bytes x (words_in x) listed e range count
      (words_again x q (behind_fits f bytes x fits e) count)).0,
)

-- Bits stand behind their count.
bits_behind : (f code : ℕ) (bytes : List ℕ) (bits spare : List Bool) → code ≡ f
    → bytes ≡ code ∷ counted_bits bits spare
    → Behind f bytes (packed (bytes_for (length bits)) (bits ++ spare))
bits_behind f code bytes bits spare same e =
    rw (length-packed (bytes_for (length bits)) (bits ++ spare), ← same) e

-- No bits are told where nothing is counted.
pub no_bits : (f q : ℕ) (bytes : List ℕ) → ((rest : List ℕ) → bytes ≢ f ∷ length rest ∷ rest)
    → (reply : Reply) → ¬ IsBits f q bytes reply
no_bits f q bytes none (replies.Bits code bits) h =
    none _ (bits_behind f code bytes bits (clear_spare (length bits)) h.0.0 h.1.form)
no_bits f q bytes none _ h = absurd h

-- The bits of a reply and its spare bits are those in the bytes.
bits_are : (f q : ℕ) (bytes x : List ℕ) → Behind f bytes x → (code : ℕ) (bits : List Bool)
    → IsBits f q bytes (replies.Bits code bits)
    → bits ++ clear_spare (length bits) ≡ unpacked x
bits_are f q bytes x e code bits h =
    let spare = clear_spare (length bits) in
    let rest = behind_one f f bytes (packed (bytes_for (length bits)) (bits ++ spare)) x
    (bits_behind f code bytes bits spare h.0.0 h.1.form) e in
    let full : length (bits ++ spare) ≡ 8 * bytes_for (length bits) =
    omega (
      arith,
      length-append bits spare,
      length-replicate {A = Bool} (8 * bytes_for (length bits) - length bits) false,
    ) in
    sym (unpacked-packed (bytes_for (length bits)) (bits ++ spare) full) ∙ ap unpacked rest

clear-replicate : (count i : ℕ) → get_or (replicate count false) i false ≡ false
clear-replicate zero i = refl
clear-replicate (suc count) zero = refl
clear-replicate (suc count) (suc i) = clear-replicate count i

-- A list of zeros.
all_clear : (bits : List Bool) → ((i : ℕ) → i < length bits → get_or bits i false ≡ false)
    → bits ≡ replicate (length bits) false
all_clear [] clear = refl
all_clear (bit ∷ bits) clear =
    let first : bit ≡ false = clear 0 (omega arith) in
    let rest : bits ≡ replicate (length bits) false =
    all_clear bits (λ i lt. clear (suc i) (omega arith)) in
    rw (first, ← rest) refl

-- No bits are told where a spare bit is not 0.
pub bits_unclear : (f q : ℕ) (bytes x : List ℕ) → Behind f bytes x → ¬ IsClear x q → (reply : Reply)
    → ¬ IsBits f q bytes reply
bits_unclear f q bytes x e unclear (replies.Bits code bits) h =
    let all = bits_are f q bytes x e code bits h in
    let long : length bits ≡ q = h.0.1 in
    let back : drop q (unpacked x) ≡ clear_spare (length bits) = ap (drop q) (sym all)
    ∙ drop_at bits (clear_spare (length bits)) q long in
    unclear
    (λ place le lt.
    let there : q + (place - q) ≡ place = omega arith in
    ap (λ (i : ℕ). get_or (unpacked x) i false) (sym there)
    ∙ sym (get_or-drop q (unpacked x) (place - q) false)
    ∙ ap (λ (bs : List Bool). get_or bs (place - q) false) back
    ∙ clear-replicate (spare_count (length bits)) (place - q))
bits_unclear f q bytes x e unclear _ h = absurd h

-- The bits that bytes tell.
bits_told : (f q : ℕ) (bytes x : List ℕ) → (f ≡ 1) ⊎ (f ≡ 2) → IsBytes bytes → Behind f bytes x
    → IsUpTo most_discretes_read q → length x ≡ bytes_for q → IsClear x q
    → IsBits f q bytes (replies.Bits f (take q (unpacked x)))
bits_told f q bytes x listed fits e range count clear =
    let bits = take q (unpacked x) in
    let long : length bits ≡ q = omega (arith, length-take q (unpacked x), length-unpacked x) in
    let behind : length (drop q (unpacked x)) ≡ 8 * bytes_for q - q =
    omega (arith, length-drop q (unpacked x), length-unpacked x) in
    let zeros : drop q (unpacked x) ≡ clear_spare q =
    all_clear (drop q (unpacked x)) (λ i lt. get_or-drop q (unpacked x) i false
    ∙ clear (q + i) (omega arith) (omega (arith, length-unpacked x)))
    ∙ ap (λ (n : ℕ). replicate n false) behind in
    let back : packed (bytes_for q) (bits ++ clear_spare q) ≡ x =
    ap (λ (spare : List Bool). packed (bytes_for q) (bits ++ spare)) (sym zeros)
    ∙ ap (packed (bytes_for q)) (take-append-drop q (unpacked x))
    ∙ ap (λ (n : ℕ). packed n (unpacked x)) (sym count)
    ∙ packed-unpacked x (behind_fits f bytes x fits e) in
    let form : bytes ≡ f ∷ counted_bits bits (clear_spare (length bits)) =
    e
    ∙ ap (λ (n : ℕ). f ∷ n ∷ x) count
    ∙ ap (λ (xs : List ℕ). f ∷ bytes_for q ∷ xs) (sym back)
    ∙ ap (λ (n : ℕ). f ∷ bytes_for n ∷ packed (bytes_for n) (bits ++ clear_spare n)) (sym long) in (
      (refl, long),
      record { range = (listed, record { from = omega arith; to = omega arith }); form = form },
    )

-- Bits that were read from the bytes are the reply.
pub bits_found : (f q : ℕ) (bytes x : List ℕ) (bits : List Bool) → (f ≡ 1) ⊎ (f ≡ 2)
    → IsBytes bytes → Behind f bytes x → IsUpTo most_discretes_read q
    → length x ≡ bytes_for q → IsClear x q
    → bits ≡ take q (unpacked x) → Finds (IsBits f q bytes) (Ok (replies.Bits f bits))
bits_found f q bytes x bits listed fits e range count clear is =
    let P : List Bool → Type 0 = λ b. Finds (IsBits f q bytes) (Ok (replies.Bits f b)) in
    subst P (sym is) (bits_told f q bytes x listed fits e range count clear, only)
  where
    only : (other : Reply) → IsBits f q bytes other → other ≡ replies.Bits f (take q (unpacked x))
    only (replies.Bits code others) h =
        let all = bits_are f q bytes x e code others h in
        let front : others ≡ take q (unpacked x) =
        sym (take_at others (clear_spare (length others)) q h.0.1) ∙ ap (take q) all in
        let first : code ≡ f = h.0.0 in
        cc
    only _ h = absurd h

-- The bits that bytes tell are there.
pub bits_there : (f q : ℕ) (bytes x : List ℕ) → (f ≡ 1) ⊎ (f ≡ 2) → IsBytes bytes
    → Behind f bytes x → IsUpTo most_discretes_read q → length x ≡ bytes_for q → IsClear x q
    → Finds (IsBits f q bytes) (Err NoMemory)
bits_there f q bytes x listed fits e range count clear =
    (replies.Bits f (take q (unpacked x)), bits_told f q bytes x listed fits e range count clear)

-- No statistics are told where no operation stands.
pub no_stats : (q : ℕ) (bytes : List ℕ)
    → ((operation : ℕ) (rest : List ℕ) → bytes ≢ 8 ∷ word_bytes 21 ++ word_bytes operation ++ rest)
    → (reply : Reply) → ¬ IsStats q bytes reply
no_stats q bytes none (replies.Stats words) h =
    none (operation_for (length words)) (words_bytes words) h.1.form
no_stats q bytes none _ h = absurd h

-- No statistics are told where the operation or the length does not fit.
pub stats_unfit : (q : ℕ) (bytes : List ℕ) (operation : ℕ) (rest : List ℕ)
    → IsOperation bytes operation rest
    → (operation ≡ operation_for q → length rest ≢ 2 * q) → (reply : Reply)
    → ¬ IsStats q bytes reply
stats_unfit q bytes operation rest e unfit (replies.Stats words) h =
    let both : 8 ∷ word_bytes 21 ++ word_bytes operation ++ rest ≡ 8 ∷ word_bytes 21 ++ word_bytes
    (operation_for (length words)) ++ words_bytes words =
    sym e ∙ h.1.form in
    let tail : word_bytes operation ++ rest
    ≡ word_bytes (operation_for (length words)) ++ words_bytes words = cc in
    let one = word_is operation (operation_for (length words)) rest (words_bytes words) tail in
    unfit (one.0 ∙ ap operation_for h.0)
    (ap length one.1 ∙ length-words_bytes words ∙ ap (λ (n : ℕ). 2 * n) h.0)
stats_unfit q bytes operation rest e unfit _ h = absurd h

-- Statistics that were read from the bytes are the reply.
pub stats_found : (q : ℕ) (bytes : List ℕ) (operation : ℕ) (rest words : List ℕ)
    → (q ≡ 0) ⊎ (q ≡ statistics_words) → IsOperation bytes operation rest
    → operation ≡ operation_for q
    → length rest ≡ 2 * q → words_bytes words ≡ rest
    → Finds (IsStats q bytes) (Ok (replies.Stats words))
stats_found q bytes operation rest words listed e op count is =
    let long : length words ≡ q = omega (arith, length-words_bytes words, ap length is) in
    let P : ℕ → Type 0 = λ n. (n ≡ 0) ⊎ (n ≡ statistics_words) in (
      (
        long,
        record {
          range = subst P (sym long) listed;
          form = e
              ∙ ap (λ (n : ℕ). 8 ∷ word_bytes 21 ++ word_bytes n ++ rest)
              (op ∙ ap operation_for (sym long))
              ∙ ap (λ (xs : List ℕ). 8 ∷ word_bytes 21 ++ word_bytes (operation_for (length words))
              ++ xs) (sym is);
        },
      ),
      only,
    )
  where
    only : (other : Reply) → IsStats q bytes other → other ≡ replies.Stats words
    only (replies.Stats others) h =
        let both : 8 ∷ word_bytes 21 ++ word_bytes operation ++ rest
        ≡ 8 ∷ word_bytes 21 ++ word_bytes
        (operation_for (length others)) ++ words_bytes others =
        sym e ∙ h.1.form in
        let tail : word_bytes operation ++ rest
        ≡ word_bytes (operation_for (length others)) ++ words_bytes others = cc in
        let one = word_is operation (operation_for (length others)) rest
        (words_bytes others) tail in
        ap (λ (xs : List ℕ). replies.Stats xs) (words_is others words (sym one.1 ∙ sym is))
    only _ h = absurd h

-- The statistics that bytes tell.
pub stats_there : (q : ℕ) (bytes : List ℕ) (operation : ℕ) (rest : List ℕ)
    → (q ≡ 0) ⊎ (q ≡ statistics_words)
    → IsBytes bytes → IsOperation bytes operation rest → operation ≡ operation_for q
    → length rest ≡ 2 * q → Finds (IsStats q bytes) (Err NoMemory)
stats_there q bytes operation rest listed fits e op count =
    let behind : IsBytes rest =
    λ i. subst (λ (xs : List ℕ). get_or xs (suc (suc (suc (suc (suc i))))) 0 < 2 ^ 8) e
    (fits (suc (suc (suc (suc (suc i)))))) in (
      replies.Stats (words_in rest),
      (stats_found q bytes operation rest (words_in rest) listed e op count
          (words_again rest q behind count)).0,
    )
