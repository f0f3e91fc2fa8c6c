-- Answers fit the requests that controllers ask: they come to no 3000.
use Rattle.std.proofs.Common.{◌≡◌, ◌≢◌, ℕ, ◌+◌, ◌*◌, ◌≤◌, Bool, true, false, List}
use Rattle.std.proofs.Common.{[]}
use Rattle.std.proofs.Common.{◌∷◌, length, take, drop, Some, None, refl, sym, ap, ◌∙◌}
use Rattle.std.proofs.Common.{subst, arith, slice_index}
use Rattle.std.specs.Prelude.{◌||◌, if◌then◌else◌, nat_lt, Ok, Err}
use Rattle.std.specs.Str.{bytes_eq}
use Rattle.std.proofs.lemmas.Bool.{and_from, eq-eqb, le-leb}
use Rattle.std.proofs.lemmas.Slice.Eq.{bytes_eq-Decides}
use Rattle.plant_types.specs.Store.{Contents, words_from}
use Rattle.plant_types.specs.declared.net.NetPlan.{NetPlan}
use Rattle.plant_types.specs.declared.reference.RefKind.TheVariants as kinds
use Rattle.plant_types.proofs.RunLemmas.{length-words_from}
use Rattle.mstr_block.specs.declared.call.MstrResult.{MstrResult}
use Rattle.mstr_block.specs.declared.call.MstrResult.TheVariants.{Good, Bad}
use Rattle.modbus_pdu.specs.Bytes.{word_in, words_in, word_bytes, words_bytes}
use Rattle.modbus_pdu.specs.Exceptions.{illegal_address, illegal_function}
use Rattle.modbus_pdu.specs.Quantities.{is_up_to, most_registers_read, most_registers_written}
use Rattle.modbus_pdu.specs.Spelling.{exception_code, operation_for, reply_bytes, spelling_of}
use Rattle.modbus_pdu.specs.Spelling.{Spells}
use Rattle.modbus_pdu.specs.declared.request.Request.{Request}
use Rattle.modbus_pdu.specs.declared.request.Request.TheVariants as requests
use Rattle.modbus_pdu.specs.declared.reply.Reply.TheVariants as replies
use Rattle.modbus_pdu.proofs.Bytes.{length-words_bytes}
use Rattle.modbus_exec.specs.Answer.{Answer, answer_of, answer_with, has_named_references}
use Rattle.modbus_exec.specs.Answer.{reply_by, stored_by}
use Rattle.modbus_exec.specs.Runs.{reference_at}
use Rattle.modbus_exec.proofs.GrammarAnswers.{answer_by_function}
use Rattle.ring_core.specs.declared.entry.LocalOp.{LocalOp}
use Rattle.ring_core.specs.declared.entry.LocalOp.TheVariants.{GetStats, ClearStats, PutGlobal}
use Rattle.ring_core.specs.declared.entry.LocalOp.TheVariants.{GetGlobal, RemoteGet, RemoteClear}
use Rattle.ring_core.specs.declared.entry.RingEntry.{RingEntry}
use Rattle.ring_core.specs.Scratch.{global_answer, heard_words, local_result, statistics}
use Rattle.ring_core.specs.Statistics.{clear_statistics, get_statistics}
use Rattle.host_port.specs.Legal.{refusal_to}
use Rattle.tied_lists.specs.Items.{reply_of, request_of, words_told}
use Rattle.reply_laws.specs.Result.{has_byte_count, exception_told, fits_plainly, fits_statistics}
use Rattle.reply_laws.specs.Result.{fits_words}
use Rattle.reply_laws.specs.Result.{function_in, good, or_good, reads_registers, result_of}
use Rattle.reply_laws.specs.Result.{tells_bytes, told_bytes, writes_registers}

-- what a controller asks another node for
pub data NetAsk (pdu : List ℕ) : Type 0 where
  to_write : (address : ℕ) (words : List ℕ) → 1 ≤ length words → length words ≤ 100
      → pdu ≡ spelling_of (requests.WriteRegisters address words) → NetAsk pdu
  to_read : (address count : ℕ) → 1 ≤ count → count ≤ 100
      → pdu ≡ spelling_of (requests.ReadRegisters address count) → NetAsk pdu
  for_statistics : (clear : Bool) → pdu ≡ spelling_of (requests.Stats clear) → NetAsk pdu

-- a reply fits a request, as far as the word 3000 goes
abbrev pub Fitting : List ℕ → List ℕ → Type 0
Fitting ask reply = result_of ask reply ≢ Bad 0x3000

-- ---- results

good-bad : (words : List ℕ) (word : ℕ) → Good words ≢ Bad word
good-bad words word is = cc

bad-code : (code : ℕ) → 1 ≤ code → Bad (0x3000 + code) ≢ Bad 0x3000
bad-code code some is =
    let same : (◌≡◌) {A = ℕ} (0x3000 + code) 0x3000 = cc in omega (arith, some, same)

good-told : (bytes : List ℕ) → length bytes ≤ 200 → good (Some bytes) ≢ Bad 0x3000
good-told bytes few is =
    good-bad (words_in bytes) 0x3000
    (sym (ap (λ b. if b then Good (words_in bytes) else Bad 0x3000)
    (le-leb (length bytes) 200 few)) ∙ is)

-- an exception reply of the request's function
pub exception-fits : (ask : List ℕ) (code : ℕ) → 1 ≤ code
    → Fitting ask (exception_code (function_in ask) ∷ code ∷ [])
exception-fits ask code some is =
    let same = eq-eqb (exception_code (function_in ask)) (exception_code (function_in ask)) refl in
    bad-code code some
    (sym (ap (λ b. or_good (if b then Some code else None)
    (told_bytes ask (exception_code (function_in ask) ∷ code ∷ []))) same) ∙ is)

pub refusal-fits : (ask : List ℕ) → Fitting ask (refusal_to ask)
refusal-fits ask = exception-fits ask illegal_function (omega arith)

-- ---- a write

write-fits : (address : ℕ) (words : List ℕ) → 1 ≤ length words → length words ≤ 100
    → Fitting (spelling_of (requests.WriteRegisters address words))
    (reply_bytes (replies.Written 16 address (length words)))
write-fits address words some few is =
    let ask = spelling_of (requests.WriteRegisters address words) in
    let reply = reply_bytes (replies.Written 16 address (length words)) in
    let long = length-words_bytes words in
    let count : word_in ask 3 ≡ length words = omega arith in
    let bytes : length ask ≡ 6 + 2 * length words = omega (arith, long) in
    let enough = le-leb 6 (length ask) (omega (arith, bytes)) in
    let least = le-leb 1 (word_in ask 3) (omega (arith, count, some)) in
    let most = le-leb (word_in ask 3) most_registers_written (omega (arith, count, few)) in
    let told = eq-eqb (slice_index ask 5) (2 * word_in ask 3) (omega (arith, count)) in
    let whole = eq-eqb (length ask) (6 + 2 * word_in ask 3) (omega (arith, bytes, count)) in
    let quantity : is_up_to most_registers_written (word_in ask 3)
    ≡ true = and_from _ _ least most in
    let counted : has_byte_count (2 * word_in ask 3) ask ≡ true = and_from _ _ told whole in
    let writes : writes_registers ask
    ≡ true = and_from _ _ (and_from _ _ enough quantity) counted in
    let same : bytes_eq reply (take 5 ask) ≡ true = (bytes_eq-Decides reply (take 5 ask)).1 refl in
    let plainly : fits_plainly ask reply ≡ true = and_from _ _ writes same in
    good-bad [] 0x3000 (sym (ap (λ b. good (if b then Some [] else None)) plainly) ∙ is)

-- ---- a read

told-none : (count : ℕ) (rest : List ℕ) → exception_told 3 (3 ∷ count ∷ rest) ≡ None
told-none count [] = refl
told-none count (x ∷ rest) = refl

read-fits : (address count : ℕ) (words : List ℕ) → 1 ≤ count → count ≤ 100 → length words ≡ count
    → Fitting (spelling_of (requests.ReadRegisters address count))
    (reply_bytes (replies.Words 3 words))
read-fits address count words some few size is =
    let ask = spelling_of (requests.ReadRegisters address count) in
    let reply = reply_bytes (replies.Words 3 words) in
    let long = length-words_bytes words in
    let quantity : word_in ask 3 ≡ count = omega arith in
    let least = le-leb 1 (word_in ask 3) (omega (arith, quantity, some)) in
    let most = le-leb (word_in ask 3) most_registers_read (omega (arith, quantity, few)) in
    let whole = eq-eqb (length reply) (2 + 2 * word_in ask 3)
    (omega (arith, long, quantity, size)) in
    let counted = eq-eqb (slice_index reply 1) (2 * word_in ask 3)
    (omega (arith, quantity, size)) in
    let reads : reads_registers ask
    ≡ true = and_from _ _ refl (and_from _ _ refl (and_from _ _ least most)) in
    let tells : tells_bytes (2 * word_in ask 3) ask reply
    ≡ true = and_from _ _ (and_from _ _ whole refl) counted in
    let fits : fits_words ask reply ≡ true = and_from _ _ (ap (λ b. b || false) reads) tells in
    let short : length (words_bytes words) ≤ 200 = omega (arith, long, size, few) in
    let result : result_of ask reply ≡ good (Some (words_bytes words)) =
    ap (λ o. or_good o (told_bytes ask reply)) (told-none (2 * length words) (words_bytes words))
    ∙ ap (λ b. good (if b then Some (drop 2 reply) else if fits_statistics ask reply then Some
    (drop 5 reply)
    else if fits_plainly ask reply then Some [] else None)) fits in
    good-told (words_bytes words) short (sym result ∙ is)

-- ---- what controllers answer

abbrev FitsAnswer : List ℕ → Contents → Type 0
FitsAnswer ask m = Fitting ask (answer_of ask m).reply

write-answer : (address : ℕ) (words : List ℕ) (m : Contents) → 1 ≤ length words
    → length words ≤ 100
    → FitsAnswer (spelling_of (requests.WriteRegisters address words)) m
write-answer address words m some few =
    subst (λ (a : Answer). Fitting ask a.reply) (sym (answer_by_function ask m request spells))
    (at (has_named_references m request))
  where
    request : Request
    request = requests.WriteRegisters address words

    ask : List ℕ
    ask = spelling_of request

    spells : Spells ask request
    spells = record {
      range = (record { from = some; to = omega (arith, few) }, tt);
      form = refl;
    }

    at : (b : Bool) → Fitting ask
        (answer_with 16 (if b then Ok
        (record { reply = reply_by request m; stored = stored_by request m })
        else Err illegal_address) m).reply
    at true = write-fits address words some few
    at false = exception-fits ask illegal_address (omega arith)

read-answer : (address count : ℕ) (m : Contents) → 1 ≤ count → count ≤ 100
    → FitsAnswer (spelling_of (requests.ReadRegisters address count)) m
read-answer address count m some few =
    subst (λ (a : Answer). Fitting ask a.reply) (sym (answer_by_function ask m request spells))
    (at (has_named_references m request))
  where
    request : Request
    request = requests.ReadRegisters address count

    ask : List ℕ
    ask = spelling_of request

    spells : Spells ask request
    spells = record {
      range = (record { from = some; to = omega (arith, few) }, tt);
      form = refl;
    }

    at : (b : Bool) → Fitting ask
        (answer_with 3 (if b then Ok (record
        { reply = reply_by request m; stored = stored_by request m })
        else Err illegal_address) m).reply
    at true =
        read-fits address count (words_from m (reference_at kinds.Register address) count) some few
        (length-words_from m (reference_at kinds.Register address) count)
    at false = exception-fits ask illegal_address (omega arith)

stats-answer : (clear : Bool) (m : Contents) → FitsAnswer (spelling_of (requests.Stats clear)) m
stats-answer clear m =
    subst (λ (a : Answer). Fitting (spelling_of (requests.Stats clear)) a.reply)
    (sym (answer_by_function (spelling_of (requests.Stats clear)) m (requests.Stats clear)
    (record { range = tt; form = refl })))
    (exception-fits (spelling_of (requests.Stats clear)) illegal_function (omega arith))

pub answer-fits : (ask : List ℕ) (m : Contents) → NetAsk ask → FitsAnswer ask m
answer-fits ask m (to_write address words some few is) =
    subst (λ (l : List ℕ). FitsAnswer l m) (sym is) (write-answer address words m some few)
answer-fits ask m (to_read address count some few is) =
    subst (λ (l : List ℕ). FitsAnswer l m) (sym is) (read-answer address count m some few)
answer-fits ask m (for_statistics clear is) =
    subst (λ (l : List ℕ). FitsAnswer l m) (sym is) (stats-answer clear m)

-- ---- what ports answer

words-fit : (words : List ℕ) → length words ≡ 20
    → Fitting get_statistics (reply_bytes (replies.Stats words))
words-fit words size is =
    let reply = reply_bytes (replies.Stats words) in
    let long = length-words_bytes words in
    let operation : operation_for (length words) ≡ 3 = ap operation_for size in
    let whole = eq-eqb (length reply) 45 (omega (arith, long, size)) in
    let head : take 5 reply ≡ get_statistics = ap (λ o. 8 ∷ 0 ∷ 0x15 ∷ word_bytes o) operation in
    let tells = and_from _ _ whole ((bytes_eq-Decides (take 5 reply) get_statistics).1 head) in
    let fits : fits_statistics get_statistics reply ≡ true = and_from _ _ refl tells in
    let short : length (words_bytes words) ≤ 200 = omega (arith, long, size) in
    good-told (words_bytes words) short
    (sym (ap (λ b. good (if b then Some (drop 5 reply) else if fits_plainly get_statistics reply
    then Some [] else None)) fits) ∙ is)

pub port-fits : (net : NetPlan) (past : List RingEntry) (n : ℕ) (op : LocalOp)
    (result : MstrResult) (ask : List ℕ) → request_of op ≡ Some ask
    → result ≡ local_result net past n op → Fitting ask (reply_of result)
port-fits net past n GetStats result ask is told = absurd (let no' : None ≡ Some ask = is in cc)
port-fits net past n ClearStats result ask is told = absurd (let no' : None ≡ Some ask = is in cc)
port-fits net past n (PutGlobal words) result ask is told =
    absurd (let no' : None ≡ Some ask = is in cc)
port-fits net past n (GetGlobal node size) result ask is told =
    absurd (let no' : None ≡ Some ask = is in cc)
port-fits net past n RemoteGet result ask is told =
    let same : get_statistics ≡ ask = cc in
    subst (λ (l : List ℕ). Fitting l (reply_of result)) same
    (words-fit (words_told result) (ap (λ (x : MstrResult). length (words_told x)) told))
port-fits net past n RemoteClear result ask is told =
    let same : clear_statistics ≡ ask = cc in
    subst (λ (l : List ℕ). Fitting l (reply_of result)) same
    (subst (λ (x : MstrResult). Fitting clear_statistics (reply_of x)) (sym told)
    (good-bad [] 0x3000))

heard-good : (heard : List ℕ) (size : ℕ) → global_answer heard size ≢ Bad 0x3000
heard-good heard size is = at (nat_lt (length heard) size) is
  where
    at : (b : Bool) → (if b then Bad 0x200a else Good (length heard ∷ take size heard)) ≢ Bad
        0x3000
    at true same = let word : (◌≡◌) {A = ℕ} 0x200a 0x3000 = cc in omega (arith, word)
    at false same = good-bad _ 0x3000 same

-- what a port did at home came to no 3000 either
pub port-good : (net : NetPlan) (past : List RingEntry) (n : ℕ) (op : LocalOp)
    → local_result net past n op ≢ Bad 0x3000
port-good net past n GetStats is = good-bad (statistics net past n) 0x3000 is
port-good net past n ClearStats is = good-bad [] 0x3000 is
port-good net past n (PutGlobal words) is = good-bad [] 0x3000 is
port-good net past n (GetGlobal node size) is = heard-good (heard_words node past) size is
port-good net past n RemoteGet is = good-bad (statistics net past n) 0x3000 is
port-good net past n RemoteClear is = good-bad [] 0x3000 is
