-- What every answer of a request to a map keeps to.
use Rattle.std.proofs.Common.{◌≡◌, ◌≢◌, ℕ, ◌+◌, ◌<◌, Bool, true, false, length}
use Rattle.std.proofs.Common.{Result, Ok, Err, refl, ap, subst, sym, ◌∙◌, inl, inr, cond, arith}
use Rattle.std.specs.Prelude.{IfOk}
use Rattle.std.specs.FinMap.{get}
use Rattle.plant_types.specs.declared.reference.Ref.{Ref}
use Rattle.plant_types.specs.declared.reference.RefKind.{RefKind}
use Rattle.plant_types.specs.declared.reference.RefKind.TheVariants as kinds
use Rattle.plant_types.specs.Reference.{ref_from}
use Rattle.plant_types.specs.Store.{Contents, Keeps, word_at, with_words}
use Rattle.plant_types.proofs.RunLemmas.{length-words_from, get-insert_other, get-with_words_other}
use Rattle.plant_types.proofs.RunLemmas.{Keeps-insert, Keeps-with_words}
use Rattle.modbus_pdu.specs.Spelling.{IsRequestInRange, IsReplyInRange, IsReplyTo}
use Rattle.modbus_pdu.specs.declared.request.Request.{Request}
use Rattle.modbus_pdu.specs.declared.request.Request.TheVariants.{ReadCoils, ReadInputs}
use Rattle.modbus_pdu.specs.declared.request.Request.TheVariants.{ReadRegisters, ReadInputRegisters}
use Rattle.modbus_pdu.specs.declared.request.Request.TheVariants.{WriteCoil, WriteRegister}
use Rattle.modbus_pdu.specs.declared.request.Request.TheVariants.{Stats, WriteCoils, WriteRegisters}
use Rattle.modbus_pdu.specs.declared.request.Request.TheVariants.{Mask, ReadWrite}
use Rattle.modbus_pdu.specs.declared.reply.Reply.{Reply}
use Rattle.modbus_exec.specs.declared.end.ExecEnd.{ExecEnd}
use Rattle.modbus_exec.specs.declared.end.ExecEnd.TheVariants.{Exception, NoMemory}
use Rattle.plant_types.specs.Discretes.{bit_words}
use Rattle.modbus_exec.specs.Runs.{reference_at}
use Rattle.modbus_exec.specs.Answer.{Execution, execution_of, has_named_references, reply_by}
use Rattle.modbus_exec.specs.Answer.{stored_by}
use Rattle.modbus_exec.specs.Answer.{masked, IsOneOf, Writes}
use Rattle.modbus_exec.specs.Executing.{Executes}
use Rattle.plant_types.proofs.DiscretesLemmas.{length-bits_from, length-bit_words}
use Rattle.modbus_exec.proofs.Outcomes.{chosen}

-- The outcome that a request has.
abbrev due : Request → Contents → Execution
due request m = record { reply = reply_by request m; stored = stored_by request m }

-- A test that chose an outcome held, and chose that one.
of_test : (b : Bool) (outcome found : Execution) → chosen b outcome ≡ Ok found
    → (b ≡ true) × (outcome ≡ found)
of_test true outcome found e = (refl, cc)
of_test false outcome found e = absurd cc

-- Where there is an outcome, the map has the references, and the outcome is what is due.
came : (request : Request) (m : Contents) (outcome : Execution)
    → execution_of request m ≡ Ok outcome
    → (has_named_references m request ≡ true) × (due request m ≡ outcome)
came (Stats clear) m outcome e = absurd cc
came request m outcome e = of_test (has_named_references m request) (due request m) outcome e

-- Where there is an outcome, the map has the references.
pub answered_has : (request : Request) (m : Contents) (outcome : Execution)
    → execution_of request m ≡ Ok outcome → has_named_references m request ≡ true
answered_has request m outcome e = (came request m outcome e).0

-- A reply that fits a request, in range.
pub record Fits (request : Request) (reply : Reply) : Type 0 where
  pub range : IsReplyInRange reply
  pub to : IsReplyTo request reply

-- The reply that is due fits, if it is of the map.
reply_fits : (request : Request) (m : Contents) (outcome : Execution) → IsRequestInRange request
    → execution_of request m ≡ Ok outcome → Fits request (reply_by request m)
reply_fits (ReadCoils address quantity) m outcome range e =
    let long = length-bits_from m (reference_at kinds.Coil address) quantity in
    record {
      range = (inl refl, record { from = omega arith; to = omega arith });
      to = (refl, long);
    }
reply_fits (ReadInputs address quantity) m outcome range e =
    let long = length-bits_from m (reference_at kinds.Input address) quantity in
    record {
      range = (inr refl, record { from = omega arith; to = omega arith });
      to = (refl, long);
    }
reply_fits (ReadRegisters address quantity) m outcome range e =
    let long = length-words_from m (reference_at kinds.Register address) quantity in
    record {
      range = (inl refl, record { from = omega arith; to = omega arith });
      to = (refl, long);
    }
reply_fits (ReadInputRegisters address quantity) m outcome range e =
    let long = length-words_from m (reference_at kinds.InputRegister address) quantity in
    record {
      range = (inr (inl refl), record { from = omega arith; to = omega arith });
      to = (refl, long);
    }
reply_fits (Stats clear) m outcome range e = absurd cc
reply_fits (WriteCoils address bits) m outcome range e =
    record { range = inl (refl, range.0); to = (refl, refl, refl) }
reply_fits (WriteRegisters address words) m outcome range e =
    record { range = inr (refl, range.0); to = (refl, refl, refl) }
reply_fits (ReadWrite read quantity write words) m outcome range e =
    let after = with_words m (reference_at kinds.Register write) words in
    let long = length-words_from after (reference_at kinds.Register read) quantity in
    let reads = range.0 in
    record {
      range = (inr (inr refl), record { from = omega arith; to = omega arith });
      to = (refl, long);
    }
reply_fits _ m outcome range e = record { range = tt; to = refl }

-- The reply of every answer fits the request.
pub answer_fits : (request : Request) (m : Contents) (outcome : Execution)
    → IsRequestInRange request
    → execution_of request m ≡ Ok outcome → Fits request outcome.reply
answer_fits request m outcome range e =
    let is = ap (λ (o : Execution). o.reply) (came request m outcome e).1 in
    subst (Fits request) is (reply_fits request m outcome range e)

-- A reference that is not one of so many is none of them.
apart : (kind : RefKind) (address count : ℕ) (at : Ref) → ¬ IsOneOf kind address count at
    → (i : ℕ) → i < count → ref_from (reference_at kind address) i ≢ at
apart kind address count at other i lt e =
    let same : kind ≡ at.kind = ap (λ (r : Ref). r.kind) e in
    let number : address + 1 + i ≡ at.number = ap (λ (r : Ref). r.number) e in
    other (sym same, omega arith, omega arith)

-- The same of one reference.
apart_one : (kind : RefKind) (address : ℕ) (at : Ref) → ¬ IsOneOf kind address 1 at
    → reference_at kind address ≢ at
apart_one kind address at other e =
    let same : kind ≡ at.kind = ap (λ (r : Ref). r.kind) e in
    let number : address + 1 ≡ at.number = ap (λ (r : Ref). r.number) e in
    other (sym same, omega arith, omega arith)

-- What a request does not write stays.
stored_others : (request : Request) (m : Contents) (at : Ref) → ¬ Writes request at
    → get (stored_by request m) at ≡ get m at
stored_others (WriteCoil address on) m at other =
    let first = reference_at kinds.Coil address in
    get-insert_other m first (cond on 1 0) at (apart_one kinds.Coil address at other)
stored_others (WriteRegister address value) m at other =
    let first = reference_at kinds.Register address in
    get-insert_other m first value at (apart_one kinds.Register address at other)
stored_others (WriteCoils address bits) m at other =
    let first = reference_at kinds.Coil address in
    let size = length-bit_words bits in
    get-with_words_other m first (bit_words bits) at
    (λ i lt. apart kinds.Coil address (length bits) at other i (omega (arith, size)))
stored_others (WriteRegisters address words) m at other =
    let first = reference_at kinds.Register address in
    get-with_words_other m first words at (apart kinds.Register address (length words) at other)
stored_others (Mask address and_mask or_mask) m at other =
    let first = reference_at kinds.Register address in
    get-insert_other m first (masked (word_at m first) and_mask or_mask) at
    (apart_one kinds.Register address at other)
stored_others (ReadWrite read quantity write words) m at other =
    let first = reference_at kinds.Register write in
    get-with_words_other m first words at (apart kinds.Register write (length words) at other)
stored_others _ m at other = refl

-- No reference of the map is lost.
stored_keeps : (request : Request) (m : Contents) → Keeps m (stored_by request m)
stored_keeps (WriteCoil address on) m =
    Keeps-insert m (reference_at kinds.Coil address) (cond on 1 0)
stored_keeps (WriteRegister address value) m =
    Keeps-insert m (reference_at kinds.Register address) value
stored_keeps (WriteCoils address bits) m =
    Keeps-with_words m (reference_at kinds.Coil address) (bit_words bits)
stored_keeps (WriteRegisters address words) m =
    Keeps-with_words m (reference_at kinds.Register address) words
stored_keeps (Mask address and_mask or_mask) m =
    let first = reference_at kinds.Register address in
    Keeps-insert m first (masked (word_at m first) and_mask or_mask)
stored_keeps (ReadWrite read quantity write words) m =
    Keeps-with_words m (reference_at kinds.Register write) words
stored_keeps _ m = λ at h. h

-- Every reference that a request does not write stays.
answer_others : (request : Request) (m : Contents) (at : Ref) (outcome : Execution)
    → ¬ Writes request at → execution_of request m ≡ Ok outcome → get outcome.stored at ≡ get m at
answer_others request m at outcome other e =
    ap (λ (o : Execution). get o.stored at) (sym (came request m outcome e).1)
    ∙ stored_others request m at other

-- No reference of the map is lost.
pub answer_keeps : (request : Request) (m : Contents) (outcome : Execution)
    → execution_of request m ≡ Ok outcome → Keeps m outcome.stored
answer_keeps request m outcome e =
    let is = ap (λ (o : Execution). o.stored) (came request m outcome e).1 in
    subst (Keeps m) is (stored_keeps request m)

same_kept : (m : Contents) → Keeps m m
same_kept m at h = h

-- A reply is one that fits.
pub executed_fits : (request : Request) (old new : Contents) (result : Result Reply ExecEnd)
    → IsRequestInRange request → Executes request old result new → IfOk result (Fits request)
executed_fits request old new (Ok reply) range h =
    answer_fits request old (record { reply = reply; stored = new }) range h
executed_fits request old new (Err end) range h = tt

-- Whatever comes, the references that a request does not write stay.
pub executed_others : (request : Request) (old new : Contents) (result : Result Reply ExecEnd)
    → Executes request old result new → (at : Ref) → ¬ Writes request at
    → get new at ≡ get old at
executed_others request old new (Ok reply) h at other =
    answer_others request old at (record { reply = reply; stored = new }) other h
executed_others request old new (Err (Exception code)) h at other =
    ap (λ (m : Contents). get m at) h.1
executed_others request old new (Err NoMemory) h at other = ap (λ (m : Contents). get m at) h.1

-- Whatever comes, no reference is lost.
pub executed_keeps : (request : Request) (old new : Contents) (result : Result Reply ExecEnd)
    → Executes request old result new → Keeps old new
executed_keeps request old new (Ok reply) h =
    answer_keeps request old (record { reply = reply; stored = new }) h
executed_keeps request old new (Err (Exception code)) h =
    subst (Keeps old) (sym h.1) (same_kept old)
executed_keeps request old new (Err NoMemory) h = subst (Keeps old) (sym h.1) (same_kept old)
