-- What executing a request answers and leaves.
use Rattle.std.specs.Prelude.{◌≡◌, ◌↔◌, ℕ, true, List, Option, Some, None, Result, Ok, Err}
use Rattle.std.specs.Prelude.{IsErrOf}
use Rattle.std.specs.FinMap.{get}
use Rattle.plant_types.specs.declared.reference.Ref.{Ref}
use Rattle.plant_types.specs.declared.reference.RefKind.TheVariants as kinds
use Rattle.plant_types.specs.Reference.{ref_from}
use Rattle.plant_types.specs.Store.{Contents, Keeps, word_at, words_from, with_words}
use Rattle.modbus_pdu.specs.declared.request.Request.{Request}
use Rattle.modbus_pdu.specs.declared.reply.Reply.{Reply}
use Rattle.modbus_exec.specs.declared.end.ExecEnd.{ExecEnd}
use Rattle.modbus_exec.specs.declared.end.ExecEnd.TheVariants as ends
use Rattle.modbus_exec.specs.Answer.{Execution, execution_of, stored_by, answer_of, Writes}
use Rattle.modbus_exec.specs.Answer.{has_named_references}
use Rattle.modbus_exec.specs.Runs.{reference_at}

-- A request comes to this reply and these contents. This project's own.
abbrev pub ComesTo : Request → Contents → Contents → Reply → Type 0
ComesTo request old new reply =
    execution_of request old ≡ Ok (record { reply = reply; stored = new })

-- The answer to bytes is this reply and these contents. This project's own.
abbrev pub Answers : List ℕ → Contents → Contents → List ℕ → Type 0
Answers bytes old new reply = answer_of bytes old ≡ record { reply = reply; stored = new }

-- Every reference that a request does not write stays. This project's own.
abbrev pub KeepsOthers : Request → Contents → Contents → Type 0
KeepsOthers request old new = (at : Ref) → ¬ Writes request at → get new at ≡ get old at

-- What a request is answered: the reply that it comes to, or the code of its exception. Memory can
-- run out only where it comes to a reply. This project's own.
abbrev pub Replies : Request → Contents → Result Reply ExecEnd → Type 0
Replies request m (Ok reply) = ComesTo request m (stored_by request m) reply
Replies request m (Err (ends.Exception code)) = execution_of request m ≡ Err code
Replies request m (Err ends.NoMemory) =
    (outcome : Execution) × (execution_of request m ≡ Ok outcome)

-- What a request is answered, and the contents that are left; without a reply the contents stay as
-- they were. This project's own.
abbrev pub Executes : Request → Contents → Result Reply ExecEnd → Contents → Type 0
Executes request old (Ok reply) new = ComesTo request old new reply
Executes request old (Err (ends.Exception code)) new =
    (execution_of request old ≡ Err code) × (new ≡ old)
Executes request old (Err ends.NoMemory) new =
    ((outcome : Execution) × (execution_of request old ≡ Ok outcome)) × (new ≡ old)

-- An exception is answered exactly where it is due, and with its code. This project's own.
abbrev pub TellsException : Request → Contents → Result Reply ExecEnd → Type 0
TellsException request m result =
    (code : ℕ) → IsErrOf result (ends.Exception code) ↔ (execution_of request m ≡ Err code)

-- What is left to be written of an answer: nothing of an exception. This project's own.
abbrev pub written_by : Option Request → Contents → Contents
written_by None m = m
written_by (Some request) m = stored_by request m

-- A map has the references of what is left to be written. This project's own.
abbrev pub HasToWrite : Contents → Option Request → Type 0
HasToWrite m None = Unit {0}
HasToWrite m (Some request) = has_named_references m request ≡ true

-- The bytes of an answer, and what is left to be written of it, for which the map has the
-- references. This project's own.
pub record IsPrepared (bytes : List ℕ) (m : Contents) (reply : List ℕ)
    (request : Option Request) : Type 0 where
  pub answers : Answers bytes m (written_by request m) reply
  pub has : HasToWrite m request
  pub keeps : Keeps m (written_by request m)

-- The word that a register has, and the words that so many have, once words are stored from an
-- address on. This project's own.
abbrev pub word_after : Contents → ℕ → ℕ → ℕ → List ℕ → ℕ
word_after m read place write words =
    word_at (with_words m (reference_at kinds.Register write) words)
    (ref_from (reference_at kinds.Register read) place)

abbrev pub words_after : Contents → ℕ → ℕ → ℕ → List ℕ → List ℕ
words_after m read count write words =
    words_from (with_words m (reference_at kinds.Register write) words)
    (reference_at kinds.Register read) count
