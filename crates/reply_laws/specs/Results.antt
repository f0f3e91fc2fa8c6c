-- What a reply comes to, by the grammar of requests and replies. This project's own.
use Rattle.std.specs.Prelude.{◌≡◌, ◌≢◌, ℕ, ◌^◌, ◌<◌, nat_le, if◌then◌else◌, List, [], ◌∷◌}
use Rattle.std.specs.Prelude.{length}
use Rattle.std.specs.List.{All}
use Rattle.plant_types.specs.Words.{most_block_words}
use Rattle.ring_core.specs.MstrBlock.{Good, MstrResult}
use Rattle.modbus_pdu.specs.Spelling.{Spells, exception_code}
use Rattle.modbus_pdu.specs.Decoding.{IsSpelledReply, HasNoReply, IsUnspelled}
use Rattle.modbus_pdu.specs.declared.request.Request.{Request}
use Rattle.modbus_pdu.specs.declared.reply.Reply.{Reply}
use Rattle.modbus_pdu.specs.declared.reply.Reply.TheVariants as replies
use Rattle.reply_laws.specs.Result.{exception_result, function_in, no_result, result_of}

-- Each number is a byte, as those of a PDU are.
abbrev pub AreBytes : List ℕ → Type 0
AreBytes bytes = All (λ byte. byte < 2 ^ 8) bytes

-- Words are the result where they are no more than a block has.
abbrev pub result_with : List ℕ → MstrResult
result_with words = if nat_le (length words) most_block_words then Good words else no_result

-- What a reply tells: an exception its code, registers and statistics their words, each other
-- reply none.
abbrev pub result_by : Reply → MstrResult
result_by (replies.Exception function code) = exception_result code
result_by (replies.Words function registers) = result_with registers
result_by (replies.Stats statistics) = result_with statistics
result_by _ = Good []

-- Where the bytes spell a reply to the request that was asked, the result is what that tells.
abbrev pub AnswersGiveTheirResult : Type 0
AnswersGiveTheirResult = (request : Request) (answer : Reply) (ask bytes : List ℕ) →
    Spells ask request → AreBytes bytes → IsSpelledReply request bytes answer →
    result_of ask bytes ≡ result_by answer

-- Where they spell none, they give no result.
abbrev pub OthersGiveNone : Type 0
OthersGiveNone = (request : Request) (ask bytes : List ℕ) →
    Spells ask request → AreBytes bytes → HasNoReply request bytes →
    result_of ask bytes ≡ no_result

-- An exception reply of the function that was asked gives its code, and all else no result.
pub record GivesCodes (ask bytes : List ℕ) : Type 0 where
  pub code : (code : ℕ) → bytes ≡ exception_code (function_in ask) ∷ code ∷ []
      → result_of ask bytes ≡ exception_result code
  pub other : ((code : ℕ) → bytes ≢ exception_code (function_in ask) ∷ code ∷ [])
      → result_of ask bytes ≡ no_result

-- So it is where the bytes that were asked spell no request.
abbrev pub UnaskedGiveCodes : Type 0
UnaskedGiveCodes = (ask bytes : List ℕ) → AreBytes ask → IsUnspelled ask → GivesCodes ask bytes
