-- What the steps of the decoding answer. No public clause cites any of it. This project's own.
use Rattle.std.specs.Prelude.{◌≡◌, ◌≢◌, ◌≤◌, ◌<◌, ◌*◌, false, slice_index_or, ℕ, List, [], ◌∷◌}
use Rattle.std.specs.Prelude.{◌++◌, length, Bool, Result, Ok, Err, ◌⊎◌}
use Rattle.plant_types.specs.declared.reference.RefKind.{RefKind}
use Rattle.plant_types.specs.declared.reference.RefKind.TheVariants.{Coil, Input}
use Rattle.plant_types.specs.declared.reference.RefKind.TheVariants.{InputRegister, Register}
use Rattle.modbus_pdu.specs.Bytes.{word_bytes, spare_count, unpacked}
use Rattle.modbus_pdu.specs.Exceptions.{illegal_value}
use Rattle.modbus_pdu.specs.Quantities.{most_discretes_read, most_registers_read}
use Rattle.modbus_pdu.specs.Quantities.{IsUpTo, most_coils_written, most_registers_written}
use Rattle.modbus_pdu.specs.Spelling.{IsRequestInRange, function_of, fields_of, SpellsReply}
use Rattle.modbus_pdu.specs.Spelling.{IsReplyTo, exception_code}
use Rattle.modbus_pdu.specs.declared.end.BadReply.{BadReply}
use Rattle.modbus_pdu.specs.declared.end.BadReply.TheVariants as bad
use Rattle.modbus_pdu.specs.declared.reply.Reply.{Reply}
use Rattle.modbus_pdu.specs.declared.reply.Reply.TheVariants as replies
use Rattle.modbus_pdu.specs.declared.end.DecodeEnd.{DecodeEnd}
use Rattle.modbus_pdu.specs.declared.end.DecodeEnd.TheVariants as ends
use Rattle.modbus_pdu.specs.declared.request.Request.{Request}
use Rattle.modbus_pdu.specs.declared.request.Request.TheVariants as requests

-- Two words and nothing else.
abbrev pub AreTwoWords : List ℕ → ℕ → ℕ → Type 0
AreTwoWords bytes first second = bytes ≡ word_bytes first ++ word_bytes second

abbrev pub HasNoTwoWords : List ℕ → Type 0
HasNoTwoWords bytes = (first second : ℕ) → ¬ AreTwoWords bytes first second

-- An address and a quantity from one up to the most, and nothing else.
abbrev pub IsRange : ℕ → List ℕ → ℕ → ℕ → Type 0
IsRange most bytes address quantity = IsUpTo most quantity × AreTwoWords bytes address quantity

abbrev pub HasNoRange : ℕ → List ℕ → Type 0
HasNoRange most bytes =
    (address quantity : ℕ) → IsUpTo most quantity → ¬ AreTwoWords bytes address quantity

-- Three words and nothing else.
abbrev pub AreThreeWords : List ℕ → ℕ → ℕ → ℕ → Type 0
AreThreeWords bytes first second third =
    bytes ≡ word_bytes first ++ word_bytes second ++ word_bytes third

abbrev pub HasNoThreeWords : List ℕ → Type 0
HasNoThreeWords bytes = (first second third : ℕ) → ¬ AreThreeWords bytes first second third

-- No byte counts the bytes behind it.
abbrev pub IsUncounted : List ℕ → Type 0
IsUncounted bytes = (rest : List ℕ) → bytes ≢ length rest ∷ rest

-- An address, a quantity, and what stands behind a byte that counts it.
abbrev pub Counts : List ℕ → ℕ → ℕ → List ℕ → Type 0
Counts fields address quantity rest =
    fields ≡ word_bytes address ++ word_bytes quantity ++ (length rest ∷ rest)

abbrev pub CountsNone : List ℕ → Type 0
CountsNone fields = (address quantity : ℕ) (rest : List ℕ) → ¬ Counts fields address quantity rest

-- Two addresses with a quantity each, and what stands behind a byte that counts it.
abbrev pub CountsBoth : List ℕ → ℕ → ℕ → ℕ → ℕ → List ℕ → Type 0
CountsBoth fields read quantity write count rest =
    fields
    ≡ word_bytes read
    ++ word_bytes quantity
    ++ word_bytes write
    ++ word_bytes count
    ++ (length rest ∷ rest)

abbrev pub CountsNoBoth : List ℕ → Type 0
CountsNoBoth fields =
    (read quantity write count : ℕ) (rest : List ℕ)
    → ¬ CountsBoth fields read quantity write count rest

-- A function, and what a byte behind it counts.
abbrev pub IsCounted : ℕ → List ℕ → List ℕ → Type 0
IsCounted function bytes rest = bytes ≡ function ∷ length rest ∷ rest

abbrev pub HasNoCount : ℕ → List ℕ → Type 0
HasNoCount function bytes = (rest : List ℕ) → bytes ≢ function ∷ length rest ∷ rest

-- A function, and two words behind it.
abbrev pub AreTwoOf : ℕ → List ℕ → ℕ → ℕ → Type 0
AreTwoOf function bytes first second =
    bytes ≡ function ∷ word_bytes first ++ word_bytes second

abbrev pub HasNoTwoOf : ℕ → List ℕ → Type 0
HasNoTwoOf function bytes =
    (first second : ℕ) → bytes ≢ function ∷ word_bytes first ++ word_bytes second

-- An operation on statistics, and what stands behind it.
abbrev pub IsOperation : List ℕ → ℕ → List ℕ → Type 0
IsOperation bytes operation rest = bytes ≡ 8 ∷ word_bytes 21 ++ word_bytes operation ++ rest

abbrev pub HasNoOperation : List ℕ → Type 0
HasNoOperation bytes = (operation : ℕ) (rest : List ℕ) → ¬ IsOperation bytes operation rest

-- An exception reply of a function, with its code.
abbrev pub IsExceptionOf : ℕ → List ℕ → ℕ → Type 0
IsExceptionOf function bytes code = bytes ≡ exception_code function ∷ code ∷ []

abbrev pub IsNoExceptionOf : ℕ → List ℕ → Type 0
IsNoExceptionOf function bytes = (code : ℕ) → bytes ≢ exception_code function ∷ code ∷ []

-- The form of a request, behind the function code.
abbrev pub HasFields : List ℕ → Request → Type 0
HasFields fields (requests.WriteCoils address bits) =
    (spare : List Bool)
    × (length spare ≡ spare_count (length bits))
    × (fields ≡ fields_of spare (requests.WriteCoils address bits))
HasFields fields request = fields ≡ fields_of [] request

-- What stands behind a function code is a request of that function.
pub record SpellsFields (function : ℕ) (fields : List ℕ) (request : Request) : Type 0 where
  pub code : function ≡ function_of request
  pub range : IsRequestInRange request
  pub form : HasFields fields request

-- The function that reads references of a kind.
abbrev pub reading_function : RefKind → ℕ
reading_function Coil = 1
reading_function Input = 2
reading_function Register = 3
reading_function InputRegister = 4

-- The request that reads references of a kind.
abbrev pub read_request : RefKind → ℕ → ℕ → Request
read_request Coil address quantity = requests.ReadCoils address quantity
read_request Input address quantity = requests.ReadInputs address quantity
read_request Register address quantity = requests.ReadRegisters address quantity
read_request InputRegister address quantity = requests.ReadInputRegisters address quantity

-- The most references of a kind in one read.
abbrev pub most_read : RefKind → ℕ
most_read Coil = most_discretes_read
most_read Input = most_discretes_read
most_read Register = most_registers_read
most_read InputRegister = most_registers_read

-- Behind a listed function: the request that is spelled there, or exception 3 where none is.
abbrev pub Decodes : ℕ → List ℕ → Result Request DecodeEnd → Type 0
Decodes function fields (Ok request) = SpellsFields function fields request
Decodes function fields (Err (ends.Exception code)) =
    (code ≡ illegal_value) × ((request : Request) → ¬ SpellsFields function fields request)
Decodes function fields (Err ends.NoMemory) =
    (request : Request) × SpellsFields function fields request

-- The bits of bytes behind the first so many are 0.
abbrev pub IsClear : List ℕ → ℕ → Type 0
IsClear bytes quantity =
    (place : ℕ) → quantity ≤ place → place < 8 * length bytes
    → slice_index_or (unpacked bytes) place false ≡ false

-- A function that writes references one after the other, and the most of them.
abbrev pub IsWriting : ℕ → ℕ → Type 0
IsWriting function most =
    ((function ≡ 15) × (most ≡ most_coils_written))
    ⊎ ((function ≡ 16) × (most ≡ most_registers_written))

-- The one value that a fact holds of; Form where it holds of none.
abbrev pub Finds : {A : Type 0} → (A → Type 0) → Result A BadReply → Type 0
Finds {A} Fact (Ok found) = Fact found × ((other : A) → Fact other → other ≡ found)
Finds {A} Fact (Err bad.Form) = (value : A) → ¬ Fact value
Finds {A} Fact (Err bad.NoMemory) = (value : A) × Fact value

-- A reply with bits, spelled.
abbrev pub IsBits : ℕ → ℕ → List ℕ → Reply → Type 0
IsBits function quantity bytes (replies.Bits code bits) =
    ((code ≡ function) × (length bits ≡ quantity)) × SpellsReply bytes (replies.Bits code bits)
IsBits function quantity bytes _ = ⊥

-- A reply with words, spelled.
abbrev pub IsWords : ℕ → ℕ → List ℕ → Reply → Type 0
IsWords function quantity bytes (replies.Words code words) =
    ((code ≡ function) × (length words ≡ quantity)) × SpellsReply bytes (replies.Words code words)
IsWords function quantity bytes _ = ⊥

-- A reply that tells how many were written, spelled.
abbrev pub IsWritten : ℕ → ℕ → ℕ → List ℕ → Reply → Type 0
IsWritten function address quantity bytes (replies.Written code first count) =
    ((code ≡ function) × (first ≡ address) × (count ≡ quantity))
    × SpellsReply bytes (replies.Written code first count)
IsWritten function address quantity bytes _ = ⊥

-- A reply with so many words of statistics, spelled.
abbrev pub IsStats : ℕ → List ℕ → Reply → Type 0
IsStats quantity bytes (replies.Stats words) =
    (length words ≡ quantity) × SpellsReply bytes (replies.Stats words)
IsStats quantity bytes _ = ⊥

-- The request again, spelled.
abbrev pub IsSame : Request → List ℕ → Reply → Type 0
IsSame request bytes (replies.Same again) =
    (again ≡ request) × SpellsReply bytes (replies.Same again)
IsSame request bytes _ = ⊥

-- A reply that is no exception, to a request, spelled.
abbrev pub IsNormal : Request → List ℕ → Reply → Type 0
IsNormal request bytes (replies.Exception function code) = ⊥
IsNormal request bytes reply = IsReplyTo request reply × SpellsReply bytes reply
