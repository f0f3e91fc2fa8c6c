-- The requests of a host by their texts. This project's own.
use Rattle.std.specs.Prelude.{ℕ, ◌%◌, Bool, ◌&&◌, ◌==◌, if◌then◌else◌, List, [], ◌∷◌}
use Rattle.std.specs.Prelude.{length, Option, Some, None, Result, Ok}
use Rattle.std.specs.List.{list_all}
use Rattle.plant_types.specs.declared.net.HostAsk.{HostAsk}
use Rattle.plant_types.specs.declared.fault.PlantFault.TheVariants.{BadValue, BadNode}
use Rattle.plant_types.specs.declared.fault.Place.{Place}
use Rattle.plant_types.specs.Limits.{due_limit}
use Rattle.plant_types.specs.Words.{pdu_of}
use Rattle.cell_text.specs.Steps.{◌>>=◌, or_fault, unless}
use Rattle.cell_text.specs.Words.{text_words}
use Rattle.plant_loader.specs.declared.requests.RequestWords.{RequestWords as FoundWords}
use Rattle.plant_tables.specs.declared.tables.Version.{Version}
use Rattle.plant_tables.specs.Refusals.{Refusal, request_place}
use Rattle.plant_tables.specs.Numerals.{numeral_within}
use Rattle.plant_tables.specs.Routes.{is_route, route_from}
use Rattle.plant_tables.specs.Hex.{is_hex_digit, hex_pairs}
use Rattle.plant_tables.specs.InOrder.{each_from}

-- The three words of a request: the hold of the token from which on it is due, the route to the
-- node that is asked, and the PDU.
pub record RequestWords : Type 0 where
  pub hold : List ℕ
  pub route : List ℕ
  pub pdu : List ℕ

abbrev pub request_words_from : List ℕ → List ℕ → List ℕ → RequestWords
request_words_from hold route pdu = record { hold = hold; route = route; pdu = pdu }

abbrev pub request_in : FoundWords → RequestWords
request_in found = request_words_from found.hold.now found.route.now found.pdu.now

abbrev pub request_words : List (List ℕ) → Option RequestWords
request_words (hold ∷ route ∷ pdu ∷ []) = Some (request_words_from hold route pdu)
request_words _ = None

-- The PDU of a word: 1 to 253 bytes, each of two hexadecimal digits.
abbrev pub is_hex_text : List ℕ → Bool
is_hex_text word = list_all is_hex_digit word && (length word % 2 == 0)

abbrev pub pdu_spelled : List ℕ → Option (List ℕ)
pdu_spelled word = if is_hex_text word then pdu_of (hex_pairs word) else None

abbrev pub pdu_in : Place → List ℕ → Result (List ℕ) Refusal
pdu_in place word = or_fault (BadValue, place) (pdu_spelled word)

-- A request from its parts.
abbrev pub ask_from : ℕ → List ℕ → List ℕ → HostAsk
ask_from hold route pdu = record { hold = hold; route = route; pdu = pdu }

-- The request of a text of the host of a node.
unfoldable pub host_request : Version → ℕ → Place → List ℕ → Result HostAsk Refusal
host_request version node place text = do
  words ← or_fault (BadValue, place) (request_words (text_words text))
  hold ← or_fault (BadValue, place) (numeral_within 1 due_limit words.hold)
  reads ← unless (is_route version words.route) (BadValue, place)
  pdu ← pdu_in place words.pdu
  route ← or_fault (BadNode, place) (route_from node words.route)
  Ok (ask_from hold route pdu)

abbrev pub numbered_request : Version → ℕ → ℕ → ℕ → List ℕ → Result HostAsk Refusal
numbered_request version node host number text =
    host_request version node (request_place host number) text

-- The requests of the host of a node at a position.
abbrev pub requests_of : Version → ℕ → ℕ → List (List ℕ) → Result (List HostAsk) Refusal
requests_of version node host texts = each_from (numbered_request version node host) 1 texts
