-- The routes of requests by their words. This project's own.
use Rattle.std.specs.Prelude.{ℕ, Bool, false, not, ◌&&◌, ◌==◌, nat_le, if◌then◌else◌, List, [], ◌∷◌}
use Rattle.std.specs.Prelude.{length, map, Option, Some, None}
use Rattle.std.specs.List.{list_all, slice_split}
use Rattle.plant_types.specs.Limits.{is_up_to, most_address}
use Rattle.plant_types.specs.Numerals.{is_numeral, value_of}
use Rattle.plant_types.specs.Routes.{route_limit}
use Rattle.plant_tables.specs.declared.tables.Version.{Version}
use Rattle.plant_tables.specs.declared.tables.Version.TheVariants.{One, Two}

-- The words of a route, which points join.
abbrev pub route_words : List ℕ → List (List ℕ)
route_words word = slice_split (λ byte. byte == 46) word

-- The most addresses of a route: in version 1 it leads over no bridge.
abbrev pub most_addresses : Version → ℕ
most_addresses One = 1
most_addresses Two = route_limit

-- A route reads: its words are numbers without a leading zero, and not too many.
abbrev pub is_route : Version → List ℕ → Bool
is_route version word =
    nat_le (length (route_words word)) (most_addresses version)
    && list_all is_numeral (route_words word)

-- The numbers of its words.
abbrev pub addresses_in : List ℕ → List ℕ
addresses_in word = map value_of (route_words word)

-- Another address than a host's own comes first.
abbrev pub begins_elsewhere : ℕ → List ℕ → Bool
begins_elsewhere node [] = false
begins_elsewhere node (first ∷ rest) = not (first == node)

-- A host of a node can ask by these numbers: each is the address of a node, and the first another
-- than its own.
abbrev pub leads_from : ℕ → List ℕ → Bool
leads_from node addresses =
    list_all (is_up_to most_address) addresses && begins_elsewhere node addresses

-- The route of a word, where a host of a node can ask by it.
abbrev pub route_from : ℕ → List ℕ → Option (List ℕ)
route_from node word =
    if leads_from node (addresses_in word) then Some (addresses_in word) else None
