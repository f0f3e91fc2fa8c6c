-- Routes: the addresses by which a frame goes.
use Rattle.std.specs.Prelude.{◌≡◌, ◌≤◌, ◌-◌, ℕ, List, [], ◌∷◌, ◌++◌, length, take}
use Rattle.std.specs.Prelude.{replicate, Option, Some, None}

-- The most addresses of a route. Modbus Plus Network Planning and Installation Guide.
abbrev pub route_limit : ℕ
route_limit = 5

-- A route has at most five addresses.
abbrev pub FitsRoute : List ℕ → Type 0
FitsRoute addresses = length addresses ≤ route_limit

-- The next address of a route, and the addresses behind it.
abbrev pub next_and_rest : List ℕ → Option (ℕ × List ℕ)
next_and_rest [] = None
next_and_rest (next ∷ rest) = Some (next, rest)

-- The places that keep a route: its addresses, and zeros behind them.
abbrev pub route_places : List ℕ → List ℕ
route_places addresses = addresses ++ replicate (route_limit - length addresses) 0

-- A number of places, of five, keeps a route.
pub record KeepsRoute (places : List ℕ) (count : ℕ) : Type 0 where
  pub fits : count ≤ route_limit
  pub full : length (take count places) ≡ count
  pub zeros : route_places (take count places) ≡ places
