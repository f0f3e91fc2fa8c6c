-- What a source gives and what a sink takes, where they tell it.
use Rattle.std.specs.Prelude.{◌≡◌, ℕ, ◌+◌, ◌<◌, ◌≤◌, List, [], ◌++◌, length, take, drop}
use Rattle.std.specs.Prelude.{Option, Some, None}

-- These bytes were read from the front of what was left. This project's own.
abbrev pub Gave : Option (List ℕ) → Option (List ℕ) → List ℕ → Type 0
Gave None new bytes = new ≡ None
Gave (Some old) new bytes = (rest : List ℕ) × (new ≡ Some rest) × (old ≡ bytes ++ rest)

-- At most so many bytes were read from the front of what was left. This project's own.
abbrev pub GaveFront : Option (List ℕ) → Option (List ℕ) → ℕ → Type 0
GaveFront old new most = (bytes : List ℕ) × (length bytes ≤ most) × Gave old new bytes

-- These bytes are all that was left, and nothing is left now. This project's own.
abbrev pub GaveAll : Option (List ℕ) → Option (List ℕ) → List ℕ → Type 0
GaveAll None new bytes = new ≡ None
GaveAll (Some old) new bytes = (old ≡ bytes) × (new ≡ Some [])

-- More was left than the limit, and the limit and one byte went. This project's own.
abbrev pub IsTooLong : Option (List ℕ) → Option (List ℕ) → ℕ → Type 0
IsTooLong None new limit = new ≡ None
IsTooLong (Some old) new limit = (limit < length old) × (new ≡ Some (drop (limit + 1) old))

-- These bytes were put behind those that the sink had. This project's own.
abbrev pub Took : Option (List ℕ) → Option (List ℕ) → List ℕ → Type 0
Took None new bytes = new ≡ None
Took (Some old) new bytes = new ≡ Some (old ++ bytes)

-- A prefix of the text, but not all of it, was written behind what the sink had. This project's
-- own.
abbrev pub TookFront : Option (List ℕ) → Option (List ℕ) → List ℕ → Type 0
TookFront old new text = (count : ℕ) × (count < length text) × Took old new (take count text)
