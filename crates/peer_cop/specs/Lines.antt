-- The lines of wires. This project's own.
use Rattle.std.specs.Prelude.{◌≡◌, ◌<◌, ◌^◌, ℕ, ◌==◌, if◌then◌else◌, List, [], ◌∷◌, ◌++◌, map}
use Rattle.std.specs.List.{join_with_byte, onto_first}
use Rattle.std.specs.Fmt.{decimal}
use Rattle.peer_cop.specs.declared.wire.Wire.{Wire}

-- The byte between two numbers of a line, and the one that ends a line.
abbrev pub blank : ℕ
blank = 32

abbrev pub line_feed : ℕ
line_feed = 10

-- The lines of a text, each with the line feed that ends it; the last one may be without.
unfoldable pub lines_of : List ℕ → List (List ℕ)
lines_of [] = []
lines_of (byte ∷ bytes) =
    if byte == line_feed then (byte ∷ []) ∷ lines_of bytes else onto_first byte (lines_of bytes)

-- The seven numbers of a wire, in their order.
abbrev pub numbers_of : Wire → List ℕ
numbers_of wire =
    wire.node ∷ wire.drop ∷ wire.word ∷ wire.from ∷ wire.from_drop ∷ wire.from_word ∷ wire.count ∷ []

-- The line of a wire: its numbers in decimal digits, one blank between each two, and a line feed.
unfoldable pub wire_line : Wire → List ℕ
wire_line wire = join_with_byte blank (map decimal (numbers_of wire)) ++ line_feed ∷ []

-- The numbers of a wire are of its types: nodes and drops have eight bits, the others sixteen.
pub record HasSmallNumbers (wire : Wire) : Type 0 where
  pub node : wire.node < 2 ^ 8
  pub drop : wire.drop < 2 ^ 8
  pub word : wire.word < 2 ^ 16
  pub from : wire.from < 2 ^ 8
  pub from_drop : wire.from_drop < 2 ^ 8
  pub from_word : wire.from_word < 2 ^ 16
  pub count : wire.count < 2 ^ 16

-- A text begins with a number below a limit, in decimal digits, and then this byte; the rest of it
-- follows.
pub record BeginsWithNumber (limit end : ℕ) (text : List ℕ) (number : ℕ) (rest : List ℕ) : Type 0 where
  pub below : number < limit
  pub whole : text ≡ decimal number ++ end ∷ rest

-- A text begins with the line of a wire, and the rest of it follows.
pub record BeginsWithWire (text : List ℕ) (wire : Wire) (rest : List ℕ) : Type 0 where
  pub small : HasSmallNumbers wire
  pub whole : text ≡ wire_line wire ++ rest
