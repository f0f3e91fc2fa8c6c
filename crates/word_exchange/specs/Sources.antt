-- Where the input words of wired drops come from. All of it is this project's own.
use Rattle.std.specs.Prelude.{◌≡◌, ℕ, ◌+◌, ◌-◌, ◌==◌, Bool, true, ◌&&◌, if◌then◌else◌, List, []}
use Rattle.std.specs.Prelude.{◌∷◌, ◌++◌, map, slice_get, slice_index, Option, Some, None}
use Rattle.std.specs.Prelude.{length, option_map}
use Rattle.std.specs.List.{All, Contains, enumerate_from, find, list_any, position}
use Rattle.std.specs.List.{range_with_len}
use Rattle.std.specs.Option.{option_flatten, unwrap_or}
use Rattle.plant_types.specs.declared.drops.ScriptRow.{ScriptRow}
use Rattle.plant_types.specs.declared.drops.ScriptRow.TheVariants.{Silent, Row}
use Rattle.peer_cop.specs.declared.wire.Wire.{Wire}
use Rattle.word_exchange.specs.declared.running.WireReader.{WireReader}
use Rattle.word_exchange.specs.declared.sources.Source.{Source}
use Rattle.word_exchange.specs.Rows.{feeds}

-- The source of an input word of a drop, counted from 1; none where it has none.
abbrev pub source_of : List (Option Source) → ℕ → Option Source
source_of sources word = option_flatten (slice_get sources (word - 1))

-- A word, counted from 0, of those that a from drop sends, by its reader; 0 where there is none.
abbrev pub word_in : Option WireReader → ℕ → ℕ
word_in None place = 0
word_in (Some reader) place = slice_index reader.sending.sent place

-- An input word of a drop: the word that its source brings, or its own.
abbrev pub word_from : List WireReader → ℕ → Option Source → ℕ
word_from readers own None = own
word_from readers own (Some source) = word_in (slice_get readers source.reader) source.place

abbrev pub word_brought : List WireReader → List (Option Source) → ℕ × ℕ → ℕ
word_brought readers sources at = word_from readers at.1 (source_of sources at.0)

-- A row of a wired drop: its own, with the words that its sources bring; a silent row stays silent.
abbrev pub row_brought : List WireReader → List (Option Source) → ScriptRow → ScriptRow
row_brought readers sources Silent = Silent
row_brought readers sources (Row words) =
    Row (map (word_brought readers sources) (enumerate_from 1 words))

-- Two wires come from the same drop.
abbrev pub is_from : Wire → Wire → Bool
is_from wire other = (other.from == wire.from) && (other.from_drop == wire.from_drop)

-- The source of a word that a wire brings to a word of its drop: the place of the wire's from drop
-- among those of other wires, and that of the word.
abbrev pub source_by : List Wire → ℕ → Wire → Source
source_by froms word wire = record {
  reader = unwrap_or (position (is_from wire) froms) (length froms);
  place = wire.from_word + (word - wire.word) - 1;
}

-- The source of an input word of a drop: that by the first wire that feeds it.
abbrev pub source_due : List Wire → List Wire → ℕ → ℕ → ℕ → Option Source
source_due froms wires node number word =
    option_map (source_by froms word) (find (feeds node number word) wires)

-- The sources of the input words of a drop that has so many.
abbrev pub sources_due : List Wire → List Wire → ℕ → ℕ → ℕ → List (Option Source)
sources_due froms wires node number total =
    map (source_due froms wires node number) (range_with_len 1 total)

-- Some of these wires, one at least from each drop from which some of them come.
pub record AreFromsOf (wires some froms : List Wire) : Type 0 where
  pub each : All (Contains wires) froms
  pub all : All (λ (wire : Wire). list_any (is_from wire) froms ≡ true) some

abbrev pub AreFroms : List Wire → List Wire → Type 0
AreFroms wires froms = AreFromsOf wires wires froms

-- These wires and another one, unless one of them comes from its from drop.
abbrev pub with_from : List Wire → Wire → List Wire
with_from froms wire = if list_any (is_from wire) froms then froms else froms ++ wire ∷ []
