-- How the input exchanges of wired drops are counted. All of it is this project's own.
use Rattle.std.specs.Prelude.{◌≡◌, ◌≤◌, ℕ, ◌+◌, List, drop, length, max}
use Rattle.std.specs.List.{count_by}
use Rattle.controller_core.specs.declared.entry.Entry.{Entry}
use Rattle.serial_feed.specs.SerialRuns.{history_of}
use Rattle.serial_feed.specs.Standing.{SerialIs}
use Rattle.word_exchange.specs.declared.feeding.WiredDrop.{WiredDrop}
use Rattle.word_exchange.specs.Words.{is_input_of}

-- What the controller of a wired drop has noted.
abbrev pub noted_for : SerialIs → WiredDrop → List Entry
noted_for serial one = history_of one.plan.now.node serial.run

-- The entries in which the input exchanges of a wired drop were counted are there.
pub record CanCount (serial : SerialIs) (one : WiredDrop) : Type 0 where
  pub entries : one.entries ≤ length (noted_for serial one)
  pub exchanges : one.exchanges ≤ one.entries

-- How many input exchanges a wired drop has made, with those among what was noted since.
abbrev pub exchanges_now : SerialIs → WiredDrop → ℕ
exchanges_now serial one = one.exchanges
    + count_by (is_input_of one.plan.now one.drop.now.number)
    (drop one.entries (noted_for serial one))

-- A wired drop with its input exchanges counted in all that was noted.
abbrev pub counted_on : SerialIs → WiredDrop → WiredDrop
counted_on serial one = record one {
  exchanges = exchanges_now serial one;
  entries = length (noted_for serial one);
  needed = max 1 (exchanges_now serial one + one.inputs);
}

abbrev pub Counts : SerialIs → WiredDrop → WiredDrop → Type 0
Counts serial old new = new ≡ counted_on serial old
