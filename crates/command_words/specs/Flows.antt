-- The command of two scans. This project's own.
use Rattle.std.specs.Prelude.{ℕ, if◌then◌else◌, nat_le, Option, Some, None}
use Rattle.command_words.specs.declared.words.Command.{Command}
use Rattle.command_words.specs.declared.words.Command.TheVariants.{Flow}

-- What conducted from one scan to another, if the first is not behind the last.
abbrev pub flow_from : ℕ → ℕ → Option Command
flow_from first last = if nat_le first last then Some (Flow first last) else None
