-- The command of a pair. This project's own.
use Rattle.std.specs.Prelude.{ℕ, if◌then◌else◌, nat_le, Option, Some, None}
use Rattle.command_words.specs.declared.words.Command.{Command}
use Rattle.command_words.specs.declared.words.Command.TheVariants.{Standby}

-- A primary with its standby, if the primary fails after no later scan than the last.
abbrev pub standby_from : ℕ → ℕ → ℕ → Option Command
standby_from node fail scans =
    if nat_le fail scans then Some (Standby node fail scans) else None
