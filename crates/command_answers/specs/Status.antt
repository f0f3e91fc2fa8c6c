-- How the program ends.
use Rattle.std.specs.Prelude.{ℕ, Bool, true, false}
use Rattle.command_answers.specs.declared.status.Status.{Status}
use Rattle.command_answers.specs.declared.status.Status.TheVariants as ends

-- The exit status of the process. This project's own.
abbrev pub exit_number : Status → ℕ
exit_number ends.Ok = 0
exit_number ends.NoMemory = 1
exit_number ends.Usage = 2
exit_number ends.ReadFault = 3
exit_number ends.WriteFault = 4
exit_number ends.Refused = 5
exit_number ends.TooLong = 6
exit_number ends.Illegal = 7
exit_number ends.Found = 9

-- Whether a status goes with a text: what was asked for, a refusal, the spot of a journal, or a run
-- that was found. This project's own.
abbrev pub goes_with_text : Status → Bool
goes_with_text ends.Ok = true
goes_with_text ends.NoMemory = false
goes_with_text ends.Usage = false
goes_with_text ends.ReadFault = false
goes_with_text ends.WriteFault = false
goes_with_text ends.Refused = true
goes_with_text ends.TooLong = false
goes_with_text ends.Illegal = true
goes_with_text ends.Found = true
