-- That no two answers are due. This project's own.
use Rattle.std.specs.Prelude.{◌≡◌, ◌≢◌, ℕ, List}
use Rattle.command_words.specs.declared.words.Command.{Command}
use Rattle.command_answers.specs.declared.status.Status.TheVariants as ends
use Rattle.command_answers.specs.Due.{Due, IsDue}

-- Two answers agree: they have one status, and one text too unless a run was found, since of the
-- shortest runs that come to something any may be told.
pub record Agree (one other : Due) : Type 0 where
  pub status : one.status ≡ other.status
  pub text : one.status ≢ ends.Found → one.text ≡ other.text

-- All answers that are due for a command and an input agree.
abbrev pub OneDue : Type 0
OneDue =
    (command : Command) (input : List ℕ) (one other : Due) → IsDue command input one
    → IsDue command input other → Agree one other
