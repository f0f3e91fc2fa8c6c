-- What is due where it is asked what a controller never comes to. All of it is this project's own.
use Rattle.std.specs.Prelude.{◌≡◌, ℕ, List, Option}
use Rattle.controller_core.specs.declared.fixed.Fixed.{Fixed}
use Rattle.field_machine.specs.declared.asked.Asked.{Asked}
use Rattle.field_machine.specs.Asked.{is_so}
use Rattle.field_machine.specs.Never.{IsFirstSo, IsNeverSo}
use Rattle.never_text.specs.declared.answer.NeverEnd.{NeverEnd}
use Rattle.never_text.specs.declared.answer.NeverEnd.TheVariants.{Holds, Fails}
use Rattle.never_text.specs.Texts.{fails_text, holds_text}

-- What is due: it is never so, and the text tells to how many states runs come; or it is first so
-- after scans in which the field brings certain rows, and the text tells these and their run.
abbrev pub IsNeverDue : Fixed → Asked → Option ℕ → NeverEnd → Type 0
IsNeverDue fixed asked depth (Holds text) =
    (states : ℕ) × (IsNeverSo fixed asked depth states
    × (text.items ≡ holds_text depth states))
IsNeverDue fixed asked depth (Fails text) =
    (told : List (List ℕ)) × (IsFirstSo fixed (is_so asked) depth told
    × (text.items ≡ fails_text fixed told))
