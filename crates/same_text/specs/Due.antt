-- What is due where it is asked whether two controllers do the same. All of it is this project's
-- own.
use Rattle.std.specs.Prelude.{◌≡◌, ℕ, Option}
use Rattle.controller_core.specs.declared.fixed.Fixed.{Fixed}
use Rattle.field_pair.specs.Same.{ApartRuns, IsFirstApart, IsSameFor}
use Rattle.never_text.specs.Texts.{holds_text}
use Rattle.same_text.specs.declared.answer.SameEnd.{SameEnd}
use Rattle.same_text.specs.declared.answer.SameEnd.TheVariants.{Differ, Same}
use Rattle.same_text.specs.Texts.{apart_text}

-- What is due: they do the same, and the text tells to how many pairs of states runs come; or two
-- runs are the first that are told apart, and the text tells what the field brought them, and what
-- their panels show at the end.
abbrev pub IsSameDue : Fixed → Fixed → Option ℕ → SameEnd → Type 0
IsSameDue old new depth (Same text) =
    (pairs : ℕ) × (IsSameFor old new depth pairs × (text.items ≡ holds_text depth pairs))
IsSameDue old new depth (Differ text) =
    (runs : ApartRuns) × (IsFirstApart old new depth runs
    × (text.items ≡ apart_text old new runs))
