-- A field, and the work of a search. All of it is this project's own.
use Rattle.field_machine.specs.declared.field.Field.{Field}
use Rattle.field_machine.specs.declared.work.Work.{Work}
use Rattle.field_machine.specs.Work.{AreFieldParts, IsWorkOf}

-- A field consists of what its controller has.
abbrev pub IsField : Field → Type 0
IsField field =
    AreFieldParts field.fixed field.cop field.choices.items field.moves field.counters.items
    field.asked

-- A work is that of a field.
pub record FitsWork (field : Field) (work : Work) : Type 0 where
  pub field_is : IsField field
  pub work_is : IsWorkOf field.fixed.plan work
