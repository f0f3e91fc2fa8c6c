-- A field of which keys keep only what can matter. All of it is this project's own.
use Rattle.field_machine.specs.declared.narrowed.Narrowed.{Narrowed}
use Rattle.field_machine.specs.declared.work.Work.{Work}
use Rattle.field_machine.specs.Field.{IsField}
use Rattle.field_machine.specs.Narrow.{AreApart}
use Rattle.field_machine.specs.Work.{IsWorkOf}

-- It has a field, and what does not matter to what that is asked.
pub record IsNarrowed (narrowed : Narrowed) : Type 0 where
  pub field_is : IsField narrowed.field
  pub apart_are : AreApart narrowed.field.fixed.plan narrowed.field.asked
      narrowed.field.counters.items narrowed.outside.items narrowed.apart.items

-- A work is that of its field.
pub record FitsNarrowed (narrowed : Narrowed) (work : Work) : Type 0 where
  pub narrowed_is : IsNarrowed narrowed
  pub work_is : IsWorkOf narrowed.field.fixed.plan work
