-- Which kinds of named references are wanted. All of it is this project's own.
use Rattle.std.specs.Prelude.{Bool}
use Rattle.plant_types.specs.Operands.{OperandKind}
use Rattle.cone_of.specs.declared.uses.Wanted.{Wanted}
use Rattle.cone_of.specs.declared.uses.Wanted.TheVariants.{Read, Stored}
use Rattle.cone_of.specs.Uses.{is_read, is_stored}

-- Those that are read, or those that are stored in.
abbrev pub such_of : Wanted → OperandKind → Bool
such_of Read = is_read
such_of Stored = is_stored
